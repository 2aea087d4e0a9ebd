-- A name that opens every definition of this crate.
use Rattle.compile_code.specs.Code.{after, lay, cells_in, placed}
use Rattle.compile_code.specs.Compile.{index_of, among_names, names_of, classes_of, class_names, procs_of, proc_names, field_in, scopes_of, held_in, bound_at, global_at}
use Rattle.compile_code.specs.Compile.{passing, has_label, size_goto, size_head, ops_s, label_at, code_goto, code_stored, code_downward, code_upward, code_once, code_turned, code_head, code_s}
use Rattle.compile_code.specs.Encode.{root_variables, parameter_cells, proc_parts, parts, record_of, lines_of, heads_of, records_of, field_types, compiled, each, macro_bytes, macro_of}

unfoldable pub compiling_computes : Unit {0}
unfolding after lay cells_in placed index_of among_names names_of classes_of class_names procs_of proc_names field_in scopes_of held_in bound_at global_at passing
    has_label size_goto size_head ops_s label_at code_goto code_stored code_downward code_upward code_once code_turned code_head code_s root_variables parameter_cells proc_parts parts
    record_of lines_of heads_of records_of
    field_types compiled each macro_bytes macro_of
compiling_computes = tt
