-- A name that opens every definition of this crate where a proof computes with them: `unfolding language_computes`.
use Rattle.language.specs.Measure.{measure_s}
use Rattle.language.specs.Program.{flat_typed, flat_decl, flat_s, flat_body, flat_global, flat_head, flatten, table_bytes, deep_globals, nesting, total}
use Rattle.logic.specs.Lists.{all, among}
use Rattle.language.specs.Tree.{count_items, count_arms, count_exprs, locals}
use Rattle.language.specs.Table.{in_layout, after, repeated, first, form_typed, form_decl, items_of, arms_of, exprs_of, form_s, form_part, form_target, form_e, below}
use Rattle.language.specs.Table.{form_global, read_head, form_root, entries, one_tree, read_table}
use Rattle.language.specs.Names.{types, defines_typed, defines_head, defines_items, defines_fields, defines_globals, first_of, blocks_from, identify, lookup}
use Rattle.language.specs.Faults.{type_e, types_e, faults_typed, faults_head, names_head, faults_s, names_typed, faults_globals, faults}
use Rattle.language.specs.Limits.{head_cells, head_holds, procedure_limits, limits}
use Rattle.language.specs.Judge.{judge_table, compile_on}
use Rattle.language.specs.Execute.{cell_in, cell_of, put_in, put_of, value_of, assign_to, declare_in, next, release_all, settled, branch, do_set, do_fader, do_field}
use Rattle.language.specs.Execute.{do_put_field, do_assign, pair_up, do_make, deciding, decides, let_go, within, outer_blocks, leaving, from}
use Rattle.language.specs.Execute.{due, if_due, turning, advancing, turns, counted, catch, procedure_in, class_in}
use Rattle.language.specs.Execute.{activate, exec, exec_body, eval_body, fueled, ran, execute}

unfoldable pub language_computes : Unit {0}
unfolding count_items count_arms count_exprs in_layout flat_typed flat_decl flat_s flat_body flat_global flat_head flatten table_bytes measure_s deep_globals
    nesting after repeated first form_typed form_decl items_of arms_of exprs_of form_s form_part form_target form_e below form_global read_head form_root entries
    one_tree read_table types defines_typed defines_head defines_items defines_fields defines_globals first_of blocks_from identify lookup type_e types_e among faults_typed
    faults_head names_head faults_s names_typed faults_globals faults head_cells head_holds locals procedure_limits limits judge_table compile_on all total
    cell_in cell_of put_in put_of value_of assign_to declare_in next release_all settled branch do_set do_fader do_field do_put_field do_assign pair_up do_make
    deciding decides let_go within outer_blocks leaving from due if_due turning advancing turns counted catch procedure_in class_in activate exec exec_body eval_body fueled ran execute
language_computes = tt
