-- A name that opens every definition of this crate where a proof computes with them: `unfolding bytecode_computes`.
use Rattle.logic.specs.Lists.{all}
use Rattle.bytecode.specs.Macro.{ty_of_byte, read_types, read_class, read_result, read_body, read_code, shape_in, read_shape, or_unread, records, onward, head_reads, read_end, parse_macro, read_macro}
use Rattle.bytecode.specs.Instructions.{instruction, end_of, in_body}
use Rattle.bytecode.specs.Rules.{body_of, is_first, effect, strip, flow, into, found_at, body_fault, fault_at, lowest, judge_macro}
use Rattle.bytecode.specs.Machine.{fresh_machine, all_holds, condition, root_of, put_lowest, do_load, do_store, do_operate, do_go_unless, pop_many, assign_all, do_call}
use Rattle.bytecode.specs.Machine.{do_return, do_end, do_make, do_get_field, do_put_field, do_set, do_fader, do_take_hold, do_assert, act, fetch, step}
use Rattle.bytecode.specs.Runs.{steps, run, runs}
use Rattle.bytecode.specs.Sound.{sound_value, sound_activation, sound_waiting, sound}
use Rattle.bytecode.specs.State.{zeros, pad, flat, activation_bytes, record_bytes, header_bytes, state_bytes, encode, read_value, read_cell, read_row, read_activation}
use Rattle.bytecode.specs.State.{read_activations, read_record, read_records, read_running, read_unwinding, decode}
use Rattle.bytecode.specs.Lent.{sound_state, start_on, run_on}
use Rattle.bytecode.specs.Play.{play_from, play_on}

unfoldable pub bytecode_computes : Unit {0}
unfolding ty_of_byte read_types read_class read_result read_body read_code shape_in read_shape or_unread records onward head_reads read_end parse_macro read_macro
    instruction end_of in_body body_of is_first effect strip flow into found_at body_fault fault_at lowest judge_macro fresh_machine all_holds condition root_of
    put_lowest do_load do_store do_operate do_go_unless pop_many assign_all do_call do_return do_end do_make do_get_field do_put_field do_set do_fader do_take_hold
    do_assert act fetch step steps run runs all sound_value sound_activation sound_waiting sound zeros pad flat activation_bytes record_bytes header_bytes
    state_bytes encode read_value read_cell read_row read_activation read_activations read_record read_records read_running read_unwinding decode sound_state start_on run_on
    play_from play_on
bytecode_computes = tt
