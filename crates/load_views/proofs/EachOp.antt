-- Every op: the effect over type bytes is that over types.
use Rattle.std.specs.Prelude.{◌≡◌, true, false, not, ◌&&◌, eqb, leb, ltb, length}
use Rattle.std.proofs.Math.Path.{refl}
use Rattle.std.proofs.Common.{sym, ap, ◌∙◌, zero-add, sub-one, add-one, arith}
use mathlib.Core.List.{List, [], ◌∷◌}
use Rattle.std.proofs.Math.Option.{Option, none, some}
use Prim.Native.Nat.{ℕ, zero, suc, ◌+◌, ◌-◌, ◌<◌}
use Rattle.std.proofs.Math.Dec.{leb-suc-suc, eqb-suc-zero}
use Rattle.std.proofs.Math.ListN.{get_elem?}
use borrow.Author.Tests.{ne_eqb, lt-ltb, le-ltb, ltb-true}
use Rattle.logic.specs.Options.{keep}
use Rattle.words.specs.Numbers.{byte_at, integer_of}
use Rattle.values.specs.Types.{Ty, integer, logical, bits, reference, ty_byte, sames}
use Rattle.values.specs.Values.{int, log, bit, ref}
use Rattle.bytecode.specs.Macro.{shape}
use Rattle.bytecode.specs.Instructions.{Owner, own, root, Instr, end, load, store, operate, go, go_unless, call, return, make, get_field, put_field, set_level, read_fader}
use Rattle.bytecode.specs.Instructions.{take_hold, let_hold, assert, stop, push as pushes, exactly, stops_by, owner_of, operator_of, instruction, body_at, cells_of, field_ty, procedure_at}
use Rattle.bytecode.specs.Rules.{Effect, plain, leaves, ending_in, returning, calling, on_stack, one_less, giving, taking, effect as effect_in, strip, roomy, flow, flow_of}
use Rattle.load_places.specs.Search.{tops}
use Rattle.load_places.specs.Records.{classes, bodies, class_place, body_place}
use Rattle.load_places.specs.Rules.{Flow, goes, ends, need, push, pop, chain, takes, trade1, owner_body, lands, handed, justs, op_end, op_integer, op_logical, op_bits, op_null}
use Rattle.load_places.specs.Rules.{op_load, op_store, op_operator, op_go, op_unless, op_call, op_return, op_make, op_get_field, op_put_field, op_set, op_fader, op_hold, op_release}
use Rattle.load_places.specs.Rules.{op_assert, op_stop, effect}
use Rattle.load_places.specs.Index.{Well}
use Rattle.load_views.specs.Lists.{span-at, span-length, span-take, reverse-span}
use Rattle.logic.specs.Tests.{by-test, halves}
use Rattle.logic.specs.OptionLaws.{by-option}
use Rattle.load_views.specs.View.{ty_on, types_on, stack_on, result_on, class_on, view, below, bytes, params_at, result_at, cells_at, cell_at, fields_at, field_at}
use Rattle.load_views.specs.Known.{some-body, known-class, known-body, known-result}
use Rattle.load_views.specs.Stack.{same_byte, stack-bytes, draws, draws-strip, takes-draws, pop-draws}
use Rattle.load_views.specs.Bodies.{body_here, body-at}
use Rattle.load_views.specs.Shapes.{lands-same}
use Rattle.load_views.specs.Flows.{send, sends, exact, exact2, gives_one, gives_none, giving-one, taking-one}
use Rattle.load_views.specs.Operating.{operates-same}
use Rattle.load_views.specs.Ops.{does, at-end, at-integer, at-logical, at_bits, at_null, at_load, at_store, at-operator, at-go, at-unless, at_call, at_return, at-make, at-get_field, at-put_field, at_set, at-fader, at-hold, at-release, at-assert, at-stop}

module _ (l : List ℕ) (w : Well l) (k : ℕ) (within : k < bodies l) (h : ℕ) (ts : List Ty) (room : roomy (shape h ts) ≡ true) where
  pub op_same : (o a b : ℕ) → effect l k o a b h (bytes ts) ≡ does l w k within h ts room (instruction (record { op = o; a = a; b = b }))
  unfolding effect instruction
  op_same o a b =
      (by-test (eqb o 0) (λ e. rw e (at-end l w k within h ts room a b)) (λ e. rw e
      (by-test (eqb o 1) (λ e. rw e (at-integer l w k within h ts room a b)) (λ e. rw e
      (by-test (eqb o 2) (λ e. rw e (at-logical l w k within h ts room a b)) (λ e. rw e
      (by-test (eqb o 3) (λ e. rw e (at_bits l w k within h ts room a b)) (λ e. rw e
      (by-test (eqb o 4) (λ e. rw e (at_null l w k within h ts room a b)) (λ e. rw e
      (by-test (eqb o 5) (λ e. rw e (at_load l w k within h ts room a b)) (λ e. rw e
      (by-test (eqb o 6) (λ e. rw e (at_store l w k within h ts room a b)) (λ e. rw e
      (by-test (eqb o 7) (λ e. rw e (at-operator l w k within h ts room a b)) (λ e. rw e
      (by-test (eqb o 8) (λ e. rw e (at-go l w k within h ts room a b)) (λ e. rw e
      (by-test (eqb o 9) (λ e. rw e (at-unless l w k within h ts room a b)) (λ e. rw e
      (by-test (eqb o 10) (λ e. rw e (at_call l w k within h ts room a b)) (λ e. rw e
      (by-test (eqb o 11) (λ e. rw e (at_return l w k within h ts room a b)) (λ e. rw e
      (by-test (eqb o 12) (λ e. rw e (at-make l w k within h ts room a b)) (λ e. rw e
      (by-test (eqb o 13) (λ e. rw e (at-get_field l w k within h ts room a b)) (λ e. rw e
      (by-test (eqb o 14) (λ e. rw e (at-put_field l w k within h ts room a b)) (λ e. rw e
      (by-test (eqb o 15) (λ e. rw e (at_set l w k within h ts room a b)) (λ e. rw e
      (by-test (eqb o 16) (λ e. rw e (at-fader l w k within h ts room a b)) (λ e. rw e
      (by-test (eqb o 17) (λ e. rw e (at-hold l w k within h ts room a b)) (λ e. rw e
      (by-test (eqb o 18) (λ e. rw e (at-release l w k within h ts room a b)) (λ e. rw e
      (by-test (eqb o 19) (λ e. rw e (at-assert l w k within h ts room a b)) (λ e. rw e
      (by-test (eqb o 20) (λ e. rw e (at-stop l w k within h ts room a b)) (λ e. rw e))))))))))))))))))))))))))))))))))))))))))
