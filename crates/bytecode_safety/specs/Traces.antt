-- Traces one after the other: their readings, their events, and the runs that have them.
use Rattle.std.specs.Prelude.{◌≡◌, refl, List, [], ◌∷◌, ◌++◌, ◌+◌}
use Rattle.std.proofs.Common.{sym, ap, append_assoc, arith}
use Rattle.values.specs.Trace.{Item, event, reading, readings_in}
use Rattle.bytecode.specs.Runs.{Ran, after}
use Rattle.bytecode_safety.specs.Terms.{events_in}

pub readings-append : (xs ys : List Item) → readings_in (xs ++ ys) ≡ readings_in xs + readings_in ys
readings-append [] ys = omega arith
readings-append (event e ∷ xs) ys = readings-append xs ys
readings-append (reading f v ∷ xs) ys = let h = readings-append xs ys in omega arith

pub events-append : (xs ys : List Item) → events_in (xs ++ ys) ≡ events_in xs ++ events_in ys
events-append [] ys = refl
events-append (event e ∷ xs) ys = ap (λ es. e ∷ es) (events-append xs ys)
events-append (reading f v ∷ xs) ys = events-append xs ys

pub after-twice : (xs ys : List Item) (r : Ran) → after xs (after ys r) ≡ after (xs ++ ys) r
after-twice xs ys r = ap (λ is. record { answer = r.answer; state = r.state; trace = is }) (sym (append_assoc xs ys r.trace))
