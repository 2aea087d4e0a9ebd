-- A macro that passes the loading check is Sized.
use Rattle.std.specs.Prelude.{◌≡◌, Bool, true, false, List, [], ◌∷◌, ℕ, eqb, length}
use Rattle.std.proofs.Math.Option.{some}
use Rattle.logic.specs.Choice.{If◌then◌else◌}
use Rattle.bytecode.specs.Macro.{Macro, Shape, Placed, shape_in}
use Rattle.logic.specs.Lists.{Each}
use Rattle.logic.specs.OptionLaws.{never-some, same_some}
use Rattle.bytecode_laws.specs.Terms.{Passed, ReadShape}
use Rattle.logic.specs.ListLaws.{each_at}
use Rattle.bytecode_laws.specs.Promises.{in_code, cells-at-most-32, limits}
use Rattle.bytecode_layout.specs.Sized.{Sized, AllNamed}
use Rattle.bytecode_layout.specs.Found.{sized-by}

shape-named : (m : Macro) (ps : List Placed) → Each (ReadShape (length m.classes) (length m.code)) ps → (i : ℕ) (s : Shape) → shape_in ps i ≡ some s → AllNamed m s.operands
unfolding shape_in
shape-named m [] h i s e = never-some e
shape-named m (p ∷ ps) h i s e = go (eqb p.address i) (λ d. shape-named m ps h.1 i s d) e
  where
    go : (b : Bool) → (shape_in ps i ≡ some s → AllNamed m s.operands) → (If b then some p.found else shape_in ps i) ≡ some s → AllNamed m s.operands
    go true f e = rw (← same_some e) h.0.named
    go false f e = f e

pub sized : (m : Macro) → Passed m → Sized m
sized m p =
    let w = p.well-formed in
    sized-by m w.few-classes w.few-bodies p.narrow.few-instructions (in_code m p)
    (λ c ts e. let r = each_at _ m.classes c ts w.classes-read e in (r.few-fields, r.named))
    (λ k b e. let r = each_at _ m.bodies k b w.bodies-read e in (cells-at-most-32 m p k b e, r.named-cells, r.named-results))
    (shape-named m m.shapes w.shapes-read)
    (λ k i s e f. limits m p k i s (record { inside = e; found = f }))
