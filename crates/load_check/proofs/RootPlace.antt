-- The root's place, by the places of the classes before it.
use mathlib.Core.Path.{◌≡◌, refl, ap, ◌∙◌}
use mathlib.Core.List.{List}
use Prim.Native.Nat.{ℕ}
use native.Mathlib.Omega.{arith}
use Rattle.words.specs.Laws.{Bytes}
use Rattle.load_places.specs.Records.{classes, class_place, body_place}
use Rattle.load_places.specs.Index.{Well}
use Rattle.load_records.proofs.Known.{body_of, class-below}
use Rattle.load_rules.specs.Moves.{BodyAt}
use Rattle.load_views.specs.Known.{some-body}

pub root_is : (c : List ℕ) → Well c → Bytes c → (k p : ℕ) → k ≡ classes c → p ≡ class_place c k → BodyAt c 0 p
unfolding body_place
root_is c W B k p d e =
    let q : p ≡ class_place c (classes c) = e ∙ ap (class_place c) d in
    let b = body_of c W 0 (some-body c W) in
    rw q (record { is = refl; small = class-below c B (classes c) (omega arith); inside = b.bytes; parameters = b.parameters })
