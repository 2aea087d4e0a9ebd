-- What is known of a place that an index gives, of a body or a class; and where a body ends.
use mathlib.Core.Path.{◌≡◌, ◌∙◌}
use mathlib.Core.List.{List}
use Prim.Native.Nat.{ℕ, ◌+◌, ◌<◌, ◌≤◌}
use native.Mathlib.Omega.{arith}
use lib.ListN.{get_or}
use lib.Dec.{ltb}
use borrow.Author.Tests.{lt-ltb, le-ltb, ltb-true, ltb-false}
use Rattle.logic.specs.Tests.{by-test}
use Rattle.load_places.specs.Records.{classes, bodies, count, class_place, body_place, first_of}
use Rattle.load_places.specs.Rules.{end_of}
use Rattle.load_places.specs.Index.{Well}
use Rattle.load_rules.specs.Moves.{Bodied, Classed, BodyAt, ClassAt}
use Rattle.load_records.proofs.Known.{class-of, body_of}

pub body-place : (l bx : List ℕ) (b r : ℕ) → Bodied l bx → b < bodies l → r ≡ get_or bx b 0 → r < 4294967296 → BodyAt l b r
body-place l bx b r B h e s =
    let i : r ≡ body_place l b = e ∙ B.of-bodies b h in
    record { is = i; small = s; inside = rw i (body_of l B.well b h).bytes; parameters = rw i (body_of l B.well b h).parameters }

pub class-place : (l cx : List ℕ) (a r : ℕ) → Classed l cx → a < classes l → r ≡ get_or cx a 0 → r < 4294967296 → ClassAt l a r
class-place l cx a r C h e s =
    let i : r ≡ class_place l a = e ∙ C.of-classes a h in
    record { is = i; small = s; inside = rw i (class-of l C.well a h).bytes }

pub end-next : (l : List ℕ) (k : ℕ) → k + 1 < bodies l → end_of l k ≡ first_of l (k + 1)
unfolding end_of
end-next l k h = simp (lt-ltb (k + 1) (bodies l) h)

pub end-last : (l : List ℕ) (k : ℕ) → bodies l ≤ k + 1 → end_of l k ≡ count l
unfolding end_of
end-last l k h = simp (le-ltb (k + 1) (bodies l) h)

-- a body ends within the code
pub end-within : (l : List ℕ) (k : ℕ) → Well l → end_of l k ≤ count l
end-within l k W = by-test (ltb (k + 1) (bodies l))
    (λ t. let h = ltb-true _ _ t in omega (arith, end-next l k h, (body_of l W (k + 1) h).address))
    (λ t. omega (arith, end-last l k (ltb-false _ _ t)))
