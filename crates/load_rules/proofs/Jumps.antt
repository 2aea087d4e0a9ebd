-- Jumps: at each exit, what was tested gives what the definition gives.
use mathlib.Core.Path.{◌≡◌, ◌∙◌}
use mathlib.Core.Bool.{true, false}
use mathlib.Core.List.{List}
use Prim.Native.Nat.{ℕ, ◌+◌, ◌<◌, ◌≤◌}
use borrow.Author.Tests.{eq-eqb, ne_eqb, lt-ltb, le-ltb}
use Rattle.words.specs.Numbers.{half_at}
use Rattle.load_places.specs.Records.{body_place}
use Rattle.load_places.specs.Rules.{Flow, goes, ends, bad, shape_at, equals, end_of, need, pop, chain, lands, op_go, op_unless}
use Rattle.load_rules.proofs.Chains.{meets, lacks}

module _ (l : List ℕ) (k b h : ℕ) (s : List ℕ) (q : ℕ) (e : q ≡ body_place l k) (f : ℕ) (ef : f ≡ half_at l (q + 2)) where
  pub lands-below : b < f → false ≡ lands l k b h s
  unfolding lands
  lands-below p = rw (← e, ← ef, lt-ltb b f p)

  module _ (p : f ≤ b) (x : ℕ) (ex : x ≡ end_of l k) where
    pub lands-past : x ≤ b → false ≡ lands l k b h s
    unfolding lands
    lands-past r = rw (← e, ← ef, le-ltb b f p, ← ex, le-ltb b x r)

    module _ (r : b < x) (y : ℕ) (ey : y ≡ shape_at l b) where
      pub lands-none : y ≡ 0 → false ≡ lands l k b h s
      unfolding lands
      lands-none z = rw (← e, ← ef, le-ltb b f p, ← ex, lt-ltb b x r, ← ey, eq-eqb y 0 z)

      pub lands-some : (y ≡ 0 → ⊥) → equals l y h s ≡ lands l k b h s
      unfolding lands
      lands-some z = rw (← e, ← ef, le-ltb b f p, ← ex, lt-ltb b x r, ← ey, ne_eqb y 0 z)

module _ (l : List ℕ) (k a b h : ℕ) (s : List ℕ) (z : a ≡ 0) where
  pub go-lands : lands l k b h s ≡ true → ends ≡ op_go l k a b h s
  unfolding op_go
  go-lands e = rw (eq-eqb a 0 z, e)

  pub go-lost : lands l k b h s ≡ false → bad ≡ op_go l k a b h s
  unfolding op_go
  go-lost e = rw (eq-eqb a 0 z, e)

  pub unless-of : (F : Flow) → pop 2 h s ≡ F → chain F (λ g r. need (lands l k b g r) (goes g r)) ≡ op_unless l k a b h s
  unfolding op_unless
  unless-of F e = rw (eq-eqb a 0 z, e)

  module _ (g : ℕ) (r : List ℕ) (e : pop 2 h s ≡ goes g r) where
    pub unless-lands : lands l k b g r ≡ true → goes g r ≡ op_unless l k a b h s
    unless-lands y = meets (lands l k b g r) (goes g r) y ∙ unless-of (goes g r) e

    pub unless-lost : lands l k b g r ≡ false → bad ≡ op_unless l k a b h s
    unless-lost y = lacks (lands l k b g r) (goes g r) y ∙ unless-of (goes g r) e
