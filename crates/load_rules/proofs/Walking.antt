-- The walk from an address to the next.
use mathlib.Core.Path.{◌≡◌, refl, sym, ◌∙◌}
use mathlib.Core.List.{List}
use Prim.Native.Nat.{ℕ, ◌+◌, ◌<◌, ◌≤◌}
use native.Mathlib.Numerals.{add-one}
use lib.Dec.{ltb}
use borrow.Author.Tests.{eq-eqb, ne_eqb, lt-ltb, le-ltb, ltb-true, ltb-false}
use Rattle.logic.specs.Tests.{by-test}
use Rattle.words.specs.Numbers.{half_at}
use Rattle.load_places.specs.Records.{bodies, body_place}
use Rattle.load_places.specs.Rules.{Flow, ends, body_of, end_of, step, into, is_bad, broken}
use Rattle.load_places.specs.declared.Moved.{Moved}
use Rattle.load_places.specs.declared.Moved.TheVariants.{Goes, Ends, Bad}
use Rattle.load_places.specs.declared.Within.{Within}
use Rattle.load_rules.specs.Moves.{flow_of, is_bad_move, InBody}
use Rattle.load_rules.proofs.Places.{end-next}

pub body-none : (l : List ℕ) → 0 ≡ body_of l 0
unfolding body_of
body-none l = refl

module _ (l : List ℕ) (i k : ℕ) (e : k ≡ body_of l i) where
  body-last : bodies l ≤ k + 1 → k ≡ body_of l (i + 1)
  unfolding body_of
  body-last p = rw (add-one i, ← e, ← add-one k, le-ltb (k + 1) (bodies l) p)

  module _ (p : k + 1 < bodies l) (q : ℕ) (eq : q ≡ body_place l (k + 1)) (a : ℕ) (ea : a ≡ half_at l (q + 2)) where
    body-next : a ≡ i + 1 → k + 1 ≡ body_of l (i + 1)
    unfolding body_of
    body-next y = rw (add-one i, ← e, ← add-one k, lt-ltb (k + 1) (bodies l) p, ← eq, ← ea, ← add-one i, eq-eqb a (i + 1) y)

    body_same : (a ≡ i + 1 → ⊥) → k ≡ body_of l (i + 1)
    unfolding body_of
    body_same y = rw (add-one i, ← e, ← add-one k, lt-ltb (k + 1) (bodies l) p, ← eq, ← ea, ← add-one i, ne_eqb a (i + 1) y)

-- ── the body of the next address, with its bounds ──
module _ (l : List ℕ) (i : ℕ) (w : Within) (I : InBody l i w) where
  pub within-last : bodies l ≤ w.body + 1 → InBody l (i + 1) w
  within-last h = record { is = body-last l i w.body I.is h; counted = I.counted; from = I.from; upto = I.upto }

  pub within_same : (i + 1 ≡ w.end → ⊥) → InBody l (i + 1) w
  within_same y =
      by-test (ltb (w.body + 1) (bodies l))
      (λ t. let h = ltb-true (w.body + 1) (bodies l) t in record {
        is = body_same l i w.body I.is h _ refl _ refl (λ z. y (sym z ∙ sym (end-next l w.body h) ∙ sym I.upto));
        counted = I.counted;
        from = I.from;
        upto = I.upto;
      })
      (λ t. within-last (ltb-false (w.body + 1) (bodies l) t))

  pub within-next : (h : w.body + 1 < bodies l) → i + 1 ≡ w.end → (v : Within) → v.body ≡ w.body + 1 → v.first ≡ i + 1 → v.end ≡ end_of l (w.body + 1) → InBody l (i + 1) v
  within-next h y v b f e =
      let z = y ∙ I.upto ∙ end-next l w.body h in
      record { is = b ∙ body-next l i w.body I.is h _ refl _ refl (sym z); counted = rw b h; from = f ∙ rw b z; upto = rw b e }

bad-moves : (st : List ℕ) (r : Moved) (F : Flow) → flow_of r st ≡ F → is_bad F ≡ is_bad_move r
bad-moves st (Goes h d) F m = rw (← m)
bad-moves st Ends F m = rw (← m)
bad-moves st Bad F m = rw (← m)

pub into-none : (l : List ℕ) → ends ≡ into l 0
unfolding into
into-none l = refl

module _ (l : List ℕ) (i : ℕ) (F : Flow) (e : F ≡ into l i) where
  pub walk-on : (G : Flow) → G ≡ step l i F → G ≡ into l (i + 1)
  unfolding into
  walk-on G m = m ∙ rw (add-one i, ← e)

  pub walk-flag : (st : List ℕ) (g : Moved) → flow_of g st ≡ step l i F → broken l i ≡ is_bad_move g
  unfolding broken
  walk-flag st g m = rw (← e) (bad-moves st g (step l i F) m)
