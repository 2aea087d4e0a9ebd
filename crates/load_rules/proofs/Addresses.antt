-- An address: what flows in opens a body and meets a shape, and what the op leaves flows on.
use mathlib.Core.Path.{◌≡◌, refl, sym, ◌∙◌}
use mathlib.Core.Bool.{true, false}
use mathlib.Core.List.{List}
use Prim.Native.Nat.{ℕ, ◌+◌, ◌<◌, ◌≤◌}
use borrow.Author.Tests.{eq-eqb, ne_eqb, lt-ltb, le-ltb}
use Rattle.words.specs.Numbers.{byte_at, word_at}
use Rattle.load_places.specs.Search.{tops}
use Rattle.load_places.specs.Records.{body_place, first_of, code_place}
use Rattle.load_places.specs.Rules.{Flow, goes, ends, bad, shape_at, equals, body_of, end_of, chain, effect, meet, agree, leave, plain, opens, found, step}

pub meet-none : (l : List ℕ) (f : Flow) → f ≡ meet l 0 f
unfolding meet
meet-none l f = refl

module _ (l : List ℕ) (f : Flow) (p : ℕ) (n : (p ≡ 0 → ⊥)) where
  pub meet-holds : 16 < byte_at l (p + 4) → bad ≡ meet l p f
  unfolding meet
  meet-holds h = rw (ne_eqb p 0 n, lt-ltb 16 (byte_at l (p + 4)) h)

  module _ (h : byte_at l (p + 4) ≤ 16) where
    pub meet-depth : 32 < byte_at l (p + 5) → bad ≡ meet l p f
    unfolding meet
    meet-depth d = rw (ne_eqb p 0 n, le-ltb 16 (byte_at l (p + 4)) h, lt-ltb 32 (byte_at l (p + 5)) d)

    module _ (d : byte_at l (p + 5) ≤ 32) where
      meet-agree : agree l p f ≡ meet l p f
      unfolding meet
      meet-agree = rw (ne_eqb p 0 n, le-ltb 16 (byte_at l (p + 4)) h, le-ltb 32 (byte_at l (p + 5)) d)

      pub meet-same : (g : ℕ) (s : List ℕ) → f ≡ goes g s → equals l p g s ≡ true → goes g s ≡ meet l p f
      meet-same g s y q = sym (rw (y, q)) ∙ meet-agree

      pub meet-other : (g : ℕ) (s : List ℕ) → f ≡ goes g s → equals l p g s ≡ false → bad ≡ meet l p f
      meet-other g s y q = sym (rw (y, q)) ∙ meet-agree

      pub meet-load : f ≡ ends → (st : List ℕ) (g c : ℕ) → g ≡ byte_at l (p + 4) → c ≡ byte_at l (p + 5) → tops st 0 c ≡ tops l (p + 6) c → goes g (tops st 0 c) ≡ meet l p f
      meet-load y st g c eg ec t = sym (rw (y, t, eg, ec)) ∙ meet-agree

      pub meet-bad : f ≡ bad → bad ≡ meet l p f
      meet-bad y = sym (rw y) ∙ meet-agree

module _ (l : List ℕ) (k i : ℕ) (f : Flow) (x : ℕ) (ex : x ≡ end_of l k) where
  pub leave-out : (h : ℕ) (s : List ℕ) → f ≡ goes h s → i + 1 ≡ x → bad ≡ leave l k i f
  unfolding leave
  leave-out h s y e = rw (y, ← ex, eq-eqb (i + 1) x e)

  pub leave-on : (h : ℕ) (s : List ℕ) → f ≡ goes h s → (i + 1 ≡ x → ⊥) → goes h s ≡ leave l k i f
  unfolding leave
  leave-on h s y e = rw (y, ← ex, ne_eqb (i + 1) x e)

  pub leave-end : f ≡ ends → i + 1 ≡ x → ends ≡ leave l k i f
  unfolding leave
  leave-end y e = rw (y, ← ex, eq-eqb (i + 1) x e)

  module _ (y : f ≡ ends) (e : (i + 1 ≡ x → ⊥)) where
    pub leave-lost : 0 ≡ shape_at l (i + 1) → bad ≡ leave l k i f
    unfolding leave
    leave-lost z = rw (y, ← ex, ne_eqb (i + 1) x e, ← z)

    pub leave-met : (p : ℕ) → p ≡ shape_at l (i + 1) → (p ≡ 0 → ⊥) → ends ≡ leave l k i f
    unfolding leave
    leave-met p ep z = rw (y, ← ex, ne_eqb (i + 1) x e, ← ep, ne_eqb p 0 z)

  pub leave-bad : f ≡ bad → bad ≡ leave l k i f
  unfolding leave
  leave-bad y = rw y

module _ (l : List ℕ) (k i : ℕ) (f : Flow) (a : ℕ) (d : a ≡ first_of l k) where
  pub opens-other : (a ≡ i → ⊥) → f ≡ opens l k i f
  unfolding opens
  opens-other n = rw (← d, ne_eqb a i n)

  module _ (y : a ≡ i) (q : ℕ) (e : q ≡ body_place l k) where
    pub opens-cells : 32 < byte_at l (q + 6) → bad ≡ opens l k i f
    unfolding opens
    opens-cells p = rw (← d, ← e, eq-eqb a i y, lt-ltb 32 (byte_at l (q + 6)) p)

    module _ (p : byte_at l (q + 6) ≤ 32) (x : ℕ) (ex : x ≡ byte_at l (q + 4)) (w : ℕ) (ew : w ≡ byte_at l (q + 5)) where
      pub opens_plain : plain k x w ≡ true → (st : List ℕ) → goes 0 (tops st 0 0) ≡ opens l k i f
      unfolding opens tops
      opens_plain g st = rw (← d, ← e, eq-eqb a i y, le-ltb 32 (byte_at l (q + 6)) p, ← ex, ← ew, g)

      pub opens-odd : plain k x w ≡ false → bad ≡ opens l k i f
      unfolding opens
      opens-odd g = rw (← d, ← e, eq-eqb a i y, le-ltb 32 (byte_at l (q + 6)) p, ← ex, ← ew, g)

module _ (l : List ℕ) (k i : ℕ) (ek : k ≡ body_of l i) (f : Flow) where
  pub found-is : (o : Flow) → o ≡ opens l k i f → (p : ℕ) → p ≡ shape_at l i → meet l p o ≡ found l i f
  found-is o e p d = rw (e, ek, d)

  pub step_is : (g e : Flow) → g ≡ found l i f → e ≡ chain g (λ h s. effect l k (byte_at l (code_place l i + 2)) (byte_at l (code_place l i + 3))
      (word_at l (code_place l i + 4)) h s) → leave l k i e ≡ step l i f
  unfolding step
  step_is g e x y = rw (y, x, ek)
