-- The verdict: what judge_macro says exactly when.
use Rattle.std.specs.Prelude.{◌≡◌, refl, Bool, true, false, List, ◌↔◌, ◌⊎◌, ℕ, zero, suc, ◌+◌, ◌≤◌, ◌<◌, length}
use Rattle.std.proofs.Common.{ap, ap₂, sym, ◌∙◌, subst, inl, inr, arith}
use Rattle.std.proofs.Math.Option.{Option, none, some}
use Rattle.std.proofs.Math.Decide.{dec_lt}
use Rattle.logic.specs.Choice.{If◌then◌else◌}
use Rattle.values.specs.Ends.{Refusal, refusal, Judged, accepted, refused}
use Rattle.bytecode.specs.Macro.{Macro, Parsed, parsed, unread, parse_macro, read_or8, read_macro}
use Rattle.bytecode.specs.Rules.{fault_at, lowest, or_passes, judge_code, judge_macro}
use Rattle.logic.specs.Tests.{never}

-- ── the lowest of n numbers from i on at which a test holds ──
abbrev NoneFrom : (ℕ → Bool) → ℕ → ℕ → Type 0
NoneFrom f n i = (j : ℕ) → i ≤ j → j < i + n → f j ≡ false

abbrev LowestIs : (ℕ → Bool) → ℕ → ℕ → ℕ → Type 0
LowestIs f n i j = (i ≤ j) × (j < i + n) × (f j ≡ true) × ((h : ℕ) → i ≤ h → h < j → f h ≡ false)

abbrev Lowest : (ℕ → Bool) → ℕ → ℕ → Option ℕ → Type 0
Lowest f n i none = NoneFrom f n i
Lowest f n i (some j) = LowestIs f n i j

from_next : (f : ℕ → Bool) (i h : ℕ) → f i ≡ false → i ≤ h → (suc i ≤ h → f h ≡ false) → f h ≡ false
from_next f i h e p g = go (dec_lt i h)
  where
    go : Dec (i < h) → f h ≡ false
    go (yes q) = g q
    go (no q) = let z : i ≡ h = omega arith in subst (λ x. f x ≡ false) z e

lowest-is : (f : ℕ → Bool) (n i : ℕ) → Lowest f n i (lowest f n i)
unfolding lowest
lowest-is f zero i = λ j p q. absurd (omega arith)
lowest-is f (suc n) i = go (f i) refl (lowest f n (suc i)) (lowest-is f n (suc i))
  where
    go : (b : Bool) → f i ≡ b → (o : Option ℕ) → Lowest f n (suc i) o → Lowest f (suc n) i (If b then some i else o)
    go true e o r = (omega arith, omega arith, e, λ h p q. absurd (omega arith))
    go false e none r = λ j p q. from_next f i j e p (λ s. r j s (omega arith))
    go false e (some j) r = (omega (arith, r.0), omega (arith, r.1), r.2, λ h p q. from_next f i h e p (λ s. r.3 h s q))

-- ── the verdict ──
-- reading refuses by 8 alone
pub refused-8 : (l : List ℕ) (r : Refusal) → read_macro l ≡ refused r → r.number ≡ 8
unfolding read_macro
refused-8 l r h = go (parse_macro l) h
  where
    go : (p : Parsed Macro) → read_or8 p ≡ refused r → r.number ≡ 8
    go (parsed m i k) h = let z : ◌≡◌ {A = ℕ} 0 1 = cc h in absurd (omega arith)
    go (unread i) h = let e : refusal 8 i ≡ r = cc in ap (λ (x : Refusal). x.number) (sym e)

abbrev Faultless : Macro → Type 0
Faultless m = (i : ℕ) → i < length m.code → fault_at m i ≡ false

-- the verdict on the code of a macro
abbrev Found : Macro → Judged Macro → Type 0
Found m (accepted n) = (m ≡ n) × Faultless m
Found m (refused r) = (r.number ≡ 9) × (r.place < length m.code) × (fault_at m r.place ≡ true) × ((j : ℕ) → j < r.place → fault_at m j ≡ false)

code-found : (m : Macro) → Found m (judge_code (accepted m))
code-found m = go (lowest (fault_at m) (length m.code) 0) (lowest-is (fault_at m) (length m.code) 0)
  where
    go : (o : Option ℕ) → Lowest (fault_at m) (length m.code) 0 o → Found m (or_passes o m)
    go none r = (refl, λ i p. r i (omega arith) (omega arith))
    go (some i) r = (refl, omega (arith, r.1), r.2, λ j p. r.3 j (omega arith) p)

abbrev Judges : List ℕ → Judged Macro → Type 0
Judges l v = ((m : Macro) × (read_macro l ≡ accepted m) × Found m v) ⊎ ((r : Refusal) × (read_macro l ≡ refused r) × (v ≡ refused r))

judged : (l : List ℕ) → Judges l (judge_macro l)
unfolding judge_macro
judged l = go (read_macro l) refl
  where
    go : (v : Judged Macro) → read_macro l ≡ v → Judges l (judge_code v)
    go (accepted m) e = inl (m, e, code-found m)
    go (refused r) e = inr (r, e, refl)

not-both : {A : Type 0} {B : Type 0} {x : A} {r : Refusal} → ◌≡◌ {A = Judged A} (accepted x) (refused r) → B
not-both h = let z : ◌≡◌ {A = ℕ} 0 1 = cc h in absurd (omega arith)

pub accepts : (l : List ℕ) (m : Macro) → judge_macro l ≡ accepted m ↔ ((read_macro l ≡ accepted m) × Faultless m)
accepts l m = ((λ h. there (subst (Judges l) h (judged l))), λ h. back h (judge_macro l) refl (judged l))
  where
    there : Judges l (accepted m) → (read_macro l ≡ accepted m) × Faultless m
    there (inl r) = subst (λ (x : Macro). (read_macro l ≡ accepted x) × Faultless x) r.2.0 (r.1, r.2.1)
    there (inr r) = not-both r.2

    back : (read_macro l ≡ accepted m) × Faultless m → (v : Judged Macro) → judge_macro l ≡ v → Judges l v → judge_macro l ≡ accepted m
    back h (accepted n) e (inl r) = let q : r.0 ≡ m = cc (r.1, h.0) in rw e (ap accepted (sym r.2.0 ∙ q))
    back h (refused s) e (inl r) =
        let q : r.0 ≡ m = cc (r.1, h.0) in
        never (sym (h.1 s.place (subst (λ (x : Macro). s.place < length x.code) q r.2.1))
        ∙ subst (λ (x : Macro). fault_at x s.place ≡ true) q r.2.2)
    back h v e (inr r) = not-both (sym h.0 ∙ r.1)

pub refuses-9 : (l : List ℕ) (i : ℕ) → judge_macro l ≡ refused (refusal 9 i)
    ↔ ((m : Macro) × (read_macro l ≡ accepted m) × (i < length m.code) × (fault_at m i ≡ true) × ((j : ℕ) → j < i → fault_at m j ≡ false))
refuses-9 l i = ((λ h. there (subst (Judges l) h (judged l))), λ h. back h (judge_macro l) refl (judged l))
  where
    there : Judges l (refused (refusal 9 i)) → (m : Macro) × (read_macro l ≡ accepted m) × (i < length m.code) × (fault_at m i ≡ true)
        × ((j : ℕ) → j < i → fault_at m j ≡ false)
    there (inl r) = (r.0, r.1, r.2.1, r.2.2, r.2.3)
    there (inr r) = let e : refusal 9 i ≡ r.0 = cc r.2 in absurd (omega (arith, refused-8 l r.0 r.1, ap (λ (x : Refusal). x.number) e))

    lower : (m : Macro) (j : ℕ) → fault_at m i ≡ true → fault_at m j ≡ true → ((h : ℕ) → h < i → fault_at m h ≡ false)
        → ((h : ℕ) → h < j → fault_at m h ≡ false) → j ≡ i
    lower m j p q f g = pick (dec_lt i j) (dec_lt j i)
      where
        pick : Dec (i < j) → Dec (j < i) → j ≡ i
        pick (yes x) y = never (sym (g i x) ∙ p)
        pick (no x) (yes y) = never (sym (f j y) ∙ q)
        pick (no x) (no y) = omega arith

    back : (m : Macro) × (read_macro l ≡ accepted m) × (i < length m.code) × (fault_at m i ≡ true) × ((j : ℕ) → j < i → fault_at m j ≡ false)
        → (v : Judged Macro) → judge_macro l ≡ v → Judges l v → judge_macro l ≡ refused (refusal 9 i)
    back h (accepted n) e (inl r) =
        let q : r.0 ≡ h.0 = cc (r.1, h.1) in
        never (sym (subst Faultless q r.2.1 i h.2) ∙ h.3)
    back h (refused s) e (inl r) =
        let q : r.0 ≡ h.0 = cc (r.1, h.1) in
        let f = subst (λ (x : Macro). Found x (refused s)) q r.2 in
        let p : s.place ≡ i = lower h.0 s.place h.3 f.2 h.4 f.3 in
        rw e (ap₂ (λ x y. refused (refusal x y)) f.0 p)
    back h v e (inr r) = not-both (sym h.1 ∙ r.1)

pub refuses-8 : (l : List ℕ) (i : ℕ) → judge_macro l ≡ refused (refusal 8 i) ↔ (read_macro l ≡ refused (refusal 8 i))
unfolding judge_macro
refuses-8 l i = ((λ h. there (subst (Judges l) h (judged l))), λ h. ap judge_code h)
  where
    there : Judges l (refused (refusal 8 i)) → read_macro l ≡ refused (refusal 8 i)
    there (inl r) = absurd (omega (arith, r.2.0))
    there (inr r) = r.1 ∙ sym r.2

pub refuses-only : (l : List ℕ) (r : Refusal) → judge_macro l ≡ refused r → (r.number ≡ 8) ⊎ (r.number ≡ 9)
refuses-only l r h = go (subst (Judges l) h (judged l))
  where
    go : Judges l (refused r) → (r.number ≡ 8) ⊎ (r.number ≡ 9)
    go (inl x) = inr x.2.0
    go (inr x) = let e : r ≡ x.0 = cc x.2 in inl (ap (λ (y : Refusal). y.number) e ∙ refused-8 l x.0 x.1)
