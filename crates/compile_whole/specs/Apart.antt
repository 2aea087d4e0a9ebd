-- Stores within a range leave what lies outside it: for numbers that stand at a place (`Lies`).
use Rattle.std.specs.Prelude.{◌≡◌, refl, Bool, true, false, List, [], ◌∷◌, ◌++◌, ℕ, zero, suc, ◌+◌, ◌-◌, ◌≤◌, ◌<◌, ltb, length, get_or, drop, set}
use Rattle.std.proofs.Common.{ap, sym, ◌∙◌, arith, add-zero, length-append, length-drop, length-set, get_or-drop, get_or-append-add, get_or-set_same, get_or-set_other, ext_get_or, ltb-true, ltb-false}
use Rattle.std.proofs.Math.ListN.{get_or-append}
use Rattle.std.proofs.lemmas.List.Edits.{sets}
use Rattle.std.proofs.Math.Seq.{length-sets}
use Rattle.compile_nodes.specs.Knows.{Lies}

-- ── by each number ──
pub lies-points : (l : List ℕ) (p : ℕ) (us : List ℕ) → p + length us ≤ length l → ((i : ℕ) → i < length us → get_or l (p + i) 0 ≡ get_or us i 0) → Lies l p us
lies-points l p us h f =
    record {
      rest = drop (p + length us) l;
      split = ext_get_or 0 (drop p l) (us ++ drop (p + length us) l)
          (omega (arith, length-drop p l, length-append us (drop (p + length us) l), length-drop (p + length us) l))
          (λ i k. get_or-drop p l i 0 ∙ by i (ltb i (length us)) refl);
    }
  where
    by : (i : ℕ) (b : Bool) → ltb i (length us) ≡ b → get_or l (p + i) 0 ≡ get_or (us ++ drop (p + length us) l) i 0
    by i true e = let k = ltb-true i (length us) e in f i k ∙ sym (get_or-append us (drop (p + length us) l) 0 i k)
    by i false e =
        let k = ltb-false i (length us) e in
        let n = i - length us in
        let a : length us + n ≡ i = omega arith in
        let b : p + length us + n ≡ p + i = omega arith in
        sym (rw (← a) (get_or-append-add us (drop (p + length us) l) n 0 ∙ get_or-drop (p + length us) l n 0
        ∙ ap (λ (j : ℕ). get_or l j 0) (let z : p + length us + n ≡ p + (length us + n) = omega arith in z)))

module _ {l : List ℕ} {p : ℕ} {us : List ℕ} (h : Lies l p us) where
  pub lies-point : (i : ℕ) → i < length us → get_or l (p + i) 0 ≡ get_or us i 0
  lies-point i k = sym (get_or-drop p l i 0) ∙ (ap (λ (m : List ℕ). get_or m i 0) h.split ∙ get_or-append us h.rest 0 i k)

  pub lies_within : 1 ≤ length us → p + length us ≤ length l
  lies_within k = omega (arith, length-drop p l, ap (length {A = ℕ}) h.split, length-append us h.rest)

-- ── what stores within [p, q) leave ──
pub record Apart (old new : List ℕ) (p q : ℕ) : Type 0 where
  pub same_length : length new ≡ length old
  pub before : (i : ℕ) → i < p → get_or new i 0 ≡ get_or old i 0
  pub behind : (i : ℕ) → q ≤ i → get_or new i 0 ≡ get_or old i 0

pub apart-self : (l : List ℕ) (p q : ℕ) → Apart l l p q
apart-self l p q = record { same_length = refl; before = λ i k. refl; behind = λ i k. refl }

pub apart-then : {l m n : List ℕ} {p q : ℕ} → Apart l m p q → Apart m n p q → Apart l n p q
apart-then f g = record { same_length = g.same_length ∙ f.same_length; before = λ i k. g.before i k ∙ f.before i k; behind = λ i k. g.behind i k ∙ f.behind i k }

pub apart-wider : {l m : List ℕ} {p q : ℕ} (r s : ℕ) → r ≤ p → q ≤ s → Apart l m p q → Apart l m r s
apart-wider r s a b f = record { same_length = f.same_length; before = λ i k. f.before i (omega arith); behind = λ i k. f.behind i (omega arith) }

pub apart-set : (l : List ℕ) (k v : ℕ) → Apart l (set l k v) k (suc k)
apart-set l k v = record {
  same_length = length-set l k v;
  before = λ i h. get_or-set_other l k i v 0 (λ e. omega arith);
  behind = λ i h. get_or-set_other l k i v 0 (λ e. omega arith);
}

pub apart-sets : (l : List ℕ) (k : ℕ) (us : List ℕ) → Apart l (sets l k us) k (k + length us)
apart-sets l k [] = apart-self l k (k + 0)
apart-sets l k (u ∷ us) =
    apart-then (apart-wider k (k + suc (length us)) (omega arith) (omega arith) (apart-set l k u))
    (apart-wider k (k + suc (length us)) (omega arith) (omega arith) (apart-sets (set l k u) (suc k) us))

module _ {old new : List ℕ} {p q : ℕ} (f : Apart old new p q) {r : ℕ} where
  pub lies-before : (us : List ℕ) → r + length us ≤ p → Lies old r us → Lies new r us
  lies-before [] k h = record { rest = drop r new; split = refl }
  lies-before (u ∷ us) k h = lies-points new r (u ∷ us) (omega (arith, f.same_length, lies_within h (omega arith)))
      (λ i j. f.before (r + i) (omega arith) ∙ lies-point h i j)

  pub lies-behind : (us : List ℕ) → q ≤ r → Lies old r us → Lies new r us
  lies-behind [] k h = record { rest = drop r new; split = refl }
  lies-behind (u ∷ us) k h = lies-points new r (u ∷ us) (omega (arith, f.same_length, lies_within h (omega arith)))
      (λ i j. f.behind (r + i) (omega arith) ∙ lies-point h i j)

-- ── what was stored stands there ──
stored : (us l : List ℕ) (k i : ℕ) → k + length us ≤ length l → i < length us → get_or (sets l k us) (k + i) 0 ≡ get_or us i 0
stored [] l k i h j = absurd (omega arith)
stored (u ∷ us) l k zero h j = ap (λ (n : ℕ). get_or (sets (set l k u) (suc k) us) n 0) (add-zero k) ∙ ((apart-sets (set l k u) (suc k) us).before k (omega arith) ∙ get_or-set_same l k u 0 (omega arith))
stored (u ∷ us) l k (suc i) h j =
    let e : k + suc i ≡ suc k + i = omega arith in
    ap (λ (n : ℕ). get_or (sets (set l k u) (suc k) us) n 0) e ∙ stored us (set l k u) (suc k) i (omega (arith, length-set l k u)) (omega arith)

pub lies-sets : (l : List ℕ) (k : ℕ) (us : List ℕ) → k + length us ≤ length l → Lies (sets l k us) k us
lies-sets l k us h = lies-points (sets l k us) k us (omega (arith, length-sets l k us)) (λ i j. stored us l k i h j)
