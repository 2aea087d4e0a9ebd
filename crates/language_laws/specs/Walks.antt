-- Laws of judging entry by entry: parts one after the other, the faults of one entry, and what is told of two faults.
use Rattle.std.specs.Prelude.{◌≡◌, refl, Bool, true, false, List, [], ◌∷◌, ◌++◌, ◌⊎◌, ℕ, suc, ◌+◌, ◌≤◌, ◌<◌}
use Rattle.std.proofs.Common.{ap, append_assoc, inl, inr, arith}
use Rattle.std.proofs.Math.Decide.{dec_lt}
use Rattle.values.specs.Ends.{Refusal, refusal}
use Rattle.language.specs.Faults.{fault_if}
use Rattle.logic.specs.Tests.{clash}
use Rattle.language_laws.specs.Claims.{Walk, end, pass, meet, Stands, Earlier, Ordered}
use Rattle.language_laws.specs.Outline.{Outline, none, under, ◌beside◌, size, postorder}

-- ── one after the other ──
pub walk-append : {n : ℕ} {ps qs : List ℕ} {rs ss : List Refusal} → Walk n ps rs → Walk 3 qs ss → Walk n (ps ++ qs) (rs ++ ss)
walk-append end k = k
walk-append (pass w) k = pass (walk-append w k)
walk-append (meet h j w) k = meet h j (walk-append w k)

-- ── the faults at one entry ──
pub walk-one : (n p : ℕ) → (3 ≤ n) × (n ≤ 5) → Walk 3 (p ∷ []) (refusal n p ∷ [])
walk-one n p h = meet h.0 h.1 (pass end)

pub walk-if : (b : Bool) (n p : ℕ) → (3 ≤ n) × (n ≤ 5) → Walk 3 (p ∷ []) (fault_if b n p)
walk-if true n p h = walk-one n p h
walk-if false n p h = pass end

-- 3 before others at the same entry
pub three-first : {ys : List Refusal} (b : Bool) (p : ℕ) → Walk 3 (p ∷ []) ys → Walk 3 (p ∷ []) (fault_if b 3 p ++ ys)
three-first true p w = meet {n = 3} {m = 3} (omega arith) (omega arith) w
three-first false p w = w

-- ── two faults ──
met : {n : ℕ} {ps : List ℕ} {rs : List Refusal} → Walk n ps rs → (ys zs : List Refusal) (b : Refusal) → rs ≡ ys ++ (b ∷ zs) → Stands b.place ps
met end [] zs b e = clash (cc)
met end (y ∷ ys) zs b e = clash (cc)
met (pass {p = p} w) ys zs b e = let i = met w ys zs b e in (p ∷ i.0, i.1, ap (λ (l : List ℕ). p ∷ l) i.2)
met (meet {m = m} {p = p} {ps = ps} h j w) [] zs b e = let q : refusal m p ≡ b = cc in ([], ps, rw (← q))
met (meet h j w) (y ∷ ys) zs b e = met w ys zs b (cc)

-- at the entry that is judged, or at one after it
here-or-later : {n p : ℕ} {ps : List ℕ} {rs : List Refusal} → Walk n (p ∷ ps) rs → (ys zs : List Refusal) (b : Refusal) → rs ≡ ys ++ (b ∷ zs)
    → ((p ≡ b.place) × (n ≤ b.number)) ⊎ Stands b.place ps
here-or-later (pass w) ys zs b e = inr (met w ys zs b e)
here-or-later (meet {m = m} {p = p} h j w) [] zs b e = let q : refusal m p ≡ b = cc in rw (← q) (inl (refl, h))
here-or-later {n} {p} {ps} (meet {m = m} h j w) (y ∷ ys) zs b e = go (here-or-later w ys zs b (cc))
  where
    go : ((p ≡ b.place) × (m ≤ b.number)) ⊎ Stands b.place ps → ((p ≡ b.place) × (n ≤ b.number)) ⊎ Stands b.place ps
    go (inl k) = inl (k.0, omega arith)
    go (inr k) = inr k

ordered-later : {a b : Refusal} {ps : List ℕ} (p : ℕ) → Ordered a b ps → Ordered a b (p ∷ ps)
ordered-later p (inl k) = inl k
ordered-later p (inr k) = inr (p ∷ k.0, k.1, k.2, ap (λ (l : List ℕ). p ∷ l) k.3)

pub walk-order : {n : ℕ} {ps : List ℕ} {rs : List Refusal} → Walk n ps rs → (xs ys zs : List Refusal) (a b : Refusal) → rs ≡ xs ++ (a ∷ (ys ++ (b ∷ zs)))
    → Ordered a b ps
walk-order end [] ys zs a b e = clash (cc)
walk-order end (x ∷ xs) ys zs a b e = clash (cc)
walk-order (pass {p = p} w) xs ys zs a b e = ordered-later p (walk-order w xs ys zs a b e)
walk-order (meet {m = m} {p = p} {ps = ps} h j w) [] ys zs a b e =
    let q : refusal m p ≡ a = cc in rw (← q) (go (here-or-later w ys zs b (cc)))
  where
    go : ((p ≡ b.place) × (m ≤ b.number)) ⊎ Stands b.place ps → Ordered (refusal m p) b (p ∷ ps)
    go (inl k) = inl k
    go (inr k) = inr ([], k.0, k.1, ap (λ (l : List ℕ). p ∷ l) k.2)
walk-order (meet h j w) (x ∷ xs) ys zs a b e = walk-order w xs ys zs a b (cc)

-- ── every place stands once in postorder ──
pub data Absent (p : ℕ) : List ℕ → Type 0 where
  no_place : Absent p []
  other : {q : ℕ} {qs : List ℕ} → (p ≡ q → ⊥) → Absent p qs → Absent p (q ∷ qs)

-- places from lo to below hi, none of them twice
pub data Within (lo hi : ℕ) : List ℕ → Type 0 where
  nowhere : Within lo hi []
  place : {p : ℕ} {ps : List ℕ} → (lo ≤ p) × (p < hi) → Absent p ps → Within lo hi ps → Within lo hi (p ∷ ps)

absent-append : {p : ℕ} {ps qs : List ℕ} → Absent p ps → Absent p qs → Absent p (ps ++ qs)
absent-append no_place k = k
absent-append (other g h) k = other g (absent-append h k)

absent-outside : {lo hi p : ℕ} {ps : List ℕ} → Within lo hi ps → ((q : ℕ) → (lo ≤ q) × (q < hi) → p ≡ q → ⊥) → Absent p ps
absent-outside nowhere g = no_place
absent-outside (place {p = q} h a w) g = other (g q h) (absent-outside w g)

within_wider : {lo hi lo₂ hi₂ : ℕ} {ps : List ℕ} → Within lo hi ps → (lo₂ ≤ lo) × (hi ≤ hi₂) → Within lo₂ hi₂ ps
within_wider nowhere g = nowhere
within_wider (place {p = p} h a w) g = place {p = p} (omega arith) a (within_wider w g)

-- two parts that lie apart
within-append : {a b c d lo hi : ℕ} {ps qs : List ℕ} → Within a b ps → Within c d qs → ((p q : ℕ) → (a ≤ p) × (p < b) → (c ≤ q) × (q < d) → p ≡ q → ⊥)
    → (lo ≤ a) × (b ≤ hi) → (lo ≤ c) × (d ≤ hi) → Within lo hi (ps ++ qs)
within-append nowhere k g i j = within_wider k j
within-append (place {p = p} h a w) k g i j =
    place {p = p} (omega arith) (absent-append a (absent-outside k (λ q l. g p q h l))) (within-append w k g i j)

pub within-postorder : (o : Outline) (p : ℕ) → Within p (p + size o) (postorder p o)
unfolding size postorder
within-postorder none p = nowhere
within-postorder (under o) p =
    let own : Within p (suc p) (p ∷ []) = place {p = p} (omega arith) no_place nowhere in
    within-append (within-postorder o (suc p)) own (omega arith) (omega arith) (omega arith)
within-postorder (a beside b) p =
    within-append (within-postorder a p) (within-postorder b (p + size a)) (omega arith) (omega arith) (omega arith)

not-again : {p : ℕ} {ps : List ℕ} → Absent p ps → (us ws : List ℕ) → ps ≡ us ++ (p ∷ ws) → ⊥
not-again no_place [] ws e = clash (cc)
not-again no_place (u ∷ us) ws e = clash (cc)
not-again (other g h) [] ws e = g (cc)
not-again (other g h) (u ∷ us) ws e = not-again h us ws (cc)

pub within-once : {lo hi : ℕ} {ps : List ℕ} → Within lo hi ps → (p : ℕ) → Earlier p p ps → ⊥
within-once w p k = go w k.0 k.1 k.2 k.3
  where
    go : {lo hi : ℕ} {ps : List ℕ} → Within lo hi ps → (us vs ws : List ℕ) → ps ≡ us ++ (p ∷ (vs ++ (p ∷ ws))) → ⊥
    go nowhere [] vs ws i = clash (cc)
    go nowhere (u ∷ us) vs ws i = clash (cc)
    go (place {p = q} h a w) [] vs ws i = let e : q ≡ p = cc in not-again (rw e at a) vs ws (cc)
    go (place h a w) (u ∷ us) vs ws i = go w us vs ws (cc)

pub ordered_same : {a b : Refusal} {ps : List ℕ} → Ordered a b ps → a.place ≡ b.place → (Earlier a.place a.place ps → ⊥) → a.number ≤ b.number
ordered_same (inl k) e h = k.1
ordered_same (inr k) e h = absurd (h (rw (← e) at k))

stands-left : {p : ℕ} {ps : List ℕ} (qs : List ℕ) → Stands p ps → Stands p (ps ++ qs)
stands-left {p} qs k = (k.0, k.1 ++ qs, rw k.2 (append_assoc k.0 (p ∷ k.1) qs))

stands-right : {p : ℕ} (ps : List ℕ) {qs : List ℕ} → Stands p qs → Stands p (ps ++ qs)
stands-right {p} ps k = (ps ++ k.0, k.1, rw (k.2, append_assoc ps k.0 (p ∷ k.1)))

either : {A : Type 0} (n m : ℕ) → (n < m → A) → (m ≤ n → A) → A
either {A} n m f g = go (dec_lt n m)
  where
    go : Dec (n < m) → A
    go (yes k) = f k
    go (no k) = g (omega arith)

pub postorder-all : (o : Outline) (q p : ℕ) → q ≤ p → p < q + size o → Stands p (postorder q o)
unfolding size postorder
postorder-all none q p l h = absurd (omega arith)
postorder-all (under o) q p l h =
    either q p (λ k. stands-left (q ∷ []) (postorder-all o (suc q) p k (omega arith))) (λ k. let e : q ≡ p = omega arith in (postorder (suc q) o, [], rw e))
postorder-all (a beside b) q p l h =
    either p (q + size a) (λ k. stands-left (postorder (q + size a) b) (postorder-all a q p l k))
    (λ k. stands-right (postorder q a) (postorder-all b (q + size a) p k (omega arith)))

-- the first fault that is met
pub walk_first : {n lo hi : ℕ} {ps : List ℕ} {r : Refusal} {rs : List Refusal} → Walk n ps (r ∷ rs) → Within lo hi ps → (r.number ≤ 5) × (r.place < hi)
walk_first (pass w) (place h a k) = walk_first w k
walk_first (meet i j w) (place h a k) = (j, h.1)
