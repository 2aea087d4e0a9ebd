-- Where bodies lie: every address of the code stands in exactly one, the last that begins at it or before.
use Rattle.std.specs.Prelude.{◌≡◌, Bool, ◌||◌, eqb, ltb}
use Rattle.std.proofs.Math.Path.{refl, ap, sym, subst}
use Rattle.std.proofs.Common.{◌∙◌}
use Rattle.std.proofs.Math.Bool.{true, false}
use mathlib.Core.List.{List, [], ◌∷◌}
use Rattle.std.proofs.Math.Option.{Option, none, some}
use Prim.Native.Nat.{ℕ, zero, suc, ◌+◌, ◌-◌, ◌≤◌, ◌<◌}
use native.Mathlib.Omega.{arith}
use Rattle.std.proofs.Math.Dec.{leb}
use Rattle.std.proofs.Math.ListN.{length, get_elem?}
use borrow.Author.Tests.{eqb-true, eqb-false, eq-eqb, leb-true, leb-false, ltb-true, le-leb, lt-leb, lt-ltb}
use Rattle.logic.specs.Choice.{If◌then◌else◌}
use Rattle.bytecode.specs.Macro.{Body, Macro}
use Rattle.bytecode.specs.Instructions.{body_at, end_of, from_to, in_body}
use Rattle.bytecode.specs.Rules.{body_of, is_first}
use Rattle.logic.specs.Tests.{never, both, halves, neither}
use Rattle.logic.specs.OptionLaws.{never-some, same_some}
use Rattle.logic.specs.Lists.{Each}
use Rattle.bytecode_laws.specs.Terms.{ReadBody, RisesFrom, WellFormed}

-- a body's bounds, from the test and back
pub bounds : (o : Option Body) (e i : ℕ) → from_to o e i ≡ true → (b : Body) × (o ≡ some b) × (b.first ≤ i) × (i < e)
bounds none e i h = never h
bounds (some b) e i h = let q = halves (leb b.first i) (ltb i e) h in (b, refl, leb-true b.first i q.0, ltb-true i e q.1)

pub within : (b : Body) (e i : ℕ) → b.first ≤ i → i < e → from_to (some b) e i ≡ true
within b e i p q = both (le-leb b.first i p) (lt-ltb i e q)

-- ── over a list of bodies that rise, in a code of n instructions ──
pub rises-above : (bs : List Body) (a j : ℕ) (b : Body) → RisesFrom a bs → get_elem? bs j ≡ some b → a ≤ b.first
rises-above [] a j b r h = never-some h
rises-above (c ∷ bs) a zero b r h = let e : c ≡ b = cc in subst (λ (x : Body). a ≤ x.first) e r.0
rises-above (c ∷ bs) a (suc j) b r h = omega (arith, rises-above bs (suc c.first) j b r.1 h, r.0)

module _ (n : ℕ) where
  -- bodies that begin within the code end within it
  pub ends-within : (bs : List Body) (k : ℕ) → Each (λ (b : Body). b.first < n) bs → end_of bs n k ≤ n
  unfolding end_of
  ends-within [] k p = omega arith
  ends-within (b ∷ []) k p = omega arith
  ends-within (b ∷ (c ∷ bs)) zero p = omega (arith, p.1.0)
  ends-within (b ∷ (c ∷ bs)) (suc k) p = ends-within (c ∷ bs) k p.1

  -- a body has a first instruction
  pub begins-before-end : (bs : List Body) (a k : ℕ) (b : Body) → RisesFrom a bs → Each (λ (b : Body). b.first < n) bs → get_elem? bs k ≡ some b
      → b.first < end_of bs n k
  unfolding end_of
  begins-before-end [] a k b r p h = never-some h
  begins-before-end (c ∷ []) a zero b r p h = let e : c ≡ b = cc in subst (λ (x : Body). x.first < n) e p.0
  begins-before-end (c ∷ []) a (suc k) b r p h = never-some h
  begins-before-end (c ∷ (d ∷ bs)) a zero b r p h = let e : c ≡ b = cc in subst (λ (x : Body). x.first < d.first) e r.1.0
  begins-before-end (c ∷ (d ∷ bs)) a (suc k) b r p h = begins-before-end (d ∷ bs) (suc c.first) k b r.1 p.1 h

  -- the body of an address is the one that it stands in, bodies counted from k
  pub stands-in : (b : Body) (bs : List Body) (k i : ℕ) → b.first ≤ i → i < n
      → (j : ℕ) × (body_of (b ∷ bs) k i ≡ k + j) × (from_to (get_elem? (b ∷ bs) j) (end_of (b ∷ bs) n j) i ≡ true)
  unfolding end_of body_of
  stands-in b [] k i p q = (0, rw (le-leb b.first i p) (omega arith), within b n i p q)
  stands-in b (c ∷ cs) k i p q = go (leb c.first i) refl (stands-in c cs (suc k) i)
    where
      go : (t : Bool) → leb c.first i ≡ t
          → (c.first ≤ i → i < n → (j : ℕ) × (body_of (c ∷ cs) (suc k) i ≡ suc k + j) × (from_to (get_elem? (c ∷ cs) j) (end_of (c ∷ cs) n j) i ≡ true))
          → (j : ℕ) × (body_of (b ∷ (c ∷ cs)) k i ≡ k + j) × (from_to (get_elem? (b ∷ (c ∷ cs)) j) (end_of (b ∷ (c ∷ cs)) n j) i ≡ true)
      go true e r =
          let s = r (leb-true c.first i e) q in
          (suc s.0, rw (le-leb b.first i p) (s.1 ∙ omega arith), s.2)
      go false e r = (0, rw (le-leb b.first i p, e) (omega arith), within b c.first i p (leb-false c.first i e))

  pub stands-once : (bs : List Body) (a k j i : ℕ) → RisesFrom a bs → from_to (get_elem? bs j) (end_of bs n j) i ≡ true → body_of bs k i ≡ k + j
  unfolding end_of body_of
  stands-once [] a k j i r h = never h
  stands-once (b ∷ []) a k zero i r h = let q = bounds (some b) n i h in let e : b ≡ q.0 = cc q.1 in
      let f : b.first ≤ i = rw e q.2 in
      rw (le-leb b.first i f) (omega arith)
  stands-once (b ∷ []) a k (suc j) i r h = never h
  stands-once (b ∷ (c ∷ bs)) a k zero i r h = let q = bounds (some b) c.first i h in let e : b ≡ q.0 = cc q.1 in
      let f : b.first ≤ i = rw e q.2 in
      rw (le-leb b.first i f, lt-leb c.first i q.3) (omega arith)
  stands-once (b ∷ (c ∷ bs)) a k (suc j) i r h =
      let q = bounds (get_elem? (c ∷ bs) j) (end_of (c ∷ bs) n j) i h in
      let f : b.first ≤ i = omega (arith, rises-above (c ∷ bs) (suc b.first) j q.0 r.1 q.1, q.2) in
      rw (le-leb b.first i f) (stands-once (c ∷ bs) (suc b.first) (suc k) j i r.1 h ∙ omega arith)

-- first addresses
pub first-at : (bs : List Body) (i : ℕ) → is_first bs i ≡ true → (k : ℕ) × (b : Body) × (get_elem? bs k ≡ some b) × (b.first ≡ i)
unfolding is_first
first-at [] i h = never h
first-at (b ∷ bs) i h = go (eqb b.first i) refl h (first-at bs i)
  where
    go : (t : Bool) → eqb b.first i ≡ t → (t || is_first bs i) ≡ true
        → (is_first bs i ≡ true → (k : ℕ) × (c : Body) × (get_elem? bs k ≡ some c) × (c.first ≡ i))
        → (k : ℕ) × (c : Body) × (get_elem? (b ∷ bs) k ≡ some c) × (c.first ≡ i)
    go true e h r = (0, b, refl, eqb-true b.first i e)
    go false e h r = let s = r h in (suc s.0, s.1, s.2, s.3)

pub at-first : (bs : List Body) (k : ℕ) (b : Body) → get_elem? bs k ≡ some b → is_first bs b.first ≡ true
unfolding is_first
at-first [] k b h = never-some h
at-first (c ∷ bs) zero b h = let e : c ≡ b = cc in rw (eq-eqb c.first b.first (ap (λ (x : Body). x.first) e))
at-first (c ∷ bs) (suc k) b h = go (eqb c.first b.first) (at-first bs k b h)
  where
    go : (t : Bool) → is_first bs b.first ≡ true → (t || is_first bs b.first) ≡ true
    go true h = refl
    go false h = h

-- past an address at which no body begins, the body is the same
pub same_body : (bs : List Body) (k i : ℕ) → is_first bs (suc i) ≡ false → body_of bs k (suc i) ≡ body_of bs k i
unfolding body_of is_first
same_body [] k i h = refl
same_body (b ∷ bs) k i h =
    let q = neither (eqb b.first (suc i)) (is_first bs (suc i)) h in
    go (leb b.first i) refl (eqb-false b.first (suc i) q.0) (same_body bs (suc k) i q.1)
  where
    go : (t : Bool) → leb b.first i ≡ t → (b.first ≡ suc i → ⊥) → body_of bs (suc k) (suc i) ≡ body_of bs (suc k) i
        → (If leb b.first (suc i) then body_of bs (suc k) (suc i) else k - 1) ≡ (If t then body_of bs (suc k) i else k - 1)
    go true e f r = let p = leb-true b.first i e in rw (le-leb b.first (suc i) (omega arith)) r
    go false e f r = let p = leb-false b.first i e in rw (lt-leb b.first (suc i) (omega arith)) refl

-- ── of a macro that reads ──
module _ (m : Macro) (w : WellFormed m) where
  each-begins : (n c : ℕ) (bs : List Body) → Each (ReadBody c n) bs → Each (λ (b : Body). b.first < n) bs
  each-begins n c [] p = tt
  each-begins n c (b ∷ bs) p = (p.0.begins, each-begins n c bs p.1)

  all-begin : Each (λ (b : Body). b.first < length m.code) m.bodies
  all-begin = each-begins (length m.code) (length m.classes) m.bodies w.bodies-read

  -- an address of a body is one of the code, and its body is that one
  pub inside-code : (k i : ℕ) → in_body m k i ≡ true → i < length m.code
  unfolding in_body
  inside-code k i h =
      let q = bounds (body_at m k) (end_of m.bodies (length m.code) k) i h in
      omega (arith, q.3, ends-within (length m.code) m.bodies k all-begin)

  pub body-there : (k i : ℕ) → in_body m k i ≡ true → (b : Body) × (body_at m k ≡ some b)
  unfolding in_body
  body-there k i h = let q = bounds (body_at m k) (end_of m.bodies (length m.code) k) i h in (q.0, q.1)

  pub body_is : (k i : ℕ) → in_body m k i ≡ true → body_of m.bodies 0 i ≡ k
  unfolding in_body
  body_is k i h = stands-once (length m.code) m.bodies 0 0 k i w.rises h ∙ omega arith

  -- and every address of the code is one of a body
  pub inside-body : (i : ℕ) → i < length m.code → in_body m (body_of m.bodies 0 i) i ≡ true
  unfolding in_body
  inside-body i h = go m.bodies refl w.some-body
    where
      go : (bs : List Body) → m.bodies ≡ bs → 1 ≤ length bs
          → from_to (get_elem? m.bodies (body_of m.bodies 0 i)) (end_of m.bodies (length m.code) (body_of m.bodies 0 i)) i ≡ true
      go [] e p = absurd (omega arith)
      go (b ∷ bs) e p =
          let f : b.first ≡ 0 = w.root-first b (ap (λ (x : List Body). get_elem? x 0) e) in
          let s = stands-in (length m.code) b bs 0 i (omega arith) h in
          let j : body_of (b ∷ bs) 0 i ≡ s.0 = s.1 ∙ omega arith in
          rw (e, j) s.2

  -- a body's first address is one of its own
  pub first-inside : (k : ℕ) (b : Body) → body_at m k ≡ some b → in_body m k b.first ≡ true
  unfolding in_body
  first-inside k b h =
      rw h (within b (end_of m.bodies (length m.code) k) b.first (omega arith)
      (begins-before-end (length m.code) m.bodies 0 k b w.rises all-begin h))

  -- inside a body no other begins
  pub no-first : (k i : ℕ) → in_body m k i ≡ true → in_body m k (suc i) ≡ true → is_first m.bodies (suc i) ≡ false
  unfolding in_body
  no-first k i p q = go (is_first m.bodies (suc i)) refl
    where
      go : (t : Bool) → is_first m.bodies (suc i) ≡ t → t ≡ false
      go false e = refl
      go true e =
          let f = first-at m.bodies (suc i) e in
          let u : in_body m f.0 (suc i) ≡ true = subst (λ x. in_body m f.0 x ≡ true) f.3 (first-inside f.0 f.1 f.2) in
          let same : f.0 ≡ k = sym (body_is f.0 (suc i) u) ∙ body_is k (suc i) q in
          let b = bounds (body_at m k) (end_of m.bodies (length m.code) k) i p in
          let x : f.1 ≡ b.0 = same_some (sym f.2 ∙ ap (λ x. get_elem? m.bodies x) same ∙ b.1) in
          absurd (omega (arith, b.2, f.3, ap (λ (y : Body). y.first) x))
