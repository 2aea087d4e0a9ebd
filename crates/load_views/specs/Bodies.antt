-- The bodies of the view: which one an address stands in, where it ends, and what is asked at its first address.
use Rattle.std.specs.Prelude.{◌≡◌, Bool, false, ◌&&◌, ◌||◌, cond, List, leb, ltb, length}
use Rattle.std.proofs.Math.Path.{refl}
use Rattle.std.proofs.Common.{◌∙◌, arith}
use Rattle.std.proofs.Math.Bool.{or-false}
use Prim.Native.Nat.{ℕ, zero, suc, ◌+◌, ◌≤◌, ◌<◌}
use Rattle.std.proofs.Math.Numerals.{add-one}
use Rattle.std.proofs.Math.Nat.{zero-add, add-suc, suc-add}
use Rattle.std.proofs.Math.Dec.{eqb, leb-suc-suc}
use borrow.Author.Tests.{ltb-true, leb-true, eqb-true, eqb-false, lt-ltb, le-ltb, le-leb, lt-leb, ne_eqb}
use Rattle.bytecode.specs.Macro.{Body}
use Rattle.bytecode.specs.Instructions.{body_at, in_body, end_of as end_in}
use Rattle.bytecode.specs.Rules.{body_of as body_in, is_first, head_fault, body_fault}
use Rattle.load_places.specs.Records.{bodies, count, body_place, first_of}
use Rattle.load_places.specs.Rules.{body_of, end_of}
use Rattle.load_places.specs.Index.{Well}
use Rattle.load_views.specs.Lists.{span, span-at, span-length}
use Rattle.logic.specs.Tests.{tests, by-test, together, halves}
use Rattle.load_views.specs.View.{body_on, view, below}
use Rattle.load_views.specs.Known.{some-body, first-zero, first-rises}

-- body k of a macro
abbrev pub body_here : List ℕ → ℕ → Body
body_here l k = body_on l (body_place l k)

-- ── the body of an address ──
-- address i stands in body k: it begins at i or before, and the next one behind
pub record Stands (l : List ℕ) (k i : ℕ) : Type 0 where
  pub within : k < bodies l
  pub begun : first_of l k ≤ i
  pub next : suc k < bodies l → i < first_of l (suc k)

module _ (l : List ℕ) (w : Well l) where
  pub stands : (i : ℕ) → Stands l (body_of l i) i
  unfolding body_of
  stands zero = record { within = some-body l w; begun = omega (arith, first-zero l w); next = λ h. omega (arith, first-rises l w 0 h) }
  stands (suc i) =
      let k = body_of l i in let s = stands i in
      by-test (ltb (suc k) (bodies l) && eqb (first_of l (suc k)) (suc i))
      (λ e. let b = halves (ltb (suc k) (bodies l)) _ e in let f = eqb-true (first_of l (suc k)) (suc i) b.1 in
      rw e (record { within = ltb-true _ _ b.0; begun = omega arith; next = λ h. omega (arith, first-rises l w (suc k) h) }))
      (λ e. rw e (record {
        within = s.within;
        begun = omega arith;
        next = λ h. omega (arith, s.next h, eqb-false (first_of l (suc k)) (suc i) (rw (lt-ltb (suc k) (bodies l) h) at e));
      }))

  -- the first addresses rise
  rising : (k j : ℕ) → j ≤ k → k < bodies l → first_of l j ≤ first_of l k
  rising zero j a h = let e : j ≡ 0 = omega arith in rw e (omega arith)
  rising (suc k) j a h =
      by-test (eqb j (suc k)) (λ e. rw (eqb-true j (suc k) e) (omega arith))
      (λ e. omega (tests, rising k j (omega tests) (omega arith), first-rises l w k h))

  module _ (k i : ℕ) (s : Stands l k i) where
    -- no other body begins at an address
    elsewhere : (j : ℕ) → j < bodies l → eqb j k ≡ false → eqb (first_of l j) i ≡ false
    elsewhere j h e =
        by-test (ltb j k)
        (λ b. let c : j < k = ltb-true j k b in let r = first-rises l w j (omega (arith, s.within)) in
        ne_eqb (first_of l j) i (λ q. omega (arith, s.begun, rising k (suc j) c s.within)))
        (λ b. let c : suc k ≤ j = omega tests in ne_eqb (first_of l j) i (λ q. omega (arith, s.next (omega arith), rising j (suc k) c h)))

    pub before-end : i < count l → i < end_of l k
    unfolding end_of
    before-end h = rw (add-one k) (by-test (ltb (suc k) (bodies l)) (λ e. rw e (s.next (omega tests))) (λ e. rw e h))

    -- ── the list of bodies ──
    body-from : (n j : ℕ) → j + n ≡ bodies l → j ≤ suc k → body_in (span (body_here l) j n) j i ≡ k
    unfolding body_in span
    body-from zero j a b = omega (arith, s.within)
    body-from (suc n) j a b =
        by-test (leb (first_of l j) i)
        (λ e. rw e (body-from n (suc j) (omega arith) (by-test (eqb j (suc k))
        (λ q. let r : j ≡ suc k = eqb-true j (suc k) q in absurd (omega (arith, s.next (omega arith), rw r at (leb-true (first_of l j) i e))))
        (λ q. omega tests))))
        (λ e. rw e (by-test (leb j k) (λ q. absurd (omega (tests, s.begun, rising k j (leb-true j k q) s.within))) (λ q. omega tests)))

-- a test holds at one of the n numbers from j on
unfoldable holds : (ℕ → Bool) → ℕ → ℕ → Bool
holds t zero j = false
holds t (suc n) j = t j || holds t n (suc j)

-- it holds where it holds at k, and can hold nowhere else
holds-only : (t : ℕ → Bool) (k n j : ℕ) → ((x : ℕ) → x < j + n → eqb x k ≡ false → t x ≡ false) → k < j + n → holds t n j ≡ leb j k && t k
unfolding holds
holds-only t k zero j o h = rw (lt-leb j k (omega arith))
holds-only t k (suc n) j o h =
    rw (holds-only t k n (suc j) (λ x b e. o x (omega arith) e) (omega arith))
    (by-test (eqb j k)
    (λ e. rw (eqb-true j k e, lt-leb (suc k) k (omega arith), le-leb k k (omega arith)) (or-false (t k)))
    (λ e. rw (o j (omega arith) e, together (ltb j k) (leb j k) (λ b. omega tests) (λ b. omega tests))))

module _ (l : List ℕ) where
  first_holds : (i n j : ℕ) → is_first (span (body_here l) j n) i ≡ holds (λ x. eqb (first_of l x) i) n j
  unfolding is_first span holds
  first_holds i zero j = refl
  first_holds i (suc n) j = rw (first_holds i n (suc j))

  fault-holds : (i n j : ℕ) → body_fault (span (body_here l) j n) j i ≡ holds (λ x. eqb (first_of l x) i && head_fault x (body_here l x)) n j
  unfolding body_fault span holds
  fault-holds i zero j = refl
  fault-holds i (suc n) j = rw (fault-holds i n (suc j))

  end-from : (c n k j : ℕ) → end_in (span (body_here l) j n) c k ≡ cond (ltb (suc k) n) (first_of l (j + suc k)) c
  unfolding end_in span
  end-from c zero k j = rw (le-ltb (suc k) 0 (omega arith))
  end-from c (suc zero) k j = rw (le-ltb (suc k) 1 (omega arith))
  end-from c (suc (suc n)) zero j = rw (lt-ltb 1 (suc (suc n)) (omega arith), add-one j)
  end-from c (suc (suc n)) (suc k) j = rw (end-from c (suc n) k (suc j), leb-suc-suc (suc (suc k)) (suc n), suc-add j (suc k), add-suc j (suc k))

  -- ── the same of the view ──
  pub body-at : (k : ℕ) → body_at (view l) k ≡ below k (bodies l) (body_here l k)
  unfolding view
  body-at k = rw (span-at (body_here l) (bodies l) 0 k, zero-add k)

  body-ends : (k : ℕ) → end_in (view l).bodies (length (view l).code) k ≡ end_of l k
  unfolding view end_of
  body-ends k = rw (end-from (length (view l).code) (bodies l) k 0, zero-add (suc k), add-one k, span-length)

  pub in-body : (k i : ℕ) → k < bodies l → in_body (view l) k i ≡ leb (first_of l k) i && ltb i (end_of l k)
  unfolding in_body
  in-body k i h = rw (body-at k, lt-ltb k (bodies l) h, body-ends k)

  module _ (w : Well l) (k i : ℕ) (s : Stands l k i) where
    pub body-in : body_in (view l).bodies 0 i ≡ k
    unfolding view
    body-in = body-from l w k i s (bodies l) 0 (omega arith) (omega arith)

    pub first-in : is_first (view l).bodies i ≡ eqb (first_of l k) i
    unfolding view
    first-in =
        first_holds i (bodies l) 0
        ∙ holds-only _ k (bodies l) 0 (λ x b e. elsewhere l w k i s x (omega arith) e) (omega (arith, s.within))
        ∙ rw (le-leb 0 k (omega arith))

    pub fault-in : body_fault (view l).bodies 0 i ≡ eqb (first_of l k) i && head_fault k (body_here l k)
    unfolding view
    fault-in =
        fault-holds i (bodies l) 0
        ∙ holds-only _ k (bodies l) 0 (λ x b e. rw (elsewhere l w k i s x (omega arith) e)) (omega (arith, s.within))
        ∙ rw (le-leb 0 k (omega arith))
