-- The runs of a listing, one at a time: each that gives an event takes at least one of its steps, so that they are as many as the steps allow.
use Rattle.std.specs.Prelude.{◌≡◌, refl, Bool, true, false, List, [], ◌∷◌, ◌++◌, ltb, replicate}
use Rattle.std.proofs.Math.Path.{ap}
use Rattle.std.proofs.Common.{◌∙◌, arith, ltb-true}
use Prim.Native.Nat.{ℕ, zero, suc, ◌-◌, ◌≤◌, ◌<◌}
use Rattle.words.specs.Laws.{Bytes}
use Rattle.bytecode.specs.Runs.{Answer, happens, spends, finishes, refuses, halts}
use Rattle.bytecode.specs.Lent.{RanOn, run_on}
use Rattle.run.specs.Fields.{Ranged, run-ranged}
use Rattle.run.specs.Plays.{Later, on-bytes-later}
use Rattle.listing_text.specs.Sheet.{Totals, none, count_run}
use Rattle.listing_text.specs.Text.{zeros, answer_text, after_event, runs_from, runs_of, text_of, lines_of}

replicate-bytes : (n : ℕ) → Bytes (replicate n 0)
replicate-bytes zero k = omega arith
replicate-bytes (suc n) zero = omega arith
replicate-bytes (suc n) (suc k) = replicate-bytes n k

pub zeros-bytes : Bytes zeros
zeros-bytes = replicate-bytes 64

-- ── more runs than steps change nothing ──
same_after : (left : ℕ) (a : Answer) (f g : ℕ → List RanOn) → Later 0 a → Ranged left a → ((n : ℕ) → 0 < n → n ≤ left → f n ≡ g n) → after_event a f ≡ after_event a g
same_after left (happens e n) f g l r k = k n l r.0
same_after left (spends n) f g l r k = refl
same_after left (finishes c n) f g l r k = refl
same_after left (refuses q) f g l r k = refl
same_after left (halts why) f g l r k = refl

-- what the runs print that follow an answer
text-after : (t : Totals) (a : Answer) (f : ℕ → List RanOn) → text_of t (after_event a f) ≡ after_event a (λ n. text_of t (f n))
unfolding text_of
text-after t (happens e n) f = refl
text-after t (spends n) f = refl
text-after t (finishes c n) f = refl
text-after t (refuses r) f = refl
text-after t (halts why) f = refl

module _ (code : List ℕ) (B : Bytes code) where
  -- what follows a run
  follows : (state : List ℕ) (left : ℕ) (f g : ℕ → List RanOn) → ((n : ℕ) → 0 < n → n ≤ left → f n ≡ g n)
      → (let r = run_on code state zeros left in r ∷ after_event r.answer f ≡ r ∷ after_event r.answer g)
  follows state left f g h =
      let r = run_on code state zeros left in
      ap (λ x. r ∷ x)
      (same_after left r.answer f g (on-bytes-later code state zeros left) (run-ranged code B state zeros left zeros-bytes) h)

  enough : (k j : ℕ) (state : List ℕ) (left : ℕ) → left < k → left < j → runs_from k code state left ≡ runs_from j code state left
  unfolding runs_from
  enough zero j state left h i = absurd (omega arith)
  enough (suc k) zero state left h i = absurd (omega arith)
  enough (suc k) (suc j) state left h i =
      let r = run_on code state zeros left in
      follows state left (λ n. runs_from k code r.bytes (left - n)) (λ n. runs_from j code r.bytes (left - n))
      (λ n p q. enough k j r.bytes (left - n) (omega arith) (omega arith))

  -- the runs, one at a time
  pub runs-step : (state : List ℕ) (left : ℕ)
      → runs_of code state left ≡ (let r = run_on code state zeros left in r ∷ after_event r.answer (λ n. runs_of code r.bytes (left - n)))
  unfolding runs_from
  runs-step state left =
      let r = run_on code state zeros left in
      follows state left (λ n. runs_from left code r.bytes (left - n)) (λ n. runs_from (suc (left - n)) code r.bytes (left - n))
      (λ n p q. enough left (suc (left - n)) r.bytes (left - n) (omega arith) (omega arith))

  -- what they print, with these totals before them
  pub lines_step : (t : Totals) (state : List ℕ) (left : ℕ)
      → text_of t (runs_of code state left)
      ≡ (let r = run_on code state zeros left in let u = count_run r t in
      answer_text r.answer u ++ after_event r.answer (λ n. text_of u (runs_of code r.bytes (left - n))))
  unfolding text_of
  lines_step t state left =
      let r = run_on code state zeros left in
      let u = count_run r t in
      ap (text_of t) (runs-step state left) ∙ ap (λ x. answer_text r.answer u ++ x) (text-after u r.answer (λ n. runs_of code r.bytes (left - n)))

-- ── what is left ──
-- the lines that are still to come
abbrev pub lines_left : Bool → Totals → List ℕ → List ℕ → ℕ → List ℕ
lines_left true t code state left = text_of t (runs_of code state left)
lines_left false t code state left = []

-- how many runs there can still be
abbrev pub runs_left : Bool → ℕ → ℕ
runs_left true left = suc left
runs_left false left = 0

pub fewer : (goes : Bool) (left n : ℕ) → goes ≡ true → n ≤ left → runs_left (ltb 0 n) (left - n) < runs_left goes left
fewer goes left n g h = rw g (go (ltb 0 n) refl)
  where
    go : (b : Bool) → ltb 0 n ≡ b → runs_left b (left - n) < suc left
    go true e = let p = ltb-true 0 n e in omega arith
    go false e = omega arith

pub none_left : (goes : Bool) (t : Totals) (code state : List ℕ) (left : ℕ) → goes ≡ false → lines_left goes t code state left ≡ []
none_left goes t code state left g = rw g

pub all_left : (code state : List ℕ) (left : ℕ) → lines_of code state left ≡ lines_left true none code state left
unfolding lines_of
all_left code state left = refl
