-- How long the lines of a listing are: an event's at most 12 bytes, the four totals at most 53, any other at most 23.
use Rattle.std.specs.Prelude.{◌≡◌, Bool, true, false, ◌⊎◌, List, [], ◌∷◌, ◌++◌, ℕ, zero, suc, ◌+◌, ◌-◌, ◌*◌, ◌/◌, ◌%◌, ◌≤◌, ◌<◌, ltb, length}
use Rattle.std.proofs.Math.Path.{refl}
use Rattle.std.proofs.Common.{ap, inl, inr, ltb-true, ltb-false, lt-ltb, le-ltb}
use native.Mathlib.Omega.{arith}
use Rattle.std.proofs.Math.ListN.{length-append}
use Rattle.logic.specs.Choice.{If◌then◌else◌}
use Rattle.words.specs.Laws.{Bytes}
use Rattle.values.specs.Ends.{Refusal, refusal, is_condition}
use Rattle.values.specs.Conditions.{condition-byte}
use Rattle.values.specs.Trace.{Event, set, hold, release}
use Rattle.bytecode.specs.Runs.{Answer, happens, spends, finishes, refuses, halts}
use Rattle.bytecode.specs.Lent.{run_on}
use Rattle.bytecode_safety.specs.Terms.{InRange, steps_of}
use Rattle.run.specs.Fields.{Ranged, run-ranged, run-read}
use Rattle.listing_text.specs.Sheet.{Totals, none, count, read, count_answer}
use Rattle.listing_text.specs.Bounds.{Below, none_below, not-grown, count-grown, steps-below}
use Rattle.listing_text.specs.Text.{digit, digits, decimal, numbers, event_line, sets_line, holds_line, releases_line, readings_line, sheet_text}
use Rattle.listing_text.specs.Text.{end_line, open_line, refused_line, answer_text, after_event, zeros, runs_of, text_of, lines_of}
use Rattle.run.specs.Plays.{Later, on-bytes-later}
use Rattle.listing_text.specs.Steps.{zeros-bytes, lines_step}

-- ── decimals ──
-- as many digits as there are to come do not matter, if they are enough
same_digits : (d e n : ℕ) → n ≤ d → n ≤ e → digits d n ≡ digits e n
unfolding digits
same_digits zero zero n h k = refl
same_digits zero (suc e) n h k = rw (lt-ltb n 10 (omega arith))
same_digits (suc d) zero n h k = rw (lt-ltb n 10 (omega arith))
same_digits (suc d) (suc e) n h k = go (ltb n 10) refl (λ g. same_digits d e (n / 10) (omega arith) (omega arith))
  where
    go : (b : Bool) → ltb n 10 ≡ b → (10 ≤ n → digits d (n / 10) ≡ digits e (n / 10))
        → (If b then digit n ∷ [] else digits d (n / 10) ++ (digit (n % 10) ∷ [])) ≡ (If b then digit n ∷ [] else digits e (n / 10) ++ (digit (n % 10) ∷ []))
    go true q f = refl
    go false q f = ap (λ x. x ++ (digit (n % 10) ∷ [])) (f (ltb-false n 10 q))

pub one-digit : (n : ℕ) → n < 10 → decimal n ≡ digit n ∷ []
unfolding digits decimal
one-digit zero h = refl
one-digit (suc n) h = rw (lt-ltb (suc n) 10 h)

pub more-digits : (n : ℕ) → 10 ≤ n → decimal n ≡ decimal (n / 10) ++ (digit (n % 10) ∷ [])
unfolding digits decimal
more-digits zero h = absurd (omega arith)
more-digits (suc n) h =
    rw (le-ltb (suc n) 10 h) (ap (λ x. x ++ (digit (suc n % 10) ∷ [])) (same_digits n (suc n / 10) (suc n / 10) (omega arith) (omega arith)))

-- numbers below b have at most k digits
abbrev pub Short : ℕ → ℕ → Type 0
Short b k = (n : ℕ) → n < b → length (decimal n) ≤ k

short-1 : Short 10 1
short-1 n h = rw (one-digit n h) (omega arith)

next : (b k : ℕ) → Short b k → 10 ≤ b → 0 < k → Short (10 * b) (suc k)
next b k f p q n h = go (ltb n 10) refl
  where
    go : (t : Bool) → ltb n 10 ≡ t → length (decimal n) ≤ suc k
    go true e = rw (one-digit n (ltb-true n 10 e)) (omega arith)
    go false e =
        let i = f (n / 10) (omega arith) in
        rw (more-digits n (ltb-false n 10 e), length-append (decimal (n / 10)) (digit (n % 10) ∷ [])) (omega arith)

pub short-2 : Short 100 2
short-2 = next 10 1 short-1 (omega arith) (omega arith)

pub short-3 : Short 1000 3
short-3 = next 100 2 short-2 (omega arith) (omega arith)

short-5 : Short 100000 5
short-5 = next 10000 4 (next 1000 3 short-3 (omega arith) (omega arith)) (omega arith) (omega arith)

pub short-10 : Short 10000000000 10
short-10 =
    next 1000000000 9
    (next 100000000 8
    (next 10000000 7 (next 1000000 6 (next 100000 5 short-5 (omega arith) (omega arith)) (omega arith) (omega arith)) (omega arith) (omega arith))
    (omega arith) (omega arith))
    (omega arith) (omega arith)

-- ── lines ──
pub one_number : (n : ℕ) → length (numbers (n ∷ [])) ≡ length (decimal n) + 2
unfolding numbers
one_number n = let e = length-append (decimal n) (10 ∷ []) in omega arith

pub two-numbers : (m n : ℕ) → length (numbers (m ∷ (n ∷ []))) ≡ length (decimal m) + length (decimal n) + 3
two-numbers m n =
    let h = one_number n in
    let e : length (numbers (m ∷ (n ∷ []))) ≡ suc (length (decimal m ++ numbers (n ∷ []))) = unfold numbers in refl in
    let k = length-append (decimal m) (numbers (n ∷ [])) in
    omega arith

pub event-line : (e : Event) → InRange e → length (event_line e) ≤ 12
event-line (set c v) r = let k = two-numbers c v in omega (arith, short-3 c (omega (arith, r.1)), short-3 v (omega (arith, r.2)))
event-line (hold g) r = let k = one_number g in omega (arith, short-2 g (omega arith))
event-line (release g) r = let k = one_number g in omega (arith, short-2 g (omega arith))

pub end-line : (c : ℕ) → c < 256 → length (end_line c) ≤ 23
end-line c h = let k = one_number c in omega (arith, short-3 c (omega arith))

pub open-line : length open_line ≤ 23
open-line = let k = one_number 0 in omega (arith, short-2 0 (omega arith))

pub refused-line : (r : Refusal) → r.number < 256 → r.place < 4294967296 → length (refused_line r) ≤ 23
refused-line r h i = let k = two-numbers r.number r.place in omega (arith, short-3 r.number (omega arith), short-10 r.place (omega arith))

-- ── the whole ──
end-small : (c : ℕ) → (c ≡ 0) ⊎ (is_condition c ≡ true) → c < 256
end-small c (inl e) = omega arith
end-small c (inr t) = condition-byte c t

-- none of the totals is above the 65,535 steps
sheet-text : (t : Totals) (left : ℕ) → Below 65535 t left → length (sheet_text t) ≤ 53
unfolding sheet_text
sheet-text t left f =
    let sets = sets_line t.sets in
    let holds = holds_line t.holds in
    let releases = releases_line t.releases in
    let readings = readings_line t.readings in
    omega (
      arith,
      length-append sets (holds ++ (releases ++ readings)),
      length-append holds (releases ++ readings),
      length-append releases readings,
      one_number t.sets,
      one_number t.holds,
      one_number t.releases,
      one_number t.readings,
      short-5 t.sets (omega (arith, f.sets)),
      short-5 t.holds (omega (arith, f.holds)),
      short-5 t.releases (omega (arith, f.releases)),
      short-5 t.readings (omega (arith, f.readings)),
    )

-- after n steps that gave no event
last-text : (i left n : ℕ) (t : Totals) → i ≤ n → n ≤ left → Below 65535 t left → length (sheet_text (read i t)) ≤ 53
last-text i left n t h k f = sheet-text (read i t) (left - n) (steps-below 0 i n left (omega arith) h k (not-grown t) f)

after-answer : (left i : ℕ) (t : Totals) (a : Answer) (more : ℕ → Totals → List ℕ) → Ranged left a → Later 0 a → i ≤ steps_of a → Below 65535 t left
    → ((n : ℕ) (u : Totals) → 0 < n → n ≤ left → Below 65535 u (left - n) → length (more n u) ≤ 12 * (left - n) + 76)
    → (let u = read i (count_answer a t) in length (answer_text a u ++ after_event a (λ n. more n u)) ≤ 12 * left + 76)
after-answer left i t (happens e n) more r w q f h =
    let j = event-line e r.1 in
    let u = read i (count e t) in
    let k = h n u w r.0 (steps-below 1 i n left w q r.0 (count-grown e t) f) in
    rw (length-append (event_line e) (more n u)) (omega (arith, r.0))
after-answer left i t (spends n) more r w q f h =
    let s = sheet_text (read i t) in
    rw (length-append (s ++ open_line) [], length-append s open_line) (omega (arith, open-line, last-text i left n t q r f))
after-answer left i t (finishes c n) more r w q f h =
    let s = sheet_text (read i t) in
    rw (length-append (s ++ end_line c) [], length-append s (end_line c)) (omega (arith, end-line c (end-small c r.1), last-text i left n t q r.0 f))
after-answer left i t (refuses x) more r w q f h =
    rw (length-append (refused_line x) []) (omega (arith, refused-line x r.0 (omega (arith, r.1))))
after-answer left i t (halts why) more r w q f h = absurd r

runs-length : (k : ℕ) (code : List ℕ) → Bytes code → (state : List ℕ) (left : ℕ) (t : Totals) → left < k → Below 65535 t left → length (text_of t (runs_of code state left)) ≤ 12 * left + 76
runs-length zero code B state left t h f = absurd (omega arith)
runs-length (suc k) code B state left t h f =
    let r = run_on code state zeros left in
    rw (lines_step code B t state left)
    (after-answer left r.readings t r.answer (λ n u. text_of u (runs_of code r.bytes (left - n))) (run-ranged code B state zeros left zeros-bytes)
    (on-bytes-later code state zeros left) (run-read code B state zeros left zeros-bytes) f
    (λ n u p q g. runs-length k code B r.bytes (left - n) u (omega arith) g))

-- ── the bytes that are enough for a listing ──
abbrev pub text_room : ℕ
text_room = 786496

-- a line of 12 bytes for each step, 53 of totals, and a last line of 23
pub lines_fit : (code : List ℕ) → Bytes code → (state : List ℕ) → length (lines_of code state 65535) ≤ text_room
unfolding lines_of
lines_fit code B state = runs-length 65536 code B state 65535 none (omega arith) (none_below 65535)

pub refused-fits : (number place : ℕ) → number < 256 → place < 4294967296 → length (refused_line (refusal number place)) ≤ text_room
refused-fits number place h i = let k = refused-line (refusal number place) h i in omega arith
