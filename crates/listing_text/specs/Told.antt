-- The lines of a play, as its answer and the bytes that it wrote tell them.
use Rattle.std.specs.Prelude.{Bool, true, false, ◌≡◌, refl, List, [], ◌++◌, ℕ, zero, suc, ◌+◌, ◌-◌, ◌*◌, ◌≤◌, ◌<◌, eqb}
use Rattle.std.proofs.Common.{ap, ◌∙◌, arith, ne_eqb}
use Rattle.logic.specs.Choice.{If◌then◌else◌}
use Rattle.words.specs.Numbers.{byte_at, half_at}
use Rattle.values.specs.Ends.{refusal}
use Rattle.values.specs.Trace.{set, hold, release}
use Rattle.bytecode.specs.Answers.{Numbers}
use Rattle.listing_text.specs.Sheet.{Totals, sheet, read}
use Rattle.listing_text.specs.Text.{event_line, sheet_text, end_line, open_line, refused_line}

-- an event's line, by the numbers of its answer
abbrev pub told_line : ℕ → ℕ → ℕ → List ℕ
told_line tag first second =
    If eqb tag 4 then event_line (set first second) else
    If eqb tag 5 then event_line (hold first) else event_line (release first)

-- by the bytes of its packed answer: the tag in the first, after two of steps two of the first number, then the second
abbrev pub line_at : List ℕ → ℕ → List ℕ
line_at answers p = told_line (byte_at answers p) (half_at answers (p + 3)) (byte_at answers (p + 5))

-- the lines of k events, from the i-th on
unfoldable pub event_lines : List ℕ → ℕ → ℕ → List ℕ
event_lines answers i zero = []
event_lines answers i (suc k) = line_at answers (8 * i) ++ event_lines answers (suc i) k

module _ (answers : List ℕ) (p first : ℕ) (f : first ≡ half_at answers (p + 3)) where
  pub told-set : byte_at answers p ≡ 4 → line_at answers p ≡ event_line (set first (byte_at answers (p + 5)))
  told-set e = rw (e, f)

  pub told-hold : byte_at answers p ≡ 5 → line_at answers p ≡ event_line (hold first)
  told-hold e = rw (e, f)

  pub told-release : (byte_at answers p ≡ 4 → ⊥) → (byte_at answers p ≡ 5 → ⊥) → line_at answers p ≡ event_line (release first)
  told-release d e = rw (ne_eqb _ 4 d, ne_eqb _ 5 e, f)

-- ── a play, by the numbers of its answer ──
-- how many events it wrote; none where it is refused
abbrev pub events_of : Numbers → ℕ
events_of x = If eqb x.tag 0 then 0 else x.second

-- the steps of one that stopped for want of room, after which there is another; 0 of any other
abbrev pub full_steps : Numbers → ℕ
full_steps x = If eqb x.tag 8 then x.steps else 0

-- what is no event, with the totals after the play
abbrev pub last_text : Numbers → Totals → List ℕ
last_text x t =
    If eqb x.tag 0 then refused_line (refusal x.first x.second) else
    If eqb x.tag 2 then sheet_text t ++ open_line else
    If eqb x.tag 3 then sheet_text t ++ end_line x.first else []

abbrev pub play_text : List ℕ → Numbers → Totals → List ℕ
play_text answers x t = event_lines answers 0 (events_of x) ++ last_text x t

-- ── the totals, by the tags of packed answers ──
abbrev pub count_tag : ℕ → Totals → Totals
count_tag tag t =
    If eqb tag 4 then sheet (t.sets + 1) t.holds t.releases t.readings else
    If eqb tag 5 then sheet t.sets (t.holds + 1) t.releases t.readings else sheet t.sets t.holds (t.releases + 1) t.readings

-- with k events more, from the i-th on
unfoldable pub count_tags : List ℕ → ℕ → ℕ → Totals → Totals
count_tags answers i zero t = t
count_tags answers i (suc k) t = count_tags answers (suc i) k (count_tag (byte_at answers (8 * i)) t)

-- readings are counted apart from them
tag_read : (n : ℕ) (b c : Bool) (t : Totals)
    → (If b then sheet (t.sets + 1) t.holds t.releases (t.readings + n) else
    If c then sheet t.sets (t.holds + 1) t.releases (t.readings + n) else sheet t.sets t.holds (t.releases + 1) (t.readings + n))
    ≡ read n (If b then sheet (t.sets + 1) t.holds t.releases t.readings else
    If c then sheet t.sets (t.holds + 1) t.releases t.readings else sheet t.sets t.holds (t.releases + 1) t.readings)
tag_read n true c t = refl
tag_read n false true t = refl
tag_read n false false t = refl

pub tags-read : (answers : List ℕ) (n i k : ℕ) (t : Totals) → count_tags answers i k (read n t) ≡ read n (count_tags answers i k t)
unfolding count_tags
tags-read answers n i zero t = refl
tags-read answers n i (suc k) t =
    let tag = byte_at answers (8 * i) in
    ap (count_tags answers (suc i) k) (tag_read n (eqb tag 4) (eqb tag 5) t) ∙ tags-read answers n (suc i) k (count_tag tag t)

pub next-tag : (answers : List ℕ) (i events : ℕ) (t : Totals) → i < events
    → count_tags answers i (events - i) t ≡ count_tags answers (i + 1) (events - (i + 1)) (count_tag (byte_at answers (8 * i)) t)
unfolding count_tags
next-tag answers i events t h =
    let e : events - i ≡ suc (events - (i + 1)) = omega arith in
    let s : suc i ≡ i + 1 = omega arith in
    ap (λ k. count_tags answers i k t) e ∙ ap (λ k. count_tags answers k (events - (i + 1)) (count_tag (byte_at answers (8 * i)) t)) s

pub no-tag : (answers : List ℕ) (i events : ℕ) (t : Totals) → events ≤ i → count_tags answers i (events - i) t ≡ t
unfolding count_tags
no-tag answers i events t h = let e : events - i ≡ 0 = omega arith in ap (λ k. count_tags answers i k t) e

-- after a play
abbrev pub play_totals : List ℕ → Numbers → ℕ → Totals → Totals
play_totals answers x n t = read n (count_tags answers 0 (events_of x) t)

-- ── the lines of events, one at a time ──
pub next-event : (answers : List ℕ) (i events : ℕ) → i < events
    → event_lines answers i (events - i) ≡ line_at answers (8 * i) ++ event_lines answers (i + 1) (events - (i + 1))
unfolding event_lines
next-event answers i events h =
    let e : events - i ≡ suc (events - (i + 1)) = omega arith in
    let s : suc i ≡ i + 1 = omega arith in
    ap (event_lines answers i) e ∙ ap (λ k. line_at answers (8 * i) ++ event_lines answers k (events - (i + 1))) s

pub no-event : (answers : List ℕ) (i events : ℕ) → events ≤ i → event_lines answers i (events - i) ≡ []
unfolding event_lines
no-event answers i events h = let e : events - i ≡ 0 = omega arith in ap (event_lines answers i) e
