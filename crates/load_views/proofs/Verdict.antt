-- The verdict of the two: the lowest address at fault is the first that is broken.
use Rattle.std.specs.Prelude.{◌≡◌, refl, List, ℕ, zero, suc, ◌+◌, eqb, ltb, length}
use Rattle.std.proofs.Common.{◌∙◌, zero-add, add-suc, suc-add, arith, lt-ltb, le-ltb, eqb-true, ltb-false}
use Rattle.std.proofs.Math.Option.{none, some}
use Rattle.logic.specs.Choice.{If◌then◌else◌}
use Rattle.values.specs.Ends.{refusal, Judged, accepted, refused as refused_by}
use Rattle.bytecode.specs.Macro.{Macro}
use Rattle.bytecode.specs.Rules.{fault_at, lowest, judge_code}
use Rattle.load_places.specs.Search.{seek, first, Clean}
use Rattle.load_places.specs.Records.{count, Read, reads, unread, read_records}
use Rattle.load_places.specs.Rules.{broken, passes, refused, verdict}
use Rattle.load_places.specs.Index.{Well}
use Rattle.logic.specs.Tests.{tests, by-test}
use Rattle.logic.specs.OptionLaws.{by-option}
use Rattle.load_views.specs.View.{view, verdict_of}
use Rattle.load_views.specs.Reading.{told}
use Rattle.load_views.specs.Known.{clean, reads-well}
use Rattle.load_views.proofs.Address.{code-count, fault-same, agrees}

lowest-first : (l : List ℕ) → Well l → (n j : ℕ) → j + n ≡ count l → Clean (broken l) j
    → lowest (fault_at (view l)) n j ≡ (If ltb (seek (broken l) n j) (j + n) then some (seek (broken l) n j) else none)
unfolding lowest seek
lowest-first l w zero j e c = rw (le-ltb j (j + 0) (omega arith))
lowest-first l w (suc n) j e c =
    rw (fault-same l w j (omega arith) (agrees l w j (omega arith) c))
    (by-test (broken l j) (λ q. rw (q, lt-ltb j (j + suc n) (omega arith)))
    (λ q. rw q (lowest-first l w n (suc j) (omega arith) (λ k h. by-test (eqb k j) (λ r. rw (eqb-true k j r) q) (λ r. c k (omega tests)))
    ∙ rw (suc-add j n, add-suc j n))))

pub verdict-same : (l : List ℕ) (r : Read) → read_records l ≡ r → verdict l r ≡ verdict_of (judge_code (told l r))
verdict-same l reads e =
    rw (code-count l, lowest-first l (reads-well l e) (count l) 0 (omega arith) (λ k h. absurd (omega arith)), zero-add (count l))
    (by-test (ltb (first (broken l) (count l)) (count l)) (λ q. rw q) (λ q. rw q))
verdict-same l (unread k) e = refl

-- ── a macro that passes ──
pub code-accepted : (m : Macro) (j : Judged Macro) → judge_code j ≡ accepted m → j ≡ accepted m
code-accepted m (accepted n) e =
    by-option (lowest (fault_at n) (length n.code) 0) (λ q. rw q at e)
    (λ i q. let z : refused_by (refusal 9 i) ≡ accepted m = rw q at e in cc)
code-accepted m (refused_by r) e = e

pub passes-clean : (l : List ℕ) (r : Read) → verdict l r ≡ passes → Clean (broken l) (count l)
passes-clean l reads v = clean (broken l) (count l) (by-test (ltb (first (broken l) (count l)) (count l))
    (λ q. let z : refused 9 (first (broken l) (count l)) ≡ passes = rw q at v in absurd (let y : ◌≡◌ {A = ℕ} 0 1 = cc in omega arith))
    (λ q. ltb-false _ _ q))
passes-clean l (unread k) v = absurd (let y : ◌≡◌ {A = ℕ} 0 1 = cc in omega arith)
