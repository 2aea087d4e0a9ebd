-- The totals as the code has them, and how far those of a play's events are from what fits.
use Rattle.std.specs.Prelude.{Bool, true, false, refl, List, ℕ, zero, suc, ◌+◌, ◌*◌, ◌≤◌, eqb}
use Rattle.std.proofs.Common.{arith}
use Rattle.logic.specs.Choice.{If◌then◌else◌}
use Rattle.words.specs.Numbers.{byte_at}
use Rattle.listing_text.specs.Sheet as sheet
use Rattle.listing_text.specs.Bounds.{Below, Grown, not-grown, grown-on, grown-below}
use Rattle.listing_text.specs.Told.{count_tag, count_tags}
use Rattle.listing_text.specs.declared.totals.Totals.{Totals}

abbrev pub totals_of : Totals → sheet.Totals
totals_of t = sheet.sheet t.sets t.holds t.releases t.readings

-- k more of each fit
abbrev pub Roomy : sheet.Totals → ℕ → Type 0
Roomy t k = Below 4294967295 t k

-- within the steps of a listing there is room for the events and the readings of a play
pub steps-roomy : {t : sheet.Totals} {left : ℕ} → Below 65535 t left → Roomy t 65536
steps-roomy f =
    record { sets = omega (arith, f.sets); holds = omega (arith, f.holds); releases = omega (arith, f.releases); readings = omega (arith, f.readings) }

pub fewer-roomy : {t : sheet.Totals} {k : ℕ} (j : ℕ) → j ≤ k → Roomy t k → Roomy t j
fewer-roomy {t} j h r = grown-below 0 j (omega arith) (not-grown t) r

pub tag-grown : (tag : ℕ) (t : sheet.Totals) → Grown t (count_tag tag t) 1
tag-grown tag t = by (eqb tag 4) (eqb tag 5)
  where
    by : (b c : Bool) → Grown t (If b then sheet.sheet (t.sets + 1) t.holds t.releases t.readings else
        If c then sheet.sheet t.sets (t.holds + 1) t.releases t.readings else sheet.sheet t.sets t.holds (t.releases + 1) t.readings) 1
    by true c = record { sets = omega arith; holds = omega arith; releases = omega arith; readings = refl }
    by false true = record { sets = omega arith; holds = omega arith; releases = omega arith; readings = refl }
    by false false = record { sets = omega arith; holds = omega arith; releases = omega arith; readings = refl }

pub tags-grown : (answers : List ℕ) (i k : ℕ) (t : sheet.Totals) → Grown t (count_tags answers i k t) k
unfolding count_tags
tags-grown answers i zero t = not-grown t
tags-grown answers i (suc k) t =
    let u = count_tag (byte_at answers (8 * i)) t in
    grown-on (tag-grown (byte_at answers (8 * i)) t) (tags-grown answers (suc i) k u)
