-- How far totals are from a bound, and how events and readings bring them nearer.
use Rattle.std.specs.Prelude.{◌≡◌, refl, ℕ, suc, ◌+◌, ◌-◌, ◌≤◌}
use Rattle.std.proofs.Common.{arith}
use Rattle.values.specs.Trace.{Event, set, hold, release}
use Rattle.listing_text.specs.Sheet.{Totals, none, count, read}

-- k more of each stay within b
pub record Below (b : ℕ) (t : Totals) (k : ℕ) : Type 0 where
  pub sets : t.sets + k ≤ b
  pub holds : t.holds + k ≤ b
  pub releases : t.releases + k ≤ b
  pub readings : t.readings + k ≤ b

pub none_below : (b : ℕ) → Below b none b
none_below b = record { sets = omega arith; holds = omega arith; releases = omega arith; readings = omega arith }

-- j events more, and no reading
pub record Grown (t u : Totals) (j : ℕ) : Type 0 where
  pub sets : u.sets ≤ t.sets + j
  pub holds : u.holds ≤ t.holds + j
  pub releases : u.releases ≤ t.releases + j
  pub readings : u.readings ≡ t.readings

pub not-grown : (t : Totals) → Grown t t 0
not-grown t = record { sets = omega arith; holds = omega arith; releases = omega arith; readings = refl }

pub count-grown : (e : Event) (t : Totals) → Grown t (count e t) 1
count-grown (set c l) t = record { sets = omega arith; holds = omega arith; releases = omega arith; readings = refl }
count-grown (hold g) t = record { sets = omega arith; holds = omega arith; releases = omega arith; readings = refl }
count-grown (release g) t = record { sets = omega arith; holds = omega arith; releases = omega arith; readings = refl }

-- one, and then j
pub grown-on : {t u v : Totals} {j : ℕ} → Grown t u 1 → Grown u v j → Grown t v (suc j)
grown-on g h = record {
  sets = omega (arith, g.sets, h.sets);
  holds = omega (arith, g.holds, h.holds);
  releases = omega (arith, g.releases, h.releases);
  readings = omega (arith, g.readings, h.readings);
}

-- where j + k were within it
pub grown-below : {b : ℕ} {t u : Totals} {n : ℕ} (j k : ℕ) → j + k ≤ n → Grown t u j → Below b t n → Below b u k
grown-below j k h g f = record {
  sets = omega (arith, g.sets, f.sets);
  holds = omega (arith, g.holds, f.holds);
  releases = omega (arith, g.releases, f.releases);
  readings = omega (arith, g.readings, f.readings);
}

-- n steps give no more than n events and take no more than n readings
pub steps-below : {b : ℕ} {t u : Totals} (j i n left : ℕ) → j ≤ n → i ≤ n → n ≤ left → Grown t u j → Below b t left → Below b (read i u) (left - n)
steps-below j i n left hj hi hn g f = record {
  sets = omega (arith, g.sets, f.sets);
  holds = omega (arith, g.holds, f.holds);
  releases = omega (arith, g.releases, f.releases);
  readings = omega (arith, g.readings, f.readings);
}
