-- A refusal as code answers it, and as the definitions have it.
use Rattle.std.specs.Prelude.{ℕ}
use Rattle.values.specs.Ends.{refusal}
use Rattle.values.specs.Ends as ends
use Rattle.values.specs.declared.Refusal.{Refusal}

abbrev pub coded : ℕ → ℕ → Refusal
coded number place = record { number = number; place = place }

abbrev pub in_code : ends.Refusal → Refusal
in_code r = coded r.number r.place

abbrev pub refusal_of : Refusal → ends.Refusal
refusal_of r = refusal r.number r.place
