-- The verdict on a macro as the code answers it.
use Rattle.std.specs.Prelude.{Result, Ok, Err}
use Rattle.values.specs.Ends.{Judged, accepted, refused}
use Rattle.values.specs.declared.Refusal.{Refusal}
use Rattle.values.specs.Refusals.{coded, in_code}
use Rattle.bytecode.specs.Macro.{Macro}
use Rattle.load_places.specs.Rules.{Verdict, judge}
use Rattle.load_places.specs.Rules as places

-- it passes, or the refusal with its number and its place: a record's index for 8, an address for 9
abbrev pub loaded_of : Judged Macro → Result (Unit {0}) Refusal
loaded_of (accepted m) = Ok tt
loaded_of (refused r) = Err (in_code r)

-- ── from the verdict over places ──
abbrev pub told : Verdict → Result (Unit {0}) Refusal
told places.passes = Ok tt
told (places.refused n p) = Err (coded n p)
