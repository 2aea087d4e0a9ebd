-- The refusal that a fault of a table is: its number, and its place.
use Rattle.std.specs.Prelude.{Result, Ok, Err, ⊤}
use Rattle.values.specs.Ends.{Refusal, refusal}
use Rattle.table_entries.specs.declared.Fault.{Fault}
use Rattle.table_entries.specs.declared.Fault.TheVariants.{Misshapen, Unread, Unnamed, Mistyped, OutOfReach, OverLimits}

abbrev pub refusal_of : Fault → Refusal
refusal_of Misshapen = refusal 1 0
refusal_of (Unread p) = refusal 2 p
refusal_of (Unnamed p) = refusal 3 p
refusal_of (Mistyped p) = refusal 4 p
refusal_of (OutOfReach p) = refusal 5 p
refusal_of (OverLimits p) = refusal 6 p

-- what an answer tells, in the definitions' terms: sound, or the refusal
abbrev pub told : Result ⊤ Fault → Result ⊤ Refusal
told (Ok u) = Ok tt
told (Err f) = Err (refusal_of f)
