-- Something or nothing, as the other definitions write it.
use Rattle.std.specs.Prelude.{Bool, true, false}
use Rattle.std.proofs.Math.Option.{Option, none, some}

abbrev pub is_some : {A : Type 0} → Option A → Bool
is_some none = false
is_some (some x) = true

-- go on with what there is
abbrev pub keep : {A B : Type 0} → Option A → (A → Option B) → Option B
keep none f = none
keep (some x) f = f x

-- the first that there is
abbrev pub or_else : {A : Type 0} → Option A → Option A → Option A
or_else none y = y
or_else (some x) y = some x

-- one thing where there is something, another where there is nothing
abbrev pub if_some : {A B : Type 0} → Option A → (A → B) → B → B
if_some none f y = y
if_some (some x) f y = f x
