-- What the check of names answers: the first of all faults.
use Rattle.std.specs.Prelude.{◌≡◌, Result, Ok, Err, List, [], ◌∷◌, ℕ}
use Rattle.values.specs.Ends.{accepted}
use Rattle.language.specs.Tree.{Tree}
use Rattle.language.specs.Table.{read_table}
use Rattle.language.specs.Faults.{faults}
use Rattle.values.specs.Ends.{Refusal}
use Rattle.table_entries.specs.declared.Fault.{Fault}
use Rattle.table_entries.specs.Faults.{told}
use Rattle.table_scopes.specs.Flaws.{Verdict, Says}

abbrev pub first_fault : List Refusal → Result (Unit {0}) Refusal
first_fault [] = Ok tt
first_fault (r ∷ rs) = Err r

-- what is told of a verdict, whatever type it finds
abbrev pub answered_by : Verdict → Result (Unit {0}) Refusal
answered_by (Ok t) = Ok tt
answered_by (Err f) = told (Err f)

pub says-answer : (r : Verdict) (fs : List Refusal) → Says r fs → answered_by r ≡ first_fault fs
says-answer (Ok t) fs h = rw h
says-answer (Err f) fs (rest, h) = rw h

pub says_none : (r : Verdict) (t : ℕ) (fs : List Refusal) → r ≡ Ok t → Says r fs → told (Ok tt) ≡ first_fault fs
says_none r t fs e h = rw (rw e at h)

pub says_one : (r : Verdict) (f : Fault) (fs : List Refusal) → r ≡ Err f → Says r fs → told (Err f) ≡ first_fault fs
says_one r f fs e h = rw (rw e at h).1

-- whatever tree the table reads as, the answer is its first fault
abbrev pub GivesFirst : List ℕ → Result (Unit {0}) Fault → Type 0
GivesFirst l r = (t : Tree) → read_table l ≡ accepted t → told r ≡ first_fault (faults t)
