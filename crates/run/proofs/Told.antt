-- What a run gives, by what the inspection told.
use mathlib.Core.Path.{◌≡◌, ◌∙◌}
use mathlib.Core.List.{List}
use Prim.Native.Nat.{ℕ}
use Rattle.std.specs.Prelude.{Option, Some, None, Result, Ok, Err}
use lib.ListN.{length}
use borrow.Author.Tests.{ne_eqb}
use Rattle.words.specs.Laws.{Bytes}
use Rattle.values.specs.Ends.{refusal, refused}
use Rattle.values.specs.Refusals.{refusal_of}
use Rattle.values.specs.declared.Refusal.{Refusal}
use Rattle.values.specs.Trace.{readings_in}
use Rattle.bytecode.specs.Rules.{judge_macro}
use Rattle.bytecode.specs.Runs.{refuses, Ran, run}
use Rattle.bytecode.specs.Lent.{written, run_on}
use Rattle.load_check.specs.Small.{base-small}
use Rattle.state_check.specs.Inspecting.{Placed, Held, NotHeld, Inspects}
use Rattle.machine_run.specs.Held.{Found}
use Rattle.run.specs.Order.{Seen}

pub found : (c bodies classes : List ℕ) (base : ℕ) → Bytes c → Placed c bodies classes base → Found c bodies classes base
found c bodies classes base B P = record { bodied = P.bodied; classed = P.classed; based = P.based; small = rw P.based (base-small c P.bodied.well B) }

-- ── what the inspection told ──
module _ (c l bodies classes : List ℕ) (x : Result (Option ℕ) Refusal) (I : Inspects c l bodies classes x) where
  pub told-passed : (o : Option ℕ) → x ≡ Ok o → Seen c l bodies classes o
  told-passed (Some base) e = rw e at I
  told-passed None e = rw e at I

  pub told-refused : (r : Refusal) → x ≡ Err r → judge_macro c ≡ refused (refusal_of r)
  told-refused r e = rw e at I

-- by where things stand, if it told that
module _ (c l bodies classes : List ℕ) (o : Option ℕ) (S : Seen c l bodies classes o) where
  pub seen : (base : ℕ) → o ≡ Some base → Held c l × Placed c bodies classes base
  seen base e = rw e at S

  pub unseen : o ≡ None → NotHeld c l
  unseen e = rw e at S

module _ (c l readings : List ℕ) (allowance : ℕ) where
  -- ── the refusals ──
  pub run-refused : (n p : ℕ) → judge_macro c ≡ refused (refusal n p) → run_on c l readings allowance ≡ record { answer = refuses (refusal n p); bytes = l; readings = 0 }
  unfolding run_on
  run-refused n p e = rw e

  pub run-unsound : NotHeld c l → run_on c l readings allowance ≡ record { answer = refuses (refusal 10 0); bytes = l; readings = 0 }
  unfolding run_on
  run-unsound H = rw (H.passes, H.unsound)

  module _ (H : Held c l) where
    abbrev ran : Ran
    ran = run H.macro readings allowance H.state

    pub run-held : run_on c l readings allowance ≡ record { answer = ran.answer; bytes = written ran.answer ran.state l; readings = readings_in ran.trace }
    unfolding run_on
    run-held = rw (H.passes, H.sound)

    pub run-unread : (length readings ≡ 64 → ⊥) → run_on c l readings allowance ≡ record { answer = refuses (refusal 11 0); bytes = l; readings = 0 }
    unfolding run
    run-unread n = run-held ∙ rw (ne_eqb (length readings) 64 n)
