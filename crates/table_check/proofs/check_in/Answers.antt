-- `table_check::check_in` meets its contract.
use mathlib.Core.Path.{◌∙◌, sym, ap}
use native.Mathlib.Omega.{arith}
use Rattle.std.specs.Prelude.{◌≡◌, Err}
use Rattle.values.specs.Refusals.{in_code}
use Rattle.language.specs.Judge.{judge_table}
use Rattle.table_entries.specs.Faults.{refusal_of, told}
use Rattle.table_check.specs.Checked.{checked_of}
use Rattle.table_check.proofs.Verdicts.{accepts, refuses, place-small}
use Rattle.table_check.proofs.check_in.Goals as goal
use Rattle.table_check.proofs.check_in.Goals.{In-Err}

refused : (c : In-Err) → Err (in_code (refusal_of c.in-Err.fault)) ≡ checked_of (judge_table c.args.table.now)
refused c = refuses _ (refusal_of c.in-Err.fault) (sym (ap told c.in-Err.is) ∙ c.judged.ensures.0)

pub overflow_cast-result : goal.overflow_cast-result
overflow_cast-result c = record { fits = omega (arith, place-small _ _ (refused (goal.at.overflow_cast-result c).In-Err)) }

pub returns-in-Ok : goal.returns-in-Ok
returns-in-Ok c = (accepts _ (sym (ap told c.in-Ok.is) ∙ c.judged.ensures.0), rw c.in-Ok.is at c.judged.ensures.1)

pub returns-in-Err : goal.returns-in-Err
returns-in-Err c = (rw (c.number.ensures, c.place.ensures) (refused (goal.at.returns-in-Err c).In-Err), tt)
