-- `table_check::judged` meets its contract: the table does not read, or its first fault, and where there is none its first limit, is the verdict.
use mathlib.Core.Path.{◌≡◌, refl, ap, sym, ◌∙◌}
use Rattle.std.specs.Prelude.{Result, Ok, Err, ⊤, ℕ}
use Rattle.std.proofs.Common.{rules}
use Rattle.std.proofs.lemmas.Result.{MatchResult-at_ok, MatchResult-at_err, err_from_is_err_and}
use Rattle.language.specs.Judge.{judge_table}
use Rattle.table_entries.specs.Faults.{told}
use Rattle.table_entries.specs.Sizes.{Known}
use Rattle.table_entries.specs.declared.Fault.TheVariants.{OverLimits}
use Rattle.table_read.specs.Walk.{reading_of}
use Rattle.table_read.specs.Filling.{Hands}
use Rattle.table_forms.specs.Tables.{Reads, read_held}
use Rattle.table_check.specs.Checked.{reads}
use Rattle.table_check.proofs.Verdicts.{unread, faulty, over, within}
use Rattle.table_check.proofs.judged.Goals as goal
use Rattle.table_check.proofs.judged.Goals.{In_ok-read_table, After-map_err}

pub read_table-requires : goal.read_table-requires
read_table-requires c = c.requires.0

pub returns-in_err-read_table : goal.returns-in_err-read_table
returns-in_err-read_table c =
    let e : c.from_residual.result ≡ Err c.in_err-read_table.field-0.0 = search rules in
    rw e (unread _ c.in_err-read_table.field-0.0 (sym (ap told c.in_err-read_table.was) ∙ c.read_table.ensures.0), tt)

-- a table that reads, and the sizes of its entries
read : (c : In_ok-read_table) → Reads c.args.table.now
read c = reads c.args.table.now (sym (ap told c.in_ok-read_table.was) ∙ c.read_table.ensures.0)

known : (c : In_ok-read_table) → Known c.args.table.now c.read_table.new.sizes
known c = rw c.in_ok-read_table.was at c.read_table.ensures.1

pub first_fault-requires : goal.first_fault-requires
first_fault-requires c =
    let r = read (goal.at.first_fault-requires c).In_ok-read_table in
    (r, known (goal.at.first_fault-requires c).In_ok-read_table, c.requires.1 (read_held c.args.table.now r.0 r.1).short)

pub returns-in_err-first_fault : goal.returns-in_err-first_fault
returns-in_err-first_fault c =
    let e : c.from_residual-in_err-first_fault.result ≡ Err c.in_err-first_fault.field-0.0 = search rules in
    let r = read (goal.at.returns-in_err-first_fault c).In_ok-read_table in
    rw e (faulty _ r c.first_fault.ensures c.in_err-first_fault.field-0.0 c.in_err-first_fault.was, tt)

-- what the limits answer, as a fault
limited : (c : After-map_err) → (p : ℕ) → c.over_limits.result ≡ Err p → c.map_err.result ≡ Err (OverLimits p)
limited c p e =
    let h = err_from_is_err_and c.map_err.result (MatchResult-at_err _ _ p e c.map_err.ensures.cases) in
    let q = h.2 in
    let f : h.0 ≡ OverLimits p = search rules in
    h.1 ∙ ap Err f

hands : (l sizes : _) (r : Result ⊤ _) → Known l sizes → Hands l sizes r
hands l sizes (Ok u) k = k
hands l sizes (Err f) k = tt

pub returns : goal.returns
returns c = (go c.over_limits.result refl, hands _ _ c.map_err.result (known (goal.at.returns c).In_ok-read_table))
  where
    r : Reads c.args.table.now
    r = read (goal.at.returns c).In_ok-read_table

    go : (u : Result ⊤ ℕ) → c.over_limits.result ≡ u → told c.map_err.result ≡ reading_of (judge_table c.args.table.now)
    go (Ok tt) e = ap told (MatchResult-at_ok _ _ tt e c.map_err.ensures.cases) ∙ within _ r c.first_fault.ensures (c.in_ok-first_fault.was ∙ ap Ok refl) c.over_limits.ensures e
    go (Err p) e = ap told (limited (goal.at.returns c).After-map_err p e) ∙ over _ r c.first_fault.ensures (c.in_ok-first_fault.was ∙ ap Ok refl) c.over_limits.ensures p e
