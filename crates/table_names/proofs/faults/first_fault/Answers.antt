-- `table_names::faults::first_fault` meets its contract.
use native.Mathlib.Omega.{arith}
use Rattle.std.proofs.lemmas.Result.{err_from_is_err_and}
use Rattle.language.specs.Faults.{faults}
use Rattle.table_forms.specs.Tables.{read_held, held_whole}
use Rattle.table_names.specs.Answer.{says_none, says_one}
use Rattle.table_names.proofs.faults.first_fault.Goals as goal

pub root-requires : goal.root-requires
root-requires c =
    record {
      tree = c.requires.0.0;
      whole = held_whole c.requires.0.0 (λ k. omega (arith, c.shared_slice_known-1.given k)) c.requires.1 c.requires.2
          (read_held c.args.table.now c.requires.0.0 c.requires.0.1);
    }

pub returns-in_err-root : goal.returns-in_err-root
returns-in_err-root c =
    let p = err_from_is_err_and c.from_residual.result c.from_residual.ensures.1 in
    rw (p.1, p.2) (λ t e. says_one c.root.result _ (faults t) c.in_err-root.was
    (c.root.ensures.judged t (held_whole t (λ k. omega (arith, c.shared_slice_known-1.given k)) c.requires.1 c.requires.2 (read_held c.args.table.now t e))))

pub returns : goal.returns
returns c =
    λ t e. says_none c.root.result _ (faults t) c.in_ok-root.was
    (c.root.ensures.judged t (held_whole t (λ k. omega (arith, c.shared_slice_known-1.given k)) c.requires.1 c.requires.2 (read_held c.args.table.now t e)))
