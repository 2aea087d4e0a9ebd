-- `compile_in`: by the answer of the check.
use native.Mathlib.Omega.{arith}
use mathlib.Core.Path.{◌≡◌, sym, ◌∙◌}
use Rattle.std.specs.Prelude.{Err}
use Rattle.std.proofs.Common.{rules}
use Rattle.compile_whole.specs.Compiling.{accepted-short}
use Rattle.compile.specs.Verdict.{compile-accepted, compile-refused}
use Rattle.compile.proofs.compile_in.Goals as goal

pub check_in-requires : goal.check_in-requires
check_in-requires c =
    c.requires.0

pub compile_accepted-requires : goal.compile_accepted-requires
compile_accepted-requires c =
    let a = compile-accepted c.args.table.now (sym c.in_ok-check_in.was ∙ c.check_in.ensures.0) in
    let short = accepted-short c.args.table.now a.0 a.1 in
    record {
      tree = a.0;
      judged = a.1;
      sized = rw c.in_ok-check_in.was at c.check_in.ensures.1;
      wide-env = omega (arith, c.requires.0.1 short, c.check_in.auto.env);
      wide-known = c.requires.1 short;
      wide-aims = c.requires.2 short;
      wide-ends = c.requires.3 short;
    }

pub shape_of-sizes : goal.shape_of-sizes
shape_of-sizes c =
    c.check_in.auto.sizes

pub shape_of-env : goal.shape_of-env
shape_of-env c =
    c.compile_accepted.auto.env ∙ c.check_in.auto.env

pub shape_of-sizes-in_err-check_in : goal.shape_of-sizes-in_err-check_in
shape_of-sizes-in_err-check_in c =
    c.check_in.auto.sizes

pub shape_of-env-in_err-check_in : goal.shape_of-env-in_err-check_in
shape_of-env-in_err-check_in c =
    c.check_in.auto.env

pub returns-in_err-check_in : goal.returns-in_err-check_in
returns-in_err-check_in c =
    let e : c.from_residual.result ≡ Err c.in_err-check_in.field-0.0 = search rules in
    rw e (compile-refused c.args.table.now c.args.out.now c.in_err-check_in.field-0.0 (sym c.in_err-check_in.was ∙ c.check_in.ensures.0))
