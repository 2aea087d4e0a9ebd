-- `table_scopes::heads::enter_loop` meets its contract: the mark, then the control name.
use mathlib.Core.Path.{refl}
use native.Mathlib.Omega.{arith}
use Prim.Native.Nat.{◌+◌}
use Rattle.table_scopes.specs.Environment.{item}
use Rattle.table_scopes.specs.EnvironmentLaws.{grown-push}
use Rattle.table_scopes.specs.Items.{grown-two}
use Rattle.table_scopes.proofs.heads.enter_loop.Goals as goal

pub returns : goal.returns
returns c =
    let old = c.args.env.now in
    let top = c.args.top in
    let marked = grown-push old _ top 65536 0 0 0 (omega arith) c.push.ensures in (
      refl,
      grown-two (item 65536 0 0 0) (item c.args.name 8 1 c.args.place) marked
          (grown-push _ _ (top + 1) c.args.name 8 1 c.args.place (omega (arith, marked.same)) c.push-2.ensures),
    )
