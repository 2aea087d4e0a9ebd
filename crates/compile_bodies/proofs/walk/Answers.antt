-- `walk`: the root, and then the procedures (crates/compile_whole/specs/Walks); what was lent is then as they leave it.
use mathlib.Core.Path.{refl, ◌≡◌}
use Rattle.std.proofs.Common.{rules}
use Rattle.compile_whole.specs.Walks.{walk-root, walk-procs, walk-done}
use Rattle.compile_bodies.proofs.walk.Goals as goal

pub root-p-requires : goal.root-p-requires
root-p-requires c =
    walk-root c.requires.0 c.args.stack.now c.requires.1

pub procedures-requires : goal.procedures-requires
procedures-requires c =
    walk-procs c.requires.0 c.args.stack.now c.root-p.ensures.answers _ refl c.requires.1

pub returns : goal.returns
returns c =
    let e : c.env-1.given.0 ≡ c.procedures.new.lent.env.now = search rules in
    let n : c.ends-1.given.0 ≡ c.procedures.new.lent.ends.now = search rules in
    let o : c.out-1.given.0 ≡ c.procedures.new.lent.out.now = search rules in
    rw (e, n, o) (walk-done c.requires.0 c.args.stack.now c.root-p.ensures.answers _ refl c.procedures.ensures.answers)
