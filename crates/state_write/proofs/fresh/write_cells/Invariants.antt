use mathlib.Core.Path.{◌≡◌}
use Rattle.bytecode.specs.State.{encode}
use Rattle.state_write.specs.Fresh.{fresh_with}
use Rattle.state_write.proofs.fresh.write_cells.Given as goal

abbrev pub invariant-loop-j : goal.invariant-loop-j
invariant-loop-j l = l.state ≡ encode (fresh_with l.code l.place l.j)
