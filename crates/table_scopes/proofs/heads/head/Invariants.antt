use mathlib.Core.Path.{◌≡◌}
use Prim.Native.Nat.{◌+◌, ◌-◌}
use Rattle.table_scopes.specs.Environment.{env_of}
use Rattle.table_scopes.specs.Flaws.{head_flaws}
use Rattle.table_scopes.proofs.heads.head.Given as goal

abbrev pub invariant-loop-place : goal.invariant-loop-place
invariant-loop-place l = head_flaws l.table (env_of l.env l.top) l.at l.count ≡ head_flaws l.table (env_of l.env l.top) l.place (l.at + l.count - l.place)
