use mathlib.Core.Path.{◌≡◌}
use lib.ListN.{length}
use Rattle.table_scopes.specs.Environment.{env_of}
use Rattle.table_scopes.specs.Filter.{CoversBut}
use Rattle.table_scopes.proofs.environment.note_block.Given as goal

abbrev pub invariant-loop-i : goal.invariant-loop-i
invariant-loop-i l = CoversBut l.seen (env_of l.env l.top) (env_of l.env l.i) × (length l.seen ≡ length l.initial.seen)
