use mathlib.Core.Path.{◌≡◌}
use lib.ListN.{length}
use Rattle.table_scopes.specs.Items.{globals_from, ReachGlobals, Adds}
use Rattle.table_scopes.proofs.heads.add_globals.Given as goal

abbrev pub invariant-loop-left : goal.invariant-loop-left
invariant-loop-left l =
    Adds (globals_from l.table 1 l.count) l.top l.initial.env (globals_from l.table l.place l.left) l.up l.env × ReachGlobals l.table l.place l.left × (length l.env ≡ length l.initial.env)
