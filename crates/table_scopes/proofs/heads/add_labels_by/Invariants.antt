use mathlib.Core.Path.{◌≡◌}
use lib.ListN.{length}
use Rattle.table_scopes.specs.Environment.{env_of}
use Rattle.table_scopes.specs.Items.{labels_from, Reach, Adds}
use Rattle.table_scopes.specs.Spared.{Sparing}
use Rattle.table_scopes.specs.Filter.{Covers}
use Rattle.table_scopes.proofs.heads.add_labels_by.Given as goal

abbrev pub invariant-loop-left : goal.invariant-loop-left
invariant-loop-left l =
    Adds (labels_from l.table l.at l.count) l.top l.initial.env (labels_from l.table l.place l.left) l.up l.env × Reach l.table l.place l.left × (length l.env ≡ length l.initial.env)
    × Sparing l.table l.at l.count l.once (env_of l.env l.up) l.place l.left × Covers l.seen (env_of l.env l.up) × (length l.seen ≡ length l.initial.seen)
