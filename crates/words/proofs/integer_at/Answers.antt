-- `words::integer_at` meets its contract.
use mir.Syntax.{w32}
use mir.ValLaws.{to_z-of_z}
use Rattle.words.proofs.integer_at.Goals as goal

pub returns : goal.returns
returns c = rw (to_z-of_z w32 _ (record { sfits = c.integer_of.type_inv }), ← c.word_at.ensures) c.integer_of.ensures
