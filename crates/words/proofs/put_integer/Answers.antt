-- `words::put_integer` meets its contract.
use mir.Syntax.{w32}
use mir.ValLaws.{to_z-of_z}
use Rattle.words.proofs.put_integer.Goals as goal

pub returns : goal.returns
returns c =
    rw (c.word_of.ensures, to_z-of_z w32 _ c.ranges.v)
    at c.put_word.ensures
