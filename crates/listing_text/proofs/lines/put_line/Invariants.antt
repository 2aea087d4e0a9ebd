-- `put_line`, number by number: what is left finishes the line (specs/Writing, Left).
use Rattle.std.proofs.Common.{drop}
use Rattle.listing_text.specs.Text.{numbers}
use Rattle.listing_text.specs.Writing.{Left}
use Rattle.listing_text.proofs.lines.put_line.Given as goal

abbrev pub invariant-loop-n : goal.invariant-loop-n
invariant-loop-n l = Left l.initial.text l.initial.next (numbers l.numbers) l.text l.next (numbers (drop l.n-index l.numbers))
