-- `put_decimal` calls itself on all digits but the last: the measure is the number.
use Rattle.listing_text.proofs.lines.+put_decimal.Given as goal

abbrev pub decreases-put_decimal : goal.decreases-put_decimal
decreases-put_decimal l = l.n
