-- What is written is put together in specs/Writing.
use Rattle.std.proofs.Common.{arith}
use Rattle.listing_text.specs.Writing.{puts-digit, puts-digits, decimal-room, decimal-some}
use Rattle.listing_text.proofs.lines.+put_decimal.Goals as goal

pub bounds-text-at : goal.bounds-text-at
bounds-text-at t c = omega (arith, decimal-some c.args.n c.if-n-lt10.true)

pub returns-then-n-lt10 : goal.returns-then-n-lt10
returns-then-n-lt10 t c = puts-digit c.args.text.now c.args.at c.args.n c.if-n-lt10.true

pub put_decimal-next-requires : goal.put_decimal-next-requires
put_decimal-next-requires t c = (omega arith, omega (arith, decimal-room c.args.n c.if-n-lt10.false))

pub bounds-text-next : goal.bounds-text-next
bounds-text-next t c = omega (arith, decimal-room c.args.n c.if-n-lt10.false)

pub overflow_add-result-2 : goal.overflow_add-result-2
overflow_add-result-2 t c = omega (arith, decimal-room c.args.n c.if-n-lt10.false)

pub returns : goal.returns
returns t c = puts-digits c.args.text.now c.args.at c.args.n _ _ c.if-n-lt10.false c.put_decimal-next.ensures
