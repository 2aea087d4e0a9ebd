-- `put_line`: the word, the numbers, and the line's end.
use Rattle.std.proofs.Common.{arith, refl, [], ◌∷◌, ◌+◌, ◌<◌, ◌≤◌, length, drop, get_or}
use Rattle.listing_text.specs.Text.{decimal, numbers}
use Rattle.listing_text.specs.Writing.{back_fits, join, begun, room-left, goes_left, finished, next-number, no-number}
use Rattle.listing_text.proofs.lines.put_line.Goals as goal

pub loop-n-init : goal.loop-n-init
loop-n-init c = begun _ _ _

pub put_number-next-requires : goal.put_number-next-requires
put_number-next-requires c =
    let ns = c.args.numbers.now in
    let in-range : c.loop-n.n-index < length ns = omega arith in
    let i = c.loop-n.n-index in
    let n = 32 ∷ decimal (get_or ns i 0) in
    let room : c.loop-n.next + length n ≤ length c.loop-n.text =
    room-left _ _ _ _ _ _ c.loop-n.invariant n (numbers (drop (i + 1) ns)) (next-number ns i in-range) (back_fits (numbers ns) c.put_word-next.ensures c.requires) in
    omega (arith, room)

pub loop-n-preserved : goal.loop-n-preserved
loop-n-preserved c =
    let ns = c.args.numbers.now in
    let in-range : c.loop-n.n-index < length ns = omega arith in
    goes_left _ _ _ _ _ _ c.loop-n.invariant _ _ _ _ (next-number ns _ in-range) c.put_number-next.ensures

pub put_newline-requires : goal.put_newline-requires
put_newline-requires c =
    let ns = c.args.numbers.now in
    let past : length ns ≤ c.loop-n.n-index = omega arith in
    room-left _ _ _ _ _ _ c.loop-n.invariant (10 ∷ []) [] (no-number ns _ past) (back_fits (numbers ns) c.put_word-next.ensures c.requires)

pub returns : goal.returns
returns c =
    let ns = c.args.numbers.now in
    let past : length ns ≤ c.loop-n.n-index = omega arith in
    join _ _ _ _ _ _ _ _ c.put_word-next.ensures
    (finished _ _ _ _ _ _ (goes_left _ _ _ _ _ _ c.loop-n.invariant (10 ∷ []) [] _ _ (no-number ns _ past) c.put_newline.ensures) refl)
