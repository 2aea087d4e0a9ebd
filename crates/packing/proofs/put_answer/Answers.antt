-- `packing::put_answer` meets its contract: `long` takes the answer's bytes from its two halves, to_le_bytes from the whole.
use Rattle.std.proofs.Common.{arith, ◌≡◌, ◌+◌, ◌-◌, ◌/◌, ◌%◌, take, append_assoc, drop-drop, sym, ◌∙◌}
use Rattle.std.proofs.lemmas.List.Edits.{sets-eq}
use Rattle.bytecode.specs.Play.{long}
use Rattle.packing.proofs.put_answer.Goals as goal

pub returns : goal.returns
returns c =
    let a = c.args.answer in
    let b0 : a % 256 ≡ a % 4294967296 % 256 = omega arith in
    let b1 : a / 256 % 256 ≡ a % 4294967296 / 256 % 256 = omega arith in
    let b2 : a / 65536 % 256 ≡ a % 4294967296 / 65536 % 256 = omega arith in
    let b3 : a / 16777216 % 256 ≡ a % 4294967296 / 16777216 = omega arith in
    let b5 : a / 1099511627776 % 256 ≡ a / 4294967296 / 256 % 256 = omega arith in
    let b6 : a / 281474976710656 % 256 ≡ a / 4294967296 / 65536 % 256 = omega arith in
    let b7 : a / 72057594037927936 % 256 ≡ a / 4294967296 / 16777216 = omega arith in
    let eight : c.args.at + 8 - c.args.at ≡ 8 = omega arith in
    rw (c.copy_from_slice.ensures.after, c.to_le_bytes.ensures, b0, b1, b2, b3, b5, b6, b7, eight, drop-drop)
    (sym (sets-eq (long a) c.args.out.now c.args.at c.requires ∙ append_assoc (take c.args.at c.args.out.now) (long a) _))
