-- `put_word`: a word copied over a part of the text is stored byte by byte.
use Rattle.std.proofs.Common.{arith, refl, sym, ◌≡◌, ◌∙◌, ◌+◌, ◌-◌, length, take, append_assoc, drop-drop}
use Rattle.std.proofs.lemmas.List.Edits.{sets-eq}
use Rattle.listing_text.proofs.lines.put_word.Goals as goal

pub returns : goal.returns
returns c =
    let at = c.args.at in
    let word = c.args.word.now in
    let text = c.args.text.now in
    let part : at + length word - at ≡ length word = omega arith in
    record {
      index = refl;
      bytes = rw (c.copy_from_slice.ensures.after, part, drop-drop) (sym (sets-eq word text at c.requires ∙ append_assoc (take at text) word _));
    }
