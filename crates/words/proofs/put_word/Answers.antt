-- `words::put_word` meets its contract: `word` does not reduce the highest byte, which to_le_bytes does.
use Rattle.std.proofs.Common.{arith, ◌≡◌, ap, ℕ, ◌+◌, ◌-◌, ◌/◌, ◌%◌, ◌∷◌, [], take, append_assoc, drop-drop, sym, ◌∙◌}
use Rattle.std.proofs.lemmas.List.Edits.{sets-eq}
use Rattle.words.specs.Numbers.{word}
use Rattle.words.proofs.put_word.Goals as goal

pub returns : goal.returns
returns c =
    let v = c.args.v in
    let highest : v / 16777216 % 256 ≡ v / 16777216 = omega arith in
    let four : c.args.at + 4 - c.args.at ≡ 4 = omega arith in
    let bytes = c.to_le_bytes.ensures ∙ ap (λ (h : ℕ). v % 256 ∷ v / 256 % 256 ∷ v / 65536 % 256 ∷ h ∷ []) highest in
    rw (c.copy_from_slice.ensures.after, bytes, four, drop-drop) (sym (sets-eq (word v) c.args.s.now c.args.at c.requires ∙ append_assoc (take c.args.at c.args.s.now) (word v) _))
