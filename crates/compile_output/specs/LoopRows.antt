-- The rows of the two patterns of a loop come to its code.
use Rattle.std.specs.Prelude.{◌≡◌, List, [], ◌∷◌, map, reverse, ℕ, length, take}
use Rattle.std.proofs.Math.Path.{refl}
use Rattle.std.proofs.Common.{ap, sym, ◌∙◌}
use Rattle.values.specs.Types.{ty_byte}
use Rattle.bytecode.specs.Macro.{Shape}
use Rattle.compile_code.specs.Compile.{code_stored, code_downward, code_upward, code_once, code_entered, code_turned}
use Rattle.compile_code.specs.Encode.{record_of}
use Rattle.compile_output.specs.declared.Cursor.{Cursor}
use Rattle.compile_output.specs.declared.loops.Row.{Row}
use Rattle.compile_output.specs.declared.loops.Row.TheVariants.{Op, Mark}
use Rattle.compile_output.specs.declared.loops.Operand.TheVariants.{Number, Cell, Here, Exit}
use Rattle.compile_output.specs.EmitCode.{Stacked, cursor_after, emitted}
use Rattle.compile_output.specs.Rows.{cursor_rows, emit_rows}

-- as `ENTERED` and `TURNED` in src/loops.rt
abbrev pub entered_rows : List Row
entered_rows =
    Op 6 0 (Cell 2) ∷ Op 6 0 (Cell 1) ∷ Op 6 0 (Cell 0) ∷ Op 5 0 (Cell 1) ∷ Op 1 0 (Number 0) ∷ Op 7 10 (Number 0) ∷ Op 9 0 (Here 8) ∷
    Op 20 28 (Number 0) ∷ Mark ∷ Op 5 0 (Cell 1) ∷ Op 1 0 (Number 0) ∷ Op 7 6 (Number 0) ∷ Op 9 0 (Here 29) ∷ Op 5 0 (Cell 0) ∷ Op 5 0 (Cell 2) ∷
    Op 7 9 (Number 0) ∷ Op 9 0 Exit ∷ Op 5 0 (Cell 2) ∷ Op 1 0 (Number 2147483647) ∷ Op 5 0 (Cell 1) ∷ Op 7 1 (Number 0) ∷ Op 7 7 (Number 0) ∷
    Op 9 0 (Here 44) ∷ Op 5 0 (Cell 2) ∷ Op 5 0 (Cell 1) ∷ Op 7 2 (Number 0) ∷ Op 1 0 (Number 1) ∷ Op 7 2 (Number 0) ∷ Op 6 0 (Cell 2) ∷
    Op 8 0 (Here 48) ∷ Mark ∷ Op 5 0 (Cell 0) ∷ Op 5 0 (Cell 2) ∷ Op 7 7 (Number 0) ∷ Op 9 0 Exit ∷ Op 5 0 (Cell 2) ∷ Op 1 0 (Number 2147483648) ∷
    Op 5 0 (Cell 1) ∷ Op 7 1 (Number 0) ∷ Op 7 9 (Number 0) ∷ Op 9 0 (Here 44) ∷ Op 5 0 (Cell 2) ∷ Op 5 0 (Cell 1) ∷ Op 7 2 (Number 0) ∷
    Op 6 0 (Cell 2) ∷ Op 8 0 (Here 48) ∷ Mark ∷ Op 1 0 (Number 4294967295) ∷ Op 6 0 (Cell 1) ∷ Op 1 0 (Number 2147483647) ∷ Op 6 0 (Cell 2) ∷ Mark ∷
    []

abbrev pub turned_rows : List Row
turned_rows =
    Op 5 0 (Cell 1) ∷ Op 1 0 (Number 0) ∷ Op 7 6 (Number 0) ∷ Op 5 0 (Cell 0) ∷ Op 5 0 (Cell 2) ∷ Op 7 8 (Number 0) ∷ Op 7 10 (Number 0) ∷
    Op 9 0 Exit ∷ Op 5 0 (Cell 0) ∷ Op 5 0 (Cell 1) ∷ Op 7 1 (Number 0) ∷ Op 6 0 (Cell 0) ∷ Op 8 0 (Here 0) ∷ Mark ∷ []

module _ (c x z : ℕ) (s : Shape) (p : Cursor) where
  pub entered-cursor : cursor_rows entered_rows 52 (length s.operands) p ≡ cursor_after (code_entered c x z s) p
  unfolding cursor_rows cursor_after code_stored code_downward code_upward code_once
  entered-cursor = refl

  pub entered-emitted : (l : List ℕ) → emit_rows entered_rows 52 s.holds (length s.operands) (map ty_byte (reverse s.operands)) c x z p l ≡ emitted (code_entered c x z s) p l
  unfolding cursor_rows emit_rows cursor_after emitted record_of code_stored code_downward code_upward code_once
  entered-emitted l = refl

  pub turned-cursor : cursor_rows turned_rows 14 (length s.operands) p ≡ cursor_after (code_turned c x z s) p
  unfolding cursor_rows cursor_after code_turned
  turned-cursor = refl

  pub turned-emitted : (l : List ℕ) → emit_rows turned_rows 14 s.holds (length s.operands) (map ty_byte (reverse s.operands)) c x z p l ≡ emitted (code_turned c x z s) p l
  unfolding cursor_rows emit_rows cursor_after emitted record_of code_turned
  turned-emitted l = refl

-- with the shape as the stack has it
module _ {s : Shape} {h d : ℕ} {st : List ℕ} (k : Stacked s h st d) (c x z : ℕ) (p : Cursor) where
  pub entered-after : cursor_rows entered_rows 52 d p ≡ cursor_after (code_entered c x z s) p
  entered-after = ap (λ (n : ℕ). cursor_rows entered_rows 52 n p) (sym k.same-depth) ∙ entered-cursor c x z s p

  pub entered-written : (l : List ℕ) → emit_rows entered_rows 52 h d (take d st) c x z p l ≡ emitted (code_entered c x z s) p l
  entered-written l = rw (← k.same-holds, ← k.same-types, ← k.same-depth) (entered-emitted c x z s p l)

  pub turned-after : cursor_rows turned_rows 14 d p ≡ cursor_after (code_turned c x z s) p
  turned-after = ap (λ (n : ℕ). cursor_rows turned_rows 14 n p) (sym k.same-depth) ∙ turned-cursor c x z s p

  pub turned-written : (l : List ℕ) → emit_rows turned_rows 14 h d (take d st) c x z p l ≡ emitted (code_turned c x z s) p l
  turned-written l = rw (← k.same-holds, ← k.same-types, ← k.same-depth) (turned-emitted c x z s p l)
