-- Code under a cursor comes to what its lines come to, one after the other. The cursor writes a mark when it meets it; a line has it with the op that it stands before.
-- So the lines are taken by a cursor that stands before the shape that waits (`early`): the shape is written with its op.
use Rattle.std.specs.Prelude.{◌≡◌, refl, false, List, [], ◌∷◌, ℕ, length}
use Rattle.std.proofs.Common.{ap, ◌∙◌}
use Rattle.std.proofs.Math.Option.{Option, none, some}
use Rattle.std.proofs.lemmas.List.Edits.{sets}
use Rattle.bytecode.specs.Macro.{Shape}
use Rattle.bytecode.specs.Instructions.{Instr}
use Rattle.compile_code.specs.Code.{Code, nil, op, mark, cell, ◌▸◌, Line, lay, first}
use Rattle.compile_code.specs.Encode.{record_of, code_bytes, shape_bytes}
use Rattle.compile_output.specs.declared.Cursor.{Cursor}
use Rattle.compile_output.specs.EmitRecord.{moved, cursor_marked}
use Rattle.compile_output.specs.EmitCode.{cursor_after, emitted}

-- ── a shape that waits ──
-- the cursor and the output once it is written
abbrev pub past : Option Shape → Cursor → Cursor
past none p = p
past (some s) p = cursor_marked (length s.operands) p

abbrev pub noted : Option Shape → Cursor → List ℕ → List ℕ
noted none p l = l
noted (some s) p l = sets l p.sh (shape_bytes (record { address = p.address; found = s }))

-- the shape that waits after a part
unfoldable pub waits_after : Code → Option Shape → Option Shape
waits_after nil o = o
waits_after (op i) o = none
waits_after (mark s) o = first o s
waits_after (cell t) o = o
waits_after (x ▸ y) o = waits_after y (waits_after x o)

-- ── one op, with the shape that waits for it ──
abbrev pub cursor_line : Option Shape → Cursor → Cursor
cursor_line o p = moved (past o p)

abbrev pub emit_line : Option Shape → Instr → Cursor → List ℕ → List ℕ
emit_line o i p l = sets (noted o p l) p.at (code_bytes (record_of i))

-- ── a part, by a cursor that stands before the shape that waits ──
unfoldable pub cursor_early : Code → Option Shape → Cursor → Cursor
cursor_early nil o p = p
cursor_early (op i) o p = cursor_line o p
cursor_early (mark s) o p = p
cursor_early (cell t) o p = p
cursor_early (x ▸ y) o p = cursor_early y (waits_after x o) (cursor_early x o p)

unfoldable pub emitted_early : Code → Option Shape → Cursor → List ℕ → List ℕ
emitted_early nil o p l = l
emitted_early (op i) o p l = emit_line o i p l
emitted_early (mark s) o p l = l
emitted_early (cell t) o p l = l
emitted_early (x ▸ y) o p l = emitted_early y (waits_after x o) (cursor_early x o p) (emitted_early x o p l)

pub early-waits : (x : Code) (o : Option Shape) (p : Cursor) → p.waits ≡ false → (cursor_early x o p).waits ≡ false
unfolding cursor_early
early-waits nil o p h = h
early-waits (op i) o p h = refl
early-waits (mark s) o p h = h
early-waits (cell t) o p h = h
early-waits (x ▸ y) o p h = early-waits y (waits_after x o) (cursor_early x o p) (early-waits x o p h)

past-dry : (o : Option Shape) (p : Cursor) → (past o p).dry ≡ p.dry
past-dry none p = refl
past-dry (some s) p = refl

pub early-dry : (x : Code) (o : Option Shape) (p : Cursor) → (cursor_early x o p).dry ≡ p.dry
unfolding cursor_early
early-dry nil o p = refl
early-dry (op i) o p = past-dry o p
early-dry (mark s) o p = refl
early-dry (cell t) o p = refl
early-dry (x ▸ y) o p = early-dry y (waits_after x o) (cursor_early x o p) ∙ early-dry x o p

-- the two cursors keep step
pub cursor-early : (x : Code) (o : Option Shape) (p : Cursor) → p.waits ≡ false → cursor_after x (past o p) ≡ past (waits_after x o) (cursor_early x o p)
unfolding cursor_after waits_after cursor_early
cursor-early nil o p h = refl
cursor-early (op i) o p h = refl
cursor-early (mark s) none p h = rw h
cursor-early (mark s) (some t) p h = refl
cursor-early (cell t) o p h = refl
cursor-early (x ▸ y) o p h =
    ap (cursor_after y) (cursor-early x o p h) ∙ cursor-early y (waits_after x o) (cursor_early x o p) (early-waits x o p h)

-- and so do the outputs
pub emitted-early : (x : Code) (o : Option Shape) (p : Cursor) (l : List ℕ) → p.waits ≡ false → p.dry ≡ false
    → emitted x (past o p) (noted o p l) ≡ noted (waits_after x o) (cursor_early x o p) (emitted_early x o p l)
unfolding cursor_after emitted waits_after cursor_early emitted_early
emitted-early nil o p l h d = refl
emitted-early (op i) none p l h d = rw d
emitted-early (op i) (some s) p l h d = rw d
emitted-early (mark s) none p l h d = rw (d, h)
emitted-early (mark s) (some t) p l h d = rw d
emitted-early (cell t) o p l h d = refl
emitted-early (x ▸ y) o p l h d =
    ap (λ (q : Cursor). emitted y q (emitted x (past o p) (noted o p l))) (cursor-early x o p h)
    ∙ (ap (emitted y (past (waits_after x o) (cursor_early x o p))) (emitted-early x o p l h d)
    ∙ emitted-early y (waits_after x o) (cursor_early x o p) (emitted_early x o p l) (early-waits x o p h) (early-dry x o p ∙ d))

-- ── lines one after the other ──
unfoldable pub cursor_lines : List Line → Cursor → Cursor
cursor_lines [] p = p
cursor_lines (n ∷ ns) p = cursor_lines ns (cursor_line n.shape p)

unfoldable pub emit_lines : List Line → Cursor → List ℕ → List ℕ
emit_lines [] p l = l
emit_lines (n ∷ ns) p l = emit_lines ns (cursor_line n.shape p) (emit_line n.shape n.instr p l)

pub cursor-lines : (x : Code) (o : Option Shape) (k : Option Shape → List Line) (p : Cursor)
    → cursor_lines (lay x o k) p ≡ cursor_lines (k (waits_after x o)) (cursor_early x o p)
unfolding lay waits_after cursor_early cursor_lines
cursor-lines nil o k p = refl
cursor-lines (op i) o k p = refl
cursor-lines (mark s) o k p = refl
cursor-lines (cell t) o k p = refl
cursor-lines (x ▸ y) o k p = cursor-lines x o (λ z. lay y z k) p ∙ cursor-lines y (waits_after x o) k (cursor_early x o p)

pub emit-lines : (x : Code) (o : Option Shape) (k : Option Shape → List Line) (p : Cursor) (l : List ℕ)
    → emit_lines (lay x o k) p l ≡ emit_lines (k (waits_after x o)) (cursor_early x o p) (emitted_early x o p l)
unfolding lay waits_after cursor_early emitted_early emit_lines
emit-lines nil o k p l = refl
emit-lines (op i) o k p l = refl
emit-lines (mark s) o k p l = refl
emit-lines (cell t) o k p l = refl
emit-lines (x ▸ y) o k p l = emit-lines x o (λ z. lay y z k) p l ∙ emit-lines y (waits_after x o) k (cursor_early x o p) (emitted_early x o p l)
