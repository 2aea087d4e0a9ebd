-- What the code of bodies, laid one after the other with one cursor, comes to in bytes: the IN records of its lines, and apart from them the SH records.
use Rattle.std.specs.Prelude.{◌≡◌, refl, false, List, [], ◌∷◌, ◌++◌, map, reverse, ℕ, suc, ◌+◌, ◌*◌, ◌≤◌, length}
use Rattle.std.proofs.Common.{ap, sym, ◌∙◌, arith, mul-suc, add-one, length-append}
use Rattle.std.proofs.Math.Option.{Option, none, some}
use Rattle.std.proofs.lemmas.List.{length-map, length-reverse}
use Rattle.std.proofs.lemmas.List.Edits.{sets}
use Rattle.values.specs.Types.{ty_byte}
use Rattle.language.specs.Tree.{Tree}
use Rattle.logic.specs.Lists.{Each}
use Rattle.bytecode.specs.Macro.{Shape, Placed}
use Rattle.bytecode.specs.Instructions.{Instr}
use Rattle.compile_code.specs.Code.{Code, op, ◌▸◌, at, after, Line, line, placed, placed_at}
use Rattle.compile_code.specs.Compile.{Proc, procs_of}
use Rattle.compile_code.specs.Encode.{Part, code_root, code_proc, proc_parts, parts, lines_of, record_of, records_of, code_bytes, shape_bytes, each}
use Rattle.compile_output.specs.declared.Cursor.{Cursor}
use Rattle.compile_output.specs.EmitCode.{cursor_after, emitted}
use Rattle.compile_bytes.specs.Stores.{sets-join, sets-comm, each-length}
use Rattle.compile_bytes.specs.Lines.{past, noted, waits_after, cursor_line, emit_line, cursor_early, emitted_early, early-waits, early-dry, cursor-early, emitted-early}
use Rattle.compile_bytes.specs.Lines.{cursor_lines, emit_lines, cursor-lines, emit-lines}

-- ── the bytes of lines ──
abbrev pub code_in : List Line → List ℕ
code_in ls = each code_bytes (records_of ls) []

-- the shapes of lines of which the first has address a
abbrev pub shapes_in : ℕ → List Line → List ℕ
shapes_in a ls = each shape_bytes (placed a ls) []

pub shape-length : (s : Placed) → length (shape_bytes s) ≡ 6 + length s.found.operands
shape-length s =
    let a = length-map (reverse s.found.operands) ty_byte in
    let b = length-reverse s.found.operands in
    omega arith

pub records-length : (ls : List Line) → length (records_of ls) ≡ length ls
unfolding records_of
records-length [] = refl
records-length (n ∷ ls) = ap suc (records-length ls)

pub code-length : (ls : List Line) → length (code_in ls) ≡ 8 * length ls
code-length ls = each-length code_bytes 8 (λ r. refl) (records_of ls) ∙ ap (λ (n : ℕ). 8 * n) (records-length ls)

-- ── the cursor after lines ──
pub record Comes (p : Cursor) (ls : List Line) (q : Cursor) : Type 0 where
  pub at-comes : q.at ≡ p.at + 8 * length ls
  pub address-comes : q.address ≡ p.address + length ls
  pub sh-comes : q.sh ≡ p.sh + length (shapes_in p.address ls)
  pub shapes-comes : q.shapes ≡ p.shapes + length (placed p.address ls)

comes-line : (o : Option Shape) (i : Instr) (ls : List Line) (p q : Cursor) → Comes (cursor_line o p) ls q → Comes p (line o i ∷ ls) q
unfolding placed each
comes-line none i ls p q h =
    let e = ap (λ (a : ℕ). length (shapes_in a ls)) (add-one p.address) in
    let f = ap (λ (a : ℕ). length (placed a ls)) (add-one p.address) in
    record { at-comes = omega arith; address-comes = omega arith; sh-comes = omega arith; shapes-comes = omega arith }
comes-line (some s) i ls p q h =
    let e = ap (λ (a : ℕ). length (shapes_in a ls)) (add-one p.address) in
    let f = ap (λ (a : ℕ). length (placed a ls)) (add-one p.address) in
    let r : Placed = record { address = p.address; found = s } in
    let g = length-append (shape_bytes r) (shapes_in (suc p.address) ls) in
    let k = shape-length r in
    record { at-comes = omega arith; address-comes = omega arith; sh-comes = omega arith; shapes-comes = omega arith }

pub cursor-comes : (ls : List Line) (p : Cursor) → Comes p ls (cursor_lines ls p)
unfolding cursor_lines placed each
cursor-comes [] p = record { at-comes = omega arith; address-comes = omega arith; sh-comes = omega arith; shapes-comes = omega arith }
cursor-comes (n ∷ ls) p = comes-line n.shape n.instr ls p (cursor_lines ls (cursor_line n.shape p)) (cursor-comes ls (cursor_line n.shape p))

-- ── the output after lines ──
-- the IN records lie before the SH records
abbrev pub spread : List Line → Cursor → List ℕ → List ℕ
spread ls p l = sets (sets l p.at (code_in ls)) p.sh (shapes_in p.address ls)

spread_line : (o : Option Shape) (i : Instr) (ls : List Line) (p : Cursor) (l : List ℕ) → p.at + 8 * suc (length ls) ≤ p.sh
    → spread ls (cursor_line o p) (emit_line o i p l) ≡ spread (line o i ∷ ls) p l
unfolding placed each records_of
spread_line none i ls p l h =
    rw (add-one p.address) (ap (λ (m : List ℕ). sets m p.sh (shapes_in (suc p.address) ls)) (sets-join l p.at (p.at + 8) (code_bytes (record_of i)) (code_in ls) refl))
spread_line (some s) i ls p l h =
    let r : Placed = record { address = p.address; found = s } in
    let c = code_bytes (record_of i) in
    let later = shapes_in (suc p.address) ls in
    let end = p.sh + 6 + length s.operands in
    let k = shape-length r in
    let n = code-length ls in
    let e : end ≡ p.sh + length (shape_bytes r) = omega arith in
    rw (add-one p.address)
    (ap (λ (m : List ℕ). sets m end later) (sets-join (sets l p.sh (shape_bytes r)) p.at (p.at + 8) c (code_in ls) refl)
    ∙ (ap (λ (m : List ℕ). sets m end later) (sets-comm l p.sh p.at (shape_bytes r) (c ++ code_in ls) (omega arith))
    ∙ sets-join (sets l p.at (c ++ code_in ls)) p.sh end (shape_bytes r) later e))

room-line : (o : Option Shape) (p : Cursor) (n : ℕ) → p.at + 8 * suc n ≤ p.sh → (cursor_line o p).at + 8 * n ≤ (cursor_line o p).sh
room-line none p n h = omega arith
room-line (some s) p n h = omega arith

pub emit-comes : (ls : List Line) (p : Cursor) (l : List ℕ) → p.at + 8 * length ls ≤ p.sh → emit_lines ls p l ≡ spread ls p l
unfolding emit_lines placed each records_of
emit-comes [] p l h = refl
emit-comes (n ∷ ls) p l h =
    emit-comes ls (cursor_line n.shape p) (emit_line n.shape n.instr p l) (room-line n.shape p (length ls) h)
    ∙ spread_line n.shape n.instr ls p l h

-- ── how much it is ──
pub placed-few : (a : ℕ) (ls : List Line) → length (placed a ls) ≤ length ls
unfolding placed
placed-few a [] = omega arith
placed-few a (n ∷ ls) = by n.shape (placed-few (suc a) ls)
  where
    by : (o : Option Shape) → length (placed (suc a) ls) ≤ length ls → length (placed_at o a (placed (suc a) ls)) ≤ suc (length ls)
    by none h = omega arith
    by (some s) h = omega arith

-- shapes of at most d operands
pub shapes-short : (d : ℕ) (ss : List Placed) → Each (λ s. length s.found.operands ≤ d) ss → length (each shape_bytes ss []) ≤ (6 + d) * length ss
unfolding each
shapes-short d [] h = omega arith
shapes-short d (s ∷ ss) h =
    let a = length-append (shape_bytes s) (each shape_bytes ss []) in
    let b = shape-length s in
    let c = shapes-short d ss h.1 in
    let e = h.0 in
    omega (arith, mul-suc (6 + d) (length ss))

-- ── bodies one after the other ──
unfoldable pub cursor_all : List Code → Cursor → Cursor
cursor_all [] p = p
cursor_all (x ∷ xs) p = cursor_all xs (cursor_after x p)

unfoldable pub emitted_all : List Code → Cursor → List ℕ → List ℕ
emitted_all [] p l = l
emitted_all (x ∷ xs) p l = emitted_all xs (cursor_after x p) (emitted x p l)

abbrev pub codes_of : List Part → List Code
codes_of ps = map (λ (q : Part). q.code) ps

-- A body's code ends with an op, so that no shape waits behind it.
abbrev pub Closed : Code → Type 0
Closed x = (y : Code) × (i : Instr) × (x ≡ y ▸ op i)

abbrev pub AllClosed : List Part → Type 0
AllClosed [] = Unit {0}
AllClosed (q ∷ ps) = Closed q.code × AllClosed ps

closed-procs : (t : Tree) (qs : List Proc) (a : ℕ) → AllClosed (proc_parts t qs a)
unfolding proc_parts
closed-procs t [] a = tt
closed-procs t (q ∷ qs) a = ((_, _, refl), closed-procs t qs (after (code_proc t q a) (at a 0)).address)

pub closed_parts : (t : Tree) → AllClosed (parts t)
unfolding parts
closed_parts t = ((_, _, refl), closed-procs t (procs_of t.head) (after (code_root t) (at 0 0)).address)

closed-waits : (x : Code) (o : Option Shape) → Closed x → waits_after x o ≡ none
unfolding waits_after
closed-waits x o (y, i, e) = ap (λ (z : Code). waits_after z o) e

module _ (x : Code) (c : Closed x) (p : Cursor) (w : p.waits ≡ false) where
  cursor-closed : cursor_after x p ≡ cursor_early x none p
  cursor-closed = cursor-early x none p w ∙ ap (λ (o : Option Shape). past o (cursor_early x none p)) (closed-waits x none c)

  emitted-closed : (l : List ℕ) → p.dry ≡ false → emitted x p l ≡ emitted_early x none p l
  emitted-closed l d =
      emitted-early x none p l w d ∙ ap (λ (o : Option Shape). noted o (cursor_early x none p) (emitted_early x none p l)) (closed-waits x none c)

  pub waits-closed : (cursor_after x p).waits ≡ false
  waits-closed = ap (λ (q : Cursor). q.waits) cursor-closed ∙ early-waits x none p w

  pub dry-closed : (cursor_after x p).dry ≡ p.dry
  dry-closed = ap (λ (q : Cursor). q.dry) cursor-closed ∙ early-dry x none p

pub cursor-all : (ps : List Part) (p : Cursor) → AllClosed ps → p.waits ≡ false → cursor_all (codes_of ps) p ≡ cursor_lines (lines_of ps) p
unfolding cursor_all lines_of cursor_lines
cursor-all [] p c w = refl
cursor-all (q ∷ ps) p c w =
    cursor-all ps (cursor_after q.code p) c.1 (waits-closed q.code c.0 p w)
    ∙ (ap (cursor_lines (lines_of ps)) (cursor-closed q.code c.0 p w) ∙ sym (cursor-lines q.code none (λ o. lines_of ps) p))

pub emitted-all : (ps : List Part) (p : Cursor) (l : List ℕ) → AllClosed ps → p.waits ≡ false → p.dry ≡ false
    → emitted_all (codes_of ps) p l ≡ emit_lines (lines_of ps) p l
unfolding emitted_all lines_of emit_lines
emitted-all [] p l c w d = refl
emitted-all (q ∷ ps) p l c w d =
    let x = q.code in
    emitted-all ps (cursor_after x p) (emitted x p l) c.1 (waits-closed x c.0 p w) (dry-closed x c.0 p w ∙ d)
    ∙ (ap (λ (r : Cursor). emit_lines (lines_of ps) r (emitted x p l)) (cursor-closed x c.0 p w)
    ∙ (ap (emit_lines (lines_of ps) (cursor_early x none p)) (emitted-closed x c.0 p w l d) ∙ sym (emit-lines x none (λ o. lines_of ps) p l)))

-- ── what bodies come to, from a cursor at the first address with no shape that waits ──
module _ (ps : List Part) (c : AllClosed ps) (p : Cursor) (w : p.waits ≡ false) where
  -- the cursor after them, dry or not
  pub bodies-cursor : Comes p (lines_of ps) (cursor_all (codes_of ps) p)
  bodies-cursor = rw (cursor-all ps p c w) (cursor-comes (lines_of ps) p)

  -- their bytes: where the instructions end, or further on, the shapes begin
  pub bodies-emitted : (l : List ℕ) → p.dry ≡ false → p.at + 8 * length (lines_of ps) ≤ p.sh → emitted_all (codes_of ps) p l ≡ spread (lines_of ps) p l
  bodies-emitted l d h = emitted-all ps p l c w d ∙ emit-comes (lines_of ps) p l h
