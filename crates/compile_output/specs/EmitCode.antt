-- What code comes to under a cursor: the cursor after a part, and the output after it. Both are folds over the definition's code.
use Rattle.std.specs.Prelude.{◌≡◌, refl, Bool, true, false, List, map, reverse, ℕ, zero, suc, ◌-◌, ◌≤◌, ◌<◌, length, take}
use Rattle.std.proofs.Math.Path.{ap}
use Rattle.std.proofs.Common.{sym, ◌∙◌, arith}
use Rattle.std.proofs.lemmas.List.Edits.{sets}
use Rattle.std.proofs.Math.Seq.{length-sets}
use Rattle.logic.specs.Choice.{If◌then◌else◌}
use Rattle.values.specs.Types.{ty_byte}
use Rattle.bytecode.specs.Macro.{Shape}
use Rattle.bytecode.specs.Macro.{Code as Record}
use Rattle.bytecode.specs.Instructions.{Instr, let_hold}
use Rattle.compile_code.specs.Code.{Code, nil, op, mark, cell, ◌▸◌, At, after}
use Rattle.compile_code.specs.Encode.{rec, record_of, code_bytes, shape_bytes}
use Rattle.compile_output.specs.declared.Cursor.{Cursor}
use Rattle.compile_output.specs.EmitRecord.{instruction, moved, cursor_marked, cursor_shaped, emit_op, emit_shape, Fits, length-shape}

-- the cursor after a part
unfoldable pub cursor_after : Code → Cursor → Cursor
cursor_after nil p = p
cursor_after (op i) p = moved p
cursor_after (mark s) p = cursor_shaped (length s.operands) p
cursor_after (cell t) p = p
cursor_after (x ▸ y) p = cursor_after y (cursor_after x p)

-- the output after a part
unfoldable pub emitted : Code → Cursor → List ℕ → List ℕ
emitted nil p l = l
emitted (op i) p l = If p.dry then l else sets l p.at (code_bytes (record_of i))
emitted (mark s) p l = If p.dry then l else If p.waits then l else sets l p.sh (shape_bytes (record { address = p.address; found = s }))
emitted (cell t) p l = l
emitted (x ▸ y) p l = emitted y (cursor_after x p) (emitted x p l)

-- so many releases
unfoldable pub lets : ℕ → Code
lets zero = nil
lets (suc n) = op let_hold ▸ lets n

-- ── one record ──
pub cursor-op : (i : Instr) (p : Cursor) → moved p ≡ cursor_after (op i) p
unfolding cursor_after
cursor-op i p = refl

-- What `emit` is asked for an instruction. A dry walk does not know the targets of jumps yet: it may be asked for any numbers.
pub emitted-op : (i : Instr) (k a b : ℕ) (p : Cursor) → (p.dry ≡ false → record_of i ≡ rec k a b) → (l : List ℕ) → emit_op p l k a b ≡ emitted (op i) p l
unfolding emitted
emitted-op i k a b p e l = by p.dry e
  where
    by : (d : Bool) → (d ≡ false → record_of i ≡ rec k a b) → (If d then l else sets l p.at (instruction k a b)) ≡ (If d then l else sets l p.at (code_bytes (record_of i)))
    by true h = refl
    by false h = sym (ap (λ (r : Record). sets l p.at (code_bytes r)) (h refl))

-- what `shape` is asked for a mark: the stack begins with the operands' types, from the bottom
pub record Stacked (s : Shape) (holds : ℕ) (stack : List ℕ) (depth : ℕ) : Type 0 where
  pub same-holds : s.holds ≡ holds
  pub same-depth : length s.operands ≡ depth
  pub same-types : map ty_byte (reverse s.operands) ≡ take depth stack

pub cursor-mark : (s : Shape) (h d : ℕ) (st : List ℕ) → Stacked s h st d → (p : Cursor) → cursor_shaped d p ≡ cursor_after (mark s) p
unfolding cursor_after
cursor-mark s h d st k p = ap (λ (n : ℕ). cursor_shaped n p) (sym k.same-depth)

pub emitted-mark : (s : Shape) (h d : ℕ) (st : List ℕ) → Stacked s h st d → (p : Cursor) (l : List ℕ) → emit_shape p l h d (take d st) ≡ emitted (mark s) p l
unfolding emitted
emitted-mark s h d st k p l = rw (← k.same-holds, ← k.same-types, ← k.same-depth)

-- ── the cursor only grows, and stays what it is ──
pub record Later (p q : Cursor) : Type 0 where
  pub at-later : p.at ≤ q.at
  pub address-later : p.address ≤ q.address
  pub sh-later : p.sh ≤ q.sh
  pub shapes-later : p.shapes ≤ q.shapes
  pub same-dry : q.dry ≡ p.dry
  pub same-inside : q.inside ≡ p.inside

pub later-self : (p : Cursor) → Later p p
later-self p = record {
  at-later = omega arith;
  address-later = omega arith;
  sh-later = omega arith;
  shapes-later = omega arith;
  same-dry = refl;
  same-inside = refl;
}

pub later_trans : {p q r : Cursor} → Later p q → Later q r → Later p r
later_trans h k = record {
  at-later = omega arith;
  address-later = omega arith;
  sh-later = omega arith;
  shapes-later = omega arith;
  same-dry = k.same-dry ∙ h.same-dry;
  same-inside = k.same-inside ∙ h.same-inside;
}

pub later-moved : (p : Cursor) → Later p (moved p)
later-moved p = record {
  at-later = omega arith;
  address-later = omega arith;
  sh-later = omega arith;
  shapes-later = omega arith;
  same-dry = refl;
  same-inside = refl;
}

pub later-shaped : (d : ℕ) (p : Cursor) → Later p (cursor_shaped d p)
later-shaped d p = by p.waits
  where
    by : (w : Bool) → Later p (If w then p else cursor_marked d p)
    by true = later-self p
    by false = record {
      at-later = omega arith;
      address-later = omega arith;
      sh-later = omega arith;
      shapes-later = omega arith;
      same-dry = refl;
      same-inside = refl;
    }

pub grows : (x : Code) (p : Cursor) → Later p (cursor_after x p)
unfolding cursor_after
grows nil p = later-self p
grows (op i) p = later-moved p
grows (mark s) p = later-shaped (length s.operands) p
grows (cell t) p = later-self p
grows (x ▸ y) p = later_trans (grows x p) (grows y (cursor_after x p))

-- what fits after a part fits before it
pub fits-before : {p q : Cursor} (n : ℕ) → Later p q → Fits q n → Fits p n
fits-before {p} {q} n h f = record {
  at_small = omega arith;
  sh-small = omega arith;
  shapes-small = omega arith;
  address-small = omega arith;
  room = λ d. let r = f.room (h.same-dry ∙ d) in (omega (arith, r), omega (arith, r));
}

-- the address before a part that fits
pub address-small : (x : Code) (p : Cursor) (n : ℕ) → Fits (cursor_after x p) n → p.address < 65536
address-small x p n f = (fits-before n (grows x p) f).address-small

-- ── releases, as the loop takes them ──
pub lets-step : (n : ℕ) → 1 ≤ n → lets n ≡ op let_hold ▸ lets (n - 1)
unfolding lets
lets-step zero h = absurd (omega arith)
lets-step (suc n) h = ap (λ (k : ℕ). op let_hold ▸ lets k) (let z : n ≡ suc n - 1 = omega arith in z)

module _ (n : ℕ) (p : Cursor) where
  pub lets-cursor : 1 ≤ n → cursor_after (lets n) p ≡ cursor_after (lets (n - 1)) (moved p)
  unfolding cursor_after
  lets-cursor h = ap (λ (x : Code). cursor_after x p) (lets-step n h)

  pub lets-emitted : (l : List ℕ) → 1 ≤ n → emitted (lets n) p l ≡ emitted (lets (n - 1)) (moved p) (emit_op p l 18 0 0)
  unfolding cursor_after emitted record_of
  lets-emitted l h = ap (λ (x : Code). emitted x p l) (lets-step n h)

  pub lets-none : (l : List ℕ) → n ≡ 0 → (cursor_after (lets n) p ≡ p) × (emitted (lets n) p l ≡ l)
  unfolding cursor_after emitted lets
  lets-none l e = rw e (refl, refl)

  pub lets-fits : (m : ℕ) → 1 ≤ n → Fits (cursor_after (lets n) p) m → Fits (moved p) m
  lets-fits m h f = fits-before m (grows (lets (n - 1)) (moved p)) (rw (lets-cursor h) at f)

-- n releases after a part, one by one, as the ends of a head's holds stand
pub lets-last : (n : ℕ) (p : Cursor) → cursor_after (lets n ▸ op let_hold) p ≡ cursor_after (lets (suc n)) p
unfolding cursor_after lets
lets-last zero p = refl
lets-last (suc n) p = lets-last n (moved p)

pub lets-last-emitted : (n : ℕ) (p : Cursor) (l : List ℕ) → emitted (lets n ▸ op let_hold) p l ≡ emitted (lets (suc n)) p l
unfolding cursor_after emitted lets
lets-last-emitted zero p l = refl
lets-last-emitted (suc n) p l = lets-last-emitted n (moved p) (emitted (op let_hold) p l)

-- ── addresses are those of the definition ──
pub address-after : (x : Code) (p : Cursor) (q : At) → p.address ≡ q.address → (cursor_after x p).address ≡ (after x q).address
unfolding cursor_after after
address-after nil p q h = h
address-after (op i) p q h = omega arith
address-after (mark s) p q h = by p.waits
  where
    by : (w : Bool) → (If w then p else cursor_marked (length s.operands) p).address ≡ q.address
    by true = h
    by false = h
address-after (cell t) p q h = h
address-after (x ▸ y) p q h = address-after y (cursor_after x p) (after x q) (address-after x p q h)

-- ── the output keeps its length ──
pub length-emitted : (x : Code) (p : Cursor) (l : List ℕ) → length (emitted x p l) ≡ length l
unfolding emitted
length-emitted nil p l = refl
length-emitted (op i) p l = by p.dry
  where
    by : (d : Bool) → length (If d then l else sets l p.at (code_bytes (record_of i))) ≡ length l
    by true = refl
    by false = length-sets l p.at (code_bytes (record_of i))
length-emitted (mark s) p l =
    length-shape p l s.holds (length s.operands) (map ty_byte (reverse s.operands))
length-emitted (cell t) p l = refl
length-emitted (x ▸ y) p l = length-emitted y (cursor_after x p) (emitted x p l) ∙ length-emitted x p l

-- ── a dry cursor writes nothing ──
pub dry-emitted : (x : Code) (p : Cursor) (l : List ℕ) → p.dry ≡ true → emitted x p l ≡ l
unfolding emitted
dry-emitted nil p l d = refl
dry-emitted (op i) p l d = rw d
dry-emitted (mark s) p l d = rw d
dry-emitted (cell t) p l d = refl
dry-emitted (x ▸ y) p l d = dry-emitted y (cursor_after x p) (emitted x p l) ((grows x p).same-dry ∙ d) ∙ dry-emitted x p l d

-- ── whose code it is makes no difference to a cursor ──
-- the cursor, in the root's code or in a procedure's
abbrev pub within : Bool → Cursor → Cursor
within b p =
    record { at = p.at; address = p.address; sh = p.sh; shapes = p.shapes; waits = p.waits; dry = p.dry; inside = b }

within-shaped : (b : Bool) (d : ℕ) (p : Cursor) → cursor_shaped d (within b p) ≡ within b (cursor_shaped d p)
within-shaped b d p = by p.waits refl
  where
    by : (w : Bool) → p.waits ≡ w → cursor_shaped d (within b p) ≡ within b (cursor_shaped d p)
    by true e = rw e
    by false e = rw e

pub cursor-within : (b : Bool) (x : Code) (p : Cursor) → cursor_after x (within b p) ≡ within b (cursor_after x p)
unfolding cursor_after
cursor-within b nil p = refl
cursor-within b (op i) p = refl
cursor-within b (mark s) p = within-shaped b (length s.operands) p
cursor-within b (cell t) p = refl
cursor-within b (x ▸ y) p = ap (cursor_after y) (cursor-within b x p) ∙ cursor-within b y (cursor_after x p)

pub emitted-within : (b : Bool) (x : Code) (p : Cursor) (l : List ℕ) → emitted x (within b p) l ≡ emitted x p l
unfolding emitted
emitted-within b nil p l = refl
emitted-within b (op i) p l = refl
emitted-within b (mark s) p l = refl
emitted-within b (cell t) p l = refl
emitted-within b (x ▸ y) p l =
    ap (λ (q : Cursor). emitted y q (emitted x (within b p) l)) (cursor-within b x p)
    ∙ (emitted-within b y (cursor_after x p) (emitted x (within b p) l) ∙ ap (emitted y (cursor_after x p)) (emitted-within b x p l))
