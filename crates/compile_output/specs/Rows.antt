-- Code that is written from a pattern: an instruction whose b is a number, a cell or an address, or a shape.
use Rattle.std.specs.Prelude.{◌≡◌, refl, Bool, true, false, List, ℕ, zero, suc, ◌+◌, ◌≤◌, ◌<◌, eqb, leb, length, get_or}
use Rattle.std.proofs.Common.{ap, arith, eqb-true, leb-true, leb-false}
use Rattle.std.proofs.lemmas.Bool.{eqb-false}
use Rattle.compile_code.specs.Code.{ahead}
use Rattle.compile_output.specs.declared.Cursor.{Cursor}
use Rattle.compile_output.specs.declared.loops.Operand.{Operand}
use Rattle.compile_output.specs.declared.loops.Operand.TheVariants.{Number, Cell, Here, Exit}
use Rattle.compile_output.specs.declared.loops.Row.{Row}
use Rattle.compile_output.specs.declared.loops.Row.TheVariants.{Op, Mark}
use Rattle.compile_output.specs.EmitRecord.{moved, cursor_shaped, emit_op, emit_shape, Fits, length-emit, length-shape}
use Rattle.compile_output.specs.EmitCode.{Later, later-self, later_trans, later-moved, later-shaped, fits-before}

-- ── one row ──
-- b: a number; counted from the cell c, or from the address x where the pattern begins; or the address z behind the loop
abbrev pub number_in : ℕ → ℕ → ℕ → Operand → ℕ
number_in c x z (Number n) = n
number_in c x z (Cell n) = ahead n c
number_in c x z (Here n) = ahead n x
number_in c x z Exit = z

abbrev pub cursor_row : ℕ → Row → Cursor → Cursor
cursor_row d (Op k a b) p = moved p
cursor_row d Mark p = cursor_shaped d p

abbrev pub emit_row : ℕ → ℕ → List ℕ → ℕ → ℕ → ℕ → Row → Cursor → List ℕ → List ℕ
emit_row h d ts c x z (Op k a b) p l = emit_op p l k a (number_in c x z b)
emit_row h d ts c x z Mark p l = emit_shape p l h d ts

-- ── the first n rows ──
unfoldable pub cursor_rows : List Row → ℕ → ℕ → Cursor → Cursor
cursor_rows t zero d p = p
cursor_rows t (suc n) d p = cursor_row d (get_or t n Mark) (cursor_rows t n d p)

unfoldable pub emit_rows : List Row → ℕ → ℕ → ℕ → List ℕ → ℕ → ℕ → ℕ → Cursor → List ℕ → List ℕ
emit_rows t zero h d ts c x z p l = l
emit_rows t (suc n) h d ts c x z p l = emit_row h d ts c x z (get_or t n Mark) (cursor_rows t n d p) (emit_rows t n h d ts c x z p l)

-- ── laws ──
pub ahead-sum : (n a : ℕ) → a + n ≡ ahead n a
ahead-sum zero a = omega arith
ahead-sum (suc n) a = let q = ahead-sum n a in omega (arith, q)

later-row : (d : ℕ) (r : Row) (p : Cursor) → Later p (cursor_row d r p)
later-row d (Op k a b) p = later-moved p
later-row d Mark p = later-shaped d p

at_most : (i n : ℕ) → i ≤ suc n → (i ≡ suc n → ⊥) → i ≤ n
at_most i n h f = go (leb i n) refl
  where
    go : (b : Bool) → leb i n ≡ b → i ≤ n
    go true e = leb-true i n e
    go false e = absurd (f (let q = leb-false i n e in omega arith))

later_rows : (t : List Row) (i n d : ℕ) (p : Cursor) → i ≤ n → Later (cursor_rows t i d p) (cursor_rows t n d p)
unfolding cursor_rows
later_rows t i zero d p h = let e : i ≡ 0 = omega arith in rw e (later-self p)
later_rows t i (suc n) d p h = by (eqb i (suc n)) refl (λ k. later_rows t i n d p k)
  where
    by : (b : Bool) → eqb i (suc n) ≡ b → (i ≤ n → Later (cursor_rows t i d p) (cursor_rows t n d p)) → Later (cursor_rows t i d p) (cursor_rows t (suc n) d p)
    by true e f = rw (eqb-true i (suc n) e) (later-self (cursor_rows t (suc n) d p))
    by false e f = later_trans (f (at_most i n h (eqb-false i (suc n) e))) (later-row d (get_or t n Mark) (cursor_rows t n d p))

-- what fits after all rows fits after each
pub fits-row : (t : List Row) (i n d m : ℕ) (p : Cursor) → i < n → Fits (cursor_rows t n d p) m → Fits (cursor_row d (get_or t i Mark) (cursor_rows t i d p)) m
unfolding cursor_rows
fits-row t i n d m p h f = fits-before m (later_rows t (suc i) n d p (omega arith)) f

pub length-row : (h d : ℕ) (ts : List ℕ) (c x z : ℕ) (r : Row) (p : Cursor) (l : List ℕ) → length (emit_row h d ts c x z r p l) ≡ length l
length-row h d ts c x z (Op k a b) p l = length-emit p l k a (number_in c x z b)
length-row h d ts c x z Mark p l = length-shape p l h d ts

-- one row more, as the loop takes it
pub rows-cursor : (t : List Row) (n d : ℕ) (p : Cursor) → cursor_row d (get_or t n Mark) (cursor_rows t n d p) ≡ cursor_rows t (n + 1) d p
unfolding cursor_rows
rows-cursor t n d p = ap (λ (k : ℕ). cursor_rows t k d p) (let z : suc n ≡ n + 1 = omega arith in z)

pub rows-emitted : (t : List Row) (n h d : ℕ) (ts : List ℕ) (c x z : ℕ) (p : Cursor) (l : List ℕ)
    → emit_row h d ts c x z (get_or t n Mark) (cursor_rows t n d p) (emit_rows t n h d ts c x z p l) ≡ emit_rows t (n + 1) h d ts c x z p l
unfolding emit_rows
rows-emitted t n h d ts c x z p l = ap (λ (k : ℕ). emit_rows t k h d ts c x z p l) (let z : suc n ≡ n + 1 = omega arith in z)
