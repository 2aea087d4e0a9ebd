-- What one instruction and one shape come to: the cursor after it, and the output's bytes after it.
use Rattle.std.specs.Prelude.{◌≡◌, refl, Bool, true, false, List, ◌∷◌, ◌++◌, ℕ, suc, ◌+◌, ◌^◌, ◌≤◌, ◌<◌, length, set, take, drop, get_or}
use Rattle.std.proofs.Common.{ap, sym, ◌∙◌, arith, length-take-le}
use Rattle.std.proofs.Math.Numerals.{towards_suc}
use Rattle.std.proofs.lemmas.List.Edits.{sets, sets-eq}
use Rattle.std.proofs.Math.Seq.{length-sets, paste, paste-suc}
use Rattle.logic.specs.Choice.{If◌then◌else◌}
use Rattle.words.specs.Numbers.{word, half}
use Rattle.compile_output.specs.declared.Cursor.{Cursor}

-- ── the records: `code_bytes` and `shape_bytes` of crates/compile_code/specs/Encode, over their numbers ──
abbrev pub instruction : ℕ → ℕ → ℕ → List ℕ
instruction k a b = 73 ∷ 78 ∷ k ∷ a ∷ word b

-- the types from the bottom
abbrev pub shape_record : ℕ → ℕ → ℕ → List ℕ → List ℕ
shape_record i h d ts = 83 ∷ 72 ∷ (half i ++ (h ∷ d ∷ ts))

-- ── the cursor ──
-- after an instruction
abbrev pub moved : Cursor → Cursor
moved p =
    record { at = p.at + 8; address = p.address + 1; sh = p.sh; shapes = p.shapes; waits = false; dry = p.dry; inside = p.inside }

-- after a shape with d operands, whether one stands for this address already or not
abbrev pub cursor_marked : ℕ → Cursor → Cursor
cursor_marked d p =
    record { at = p.at; address = p.address; sh = p.sh + 6 + d; shapes = p.shapes + 1; waits = true; dry = p.dry; inside = p.inside }

-- of two shapes at one address the first is kept
abbrev pub cursor_shaped : ℕ → Cursor → Cursor
cursor_shaped d p = If p.waits then p else cursor_marked d p

-- ── the bytes ──
abbrev pub emit_op : Cursor → List ℕ → ℕ → ℕ → ℕ → List ℕ
emit_op p l k a b = If p.dry then l else sets l p.at (instruction k a b)

abbrev pub emit_shape : Cursor → List ℕ → ℕ → ℕ → List ℕ → List ℕ
emit_shape p l h d ts = If p.dry then l else If p.waits then l else sets l p.sh (shape_record p.address h d ts)

-- What a cursor may have come to in an output of n bytes: sums of places do not wrap, an address is a u16, and what is written lies in the output.
-- It is asked of the cursor after a part; it then holds of every cursor within the part (`fits-before` in EmitCode).
pub record Fits (q : Cursor) (n : ℕ) : Type 0 where
  pub at_small : q.at < 2 ^ 62
  pub sh-small : q.sh < 2 ^ 62
  pub shapes-small : q.shapes < 2 ^ 62
  pub address-small : q.address < 65536
  pub room : q.dry ≡ false → (q.at ≤ n) × (q.sh ≤ n)

-- ── laws for the code ──
module _ (p : Cursor) (l : List ℕ) (k a b : ℕ) where
  pub emit-writes : p.dry ≡ false → sets l p.at (instruction k a b) ≡ emit_op p l k a b
  emit-writes d = rw d

  pub emit-dry : p.dry ≡ true → l ≡ emit_op p l k a b
  emit-dry d = rw d

  pub length-emit : length (emit_op p l k a b) ≡ length l
  length-emit = by p.dry
    where
      by : (d : Bool) → length (If d then l else sets l p.at (instruction k a b)) ≡ length l
      by true = refl
      by false = length-sets l p.at (instruction k a b)

module _ (d : ℕ) (p : Cursor) where
  pub cursor-kept : p.waits ≡ true → p ≡ cursor_shaped d p
  cursor-kept w = rw w

  pub cursor-marked : p.waits ≡ false → cursor_marked d p ≡ cursor_shaped d p
  cursor-marked w = rw w

  pub fits-marked : (n : ℕ) → p.waits ≡ false → Fits (cursor_shaped d p) n → Fits (cursor_marked d p) n
  fits-marked n w f = rw w at f

module _ (p : Cursor) (l : List ℕ) (h d : ℕ) (ts : List ℕ) where
  pub shape-kept : p.waits ≡ true → l ≡ emit_shape p l h d ts
  shape-kept w = by p.dry
    where
      by : (b : Bool) → l ≡ (If b then l else If p.waits then l else sets l p.sh (shape_record p.address h d ts))
      by true = refl
      by false = rw w

  pub shape-dry : p.dry ≡ true → l ≡ emit_shape p l h d ts
  shape-dry b = rw b

  pub shape-writes : p.dry ≡ false → p.waits ≡ false → sets l p.sh (shape_record p.address h d ts) ≡ emit_shape p l h d ts
  shape-writes b w = rw (b, w)

  pub length-shape : length (emit_shape p l h d ts) ≡ length l
  length-shape = by p.dry p.waits
    where
      by : (b w : Bool) → length (If b then l else If w then l else sets l p.sh (shape_record p.address h d ts)) ≡ length l
      by true w = refl
      by false true = refl
      by false false = length-sets l p.sh (shape_record p.address h d ts)

pub pasted : (d s : List ℕ) (i n : ℕ) → i + n ≤ length d → n ≤ length s → paste d i s n ≡ sets d i (take n s)
pasted d s i n hd hs =
    sym (sets-eq (take n s) d i (rw (length-take-le n s hs) hd) ∙ ap (λ (k : ℕ). take i d ++ take n s ++ drop (i + k) d) (length-take-le n s hs))

pub paste-turn : (d s : List ℕ) (i j : ℕ) → i + j < length d → j < length s → set (paste d i s j) (i + j) (get_or s j 0) ≡ paste d i s (j + 1)
paste-turn d s i j hd hs = paste-suc d i s j 0 hd hs ∙ ap (λ (k : ℕ). paste d i s k) (let z : suc j ≡ j + 1 = omega arith in z)

pub shape-written : (l : List ℕ) (i a h d : ℕ) (ts : List ℕ)
    → sets (set (set (sets (set (set l i 83) (i + 1) 72) (i + 2) (half a)) (i + 4) h) (i + 5) d) (i + 6) ts ≡ sets l i (shape_record a h d ts)
shape-written l i a h d ts = simp towards_suc
