-- A macro that can be written fits: what the cursors of both walks may have come to (`Fits`) follows from the macro's length and the number of its instructions.
use Rattle.std.specs.Prelude.{◌≡◌, refl, Bool, false, List, [], ◌∷◌, ℕ, ◌+◌, ◌*◌, ◌^◌, ◌≤◌, ◌<◌, length}
use Rattle.std.proofs.Common.{ap, sym, ◌∙◌, true≢false}
use Rattle.std.proofs.Math.Bool.{true}
use native.Mathlib.Omega.{arith}
use Rattle.values.specs.Types.{Ty}
use Rattle.language.specs.Tree.{Tree}
use Rattle.bytecode.specs.Macro.{Body, Placed}
use Rattle.logic.specs.Lists.{Each}
use Rattle.bytecode_laws.specs.Terms.{ReadClass}
use Rattle.compile_records.specs.Writing.{Writable, SmallBody, SmallShape}
use Rattle.compile_code.specs.Code.{Code}
use Rattle.compile_code.specs.Encode.{parts, lines_of, compiled, macro_of}
use Rattle.compile_output.specs.declared.Cursor.{Cursor}
use Rattle.compile_output.specs.EmitRecord.{Fits}
use Rattle.compile_output.specs.EmitCode.{cursor_after, emitted, Later, later-self, later_trans, grows, fits-before, within, cursor-within, emitted-within}
use Rattle.compile_bytes.specs.Bytes.{cursor_all, emitted_all, codes_of, records-length, placed-few, shapes-short}
use Rattle.compile_bytes.specs.Whole.{front, classes_length, bodies_length, front_length, macro-length, measured}

-- ── bodies one after the other ──
pub grows_all : (xs : List Code) (p : Cursor) → Later p (cursor_all xs p)
unfolding cursor_all
grows_all [] p = later-self p
grows_all (x ∷ xs) p = later_trans (grows x p) (grows_all xs (cursor_after x p))

-- if all fits, the first body does
pub fits-first : (x : Code) (xs : List Code) (p : Cursor) (n : ℕ) → Fits (cursor_all (x ∷ xs) p) n → Fits (cursor_after x p) n
unfolding cursor_all
fits-first x xs p n f = fits-before n (grows_all xs (cursor_after x p)) f

pub all-within : (b : Bool) (xs : List Code) (p : Cursor) → cursor_all xs (within b p) ≡ within b (cursor_all xs p)
unfolding cursor_all
all-within b [] p = refl
all-within b (x ∷ xs) p = ap (cursor_all xs) (cursor-within b x p) ∙ all-within b xs (cursor_after x p)

pub emitted-all-within : (b : Bool) (xs : List Code) (p : Cursor) (l : List ℕ) → emitted_all xs (within b p) l ≡ emitted_all xs p l
unfolding emitted_all
emitted-all-within b [] p l = refl
emitted-all-within b (x ∷ xs) p l =
    ap (λ (q : Cursor). emitted_all xs q (emitted x (within b p) l)) (cursor-within b x p)
    ∙ (emitted-all-within b xs (cursor_after x p) (emitted x (within b p) l) ∙ ap (emitted_all xs (cursor_after x p)) (emitted-within b x p l))

pub fits-within : (b : Bool) (p : Cursor) (n : ℕ) → Fits p n → Fits (within b p) n
fits-within b p n f = record {
  at_small = f.at_small;
  sh-small = f.sh-small;
  shapes-small = f.shapes-small;
  address-small = f.address-small;
  room = f.room;
}

-- ── a tree's macro ──
few-shapes : (t : Tree) → length (compiled t).shapes ≤ length (compiled t).code
unfolding compiled
few-shapes t =
    let n = records-length (lines_of (parts t)) in
    let h = placed-few 0 (lines_of (parts t)) in
    omega arith

module _ (t : Tree) (code-small : length (compiled t).code < 65536) (small : length (macro_of t) < 2 ^ 62) where
  -- a cursor that counts from nothing
  pub fits-dry : (p : Cursor) (n : ℕ) → p.at ≡ 0 → p.address ≡ 0 → p.sh ≡ 0 → p.shapes ≡ 0 → p.waits ≡ false → p.dry ≡ true
      → Fits (cursor_all (codes_of (parts t)) p) n
  unfolding macro_of
  fits-dry p n i a s k w d =
      let h = measured t p a w in
      let e = macro-length (compiled t) in
      let f = few-shapes t in
      let q = cursor_all (codes_of (parts t)) p in
      let b : q.dry ≡ true = (grows_all (codes_of (parts t)) p).same-dry ∙ d in
      record {
        at_small = omega arith;
        sh-small = omega arith;
        shapes-small = omega arith;
        address-small = omega arith;
        room = λ c. absurd (true≢false (sym b ∙ c));
      }

  -- a cursor that writes, in an output of n bytes
  pub fits-real : (p : Cursor) (n : ℕ) → p.at ≡ length (front (compiled t)) → p.address ≡ 0 → p.sh ≡ p.at + 8 * length (compiled t).code → p.shapes ≡ 0 → p.waits ≡ false
      → length (macro_of t) ≤ n → Fits (cursor_all (codes_of (parts t)) p) n
  unfolding macro_of
  fits-real p n i a s k w r =
      let h = measured t p a w in
      let e = macro-length (compiled t) in
      let f = few-shapes t in
      let g = front_length (compiled t) in
      record {
        at_small = omega arith;
        sh-small = omega arith;
        shapes-small = omega arith;
        address-small = omega arith;
        room = λ c. (omega arith, omega arith);
      }

-- ── a macro that can be written is short ──
classes-short : (n : ℕ) (cs : List (List Ty)) → Each (ReadClass n) cs → classes_length cs ≤ 11 * length cs
unfolding classes_length
classes-short n [] h = omega arith
classes-short n (ts ∷ cs) h = let a = h.0.few-fields in let b = classes-short n cs h.1 in omega arith

bodies-short : (bs : List Body) → Each SmallBody bs → bodies_length bs ≤ 262 * length bs
unfolding bodies_length
bodies-short [] h = omega arith
bodies-short (b ∷ bs) h = let a = h.0 in let c = bodies-short bs h.1 in omega arith

small-operands : (ss : List Placed) → Each SmallShape ss → Each (λ s. length s.found.operands ≤ 255) ss
small-operands [] h = tt
small-operands (s ∷ ss) h = let a = h.0.1 in (omega arith, small-operands ss h.1)

-- 8 + 11 a class + 262 a body + 8 an instruction + 261 a shape + 2, and no more shapes than instructions
pub macro-most : (t : Tree) → Writable (compiled t) → length (macro_of t) ≤ 16954 + 269 * length (compiled t).code
unfolding macro_of
macro-most t h =
    let e = macro-length (compiled t) in
    let a = classes-short (length (compiled t).classes) (compiled t).classes h.well-formed.classes-read in
    let b = bodies-short (compiled t).bodies h.small-bodies in
    let c = shapes-short 255 (compiled t).shapes (small-operands (compiled t).shapes h.small-shapes) in
    let f = few-shapes t in
    let i = h.well-formed.few-classes in
    let j = h.well-formed.few-bodies in
    omega arith

pub macro-small : (t : Tree) → Writable (compiled t) → length (macro_of t) < 2 ^ 62
macro-small t h = let a = macro-most t h in let k = h.narrow.few-instructions in omega arith
