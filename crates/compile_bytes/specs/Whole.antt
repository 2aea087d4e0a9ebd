-- The whole macro: its front (HD, CL, BD), the areas of instructions and of shapes as the cursor leaves them, and ZZ are the bytes of `macro_bytes`.
use Rattle.std.specs.Prelude.{◌≡◌, refl, false, ℕ, ◌+◌, ◌*◌, ◌≤◌}
use Rattle.std.proofs.Math.Path.{ap, sym}
use Rattle.std.proofs.Common.{◌∙◌}
use mathlib.Core.List.{List, [], ◌∷◌, ◌++◌, append_assoc}
use native.Mathlib.Omega.{arith}
use Rattle.std.proofs.Math.ListN.{length, length-append}
use Rattle.std.proofs.lemmas.List.{length-map}
use Rattle.std.proofs.Math.Seq.{sets}
use Rattle.words.specs.Numbers.{half}
use Rattle.values.specs.Types.{Ty, ty_byte}
use Rattle.language.specs.Tree.{Tree}
use Rattle.bytecode.specs.Macro.{Body, Macro}
use Rattle.compile_code.specs.Code.{placed}
use Rattle.compile_code.specs.Encode.{parts, lines_of, compiled, class_bytes, body_bytes, code_bytes, shape_bytes, each, macro_bytes, macro_of}
use Rattle.compile_output.specs.declared.Cursor.{Cursor}
use Rattle.compile_bytes.specs.Stores.{sets-join, each-end, each-length}
use Rattle.compile_bytes.specs.Bytes.{code_in, shapes_in, records-length, Comes, cursor_all, emitted_all, codes_of, closed_parts, bodies-cursor, bodies-emitted}

-- ── the front ──
abbrev pub head_bytes : Macro → List ℕ
head_bytes m = 72 ∷ 68 ∷ length m.classes ∷ length m.bodies ∷ (half (length m.code) ++ half (length m.shapes))

abbrev pub front : Macro → List ℕ
front m = head_bytes m ++ (each class_bytes m.classes [] ++ each body_bytes m.bodies [])

abbrev pub zz : List ℕ
zz = 90 ∷ 90 ∷ []

pub macro-split : (m : Macro) → macro_bytes m ≡ front m ++ (each code_bytes m.code [] ++ (each shape_bytes m.shapes [] ++ zz))
unfolding macro_bytes
macro-split m =
    let S = each shape_bytes m.shapes [] in
    let I = each code_bytes m.code [] in
    let B = each body_bytes m.bodies [] in
    let C = each class_bytes m.classes [] in
    let s : each shape_bytes m.shapes zz ≡ S ++ zz = each-end shape_bytes m.shapes zz in
    let i : each code_bytes m.code (each shape_bytes m.shapes zz) ≡ I ++ (S ++ zz) = each-end code_bytes m.code _ ∙ ap (λ (l : List ℕ). I ++ l) s in
    let b : each body_bytes m.bodies (each code_bytes m.code (each shape_bytes m.shapes zz)) ≡ B ++ (I ++ (S ++ zz)) =
    each-end body_bytes m.bodies _ ∙ ap (λ (l : List ℕ). B ++ l) i in
    ap (λ (l : List ℕ). head_bytes m ++ l)
    (each-end class_bytes m.classes _ ∙ (ap (λ (l : List ℕ). C ++ l) b ∙ sym (append_assoc C B (I ++ (S ++ zz)))))

-- ── its length ──
unfoldable pub classes_length : List (List Ty) → ℕ
classes_length [] = 0
classes_length (ts ∷ cs) = 3 + length ts + classes_length cs

unfoldable pub bodies_length : List Body → ℕ
bodies_length [] = 0
bodies_length (b ∷ bs) = 7 + length b.cells + bodies_length bs

pub classes-length : (cs : List (List Ty)) → length (each class_bytes cs []) ≡ classes_length cs
unfolding each classes_length
classes-length [] = refl
classes-length (ts ∷ cs) =
    let a = length-append (class_bytes ts) (each class_bytes cs []) in
    let b = length-map ts ty_byte in
    let c = classes-length cs in
    omega arith

pub bodies-length : (bs : List Body) → length (each body_bytes bs []) ≡ bodies_length bs
unfolding each bodies_length
bodies-length [] = refl
bodies-length (d ∷ bs) =
    let a = length-append (body_bytes d) (each body_bytes bs []) in
    let b = length-map d.cells ty_byte in
    let c = bodies-length bs in
    omega arith

pub front_length : (m : Macro) → length (front m) ≡ 8 + classes_length m.classes + bodies_length m.bodies
front_length m =
    let C = each class_bytes m.classes [] in
    let B = each body_bytes m.bodies [] in
    let a = length-append C B in
    let b = classes-length m.classes in
    let c = bodies-length m.bodies in
    omega arith

pub macro-length : (m : Macro) → length (macro_bytes m) ≡ 8 + classes_length m.classes + bodies_length m.bodies + 8 * length m.code + length (each shape_bytes m.shapes []) + 2
macro-length m =
    let S = each shape_bytes m.shapes [] in
    let I = each code_bytes m.code [] in
    let a = ap (length {A = ℕ}) (macro-split m) in
    let b = length-append (front m) (I ++ (S ++ zz)) in
    let c = length-append I (S ++ zz) in
    let d = length-append S zz in
    let e = each-length code_bytes 8 (λ r. refl) m.code in
    let f = front_length m in
    omega arith

-- ── a tree's macro under the cursor ──
-- what the cursor comes to after the macro's code: the numbers that HD has and that the output's length is made of
pub record Measured (m : Macro) (p q : Cursor) : Type 0 where
  pub at-measured : q.at ≡ p.at + 8 * length m.code
  pub address-measured : q.address ≡ length m.code
  pub sh-measured : q.sh ≡ p.sh + length (each shape_bytes m.shapes [])
  pub shapes-measured : q.shapes ≡ p.shapes + length m.shapes

-- a cursor, dry or not, that begins at the first address
module _ (t : Tree) (p : Cursor) (a : p.address ≡ 0) (w : p.waits ≡ false) where
  pub measured : Measured (compiled t) p (cursor_all (codes_of (parts t)) p)
  unfolding compiled
  measured =
      let ls = lines_of (parts t) in
      let h : Comes p ls (cursor_all (codes_of (parts t)) p) = bodies-cursor (parts t) (closed_parts t) p w in
      let n = records-length ls in
      let e = ap (λ (i : ℕ). length (shapes_in i ls)) a in
      let f = ap (λ (i : ℕ). length (placed i ls)) a in
      record { at-measured = omega arith; address-measured = omega arith; sh-measured = omega arith; shapes-measured = omega arith }

  -- the instructions and the shapes, in an output l
  pub written : (l : List ℕ) → p.dry ≡ false → p.at + 8 * length (compiled t).code ≤ p.sh
      → emitted_all (codes_of (parts t)) p l ≡ sets (sets l p.at (each code_bytes (compiled t).code [])) p.sh (each shape_bytes (compiled t).shapes [])
  unfolding compiled
  written l d h =
      let ls = lines_of (parts t) in
      let n = records-length ls in
      bodies-emitted (parts t) (closed_parts t) p w l d (omega arith) ∙ ap (λ (i : ℕ). sets (sets l p.at (code_in ls)) p.sh (shapes_in i ls)) a

  -- the front, the instructions from its end on, the shapes from their end on, and ZZ: the whole macro
  pub whole : (l : List ℕ) → p.dry ≡ false → p.at ≡ length (front (compiled t)) → p.sh ≡ p.at + 8 * length (compiled t).code
      → sets (emitted_all (codes_of (parts t)) p (sets l 0 (front (compiled t)))) (cursor_all (codes_of (parts t)) p).sh zz ≡ sets l 0 (macro_of t)
  unfolding macro_of
  whole l d i s =
      let m = compiled t in
      let F = front m in
      let I = each code_bytes m.code [] in
      let S = each shape_bytes m.shapes [] in
      let z = (cursor_all (codes_of (parts t)) p).sh in
      let c = each-length code_bytes 8 (λ r. refl) m.code in
      let k = measured.sh-measured in
      let f : length (F ++ I) ≡ p.sh = length-append F I ∙ omega arith in
      let g : length ((F ++ I) ++ S) ≡ z = length-append (F ++ I) S ∙ omega arith in
      ap (λ (x : List ℕ). sets x z zz) (written (sets l 0 F) d (omega arith))
      ∙ (ap (λ (x : List ℕ). sets (sets x p.sh S) z zz) (sets-join l 0 p.at F I (omega arith))
      ∙ (ap (λ (x : List ℕ). sets x z zz) (sets-join l 0 p.sh (F ++ I) S (omega arith))
      ∙ (sets-join l 0 z ((F ++ I) ++ S) zz (omega arith)
      ∙ ap (sets l 0) (append_assoc (F ++ I) S zz ∙ (append_assoc F I (S ++ zz) ∙ sym (macro-split m))))))
