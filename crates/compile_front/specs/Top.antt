-- The whole front: what is asked of the tree comes to what the parts ask, and the parts come to the front.
use Rattle.std.specs.Prelude.{◌≡◌, refl, ℕ, ◌+◌, ◌≤◌, ◌<◌}
use Rattle.std.proofs.Math.Path.{ap, sym}
use Rattle.std.proofs.Common.{◌∙◌, arith, length-append}
use mathlib.Core.List.{List, [], ◌∷◌, ◌++◌}
use Rattle.std.proofs.Math.ListN.{length}
use Rattle.std.proofs.lemmas.List.{length-map}
use Rattle.std.proofs.lemmas.List.Edits.{sets}
use Rattle.words.specs.Numbers.{half}
use Rattle.values.specs.Types.{ty_byte}
use Rattle.language.specs.Tree.{Tree}
use Rattle.compile_code.specs.Code.{cells_in}
use Rattle.compile_code.specs.Compile.{classes_of, procs_of}
use Rattle.compile_code.specs.Encode.{code_root, parts, heads_of, compiled, each}
use Rattle.compile_bytes.specs.Whole.{head_bytes, front}
use Rattle.compile_symbols.specs.Tabled.{Headed, the_tree, the-tree}
use Rattle.compile_code.specs.Counts.{length-classes, length-procedures, length-field-types, length-heads}
use Rattle.compile_front.specs.Told.{TypesKnown, types-known}
use Rattle.compile_front.specs.Bodies.{body_of, root-cells, root-bytes}
use Rattle.compile_front.specs.Writing.{Wrote, wrote_as, wrote_then}
use Rattle.compile_front.specs.Front.{classes_from, procs_from, classes_front, procs_front, root_types, root_end, Ended, Fronted}

abbrev pub Asks : List ℕ → ℕ → ℕ → List ℕ → List ℕ → List ℕ → ℕ → ℕ → ℕ → ℕ → ℕ → Type 0
Asks l count after sizes known ends classes bodies instructions shapes room =
    Fronted (the_tree l) l count after sizes known ends classes bodies instructions shapes room

pub asks-tree : {t : Tree} {l sizes known ends : List ℕ} {count after classes bodies instructions shapes room : ℕ} → Fronted t l count after sizes known ends classes bodies instructions shapes room
    → Asks l count after sizes known ends classes bodies instructions shapes room
asks-tree {t} f = rw (the-tree t f.tabled) f

module _ {l sizes known ends : List ℕ} {count after classes bodies instructions shapes room : ℕ} (f : Asks l count after sizes known ends classes bodies instructions shapes room) where
  pub top-headed : Headed l sizes count
  top-headed = record { tabled = f.tabled; counted = f.counted }

  pub top-known : TypesKnown l known
  top-known = types-known known f.more f.tabled f.wide-known f.numbered

  pub top-ended : Ended l ends
  unfolding compiled parts heads_of
  top-ended = record { wide = f.wide-ends; root = f.root-end; firsts = f.firsts; few = f.few-cells.1 }

  pub top-few : length (root_types l) ≤ 255
  unfolding compiled parts heads_of
  top-few = let t = the_tree l in omega (arith, f.few-cells.0, sym (length-map (cells_in (code_root t) []) ty_byte) ∙ ap length (root-cells t))

  pub top-classes : classes < 256
  unfolding compiled
  top-classes = let t = the_tree l in omega (arith, f.classes-are, length-field-types t.head (classes_of t.head), length-classes t.head, f.tabled.readable.classes)

  pub top-bodies : bodies < 256
  unfolding compiled parts heads_of
  top-bodies = let t = the_tree l in omega (arith, f.bodies-are, length-heads t (procs_of t.head) (root_end t), length-procedures t.head, f.tabled.readable.procedures)

  -- the front by its parts
  pub top-front : (72 ∷ 68 ∷ classes ∷ bodies ∷ (half instructions ++ half shapes)) ++ (classes_front l ++ (body_of 0 0 0 (root_types l) ++ procs_front l)) ≡ front (compiled (the_tree l))
  unfolding compiled parts heads_of each classes_from procs_from
  top-front =
      let t = the_tree l in
      rw (f.classes-are, f.bodies-are, f.instructions-are, f.shapes-are)
      (ap (λ (x : List ℕ). head_bytes (compiled t) ++ (classes_front l ++ (x ++ procs_front l))) (sym (root-bytes t)))

  pub top-room : 8 + length (classes_front l) + (7 + length (root_types l)) + length (procs_front l) ≤ room
  top-room =
      omega (arith, f.fits, ap length top-front, length-append (classes_front l) (body_of 0 0 0 (root_types l) ++ procs_front l), length-append (body_of 0 0 0 (root_types l)) (procs_front l))

  pub top-wrote : {old a b c d : List ℕ} {p q r : ℕ} → a ≡ sets old 0 (72 ∷ 68 ∷ classes ∷ bodies ∷ (half instructions ++ half shapes)) → Wrote a 8 (classes_front l) b p
      → Wrote b p (body_of 0 0 0 (root_types l)) c q → Wrote c q (procs_front l) d r → Wrote old 0 (front (compiled (the_tree l))) d r
  top-wrote {old} {a} e u v w =
      let h : Wrote old 0 (72 ∷ 68 ∷ classes ∷ bodies ∷ (half instructions ++ half shapes)) a 8 = record { written = e; ends = refl } in
      wrote_as (wrote_then h (wrote_then u (wrote_then v w))) top-front
