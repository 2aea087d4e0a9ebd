-- The numbers of a whole table: the loop over the root's declarations, and what it comes to for the tree.
use Rattle.std.specs.Prelude.{◌≡◌, nat_abs, take, get_or}
use Rattle.std.proofs.Math.Path.{refl, ap}
use Rattle.std.proofs.Common.{sym, ◌∙◌, drop_at, length-take-le}
use mathlib.Core.List.{List, [], ◌∷◌, ◌++◌, map, append_assoc}
use Prim.Native.Nat.{ℕ, suc, ◌+◌, ◌-◌, ◌*◌, ◌/◌, ◌%◌, ◌≤◌, ◌<◌}
use native.Mathlib.Omega.{arith}
use Rattle.std.proofs.Math.Numerals.{add-one}
use Rattle.std.proofs.Math.Nat.{add-zero}
use Rattle.std.proofs.Math.ListN.{length, drop, length-append, length-drop}
use Rattle.std.proofs.Math.Seq.{sets, length-sets, take_all}
use Rattle.std.proofs.lemmas.List.Edits.{sets-eq}
use Rattle.language.specs.Program.{flat_typed, flat_decl, flat_items, result_code, flat_body, flat_global, flat_head, flatten}
use Rattle.words.specs.Numbers.{half_at}
use Rattle.language.specs.Tree.{Typed, declare, holding, Global, local, class, procedure, Tree, locals}
use Rattle.language.specs.Table.{Entry}
use Rattle.language.specs.Limits.{head_cells}
use Rattle.language_laws.specs.Claims.{entries_of}
use Rattle.table_entries.specs.Entries.{length-entries}
use Rattle.table_entries.specs.Stands.{fields}
use Rattle.table_scopes.specs.Trees.{Heads}
use Rattle.compile_code.specs.Compile.{classes_of, class_names, procs_of}
use Rattle.compile_symbols.specs.declared.Numbers.{Numbers}
use Rattle.compile_symbols.specs.Numbers.{packed, byte_of, cells_of, number_of, numbers_from, numbers_fields, numbers_globals, numbers_of}
use Rattle.compile_symbols.specs.Tabled.{Tabled, Headed, the_tree, classes_in, Within, between, part_at, Left, left-start, Next, next-global, heads-here}
use Rattle.words.specs.Laws.{sets-append}
use Rattle.compile_symbols.specs.Entries.{one_if, cells_of_kind, cells-few, one-few, numbers_owned, numbers_global, Counts}
use Rattle.compile_symbols.specs.Classes.{left-within, none_left}

-- what is left of the numbers before, and how many there are of each
pub record Numbered (t : Tree) (old new : List ℕ) (r : Numbers) : Type 0 where
  pub known : new ≡ sets old 1 (numbers_of t)
  pub cells : r.cells ≡ head_cells (locals t.head)
  pub classes : r.classes ≡ length (classes_of t.head)
  pub bodies : r.bodies ≡ 1 + length (procs_of t.head)

-- ── the definition's numbers are those of the loops ──
pub owned-body : (cs : List ℕ) (n : ℕ) (es : List Entry) → numbers_from cs n es ≡ numbers_owned cs 0 n es
unfolding numbers_from numbers_owned
owned-body cs n [] = refl
owned-body cs n (e ∷ es) = ap (λ (us : List ℕ). number_of cs 0 n e ∷ us) (owned-body cs (n + cells_of e) es)

pub owned-fields : (cs : List ℕ) (k i : ℕ) (xs : List Typed) → numbers_fields cs k i xs ≡ numbers_owned cs k i (map flat_typed xs)
unfolding numbers_fields numbers_owned flat_typed
owned-fields cs k i [] = refl
owned-fields cs k i (x ∷ xs) = rw (add-one i) (ap (λ (us : List ℕ). packed (byte_of cs (nat_abs (flat_typed x).b)) k i ∷ us) (owned-fields cs k (suc i) xs))

pub length-owned : (cs : List ℕ) (o n : ℕ) (es : List Entry) → length (numbers_owned cs o n es) ≡ length es
unfolding numbers_owned
length-owned cs o n [] = refl
length-owned cs o n (e ∷ es) = ap suc (length-owned cs o (n + cells_of e) es)

module _ (cs : List ℕ) (n : Numbers) where
  pub length-global : (g : Global) → length (numbers_global cs n (flat_global g)) ≡ length (flat_global g)
  unfolding numbers_global flat_global flat_decl flat_typed
  length-global (local (declare x)) = refl
  length-global (local (holding k)) = refl
  length-global (class c xs) = ap suc (length-owned cs n.classes 0 (map flat_typed xs))
  length-global (procedure a xs b) = ap suc (length-owned cs 0 0 (map flat_typed xs ++ flat_body b))

-- the kind of a declaration's first entry, and what there is of each in it
unfoldable pub kind_of : Global → ℕ
kind_of (local (declare x)) = 10
kind_of (local (holding g)) = 14
kind_of (class c xs) = 11
kind_of (procedure a xs b) = 12

pub kind-here : (l : List ℕ) (place : ℕ) (g : Global) {sizes : List ℕ} {left : ℕ} (gs : List Global) → Next l sizes place left g gs → half_at l (8 * place) ≡ kind_of g
unfolding kind_of flat_global flat_decl flat_typed
kind-here l place (local (declare x)) gs h = (fields l place _ _ h.stands).kind
kind-here l place (local (holding g)) gs h = (fields l place _ _ h.stands).kind
kind-here l place (class c xs) gs h = (fields l place _ _ h.stands).kind
kind-here l place (procedure a xs b) gs h = (fields l place _ _ h.stands).kind

-- a declaration, and the others
module _ (cs : List ℕ) (n : Numbers) (f : ℕ → List ℕ) where
  pub global-first : (g : Global) (gs : List Global) → Heads g
      → numbers_globals cs n.cells n.classes n.bodies (g ∷ gs) f
      ≡ numbers_global cs n (flat_global g) ++ numbers_globals cs (n.cells + cells_of_kind (kind_of g)) (n.classes + one_if (kind_of g) 11) (n.bodies + one_if (kind_of g) 12) gs f
  unfolding numbers_globals numbers_global flat_global flat_decl flat_typed kind_of Heads
  global-first (local (declare x)) gs h = rw (add-zero n.classes, add-zero n.bodies)
  global-first (local (holding k)) gs h = rw (add-zero n.cells, add-zero n.classes, add-zero n.bodies)
  global-first (class c xs) gs h = rw (owned-fields cs n.classes 0 xs, add-zero n.cells, add-zero n.bodies, add-one n.classes)
  global-first (procedure a xs b) gs h =
      let e : (256 * length xs + result_code b) % 256 ≡ result_code b = omega arith in
      rw (owned-body cs 0 (map flat_typed xs ++ flat_body b), e, add-zero n.cells, add-zero n.classes, add-one n.bodies)

-- what there is of each
pub record Has (g : Global) (gs : List Global) : Type 0 where
  pub cells : head_cells (locals (g ∷ gs)) ≡ cells_of_kind (kind_of g) + head_cells (locals gs)
  pub classes : length (classes_of (g ∷ gs)) ≡ one_if (kind_of g) 11 + length (classes_of gs)
  pub bodies : length (procs_of (g ∷ gs)) ≡ one_if (kind_of g) 12 + length (procs_of gs)

pub has : (g : Global) (gs : List Global) → Has g gs
unfolding locals head_cells classes_of procs_of kind_of
has (local (declare x)) gs = record { cells = omega arith; classes = omega arith; bodies = omega arith }
has (local (holding g)) gs = record { cells = omega arith; classes = omega arith; bodies = omega arith }
has (class c xs) gs = record { cells = omega arith; classes = omega arith; bodies = omega arith }
has (procedure a xs b) gs = record { cells = omega arith; classes = omega arith; bodies = omega arith }

-- ── the loop: whatever finishes the rest finishes the whole ──
abbrev items_from : List ℕ → ℕ → List ℕ
items_from l n = numbers_from (classes_in l) n (flat_items (the_tree l).items)

pub record NumbersSoFar (l old new : List ℕ) (place left : ℕ) (n : Numbers) : Type 0 where
  pub globals : List Global
  pub remain : Left l place left globals
  pub same : sets new place (numbers_globals (classes_in l) n.cells n.classes n.bodies globals (items_from l)) ≡ sets old 1 (numbers_of (the_tree l))
  pub long : length new ≡ length old
  pub cells : n.cells + head_cells (locals globals) ≡ head_cells (locals (the_tree l).head)
  pub classes : n.classes + length (classes_of globals) ≡ length (classes_of (the_tree l).head)
  pub bodies : n.bodies + length (procs_of globals) ≡ 1 + length (procs_of (the_tree l).head)
  pub most : place ≤ length l / 8
  pub few-cells : n.cells ≤ 3 * place
  pub few-classes : n.classes ≤ place
  pub few-bodies : n.bodies ≤ place

pub table-some : {l sizes : List ℕ} {count : ℕ} → Headed l sizes count → 1 ≤ length l / 8
unfolding flatten
table-some {l} h = let e = ap length h.tabled.same in omega (arith, length-entries (length l / 8) l)

pub numbers-start : {l sizes : List ℕ} {count : ℕ} (old : List ℕ) (n : Numbers) → Headed l sizes count → n.cells ≡ 0 → n.classes ≡ 0 → n.bodies ≡ 1 → NumbersSoFar l old old 1 count n
numbers-start {l} old n h a b d =
    record {
      globals = (the_tree l).head;
      remain = left-start h;
      same = rw (a, b, d);
      long = refl;
      cells = omega arith;
      classes = omega arith;
      bodies = omega arith;
      most = table-some h;
      few-cells = omega arith;
      few-classes = omega arith;
      few-bodies = omega arith;
    }

module _ {l sizes old new : List ℕ} {place left : ℕ} {n : Numbers} (h : Tabled l sizes (the_tree l)) (s : NumbersSoFar l old new place left n) where
  pub numbers-within : 0 < left → Within l sizes place
  numbers-within k = left-within s.globals h s.remain k

  module _ {late : List ℕ} {r : Numbers} {size : ℕ} (wrote : late ≡ sets new place (numbers_global (classes_in l) n (part_at l sizes place)))
      (counts : Counts (half_at l (8 * place)) n r) (sized : size ≡ get_or sizes place 0) where
    next-step : (gs : List Global) → 0 < left → (q : Left l place left gs)
        → sets new place (numbers_globals (classes_in l) n.cells n.classes n.bodies gs (items_from l)) ≡ sets old 1 (numbers_of (the_tree l))
        → n.cells + head_cells (locals gs) ≡ head_cells (locals (the_tree l).head)
        → n.classes + length (classes_of gs) ≡ length (classes_of (the_tree l).head)
        → n.bodies + length (procs_of gs) ≡ 1 + length (procs_of (the_tree l).head)
        → NumbersSoFar l old late (place + size) (left - 1) r
    next-step [] k q e a b d = absurd (omega (arith, q.many))
    next-step (g ∷ gs) k q e a b d =
        let cs = classes_in l in
        let y = next-global g gs h q in
        let z = kind-here l place g gs y in
        let c1 : r.cells ≡ n.cells + cells_of_kind (kind_of g) = counts.cells ∙ ap (λ (i : ℕ). n.cells + cells_of_kind i) z in
        let c2 : r.classes ≡ n.classes + one_if (kind_of g) 11 = counts.classes ∙ ap (λ (i : ℕ). n.classes + one_if i 11) z in
        let c3 : r.bodies ≡ n.bodies + one_if (kind_of g) 12 = counts.bodies ∙ ap (λ (i : ℕ). n.bodies + one_if i 12) z in
        let X = numbers_global cs n (flat_global g) in
        let m : size ≡ length X = sized ∙ (y.size ∙ sym (length-global cs n g)) in
        let w : late ≡ sets new place X = wrote ∙ ap (λ (us : List Entry). sets new place (numbers_global cs n us)) y.part in
        let v = has g gs in
        record {
          globals = gs;
          remain = rw sized y.next;
          same = rw (w, m, sets-append new place X, c1, c2, c3, ← global-first cs n (items_from l) g gs (heads-here h.legible g y.stands)) e;
          long = ap length w ∙ (length-sets new place X ∙ s.long);
          cells = omega (arith, v.cells);
          classes = omega (arith, v.classes);
          bodies = omega (arith, v.bodies);
          most = omega (arith, y.within.within);
          few-cells = omega (arith, s.few-cells, cells-few (kind_of g), y.within.some);
          few-classes = omega (arith, s.few-classes, one-few (kind_of g) 11, y.within.some);
          few-bodies = omega (arith, s.few-bodies, one-few (kind_of g) 12, y.within.some);
        }

    pub numbers-next : 0 < left → NumbersSoFar l old late (place + size) (left - 1) r
    numbers-next k = next-step s.globals k s.remain s.same s.cells s.classes s.bodies

  -- what the root's items come to
  pub numbers-end : {late : List ℕ} → left ≡ 0 → late ≡ sets new place (numbers_owned (classes_in l) 0 n.cells (between place (length l / 8) (entries_of l))) → Numbered (the_tree l) old late n
  unfolding numbers_globals flat_head locals head_cells classes_of procs_of
  numbers-end {late} k e =
      let z = none_left s.globals s.remain k in
      let cs = classes_in l in
      let us = flat_items (the_tree l).items in
      let d : drop place (entries_of l) ≡ us = rw z at s.remain.rest in
      let m : between place (length l / 8) (entries_of l) ≡ us = take_all (length l / 8 - place) (drop place (entries_of l))
      (omega (arith, length-drop place (entries_of l), length-entries (length l / 8) l)) ∙ d in
      record {
        known = e ∙ (ap (λ (vs : List Entry). sets new place (numbers_owned cs 0 n.cells vs)) m ∙ (ap (sets new place) (sym (owned-body cs n.cells us)) ∙ rw z at s.same));
        cells = rw (z, add-zero) at s.cells;
        classes = rw (z, add-zero) at s.classes;
        bodies = rw (z, add-zero) at s.bodies;
      }

-- ── they stand after the root's ──
module _ (cs : List ℕ) (f : ℕ → List ℕ) (m : ℕ) (long : (n : ℕ) → length (f n) ≡ m) where
  length-globals : (n k b : ℕ) (gs : List Global) → length (numbers_globals cs n k b gs f) ≡ length (flat_head gs) + m
  unfolding numbers_globals flat_head flat_global
  length-globals n k b [] = omega (arith, long n)
  length-globals n k b (local d ∷ gs) = omega (arith, length-globals (n + cells_of (flat_decl d)) k b gs)
  length-globals n k b (class c xs ∷ gs) =
      let us = numbers_globals cs n (suc k) b gs f in
      omega (
        arith,
        length-globals n (suc k) b gs,
        length-append (numbers_fields cs k 0 xs) us,
        ap length (owned-fields cs k 0 xs),
        length-owned cs k 0 (map flat_typed xs),
        length-append (map flat_typed xs) (flat_head gs),
      )
  length-globals n k b (procedure a xs d ∷ gs) =
      let es = map flat_typed xs ++ flat_body d in
      let us = numbers_globals cs n k (suc b) gs f in
      omega (arith, length-globals n k (suc b) gs, length-append (numbers_from cs 0 es) us, ap length (owned-body cs 0 es), length-owned cs 0 0 es, length-append es (flat_head gs))

pub length-numbers : (t : Tree) → length (numbers_of t) ≡ length (flat_head t.head) + length (flat_items t.items)
length-numbers t =
    let cs = class_names (classes_of t.head) in let es = flat_items t.items in
    length-globals cs (λ n. numbers_from cs n es) (length es) (λ n. ap length (owned-body cs n es) ∙ length-owned cs 0 n es) 0 0 1 t.head

pub numbers-lie : {l sizes new : List ℕ} (old : List ℕ) (t : Tree) → Tabled l sizes t → length l / 8 ≤ length old → new ≡ sets old 1 (numbers_of t)
    → drop 1 new ≡ numbers_of t ++ drop (1 + length (numbers_of t)) old
unfolding flatten
numbers-lie {l} {sizes} {new} old t h w e =
    let us = numbers_of t in
    let n = length-numbers t in
    let m = length-append (flat_head t.head) (flat_items t.items) in
    let k : 1 + length us ≤ length old = omega (arith, ap length h.same, length-entries (length l / 8) l) in
    ap (λ (x : List ℕ). drop 1 x) (e ∙ (sets-eq us old 1 k ∙ append_assoc (take 1 old) us (drop (1 + length us) old)))
    ∙ drop_at (take 1 old) (us ++ drop (1 + length us) old) 1 (length-take-le 1 old (omega arith))
