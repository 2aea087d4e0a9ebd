-- The tree that a table holds, and the declarations of its root one after the other.
use Rattle.std.specs.Prelude.{◌≡◌, refl, true, ℕ, suc, ◌+◌, ◌-◌, ◌*◌, ◌/◌, ◌%◌, ◌≤◌, ◌<◌, leb, pos, length, take, get_or}
use Rattle.std.proofs.Math.Path.{ap}
use Rattle.std.proofs.Common.{sym, ◌∙◌, arith, length-append, length-drop, take_at, drop_at, drop-drop}
use mathlib.Core.List.{List, [], ◌∷◌, ◌++◌, map, append-nil, append_assoc}
use Rattle.std.proofs.Math.ListN.{drop}
use Rattle.language.specs.Program.{flat_typed, flat_items, result_code, flat_body, flat_global, flat_head, flatten}
use Rattle.logic.specs.Lists.{all}
use Rattle.language.specs.Tree.{no_item, Body, Global, local, class, procedure, Tree}
use Rattle.language.specs.Table.{Entry, entry, in_layout, Read, took, stop, first, form_root}
use Rattle.logic.specs.Tests.{both_left}
use Rattle.language_laws.specs.Claims.{entries_of, Readable}
use Rattle.language_laws.proofs.Programs.{read-flatten}
use Rattle.table_entries.specs.Entries.{length-entries, entry_at, entry_here}
use Rattle.table_entries.specs.Stands.{Stands}
use Rattle.table_entries.specs.Sizes.{Known}
use Rattle.table_scopes.specs.Trees.{Heads, spans-Global}
use Rattle.table_scopes.specs.Sees.{Legible}
use Rattle.table_scopes.specs.Defines.{span-here}
use Rattle.compile_code.specs.Compile.{classes_of, class_names}
use Rattle.language_laws.specs.Roots.{result-small}

-- ── a table that holds a tree ──
pub record Tabled (l sizes : List ℕ) (t : Tree) : Type 0 where
  pub legible : Legible l
  pub known : Known l sizes
  pub same : entries_of l ≡ flatten t
  pub readable : Readable t

abbrev tree_in : Read Tree → Tree
tree_in (took t es) = t
tree_in (stop es) = record { head = []; items = no_item }

-- the tree of a table that holds one
unfoldable pub the_tree : List ℕ → Tree
the_tree l = tree_in (first form_root (entries_of l))

pub the-tree : {l sizes : List ℕ} (t : Tree) → Tabled l sizes t → the_tree l ≡ t
unfolding the_tree
the-tree {l} {sizes} t h = ap (λ (es : List Entry). tree_in (first form_root es)) (h.same ∙ sym (append-nil (flatten t))) ∙ ap tree_in (read-flatten t h.readable [])

-- the names of its classes, in order
abbrev pub classes_in : List ℕ → List ℕ
classes_in l = class_names (classes_of (the_tree l).head)

-- what the functions ask: a tree is held, and its root has so many declarations
pub record Holding (l sizes : List ℕ) (count : ℕ) : Type 0 where
  pub tree : Tree
  pub tabled : Tabled l sizes tree
  pub counted : count ≡ length tree.head

-- the same of the one tree that it can be
pub record Headed (l sizes : List ℕ) (count : ℕ) : Type 0 where
  pub tabled : Tabled l sizes (the_tree l)
  pub counted : count ≡ length (the_tree l).head

pub headed : {l sizes : List ℕ} {count : ℕ} → Holding l sizes count → Headed l sizes count
headed h = let e = the-tree h.tree h.tabled in record { tabled = rw e h.tabled; counted = rw e h.counted }

pub entries-few : {l sizes : List ℕ} {t : Tree} → Tabled l sizes t → length l / 8 ≤ 2048
entries-few h = omega (arith, h.legible.short)

-- ── entries ──
-- those from a place up to, not including, another
abbrev pub between : ℕ → ℕ → List Entry → List Entry
between from to es = take (to - from) (drop from es)

-- the part that stands at a place
abbrev pub part_at : List ℕ → List ℕ → ℕ → List Entry
part_at l sizes place = between place (place + get_or sizes place 0) (entries_of l)

pub record Within (l sizes : List ℕ) (place : ℕ) : Type 0 where
  pub some : 1 ≤ get_or sizes place 0
  pub within : place + get_or sizes place 0 ≤ length l / 8
  pub wide : length l / 8 ≤ length sizes

pub between-entry : (l : List ℕ) (from to : ℕ) → from < to → to ≤ length l / 8 → between from to (entries_of l) ≡ entry_at l from ∷ between (from + 1) to (entries_of l)
between-entry l from to h k =
    let e : to - from ≡ suc (to - (from + 1)) = omega arith in
    rw (entry_here l from (omega arith), e)

pub between_none : (from to : ℕ) (es : List Entry) → to ≤ from → between from to es ≡ []
between_none from to es h = let e : to - from ≡ 0 = omega arith in rw e

pub layout-at : {l : List ℕ} → Legible l → (p : ℕ) → p < length l / 8 → in_layout (entry_at l p) ≡ true
layout-at {l} h p k = h.layout p (entry_at l p) [] (record { rest = drop (p + 1) (entries_of l); split = entry_here l p k })

-- ── the declarations that are left ──
pub record Left (l : List ℕ) (place left : ℕ) (gs : List Global) : Type 0 where
  pub rest : drop place (entries_of l) ≡ flat_head gs ++ flat_items (the_tree l).items
  pub many : left ≡ length gs

module _ {l sizes : List ℕ} {count : ℕ} (h : Headed l sizes count) where
  pub left-start : Left l 1 count (the_tree l).head
  unfolding flatten
  left-start = record { rest = ap (λ (es : List Entry). drop 1 es) h.tabled.same; many = h.counted }

-- a heading that keeps to the layout
heading-small : (a n : ℕ) (b : Body) → in_layout (entry 12 a (pos (256 * n + result_code b))) ≡ true → result_code b < 256
unfolding in_layout
heading-small a n b h = result-small n b (both_left (leb ((256 * n + result_code b) / 256) 8) (leb ((256 * n + result_code b) % 256) 3) h)

pub heads-here : {l : List ℕ} (legible : Legible l) {p : ℕ} (g : Global) → Stands (entries_of l) p (flat_global g) → Heads g
unfolding flat_global Heads
heads-here legible (local d) h = tt
heads-here legible (class c xs) h = tt
heads-here legible {p} (procedure a xs b) h = heading-small a (length xs) b (legible.layout p (entry 12 a (pos (256 * length xs + result_code b))) _ h)

pub layout-heads : (g : Global) → all in_layout (flat_global g) ≡ true → Heads g
unfolding flat_global Heads all
layout-heads (local d) h = tt
layout-heads (class c xs) h = tt
layout-heads (procedure a xs b) h =
    heading-small a (length xs) b (both_left (in_layout (entry 12 a (pos (256 * length xs + result_code b)))) (all in_layout (map flat_typed xs ++ flat_body b)) h)

pub some-entry : (g : Global) → 1 ≤ length (flat_global g)
unfolding flat_global
some-entry (local d) = omega arith
some-entry (class c xs) = omega arith
some-entry (procedure a xs b) = omega arith

-- the next of them
pub record Next (l sizes : List ℕ) (place left : ℕ) (g : Global) (gs : List Global) : Type 0 where
  pub stands : Stands (entries_of l) place (flat_global g)
  pub within : Within l sizes place
  pub size : get_or sizes place 0 ≡ length (flat_global g)
  pub part : part_at l sizes place ≡ flat_global g
  pub next : Left l (place + get_or sizes place 0) (left - 1) gs

pub next-global : {l sizes : List ℕ} {t : Tree} {place left : ℕ} (g : Global) (gs : List Global) → Tabled l sizes t → Left l place left (g ∷ gs) → Next l sizes place left g gs
unfolding flat_head
next-global {l} {sizes} {t} {place} {left} g gs h k =
    let us = flat_global g in let vs = flat_head gs ++ flat_items (the_tree l).items in
    let e : drop place (entries_of l) ≡ us ++ vs = k.rest ∙ append_assoc us (flat_head gs) (flat_items (the_tree l).items) in
    let s : Stands (entries_of l) place us = record { rest = vs; split = e } in
    let n : length (entries_of l) ≡ length l / 8 = length-entries (length l / 8) l in
    let m : length (entries_of l) - place ≡ length us + length vs = sym (length-drop place (entries_of l)) ∙ (ap length e ∙ length-append us vs) in
    let o = some-entry g in
    let z : get_or sizes place 0 ≡ length us = h.known.sized place (omega arith) ∙ span-here l us (spans-Global g (heads-here h.legible g s)) s in
    let y : place + get_or sizes place 0 - place ≡ length us = omega arith in
    record {
      stands = s;
      within = record { some = omega arith; within = omega arith; wide = h.known.wide };
      size = z;
      part = rw (y, e) (take_at us vs (length us) refl);
      next = record { rest = sym (drop-drop (get_or sizes place 0) place (entries_of l)) ∙ rw (z, e) (drop_at us vs (length us) refl); many = omega (arith, k.many) };
    }
