-- The entries of a program keep to their fields and to the layout: what this says of its head, its classes and its procedures.
use Rattle.std.specs.Prelude.{true, ◌≡◌, refl, ℕ, zero, suc, ◌+◌, ◌*◌, ◌/◌, ◌%◌, ◌≤◌, leb, pos}
use Rattle.std.proofs.Common.{subst, arith, length-append, leb-true}
use mathlib.Core.List.{List, [], ◌∷◌, map}
use Rattle.std.proofs.Math.Option.{some}
use Rattle.std.proofs.Math.ListN.{length, get_elem?}
use Rattle.language.specs.Program.{flat_typed, flat_decl, flat_items, result_code, flat_body, flat_global, flat_head, flatten, total, in_fields}
use Rattle.logic.specs.Lists.{all, Each}
use Rattle.values.specs.Types.{integer, logical, bits, reference}
use Rattle.language.specs.Tree.{Body, proper, function, Global, local, class, procedure, Tree, locals}
use Rattle.language.specs.Names.{results}
use Rattle.language.specs.Faults.{size_items, size_global}
use Rattle.language.specs.Table.{Entry, entry, in_layout, class_count}
use Rattle.logic.specs.OptionLaws.{never-some, same_some}
use Rattle.logic.specs.Tests.{halves}
use Rattle.bytecode_laws.specs.Terms.{Named}
use Rattle.table_scopes.specs.Trees.{length-Items, length-head}
use Rattle.compile_code.specs.Compile.{Class, classes_of, Proc, procs_of, ty_in}
use Rattle.compile_code.specs.Encode.{field_types}
use Rattle.compile_macro.specs.Fields.{Entered, parted}

-- ── the root's head, its classes and its procedures ──
-- what holds of every definition of the root's head holds of the procedures and classes that the compiler numbers
pub of-procs : (P : Global → Type 0) (gs : List Global) → Each P gs → (k : ℕ) (q : Proc) → get_elem? (procs_of gs) k ≡ some q → P (procedure q.name q.parameters q.body)
unfolding procs_of
of-procs P [] h k q e = never-some e
of-procs P (local d ∷ gs) h k q e = of-procs P gs h.1 k q e
of-procs P (class c xs ∷ gs) h k q e = of-procs P gs h.1 k q e
of-procs P (procedure a xs b ∷ gs) h zero q e = subst (λ (r : Proc). P (procedure r.name r.parameters r.body)) (same_some e) h.0
of-procs P (procedure a xs b ∷ gs) h (suc k) q e = of-procs P gs h.1 k q e

pub of-classes : (P : Global → Type 0) (gs : List Global) → Each P gs → Each (λ (c : Class). P (class c.name c.fields)) (classes_of gs)
unfolding classes_of
of-classes P [] h = tt
of-classes P (local d ∷ gs) h = of-classes P gs h.1
of-classes P (class c xs ∷ gs) h = (h.0, of-classes P gs h.1)
of-classes P (procedure a xs b ∷ gs) h = of-classes P gs h.1

pub few-classes : (gs hs : List Global) → length (field_types gs (classes_of hs)) ≡ total class_count hs
unfolding total classes_of field_types
few-classes gs [] = refl
few-classes gs (local d ∷ hs) = let q = few-classes gs hs in omega arith
few-classes gs (class c xs ∷ hs) = let q = few-classes gs hs in omega arith
few-classes gs (procedure a xs b ∷ hs) = let q = few-classes gs hs in omega arith

-- ── how many entries ──

pub length-tree : (t : Tree) → length (flatten t) ≡ suc (total size_global t.head + size_items t.items)
unfolding flatten
length-tree t = omega (arith, length-append (flat_head t.head) (flat_items t.items), length-head t.head, length-Items t.items)

-- ── each entry ──
each-entered : (es : List Entry) → all in_fields es ≡ true → all in_layout es ≡ true → Each Entered es
unfolding all
each-entered [] f l = tt
each-entered (e ∷ es) f l = let p = halves (in_fields e) (all in_fields es) f in let q = halves (in_layout e) (all in_layout es) l in ((p.0, q.0), each-entered es p.1 q.1)

abbrev EnteredGlobal : Global → Type 0
EnteredGlobal g = Each Entered (flat_global g)

head-entered : (gs : List Global) → Each Entered (flat_head gs) → Each EnteredGlobal gs
unfolding flat_head
head-entered [] h = tt
head-entered (g ∷ gs) h = let q = parted Entered (flat_global g) (flat_head gs) h in (q.0, head-entered gs q.1)

locals-entered : (gs : List Global) → Each EnteredGlobal gs → Each Entered (map flat_decl (locals gs))
unfolding flat_global locals
locals-entered [] h = tt
locals-entered (local d ∷ gs) h = (h.0.0, locals-entered gs h.1)
locals-entered (class c xs ∷ gs) h = locals-entered gs h.1
locals-entered (procedure a xs b ∷ gs) h = locals-entered gs h.1

-- "11 class a with b fields, 1 to 8"
one-to-eight : (c n : ℕ) → in_layout (entry 11 c (pos n)) ≡ true → (1 ≤ n) × (n ≤ 8)
unfolding in_layout
one-to-eight c n h = let q = halves (leb 1 n) (leb n 8) h in (leb-true 1 n q.0, leb-true n 8 q.1)

-- "256 × parameters (0 to 8) + result", "S when result is 0, E when result is 1, 2 or 3": no function gives a reference
no-reference : (classes : ℕ) (gs : List Global) (a n : ℕ) (b : Body) → in_layout (entry 12 a (pos (256 * n + result_code b))) ≡ true → Each (Named classes) (map (ty_in gs) (results b))
unfolding in_layout
no-reference classes gs a n (proper s) h = tt
no-reference classes gs a n (function integer e) h = (tt, tt)
no-reference classes gs a n (function logical e) h = (tt, tt)
no-reference classes gs a n (function bits e) h = (tt, tt)
no-reference classes gs a n (function (reference c) e) h =
    let r = 256 * n + (65536 + c) in let q = leb-true (r / 256) 8 (halves (leb (r / 256) 8) (leb (r % 256) 3) h).0 in absurd (omega arith)

module _ (t : Tree) (f : all in_fields (flatten t) ≡ true) (l : all in_layout (flatten t) ≡ true) where
  tree-entered : Each Entered (flat_head t.head) × Each Entered (flat_items t.items)
  unfolding flatten
  tree-entered = parted Entered (flat_head t.head) (flat_items t.items) (each-entered (flatten t) f l).1

  globals-entered : Each EnteredGlobal t.head
  globals-entered = head-entered t.head tree-entered.0

  pub root-entries : Each Entered (map flat_decl (locals t.head)) × Each Entered (flat_items t.items)
  root-entries = (locals-entered t.head globals-entered, tree-entered.1)

  pub proc-entries : (k : ℕ) (q : Proc) → get_elem? (procs_of t.head) k ≡ some q → Each Entered (flat_body q.body)
  unfolding flat_global
  proc-entries k q e = (parted Entered (map flat_typed q.parameters) (flat_body q.body) (of-procs EnteredGlobal t.head globals-entered k q e).1).1

  pub proc-results : (classes k : ℕ) (q : Proc) → get_elem? (procs_of t.head) k ≡ some q → Each (Named classes) (map (ty_in t.head) (results q.body))
  unfolding flat_global
  proc-results classes k q e = no-reference classes t.head q.name (length q.parameters) q.body (of-procs EnteredGlobal t.head globals-entered k q e).0.1

  -- each class has 1 to 8 fields
  pub class-fields : Each (λ (c : Class). (1 ≤ length c.fields) × (length c.fields ≤ 8)) (classes_of t.head)
  unfolding flat_global
  class-fields = more (classes_of t.head) (of-classes EnteredGlobal t.head globals-entered)
    where
      more : (cs : List Class) → Each (λ (c : Class). EnteredGlobal (class c.name c.fields)) cs → Each (λ (c : Class). (1 ≤ length c.fields) × (length c.fields ≤ 8)) cs
      more [] h = tt
      more (c ∷ cs) h = (one-to-eight c.name (length c.fields) h.0.0.1, more cs h.1)
