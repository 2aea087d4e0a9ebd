-- Every type that a tree without faults declares is that of a class there is.
use Rattle.std.specs.Prelude.{◌≡◌, ℕ, ◌≤◌, length}
use mathlib.Core.List.{List, [], ◌∷◌, map}
use Rattle.std.proofs.Math.Option.{some}
use Rattle.std.proofs.Common.{arith}
use Rattle.std.proofs.Math.ListN.{get_elem?}
use Rattle.values.specs.Types.{Ty, integer, logical, bits, reference}
use Rattle.language.specs.Tree.{Typed, Global, local, class, procedure, Tree}
use Rattle.language.specs.Names.{Scope, types, is_class, procedure_of}
use Rattle.language.specs.Faults.{faults, names_global}
use Rattle.logic.specs.Lists.{Each}
use Rattle.logic.specs.ListLaws.{index_below}
use Rattle.bytecode_laws.specs.Terms.{Named, ReadClass}
use Rattle.compile_code.specs.Compile.{Class, classes_of, class_number, Proc, procs_of, ty_in}
use Rattle.compile_code.specs.Encode.{field_types, compiled}
use Rattle.compile_macro.specs.Built.{class_count, params-length}
use Rattle.compile_names.specs.Good.{GoodTy, GoodTyped}
use Rattle.compile_names.specs.Globals.{class_as, GoodGlobals, GlobalsIn, globals-root, globals-procedure, class-found}
use Rattle.compile_names.specs.Fitting.{class-types}
use Rattle.compile_order.specs.Around.{root_scopes, good-globals, good-parameters}

module _ (gs : List Global) where
  -- a type whose class is found by name has it by number
  named-ty : (ss : List Scope) (t : Ty) → GlobalsIn gs ss → GoodTy ss t → Named (length (field_types gs (classes_of gs))) (ty_in gs t)
  named-ty ss integer g h = tt
  named-ty ss logical g h = tt
  named-ty ss bits g h = tt
  named-ty ss (reference c) g h =
      let q = g c (is_class h.0) h.1.0 tt h.1.1 in let f = class-found gs c h.0 q.0 q.1 in
      index_below (field_types gs (classes_of gs)) (class_number gs c) _ (class-types gs (classes_of gs) (class_number gs c) (class_as c f.fields) f.at-number)

  named-typed : (ss : List Scope) (seen : List ℕ) (xs : List Typed) → GlobalsIn gs ss → GoodTyped ss seen xs → Each (Named (length (field_types gs (classes_of gs)))) (map (ty_in gs) (types xs))
  unfolding GoodTyped types
  named-typed ss seen [] g h = tt
  named-typed ss seen (x ∷ xs) g h = (named-ty ss x.type g h.1, named-typed ss (x.name ∷ seen) xs g h.2)

  -- the classes of the head
  read-classes : (ss : List Scope) (seen : List ℕ) (hs : List Global) → GlobalsIn gs ss → GoodGlobals ss seen hs
      → Each (λ (c : Class). (1 ≤ length c.fields) × (length c.fields ≤ 8)) (classes_of hs)
      → Each (ReadClass (length (field_types gs (classes_of gs)))) (field_types gs (classes_of hs))
  unfolding GoodGlobals classes_of field_types
  read-classes ss seen [] g h n = tt
  read-classes ss seen (local d ∷ hs) g h n = read-classes ss (names_global (local d) seen) hs g h.1 n
  read-classes ss seen (class c xs ∷ hs) g h n =
      let l = params-length (ty_in gs) xs in let a = n.0.0 in let b = n.0.1 in
      (record { some-field = omega arith; few-fields = omega arith; named = named-typed ss (c ∷ seen) xs g h.0.0 }, read-classes ss (names_global (class c xs) seen) hs g h.1 n.1)
  read-classes ss seen (procedure a xs b ∷ hs) g h n = read-classes ss (names_global (procedure a xs b) seen) hs g h.1 n

module _ (t : Tree) (h : faults t ≡ []) where
  pub fields-known : Each (λ (c : Class). (1 ≤ length c.fields) × (length c.fields ≤ 8)) (classes_of t.head) → Each (ReadClass (class_count t)) (compiled t).classes
  unfolding compiled
  fields-known n = read-classes t.head (root_scopes t) [] t.head (globals-root t) (good-globals t h) n

  pub parameters-known : (k : ℕ) (q : Proc) → get_elem? (procs_of t.head) k ≡ some q → Each (Named (class_count t)) (map (ty_in t.head) (types q.parameters))
  unfolding compiled
  parameters-known k q e = named-typed t.head (procedure_of q.parameters ∷ (root_scopes t)) [] q.parameters (globals-procedure t.head q.parameters (root_scopes t) (globals-root t))
      (good-parameters t h k q e)
