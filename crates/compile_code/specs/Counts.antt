-- Laws of the definitions of this crate that several stages cite: how many classes, procedures and names there are, and which holds lie around.
use Rattle.std.specs.Prelude.{◌≡◌, refl, Bool, true, false, List, [], ◌∷◌, ℕ, suc, ◌≤◌, eqb, length}
use Rattle.std.proofs.Common.{ap, arith}
use Rattle.logic.specs.Choice.{If◌then◌else◌}
use Rattle.language.specs.Program.{total}
use Rattle.language.specs.Table.{class_count, procedure_count}
use Rattle.language.specs.Tree.{Typed, Decl, declare, holding, Global, local, class, procedure, Tree}
use Rattle.bytecode.specs.Instructions.{root}
use Rattle.compile_code.specs.Compile.{Around, global, held_in, index_of, Class, classes_of, class_names, Proc, procs_of}
use Rattle.compile_code.specs.Encode.{parameter_cells, root_variables, proc_parts, heads_of, field_types}

-- ── classes and procedures, counted ──
pub length-classes : (gs : List Global) → length (classes_of gs) ≡ total class_count gs
unfolding classes_of total
length-classes [] = refl
length-classes (local d ∷ gs) = omega (arith, length-classes gs)
length-classes (class c xs ∷ gs) = omega (arith, length-classes gs)
length-classes (procedure a xs b ∷ gs) = omega (arith, length-classes gs)

pub length-procedures : (gs : List Global) → length (procs_of gs) ≡ total procedure_count gs
unfolding procs_of total
length-procedures [] = refl
length-procedures (local d ∷ gs) = omega (arith, length-procedures gs)
length-procedures (class c xs ∷ gs) = omega (arith, length-procedures gs)
length-procedures (procedure a xs b ∷ gs) = omega (arith, length-procedures gs)

pub length-class-names : (cs : List Class) → length (class_names cs) ≡ length cs
unfolding class_names
length-class-names [] = refl
length-class-names (c ∷ cs) = ap suc (length-class-names cs)

pub length-field-types : (gs : List Global) (cs : List Class) → length (field_types gs cs) ≡ length cs
unfolding field_types
length-field-types gs [] = refl
length-field-types gs (c ∷ cs) = ap suc (length-field-types gs cs)

pub length-heads : (t : Tree) (ps : List Proc) (a : ℕ) → length (heads_of (proc_parts t ps a)) ≡ length ps
unfolding heads_of proc_parts
length-heads t [] a = refl
length-heads t (p ∷ ps) a = ap suc (length-heads t ps _)

pub index-most : (a : ℕ) (names : List ℕ) → index_of a names ≤ length names
unfolding index_of
index-most a [] = omega arith
index-most a (b ∷ names) = pick (eqb b a) (index-most a names)
  where
    pick : (t : Bool) → index_of a names ≤ length names → (If t then 0 else suc (index_of a names)) ≤ suc (length names)
    pick true h = omega arith
    pick false h = omega arith

-- ── parameters and the root's variables hold nothing ──
pub held-parameters : (xs : List Typed) (n : ℕ) (Γ : List Around) → held_in (parameter_cells xs n Γ) ≡ held_in Γ
unfolding parameter_cells held_in
held-parameters [] n Γ = refl
held-parameters (x ∷ xs) n Γ = held-parameters xs (suc n) Γ

pub held-roots : (ds : List Decl) (n : ℕ) (Γ : List Around) → held_in (root_variables ds n Γ) ≡ held_in Γ
unfolding root_variables held_in
held-roots [] n Γ = refl
held-roots (declare x ∷ ds) n Γ = held-roots ds (suc n) (global root x.name n ∷ Γ)
held-roots (holding g ∷ ds) n Γ = held-roots ds n Γ
