-- The root: what its names stand for, in its own body and in the bodies of its procedures.
use Rattle.std.specs.Prelude.{◌≡◌, refl, Bool, true, false, ℕ, suc, ◌+◌, ◌*◌, ◌≤◌, ◌<◌, eqb, length}
use Rattle.std.proofs.Math.Path.{ap, sym}
use Rattle.std.proofs.Common.{◌∙◌, subst, arith, zero-add}
use mathlib.Core.List.{List, [], ◌∷◌, ◌++◌, map, append-nil}
use Rattle.language.specs.Program.{flat_items, result_code, flat_head, flatten}
use Rattle.logic.specs.Choice.{If◌then◌else◌}
use Rattle.values.specs.Types.{Ty, ty_byte}
use Rattle.language.specs.Tree.{Decl, declare, holding, Global, local, class, procedure, Tree, count_items, locals}
use Rattle.language.specs.Names.{Sort, is_variable, is_label, is_class, is_field, is_procedure, is_control, defines_items, defines_globals, Scope, root_of, first_of, lookup}
use Rattle.language.specs.Faults.{faults, size_global}
use Rattle.language.specs.Limits.{head_cells}
use Rattle.language_laws.proofs.Unchanged.{lookup-root}
use Rattle.language_laws.specs.Claims.{entries_of, Readable}
use Rattle.table_entries.specs.Stands.{Stands, stands-left, stands-right, stands-tail}
use Rattle.table_scopes.specs.Items.{labels_from, globals_from, root_items}
use Rattle.table_scopes.specs.Sees.{Legible, Sees, matches-append, sees-none, sees-block}
use Rattle.table_scopes.specs.Defines.{head_items, label_items, label-items, label-matches, labels-small}
use Rattle.table_forms.specs.Globals.{items_of, global_items, globals-at, globals-small, globals-match}
use Rattle.bytecode.specs.Instructions.{own, root}
use Rattle.compile_code.specs.Compile.{Around, outermost, global, scopes_of, bound_at, global_at, cell_of, numbered, Class, classes_of, class_names, Proc, procs_of, proc_names}
use Rattle.compile_code.specs.Compile.{field_in, among_names, names_of, index_of, class_number, body_number}
use Rattle.compile_code.specs.Encode.{owner_code, start_of_root}
use Rattle.compile_names.specs.Known.{Style, of_root, of_shared, first-append}
use Rattle.compile_names.specs.Globals.{good-tree}
use Rattle.compile_symbols.specs.Numbers.{numbers_from, numbers_globals, numbers_of}
use Rattle.table_scopes.specs.Environment.{Found, Nothing, Def, opened, add_all}
use Rattle.table_scopes.specs.Environment as env
use Rattle.table_scopes.specs.EnvironmentLaws.{first_in, or_outer, Small, small-append}
use Rattle.compile_nodes.specs.Knows.{Lies, Walk, Means, Knows}
use Rattle.compile_code.specs.Counts.{index-most, length-class-names, length-classes, length-procedures}
use Rattle.compile_scopes.specs.Means.{Both, both-or, in-append, byte_small, knows-root}
use Rattle.compile_scopes.specs.Heads.{entering, scopes-entering, labels-mean, head-sort}
use Rattle.compile_scopes.specs.Blocks.{NoLabel}
use Rattle.compile_scopes.specs.RootHead.{Numbered, globals-mean, both-more}

-- ── counts ──

length-proc-names : (ps : List Proc) → length (proc_names ps) ≡ length ps
unfolding proc_names
length-proc-names [] = refl
length-proc-names (p ∷ ps) = ap suc (length-proc-names ps)

class-most : (a k : ℕ) (cl : List Class) → (field_in a k cl).class ≤ k + length cl
unfolding field_in
class-most a k [] = omega arith
class-most a k (c ∷ cl) = pick (among_names a (names_of c.fields)) (class-most a (suc k) cl)
  where
    pick : (b : Bool) → (field_in a (suc k) cl).class ≤ suc k + length cl
        → (If b then record { class = k; index = index_of a (names_of c.fields) } else field_in a (suc k) cl).class ≤ k + suc (length cl)
    pick true h = omega arith
    pick false h = omega arith

-- ── the numbers of the root's names are those that the code's definition gives them ──
module _ (W : Walk) (S : Style) (a : ℕ) (owned : (If W.within then 1 else 0) ≡ owner_code S.owner) (classes : length (classes_of W.globals) ≤ 16)
    (procedures : length (procs_of W.globals) ≤ 63) where
  root-byte : (t : Ty) → ty_byte (numbered (class_names (classes_of W.globals)) t) < 256
  root-byte t = byte_small (class_names (classes_of W.globals)) t (omega (arith, length-class-names (classes_of W.globals)))

  root-means : (Γ : List Around) → cell_of a Γ ≡ S.look a Γ → (q : ℕ) (t : Sort) → Numbered W S a (classes_of W.globals) (procs_of W.globals) 0 1 Γ q t → Means W Γ a q t
  root-means Γ e q (is_variable t) m = record {
    owner = S.owner;
    cell = m.cell;
    whose = 1;
    found = e ∙ m.found;
    number = m.number;
    owned = owned;
    small-type = root-byte t;
    small-whose = omega arith;
    small-cell = omega (arith, m.small);
  }
  root-means Γ e q is_label m = tt
  root-means Γ e q (is_class ts) m =
      record { number = rw (zero-add (class_number W.globals a)) at m; small = omega (arith, index-most a (class_names (classes_of W.globals)), length-class-names (classes_of W.globals)) }
  root-means Γ e q (is_field c t) m =
      record { number = m.number; small-type = root-byte t; small-class = omega (arith, class-most a 0 (classes_of W.globals)); small-index = m.small }
  root-means Γ e q (is_procedure ts us) m =
      let z : 1 + index_of a (proc_names (procs_of W.globals)) ≡ body_number W.globals a = omega arith in
      record { number = rw z at m.number; small-type = m.small; small-body = omega (arith, index-most a (proc_names (procs_of W.globals)), length-proc-names (procs_of W.globals)) }
  root-means Γ e q is_control m = absurd m

-- ── the root's variables are no other body's ──
unbound-root : (a : ℕ) (ds : List Decl) (n : ℕ) (Γ : List Around) → bound_at a (entering of_root ds n Γ) ≡ bound_at a Γ
unfolding entering bound_at
unbound-root a [] n Γ = refl
unbound-root a (declare x ∷ ds) n Γ = unbound-root a ds (suc n) (global own x.name n ∷ Γ)
unbound-root a (holding g ∷ ds) n Γ = unbound-root a ds n (of_root.hold g Γ)

unbound-shared : (a : ℕ) (ds : List Decl) (n : ℕ) (Γ : List Around) → bound_at a (entering of_shared ds n Γ) ≡ bound_at a Γ
unfolding entering bound_at
unbound-shared a [] n Γ = refl
unbound-shared a (declare x ∷ ds) n Γ = unbound-shared a ds (suc n) (global root x.name n ∷ Γ)
unbound-shared a (holding g ∷ ds) n Γ = unbound-shared a ds n Γ

pub look-root : (a : ℕ) (ds : List Decl) (s : Scope) → cell_of a (entering of_root ds 0 (outermost s ∷ [])) ≡ global_at a (entering of_root ds 0 (outermost s ∷ []))
unfolding bound_at
look-root a ds s = rw (unbound-root a ds 0 (outermost s ∷ []))

pub look-shared : (a : ℕ) (ds : List Decl) (s : Scope) → cell_of a (entering of_shared ds 0 (outermost s ∷ [])) ≡ global_at a (entering of_shared ds 0 (outermost s ∷ []))
unfolding bound_at
look-shared a ds s = rw (unbound-shared a ds 0 (outermost s ∷ []))

-- ── what the root pushes ──
module _ {l : List ℕ} (legible : Legible l) (t : Tree) (same : entries_of l ≡ flatten t) where
  abbrev rest : ℕ
  rest = 1 + length (flat_head t.head)

  both-stand : Stands (entries_of l) 1 (flat_head t.head ++ flat_items t.items)
  unfolding flatten
  both-stand = stands-tail {p = 0} _ _ (record { rest = []; split = same ∙ sym (append-nil (flatten t)) })

  pub globals-stand : Stands (entries_of l) 1 (flat_head t.head)
  globals-stand = stands-left (flat_head t.head) (flat_items t.items) both-stand

  pub root-items-stand : Stands (entries_of l) rest (flat_items t.items)
  root-items-stand = stands-right (flat_head t.head) (flat_items t.items) both-stand

  pub root-items-are : root_items l (length t.head) rest (count_items t.items) ≡ global_items 1 t.head ++ label_items rest t.items
  root-items-are = rw ((globals-at legible 1 t.head globals-stand).1, (label-items legible rest t.items root-items-stand).1)

  pub root-items-small : Small (global_items 1 t.head ++ label_items rest t.items)
  root-items-small = rw root-items-are at (small-append (globals_from l 1 (length t.head)) (labels_from l rest (count_items t.items)) (globals-small legible 1 (length t.head))
      (labels-small legible rest (count_items t.items)))

  pub root-sees : Sees l (add_all (global_items 1 t.head ++ label_items rest t.items) (env.item opened 0 0 0 ∷ [])) (root_of t ∷ [])
  root-sees = sees-block (sees-none l) (global_items 1 t.head ++ label_items rest t.items) (defines_globals t.head ++ defines_items t.items)
      (matches-append l (global_items 1 t.head) (label_items rest t.items) (defines_globals t.head) (defines_items t.items) (globals-match legible 1 t.head globals-stand)
      (label-matches l rest t.items))
      root-items-small

  -- what the names stand for, in each style of the root's variables
  module _ (W : Walk) (S : Style) where
    pub root-knows : (If W.within then 1 else 0) ≡ owner_code S.owner
        → ((a : ℕ) → cell_of a (entering S (locals t.head) 0 (start_of_root t)) ≡ S.look a (entering S (locals t.head) 0 (start_of_root t)))
        → Readable t → faults t ≡ [] → head_cells (locals t.head) ≤ 32 → W.globals ≡ t.head → Lies W.known 1 (numbers_of t)
        → Knows W (add_all (global_items 1 t.head ++ label_items rest t.items) (env.item opened 0 0 0 ∷ [])) (entering S (locals t.head) 0 (start_of_root t))
    unfolding scopes_of
    root-knows owned looks readable good cells globals lies =
        knows-root W (global_items 1 t.head ++ label_items rest t.items) (defines_globals t.head ++ defines_items t.items) root-items-small
        (λ a. ap (lookup a) (scopes-entering S (locals t.head) 0 (start_of_root t)) ∙ lookup-root a (defines_globals t.head ++ defines_items t.items))
        (λ a. rw (in-append a (global_items 1 t.head) (label_items rest t.items), first-append a (defines_globals t.head) (defines_items t.items))
        (both-or (λ q s. Means W Δ a q s) (first_in a (global_items 1 t.head)) (first_in a (label_items rest t.items)) (first_of a (defines_globals t.head)) (first_of a (defines_items t.items))
        (both-more (λ q s. Numbered W S a (classes_of W.globals) (procs_of W.globals) 0 1 Δ q s) (λ q s. Means W Δ a q s) (first_in a (global_items 1 t.head))
        (first_of a (defines_globals t.head))
        (λ q s m. root-means W S a owned few-classes few-procedures Δ (looks a) q s m) (head a))
        (labels-mean W a rest t.items Δ)))
      where
        Δ : List Around
        Δ = entering S (locals t.head) 0 (start_of_root t)

        few-classes : length (classes_of W.globals) ≤ 16
        few-classes = rw globals (omega (arith, readable.classes, length-classes t.head))

        few-procedures : length (procs_of W.globals) ≤ 63
        few-procedures = rw globals (omega (arith, readable.procedures, length-procedures t.head))

        classes_in : List Global → List ℕ
        classes_in gs = class_names (classes_of gs)

        numbers : Lies W.known 1 (numbers_globals (classes_in W.globals) 0 0 1 t.head (λ n. numbers_from (classes_in W.globals) n (flat_items t.items)))
        numbers = subst (λ gs. Lies W.known 1 (numbers_globals (classes_in gs) 0 0 1 t.head (λ n. numbers_from (classes_in gs) n (flat_items t.items)))) (sym globals) lies

        InHead : List Global → ℕ → Type 0
        InHead gs a = Both (λ q s. Numbered W S a (classes_of gs) (procs_of gs) 0 1 Δ q s) (first_in a (global_items 1 t.head)) (first_of a (defines_globals t.head))

        head : (a : ℕ) → InHead W.globals a
        head a = subst (λ gs. InHead gs a) (sym globals)
            (globals-mean W S a legible t.head 1 0 0 1 (start_of_root t) (root_of t ∷ []) [] (λ n. numbers_from (classes_in W.globals) n (flat_items t.items))
            globals-stand (good-tree t good).0 (omega (arith, cells)) numbers)

-- no declaration of the root is a label
sort-then : (f g : Found) {s n q : ℕ} {w : Bool} (P : ℕ → Type 0) → ((s n q : ℕ) (w : Bool) → f ≡ Def s n q w → P s) → ((s n q : ℕ) (w : Bool) → g ≡ Def s n q w → P s)
    → or_outer f g ≡ Def s n q w → P s
sort-then Nothing g {s} {n} {q} {w} P h k e = k s n q w e
sort-then (Def t m r v) g {s} {n} {q} {w} P h k e = h s n q w e

one_label : (p : ℕ) (g : Global) → NoLabel (items_of p g)
unfolding items_of first_in
one_label p (local d) a s n q w e z = let y = head-sort a 4 p (d ∷ []) e in omega arith
one_label p (class c xs) a s n q w e z = pick (eqb c a) e
  where
    pick : (b : Bool) → (If b then Def 6 (length xs) p false else first_in a (head_items (65536 + c) (suc p) (map declare xs))) ≡ Def s n q w → ⊥
    pick true k = let y : 6 ≡ s = cc in omega arith
    pick false k = let y = head-sort a (65536 + c) (suc p) (map declare xs) k in omega arith
one_label p (procedure b xs d) a s n q w e z = pick (eqb b a) e
  where
    pick : (c : Bool) → (If c then Def 7 (256 * length xs + result_code d) p false else Nothing) ≡ Def s n q w → ⊥
    pick true k = let y : 7 ≡ s = cc in omega arith
    pick false k = let y : ◌≡◌ {A = ℕ} 0 1 = cc in omega arith

pub globals-labels : (p : ℕ) (gs : List Global) → NoLabel (global_items p gs)
unfolding global_items first_in
globals-labels p [] a s n q w e = let z : ◌≡◌ {A = ℕ} 0 1 = cc in absurd (omega arith)
globals-labels p (g ∷ gs) a s n q w e =
    sort-then (first_in a (items_of p g)) (first_in a (global_items (p + size_global g) gs)) (λ s. s ≡ 5 → ⊥) (λ s n q w k. one_label p g a s n q w k)
    (λ s n q w k. globals-labels (p + size_global g) gs a s n q w k)
    (sym (in-append a (items_of p g) (global_items (p + size_global g) gs)) ∙ e)
