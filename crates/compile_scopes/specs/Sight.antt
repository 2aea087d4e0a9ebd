-- The names in sight of the compiler's walkers agree with the blocks around (`Sees`), stand for what the definition of the code finds (`Knows`),
-- and lead gotos where it leads them (`Lands`): kept by entering a block, a block expression and a procedure, and so at the root.
use Rattle.std.proofs.Math.Path.{◌≡◌, ap, sym}
use Rattle.std.specs.Prelude.{refl, true, false, ℕ, ◌+◌, ◌≤◌}
use Rattle.std.proofs.Common.{◌∙◌, arith, add-zero}
use mathlib.Core.List.{List, [], ◌∷◌, ◌++◌, map, append_assoc}
use Rattle.std.proofs.Math.ListN.{length}
use Rattle.language.specs.Program.{flat_typed, flat_decl, flat_s, flat_items, flat_e, flat_head, flatten}
use Rattle.values.specs.Types.{Ty}
use Rattle.language.specs.Tree.{Typed, Decl, declare, block, Expr, block_expr, Items, Tree, count_items, locals}
use Rattle.language.specs.Table.{Entry}
use Rattle.language.specs.Names.{defines_typed, defines_head, defines_items, block_of, expression_of, procedure_of, root_of, across, lookup}
use Rattle.language.specs.Faults.{faults}
use Rattle.language.specs.Limits.{head_cells}
use Rattle.language_laws.specs.Lookup.{lookup-block, lookup-expression, lookup-procedure}
use Rattle.bytecode.specs.Instructions.{own}
use Rattle.language_laws.specs.Claims.{entries_of, Readable}
use Rattle.table_entries.specs.Stands.{Stands, stands-left, stands-tail}
use Rattle.logic.specs.Tests.{never}
use Rattle.table_scopes.specs.Items.{items_at, root_items}
use Rattle.table_scopes.specs.Trees.{length-map, typed-decls}
use Rattle.table_scopes.specs.Defines.{head_items, head-items, items-small, typed-matches, heads-stand}
use Rattle.table_scopes.proofs.EnteredBlocks.{entered-block, entered-expression}
use Rattle.table_scopes.specs.Sees.{Legible, Sees, sees-procedure}
use Rattle.table_forms.specs.Globals.{global_items}
use Rattle.compile_code.specs.Code.{At, at}
use Rattle.compile_code.specs.Compile.{Around, inside, global, labels, scopes_of, bound_at, global_at, passing, classes_of, class_names}
use Rattle.compile_code.specs.Encode.{root_variables, parameter_cells, start_of_root}
use Rattle.compile_names.specs.Good.{GoodHead}
use Rattle.compile_names.specs.Known.{of_root, of_shared, scopes-parameters}
use Rattle.compile_symbols.specs.Numbers.{numbers_from, numbers_of, cells_within}
use Rattle.table_scopes.specs.Environment.{Item, Found, Nothing, Def, find, add_all, opened, shut}
use Rattle.table_scopes.specs.Environment as env
use Rattle.table_scopes.specs.EnvironmentLaws.{first_in, or_outer, Small, find-block, passing-none}
use Rattle.compile_nodes.specs.Ends.{around_head, at_head, ends_head, ends_items, ends_s, ends_e, below_s, below_e}
use Rattle.compile_nodes.specs.Knows.{Lies, Walk, Knows, Lands, target_of}
use Rattle.compile_scopes.specs.Lies.{lies-left, lies-right, lies-next}
use Rattle.compile_symbols.specs.Entries.{cells-append}
use Rattle.compile_scopes.specs.Lengths.{length-head, numbers-append}
use Rattle.compile_scopes.specs.Marks.{open_in, marks, find-marks, passed-marks, sees-marks, knows-marks}
use Rattle.compile_scopes.specs.Means.{known-across, knows-labels, knows-inside}
use Rattle.compile_scopes.specs.Heads.{Anything, scopes-entering, around-root, around-shared, parameters-mean, past-parameters, bytes-typed, classes-known}
use Rattle.compile_scopes.specs.Heads.{classes-block, classes-expression, bytes-head, size-head, target-head, head-sort}
use Rattle.compile_scopes.specs.Blocks.{within, around_value, around_items, scopes-value, scopes-items, items-are, items-are-small, knows-within, lands_within, NoLabel, LandsOuter}
use Rattle.compile_scopes.specs.Roots.{look-root, look-shared, root-items-are, root-items-small, root-sees, root-knows, globals-labels}

-- the names of the classes, in the order of their numbers
abbrev pub classes_in : Walk → List ℕ
classes_in W = class_names (classes_of W.globals)

head-labels : (place : ℕ) (ds : List Decl) → NoLabel (head_items 4 place ds)
head-labels place ds a s n q w e z = let y = head-sort a 4 place ds e in omega arith

-- a wall lies before all that is outside
walled : (f : Found) (n q : ℕ) → env.passing true f ≡ Def 5 n q false → ⊥
walled Nothing n q e = let z : ◌≡◌ {A = ℕ} 0 1 = cc in omega arith
walled (Def s m r w) n q e = let z : true ≡ false = cc in never (sym z)

-- ── a block ──
module _ {l : List ℕ} (legible : Legible l) (place : ℕ) (ds : List Decl) (is : Items) (p : At) (h : Stands (entries_of l) place (flat_s (block ds is))) where
  block-stands : Stands (entries_of l) (place + 1) (map flat_decl ds ++ flat_items is)
  unfolding flat_s
  block-stands = stands-tail _ _ h

  pub sees-in-block : {v : List Item} (Γ : List Around) → Sees l v (scopes_of Γ) → Sees l (within opened l place ds is v) (scopes_of (around_items (block_of ds is) ds is Γ p))
  sees-in-block Γ see = rw (scopes-items (block_of ds is) ds is Γ p) (entered-block legible (place + 1) ds is block-stands (sees-marks (open_in ds) see)).sees

  pub knows-in-block : {W : Walk} {v : List Item} {Γ : List Around} → Sees l v (scopes_of Γ) → Knows W v Γ → GoodHead (block_of ds is ∷ scopes_of Γ) [] ds
      → Lies W.known place (numbers_from (classes_in W) p.cell (flat_s (block ds is))) → p.cell + cells_within (flat_s (block ds is)) ≤ 32
      → Knows W (within opened l place ds is v) (around_items (block_of ds is) ds is Γ p)
  unfolding flat_s numbers_from cells_within
  knows-in-block {W} {v} {Γ} see know good lies few =
      let numbers = rw (add-zero p.cell, numbers-append (classes_in W) p.cell (map flat_decl ds) (flat_items is)) at (lies-next _ _ lies) in
      let classes = classes-block W.globals ds is (scopes_of Γ) (classes-known see know) in
      let bytes = bytes-head legible W.globals (block_of ds is ∷ scopes_of Γ) classes (place + 1) [] ds (heads-stand legible (place + 1) ds is block-stands) good in
      knows-labels W is (at_head ds p).address
      (rw (items-are legible (place + 1) ds is block-stands)
      (knows-within (knows-marks (open_in ds) know) opened (block_of ds is) (place + 1) ds is p (λ x. x) (omega arith) (λ ss a. lookup-block a (defines_head ds ++ defines_items is) ss) (λ a f x k. k)
      (items-are-small legible (place + 1) ds is block-stands) good bytes (lies-left _ _ numbers) (omega (arith, cells-append (map flat_decl ds) (flat_items is)))))

  pub lands-in-block : {W : Walk} {v : List Item} {Γ : List Around} (st : List Ty) → Lands W v Γ → (W.dry ≡ false → Lies W.aims place (ends_s W.globals (block ds is) Γ st p))
      → Lands W (within opened l place ds is v) (around_items (block_of ds is) ds is Γ p)
  unfolding below_s passing target_of
  lands-in-block {W} {v} {Γ} st land aims =
      rw (items-are legible (place + 1) ds is block-stands)
      (lands_within W opened (head_items 4 (place + 1) ds) (place + 1 + length ds) is (marks (open_in ds) ++ v) (around_value (block_of ds is) ds Γ p) st (at_head ds p)
      (omega arith) (omega arith) (items-are-small legible (place + 1) ds is block-stands) (head-labels (place + 1) ds)
      (λ d. rw (length-head ds p) at (lies-right (ends_head ds p) _ (lies-next _ _ (aims d)))) outer)
    where
      outer : LandsOuter W opened (marks (open_in ds) ++ v) (around_value (block_of ds is) ds Γ p)
      outer a n q z e =
          let m = land.lands a n q z (sym (find-marks a z (open_in ds) v) ∙ passing-none (find a (marks (open_in ds) ++ v)) ∙ e) in
          (rw (passed-marks a z (open_in ds) v, size-head a ds (inside (block_of ds is) ∷ Γ) p) (omega (arith, m.passed)), λ d. m.aimed d ∙ sym (target-head a ds (inside (block_of ds is) ∷ Γ) p))

-- ── a block expression: its statements, and its value, for which its labels are nothing ──
module _ {l : List ℕ} (legible : Legible l) (place : ℕ) (ds : List Decl) (is : Items) (x : Expr) (p : At) (h : Stands (entries_of l) place (flat_e (block_expr ds is x))) where
  expression-stands : Stands (entries_of l) (place + 1) (map flat_decl ds ++ flat_items is)
  unfolding flat_e
  expression-stands = stands-left (map flat_decl ds ++ flat_items is) (flat_e x) (rw (← append_assoc (map flat_decl ds) (flat_items is) (flat_e x)) at (stands-tail _ _ h))

  pub sees-in-expression : {v : List Item} (Γ : List Around) → Sees l v (scopes_of Γ) → Sees l (within shut l place ds is v) (scopes_of (around_items (expression_of ds is) ds is Γ p))
  sees-in-expression Γ see = rw (scopes-items (expression_of ds is) ds is Γ p) (entered-expression legible (place + 1) ds is expression-stands (sees-marks (open_in ds) see)).sees

  pub sees-in-value : {v : List Item} (Γ : List Around) → Sees l v (scopes_of Γ) → Sees l (within shut l place ds is v) (scopes_of (around_value (expression_of ds is) ds Γ p))
  sees-in-value Γ see = rw (scopes-value (expression_of ds is) ds Γ p) (entered-expression legible (place + 1) ds is expression-stands (sees-marks (open_in ds) see)).sees

  pub knows-in-value : {W : Walk} {v : List Item} {Γ : List Around} → Sees l v (scopes_of Γ) → Knows W v Γ → GoodHead (expression_of ds is ∷ scopes_of Γ) [] ds
      → Lies W.known place (numbers_from (classes_in W) p.cell (flat_e (block_expr ds is x))) → p.cell + cells_within (flat_e (block_expr ds is x)) ≤ 32
      → Knows W (within shut l place ds is v) (around_value (expression_of ds is) ds Γ p)
  unfolding flat_e numbers_from cells_within
  knows-in-value {W} {v} {Γ} see know good lies few =
      let numbers = rw (add-zero p.cell, numbers-append (classes_in W) p.cell (map flat_decl ds) (flat_items is ++ flat_e x)) at (lies-next _ _ lies) in
      let classes = classes-expression W.globals ds is (scopes_of Γ) (classes-known see know) in
      let bytes = bytes-head legible W.globals (expression_of ds is ∷ scopes_of Γ) classes (place + 1) [] ds (heads-stand legible (place + 1) ds is expression-stands) good in
      rw (items-are legible (place + 1) ds is expression-stands)
      (knows-within (knows-marks (open_in ds) know) shut (expression_of ds is) (place + 1) ds is p across (omega arith)
      (λ ss a. lookup-expression a (defines_head ds ++ defines_items is) ss) (λ a f y k. known-across W Γ a f y k)
      (items-are-small legible (place + 1) ds is expression-stands) good bytes (lies-left _ _ numbers) (omega (arith, cells-append (map flat_decl ds) (flat_items is ++ flat_e x))))

  pub knows-in-expression : {W : Walk} {v : List Item} {Γ : List Around} → Sees l v (scopes_of Γ) → Knows W v Γ → GoodHead (expression_of ds is ∷ scopes_of Γ) [] ds
      → Lies W.known place (numbers_from (classes_in W) p.cell (flat_e (block_expr ds is x))) → p.cell + cells_within (flat_e (block_expr ds is x)) ≤ 32
      → Knows W (within shut l place ds is v) (around_items (expression_of ds is) ds is Γ p)
  knows-in-expression {W} see know good lies few = knows-labels W is (at_head ds p).address (knows-in-value see know good lies few)

  pub lands-in-expression : (W : Walk) (v : List Item) (Γ : List Around) (st : List Ty) → (W.dry ≡ false → Lies W.aims place (ends_e W.globals (block_expr ds is x) Γ st p))
      → Lands W (within shut l place ds is v) (around_items (expression_of ds is) ds is Γ p)
  unfolding below_e
  lands-in-expression W v Γ st aims =
      rw (items-are legible (place + 1) ds is expression-stands)
      (lands_within W shut (head_items 4 (place + 1) ds) (place + 1 + length ds) is (marks (open_in ds) ++ v) (around_value (expression_of ds is) ds Γ p) st (at_head ds p)
      (omega arith) (omega arith) (items-are-small legible (place + 1) ds is expression-stands) (head-labels (place + 1) ds)
      (λ d. lies-left _ _ (rw (length-head ds p) at (lies-right (ends_head ds p) _ (lies-next _ _ (aims d))))) (λ a n q z e. absurd (walled (find a (marks (open_in ds) ++ v)) n q e)))

-- ── the root: its statements, and what its procedures see of it ──
abbrev pub after_head : Tree → ℕ
after_head t = 1 + length (flat_head t.head)

abbrev pub root_sight : List ℕ → Tree → List Item
root_sight l t = add_all (root_items l (length t.head) (after_head t) (count_items t.items)) (env.item opened 0 0 0 ∷ [])

abbrev pub start_of_items : Tree → At
start_of_items t = at_head (locals t.head) (at 0 0)

abbrev pub around_root : Tree → List Around
around_root t = labels t.items (start_of_items t).address ∷ around_head (global own) (locals t.head) (start_of_root t) (at 0 0)

abbrev pub around_procedures : Tree → List Around
around_procedures t = root_variables (locals t.head) 0 (start_of_root t)

-- a program's tree, its classes numbered, and what its definitions stand for
pub record Rooted (t : Tree) (W : Walk) : Type 0 where
  pub readable : Readable t
  pub good : faults t ≡ []
  pub cells : head_cells (locals t.head) ≤ 32
  pub globals : W.globals ≡ t.head
  pub numbered : Lies W.known 1 (numbers_of t)

module _ {l : List ℕ} (legible : Legible l) (t : Tree) (same : entries_of l ≡ flatten t) where
  pub sees-in-root : Sees l (root_sight l t) (scopes_of (around_root t))
  unfolding scopes_of
  sees-in-root = rw (root-items-are legible t same, around-root (locals t.head) (start_of_root t) (at 0 0), scopes-entering of_root (locals t.head) 0 (start_of_root t)) (root-sees legible t same)

  pub sees-in-procedures : Sees l (root_sight l t) (scopes_of (around_procedures t))
  unfolding scopes_of
  sees-in-procedures = rw (root-items-are legible t same, around-shared (locals t.head) 0 (start_of_root t), scopes-entering of_shared (locals t.head) 0 (start_of_root t)) (root-sees legible t same)

  pub knows-in-root : {W : Walk} → Rooted t W → W.within ≡ false → Knows W (root_sight l t) (around_root t)
  knows-in-root {W} r w =
      knows-labels W t.items (start_of_items t).address
      (rw (root-items-are legible t same, around-root (locals t.head) (start_of_root t) (at 0 0))
      (root-knows legible t same W of_root (rw w) (λ a. look-root a (locals t.head) (root_of t)) r.readable r.good r.cells r.globals r.numbered))

  pub knows-in-procedures : {W : Walk} → Rooted t W → W.within ≡ true → Knows W (root_sight l t) (around_procedures t)
  knows-in-procedures {W} r w =
      rw (root-items-are legible t same, around-shared (locals t.head) 0 (start_of_root t))
      (root-knows legible t same W of_shared (rw w) (λ a. look-shared a (locals t.head) (root_of t)) r.readable r.good r.cells r.globals r.numbered)

  pub lands-in-root : (W : Walk) → (W.dry ≡ false → Lies W.aims (after_head t) (ends_items W.globals t.items (around_root t) [] (start_of_items t))) → Lands W (root_sight l t) (around_root t)
  unfolding find
  lands-in-root W aims =
      rw (root-items-are legible t same)
      (lands_within W opened (global_items 1 t.head) (after_head t) t.items [] (around_head (global own) (locals t.head) (start_of_root t) (at 0 0)) [] (start_of_items t)
      (omega arith) (omega arith) (root-items-small legible t same) (globals-labels 1 t.head) aims (λ a n q z e. let y : ◌≡◌ {A = ℕ} 0 1 = cc in absurd (omega arith)))

-- ── the body of a procedure, whose entry stands at a place ──
abbrev pub procedure_sight : List ℕ → ℕ → List Typed → List Item → List Item
procedure_sight l place xs v = add_all (items_at 4 l (place + 1) (length xs)) (env.item shut 0 0 0 ∷ v)

abbrev pub around_parameters : List Typed → List Around → List Around
around_parameters xs Γ = parameter_cells xs 0 (inside (procedure_of xs) ∷ Γ)

module _ {l : List ℕ} (legible : Legible l) (place : ℕ) (xs : List Typed) (us : List Entry) (h : Stands (entries_of l) (place + 1) (map flat_typed xs ++ us)) where
  parameters-are : items_at 4 l (place + 1) (length xs) ≡ head_items 4 (place + 1) (map declare xs)
  parameters-are = ap (items_at 4 l (place + 1)) (sym (length-map declare xs)) ∙ head-items legible 4 (place + 1) (map declare xs) (rw (typed-decls xs) at (stands-left (map flat_typed xs) us h))

  parameters-small : Small (head_items 4 (place + 1) (map declare xs))
  parameters-small = rw parameters-are at (items-small legible 4 (place + 1) (length xs))

  pub sees-in-procedure : {v : List Item} (Γ : List Around) → Sees l v (scopes_of Γ) → Sees l (procedure_sight l place xs v) (scopes_of (around_parameters xs Γ))
  unfolding scopes_of
  sees-in-procedure Γ see = rw (parameters-are, scopes-parameters Anything xs 0 (inside (procedure_of xs) ∷ Γ))
      (sees-procedure see (head_items 4 (place + 1) (map declare xs)) (defines_typed xs) (typed-matches l (place + 1) xs) parameters-small)

  pub knows-in-procedure : {W : Walk} {v : List Item} {Γ : List Around} → Knows W v Γ → length (classes_of W.globals) ≤ 16 → length xs ≤ 32
      → Lies W.known (place + 1) (numbers_from (classes_in W) 0 (map flat_typed xs ++ us)) → Knows W (procedure_sight l place xs v) (around_parameters xs Γ)
  unfolding scopes_of bound_at global_at
  knows-in-procedure {W} {v} {Γ} know classes few lies =
      rw parameters-are
      (knows-inside W know shut (head_items 4 (place + 1) (map declare xs)) (defines_typed xs) across (omega arith) parameters-small
      (λ a. ap (lookup a) (scopes-parameters Anything xs 0 (inside (procedure_of xs) ∷ Γ)) ∙ lookup-procedure a (defines_typed xs) (scopes_of Γ)) (λ a f x k. known-across W Γ a f x k)
      (λ a e. past-parameters W a xs 0 (inside (procedure_of xs) ∷ Γ) e)
      (λ a. parameters-mean W a xs (place + 1) 0 (inside (procedure_of xs) ∷ Γ) (bytes-typed W.globals classes xs)
      (lies-left _ _ (rw (numbers-append (classes_in W) 0 (map flat_typed xs) us) at lies)) (omega arith)))

  pub lands-in-procedure : (W : Walk) (v : List Item) (Γ : List Around) → Lands W (procedure_sight l place xs v) Γ
  lands-in-procedure W v Γ = record {
    lands = λ a n q z e.
        absurd (go a n q (first_in a (head_items 4 (place + 1) (map declare xs))) refl
        (sym (find-block a z shut (head_items 4 (place + 1) (map declare xs)) v (omega arith) parameters-small) ∙ ap (λ is. find a (add_all is (env.item shut 0 0 0 ∷ v))) (sym parameters-are) ∙ e));
  }
    where
      go : (a n q : ℕ) (f : Found) → first_in a (head_items 4 (place + 1) (map declare xs)) ≡ f → or_outer f (env.passing true (find a v)) ≡ Def 5 n q false → ⊥
      go a n q Nothing e k = walled (find a v) n q k
      go a n q (Def s m r w) e k = let i : s ≡ 5 = cc in head-labels (place + 1) (map declare xs) a s m r w e i
