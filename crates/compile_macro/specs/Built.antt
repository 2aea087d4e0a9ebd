-- A tree in order compiles to a macro that is accepted, and that is `Built` for the simulation.
use Rattle.std.specs.Prelude.{Bool, true, ◌&&◌, ◌||◌, ◌≡◌, eqb, leb, drop}
use Rattle.std.proofs.Math.Bool.{false}
use Rattle.std.proofs.Math.Path.{refl, ap, subst}
use Rattle.std.proofs.Common.{sym, ◌∙◌}
use mathlib.Core.List.{List, [], ◌∷◌, ◌++◌, map}
use Rattle.std.proofs.Math.Option.{Option, none, some}
use Prim.Native.Nat.{ℕ, zero, suc, ◌+◌, ◌≤◌, ◌<◌}
use native.Mathlib.Omega.{arith}
use Rattle.std.proofs.Math.ListN.{length, get_elem?, length-append}
use borrow.Author.Tests.{le-ltb, leb-true, eqb-true, eqb-false, eq-eqb, ne_eqb}
use Rattle.language.specs.Program.{flat_decl, flat_items, flat_body, total as sum_of}
use Rattle.logic.specs.Choice.{If◌then◌else◌}
use Rattle.words.specs.Laws.{Bytes}
use Rattle.values.specs.Types.{Ty, sames}
use Rattle.values.specs.Ends.{accepted}
use Rattle.language.specs.Tree.{Typed, Global, local, class, procedure, Tree, locals}
use Rattle.language.specs.Tree.{Body as TreeBody, proper, function}
use Rattle.language.specs.Names.{types, procedure_of, defines_typed}
use Rattle.language.specs.Names.{results as results_of}
use Rattle.language.specs.Limits.{body_usage, root_usage, cells_items}
use Rattle.language.specs.Formed.{InLimits}
use Rattle.language.specs.Execute.{Procedure, procedure_in, class_in}
use Rattle.bytecode.specs.Macro.{Body, Shape, Placed}
use Rattle.bytecode.specs.Instructions.{Owner, own, root, return, body_at, procedure_at, cell_ty, cells_of}
use Rattle.bytecode.specs.Machine.{fetch}
use Rattle.bytecode.specs.Rules.{at_first, head_fault, body_fault, roomy, fault_at, judge_macro}
use Rattle.logic.specs.Lists.{Each}
use Rattle.logic.specs.ListLaws.{each_at}
use Rattle.logic.specs.OptionLaws.{never-some, same_some, kept}
use Rattle.logic.specs.Tests.{halves}
use Rattle.bytecode_laws.specs.Terms.{Named, ReadClass, ReadBody, ReadShape, WellFormed, OfBytes, Narrow, Passed}
use Rattle.compile_code.specs.Code.{Code, nil, op, mark, cell, ◌▸◌, At, at, after, cells_in, placed}
use Rattle.compile_code.specs.Compile.{Around, inside, global, labels, held_in, code_items, ty_in, Proc, procs_of, classes_of, index_of, proc_names, class_names, body_number}
use Rattle.compile_code.specs.Encode.{Part, root_part, proc_part, proc_parts, parts, lines_of, heads_of, record_of, records_of, field_types, compiled, macro_of, code_root}
use Rattle.compile_code.specs.Encode.{code_proc, code_body, root_variables, start_of_root, around_body}
use Rattle.compile_simulation.specs.Meets.{Setting}
use Rattle.compile_simulation.specs.Placed.{Fit, Stands}
use Rattle.compile_code.specs.Counts.{held-parameters, held-roots}
use Rattle.compile_simulation.specs.Calls.{Static}
use Rattle.compile_simulation.specs.Sim.{OkBody, Called}
use Rattle.compile_simulation.specs.Sim.{OkItems as ok_names}
use Rattle.compile_simulation.specs.Root.{OkRoot, at_root}
use Rattle.compile_simulation.specs.Top.{Built}
use Rattle.compile_rules.specs.Flows.{Goes, Seg, Marks}
use Rattle.bytecode.specs.Rules.{flow, effect}
use Rattle.compile_rules.specs.Faultless.{Aimed, Lined}
use Rattle.compile_rules.specs.Bodies.{lines_alone, shown-marks, segged, passes}
use Rattle.compile_rules.specs.Pass.{Celled}
use Rattle.compile_rules.specs.Records.{Writable}
use Rattle.compile_records.specs.Writing.{judged, bytes}
use Rattle.compile_records.specs.Writing.{Writable as CanWrite, SmallBody, SmallShape, passes as all-passed}
use Rattle.compile_macro.specs.Laid.{ops, after-ops, Chain, total, lines-length, records-length, rises, begins, Ops, Lines, ops-lines, begins-empty, its-lined, stands, no-fault, part_of}
use Rattle.compile_macro.specs.Fields.{Entered, Holdable, holdable-writable, more-ops, of-head, fields_s, fields_items, fields_e}
use Rattle.compile_macro.specs.Cells.{new_cells, cells-length, count_head, count_s, count_items, count_e, celled, each-cell}
use Rattle.compile_macro.specs.Shapes.{Heads}
use Rattle.compile_macro.specs.Narrow.{roomy-marks, ShapeLines, shape-lines, both-marks, placed-each, placed-ascends, placed-few, flowing, two-ops, narrow-op, narrow-lines, each_more}
use Rattle.language.specs.Faults.{size_items, size_global}
use Rattle.compile_macro.specs.Short.{short}
use Rattle.compile_macro.specs.Right.{RootOk, OkBodyTy, root-cells-known, root-marks-known, root-flows, proc-cells-known, proc-marks-known, proc-flows}

abbrev pub shared : Tree → List Around
shared t = root_variables (locals t.head) 0 (start_of_root t)

abbrev pub setting_of : Tree → (ℕ → ℕ → ℕ) → Setting
setting_of t o = record { macro = compiled t; oracle = o; shared-names = shared t }

abbrev pub class_count : Tree → ℕ
class_count t = length (compiled t).classes

-- what is asked of a procedure, the k-th, as body suc k
pub record ProcInOrder (t : Tree) (k : ℕ) (q : Proc) : Type 0 where
  pub typed : OkBodyTy (compiled t) (suc k) t.head q.body (around_body t q.parameters)
  pub named : OkBody t.head q.body (around_body t q.parameters)
  pub static : Static t.head (shared t) q.parameters (procedure_of q.parameters)
  pub parameters-known : Each (Named (class_count t)) (map (ty_in t.head) (types q.parameters))
  pub results-known : Each (Named (class_count t)) (map (ty_in t.head) (results_of q.body))
  pub keeps : InLimits (body_usage q.parameters q.body)
  pub entries : Each Entered (flat_body q.body)

-- what is asked of the tree: of the root's body and of each procedure's, what the loading rules ask by types, the simulation by names, and the limits
pub record InOrder (t : Tree) : Type 0 where
  pub root-typed : RootOk (compiled t) t
  pub root-named : (o : ℕ → ℕ → ℕ) → OkRoot t.head (locals t.head) (start_of_root t) 0
      (λ Δ n. Fit (setting_of t o) t.head (at_root (setting_of t o) t.head) Δ n × ((x : ℕ) → ok_names t.head t.items (labels t.items x ∷ Δ)))
  pub root-keeps : InLimits (root_usage t)
  pub root-entries : Each Entered (map flat_decl (locals t.head)) × Each Entered (flat_items t.items)
  pub procs : (k : ℕ) (q : Proc) → get_elem? (procs_of t.head) k ≡ some q → ProcInOrder t k q
  pub fields-known : Each (ReadClass (class_count t)) (compiled t).classes
  pub few-classes : class_count t ≤ 16
  pub few-procs : length (procs_of t.head) ≤ 63
  pub entries : sum_of size_global t.head + size_items t.items ≤ 2048

-- ── lists ──
each_from : {A : Type 0} (P : A → Type 0) (xs : List A) → ((k : ℕ) (x : A) → get_elem? xs k ≡ some x → P x) → Each P xs
each_from P [] f = tt
each_from P (x ∷ xs) f = (f 0 x refl, each_from P xs (λ k y h. f (suc k) y h))

drop_len : {A : Type 0} (xs ys : List A) → drop (length xs) (xs ++ ys) ≡ ys
drop_len [] ys = refl
drop_len (x ∷ xs) ys = drop_len xs ys

each_app : {A : Type 0} (P : A → Type 0) (xs ys : List A) → Each P xs → Each P ys → Each P (xs ++ ys)
each_app P [] ys h g = g
each_app P (x ∷ xs) ys h g = (h.0, each_app P xs ys h.1 g)

pub params-length : (f : Ty → Ty) (xs : List Typed) → length (map f (types xs)) ≡ length xs
unfolding types
params-length f [] = refl
params-length f (x ∷ xs) = ap suc (params-length f xs)

head_at : (ps : List Part) (k : ℕ) (p : Part) → get_elem? ps k ≡ some p → get_elem? (heads_of ps) k ≡ some p.head
unfolding heads_of
head_at [] k p h = never-some h
head_at (q ∷ ps) zero p h = let e : q ≡ p = same_some h in ap (λ (x : Part). some x.head) e
head_at (q ∷ ps) (suc k) p h = head_at ps k p h

heads-length : (ps : List Part) → length (heads_of ps) ≡ length ps
unfolding heads_of
heads-length [] = refl
heads-length (p ∷ ps) = ap suc (heads-length ps)

-- ── procedures and classes are found by their numbers ──
turned : (a b : ℕ) → eqb b a ≡ eqb a b
turned a b = go (eqb a b) refl
  where
    go : (x : Bool) → eqb a b ≡ x → eqb b a ≡ x
    go true e = eq-eqb b a (sym (eqb-true a b e))
    go false e = ne_eqb b a (λ z. eqb-false a b e (sym z))

abbrev asked : Proc → Procedure
asked r = record { parameters = r.parameters; body = r.body }

proc-found : (gs : List Global) (a : ℕ) (q : Procedure) → procedure_in a gs ≡ some q → (r : Proc) × (get_elem? (procs_of gs) (index_of a (proc_names (procs_of gs))) ≡ some r) × (asked r ≡ q)
unfolding procedure_in procs_of proc_names index_of
proc-found [] a q h = never-some h
proc-found (local d ∷ gs) a q h = proc-found gs a q h
proc-found (class c xs ∷ gs) a q h = proc-found gs a q h
proc-found (procedure b xs d ∷ gs) a q h = rw (turned a b) (go (eqb a b) h (λ g. proc-found gs a q g))
  where
    go : (x : Bool) → (If x then some (record { parameters = xs; body = d }) else procedure_in a gs) ≡ some q
        → (procedure_in a gs ≡ some q → (r : Proc) × (get_elem? (procs_of gs) (index_of a (proc_names (procs_of gs))) ≡ some r) × (asked r ≡ q))
        → (r : Proc) × (get_elem? (record { name = b; parameters = xs; body = d } ∷ procs_of gs) (If x then 0 else suc (index_of a (proc_names (procs_of gs)))) ≡ some r) × (asked r ≡ q)
    go true e f = (record { name = b; parameters = xs; body = d }, refl, same_some e)
    go false e f = f e

class-found : (hs gs : List Global) (c : ℕ) (xs : List Typed) → class_in c gs ≡ some xs → (ts : List Ty)
    × (get_elem? (field_types hs (classes_of gs)) (index_of c (class_names (classes_of gs))) ≡ some ts) × (length ts ≡ length xs)
unfolding class_in classes_of class_names index_of field_types
class-found hs [] c xs h = never-some h
class-found hs (local d ∷ gs) c xs h = class-found hs gs c xs h
class-found hs (procedure b ys d ∷ gs) c xs h = class-found hs gs c xs h
class-found hs (class b ys ∷ gs) c xs h = rw (turned c b) (go (eqb c b) h (λ g. class-found hs gs c xs g))
  where
    go : (x : Bool) → (If x then some ys else class_in c gs) ≡ some xs
        → (class_in c gs ≡ some xs → (ts : List Ty) × (get_elem? (field_types hs (classes_of gs)) (index_of c (class_names (classes_of gs))) ≡ some ts) × (length ts ≡ length xs))
        → (ts : List Ty) × (get_elem? (map (ty_in hs) (types ys) ∷ field_types hs (classes_of gs)) (If x then 0 else suc (index_of c (class_names (classes_of gs)))) ≡ some ts) × (length ts ≡ length xs)
    go true e f = (map (ty_in hs) (types ys), refl, params-length (ty_in hs) ys ∙ ap length (same_some e))
    go false e f = f e

-- ── parts ──
module _ (t : Tree) where
  proc-part : (ps : List Proc) (a j : ℕ) (p : Part) → get_elem? (proc_parts t ps a) j ≡ some p → (q : Proc) × (b : ℕ) × (get_elem? ps j ≡ some q) × (proc_part t q b ≡ p)
  unfolding proc_parts
  proc-part [] a j p h = never-some h
  proc-part (q ∷ ps) a zero p h = (q, a, refl, same_some h)
  proc-part (q ∷ ps) a (suc j) p h = proc-part ps (after (code_proc t q a) (at a 0)).address j p h

  pub part-proc : (ps : List Proc) (a j : ℕ) (q : Proc) → get_elem? ps j ≡ some q → (b : ℕ) × (get_elem? (proc_parts t ps a) j ≡ some (proc_part t q b))
  unfolding proc_parts
  part-proc [] a j q h = never-some h
  part-proc (x ∷ ps) a zero q h = let e : x ≡ q = same_some h in (a, ap (λ y. some (proc_part t y a)) e)
  part-proc (x ∷ ps) a (suc j) q h = part-proc ps (after (code_proc t x a) (at a 0)).address j q h

  parts-length : (ps : List Proc) (a : ℕ) → length (proc_parts t ps a) ≡ length ps
  unfolding proc_parts
  parts-length [] a = refl
  parts-length (q ∷ ps) a = ap suc (parts-length ps (after (code_proc t q a) (at a 0)).address)

  by_part : (P : ℕ → Part → Type 0) → P 0 (root_part t) → ((j : ℕ) (q : Proc) (b : ℕ) → get_elem? (procs_of t.head) j ≡ some q
      → get_elem? (parts t) (suc j) ≡ some (proc_part t q b) → P (suc j) (proc_part t q b))
      → (k : ℕ) (p : Part) → get_elem? (parts t) k ≡ some p → P k p
  unfolding parts
  by_part P r f zero p h = subst (P 0) (same_some h) r
  by_part P r f (suc j) p h =
      let q = proc-part (procs_of t.head) (after (code_root t) (at 0 0)).address j p h in
      subst (P (suc j)) q.3 (f j q.0 q.1 q.2 (h ∙ ap some (sym q.3)))

  proc-chain : (ps : List Proc) (a b : ℕ) → a ≡ b → Chain b (proc_parts t ps a)
  unfolding proc_parts
  proc-chain [] a b e = tt
  proc-chain (q ∷ ps) a b e = (e, (_, _, refl), proc-chain ps (after (code_proc t q a) (at a 0)).address (b + ops (code_proc t q a)) (let z = after-ops (code_proc t q a) (at a 0) in omega arith))

  pub chain : Chain 0 (parts t)
  unfolding parts
  chain = (refl, (_, _, refl), proc-chain (procs_of t.head) (after (code_root t) (at 0 0)).address (0 + ops (code_root t)) (after-ops (code_root t) (at 0 0)))

  bodies-are : (compiled t).bodies ≡ heads_of (parts t)
  unfolding compiled
  bodies-are = refl

  code_is : (compiled t).code ≡ records_of (lines_of (parts t))
  unfolding compiled
  code_is = refl

  shapes-are : (compiled t).shapes ≡ placed 0 (lines_of (parts t))
  unfolding compiled
  shapes-are = refl

  pub head_of : (k : ℕ) (p : Part) → get_elem? (parts t) k ≡ some p → body_at (compiled t) k ≡ some p.head
  head_of k p h = ap (λ (bs : List Body). get_elem? bs k) bodies-are ∙ head_at (parts t) k p h

  root-there : get_elem? (parts t) 0 ≡ some (root_part t)
  unfolding parts
  root-there = refl

  -- where a part's code begins
  abbrev start_of : Part → At
  start_of p = at p.head.first p.head.parameters

  pub root-celled : Celled (compiled t) 0 t.head (code_root t) (at 0 0)
  root-celled = (celled (compiled t) 0 t.head (root_part t).head (head_of 0 (root_part t) root-there) (code_root t) (at 0 0) [] refl).0

  proc-celled : (j : ℕ) (q : Proc) (b : ℕ) → get_elem? (parts t) (suc j) ≡ some (proc_part t q b) → Celled (compiled t) (suc j) t.head (code_proc t q b) (at b (length q.parameters))
  proc-celled j q b h =
      (celled (compiled t) (suc j) t.head (proc_part t q b).head (head_of (suc j) (proc_part t q b) h) (code_proc t q b) (at b (length q.parameters)) []
      (subst (λ n. drop n (map (ty_in t.head) (types q.parameters) ++ cells_in (code_proc t q b) []) ≡ cells_in (code_proc t q b) [])
      (params-length (ty_in t.head) q.parameters) (drop_len (map (ty_in t.head) (types q.parameters)) (cells_in (code_proc t q b) [])))).0

  module _ (O : InOrder t) where
    abbrev N : Ty → Type 0
    N ty = Named (class_count t) ty

    -- every cell, result and field is of a known type
    cells-known : (k : ℕ) (p : Part) → get_elem? (parts t) k ≡ some p → Each N p.head.cells
    cells-known = by_part (λ k p. Each N p.head.cells)
        (each-cell N (code_root t) [] (root-cells-known (compiled t) t O.root-typed root-celled) tt)
        (λ j q b h g. each_app N (map (ty_in t.head) (types q.parameters)) (cells_in (code_proc t q b) []) (O.procs j q h).parameters-known
        (each-cell N (code_proc t q b) [] (proc-cells-known (compiled t) t j q b (O.procs j q h).typed (proc-celled j q b g)) tt))

    results-are : (k : ℕ) (p : Part) → get_elem? (parts t) k ≡ some p → Each N p.head.results × (length p.head.results ≤ 1)
    results-are = by_part (λ k p. Each N p.head.results × (length p.head.results ≤ 1)) (tt, omega arith) (λ j q b h g. ((O.procs j q h).results-known, one q.body))
      where
        one : (x : TreeBody) → length (map (ty_in t.head) (results_of x)) ≤ 1
        one (proper s) = omega arith
        one (function u e) = omega arith

    few-cells : (k : ℕ) (p : Part) → get_elem? (parts t) k ≡ some p → length p.head.cells ≤ 32
    unfolding new_cells
    few-cells = by_part (λ k p. length p.head.cells ≤ 32)
        (let z = cells-length (code_root t) [] in let y = count_head t.head (global own) (locals t.head) (start_of_root t) (at 0 0)
        (λ Δ q. code_items t.head t.items (labels t.items q.address ∷ Δ) [] q) (cells_items t.items)
        (λ Δ q. count_items t.head t.items (labels t.items q.address ∷ Δ) [] q) in
        let x = O.root-keeps.cells in omega arith)
        (λ j q b h g. let z = cells-length (code_proc t q b) [] in let y = body-count q.body q.parameters (at b (length q.parameters)) in let x = (O.procs j q h).keeps.cells in
        let v = params-length (ty_in t.head) q.parameters in let u = length-append (map (ty_in t.head) (types q.parameters)) (cells_in (code_proc t q b) []) in omega arith)
      where
        body-count : (x : TreeBody) (xs : List Typed) (p : At) → length xs + new_cells (code_body t.head x (around_body t xs) p) ≡ (body_usage xs x).cells
        body-count (proper s) xs p = let z = count_s t.head s (around_body t xs) [] p in omega arith
        body-count (function u e) xs p = let z = count_e t.head e (around_body t xs) [] p in omega arith

    known-part : (k : ℕ) (b : Body) → body_at (compiled t) k ≡ some b → (p : Part) × (get_elem? (parts t) k ≡ some p) × (p.head ≡ b)
    known-part k b h = part_of (parts t) k b (ap (λ (bs : List Body). get_elem? bs k) (sym bodies-are) ∙ h)

    body-cells : (k : ℕ) (b : Body) → body_at (compiled t) k ≡ some b → Each N b.cells × (length b.cells ≤ 32)
    body-cells k b h = let q = known-part k b h in subst (λ (x : Body). Each N x.cells × (length x.cells ≤ 32)) q.2 (cells-known k q.0 q.1, few-cells k q.0 q.1)

    heads : Heads (compiled t)
    heads = record {
      cells = λ k o c ty h. of-cell k o c ty h;
      results = λ b B h. of-result b B h;
      fields =
          λ c x ty h. let q = kept (get_elem? (compiled t).classes c) (λ ts. get_elem? ts x) ty h in
          each_at N q.0 x ty (each_at (ReadClass (class_count t)) (compiled t).classes c q.0 O.fields-known q.1).named q.2;
    }
      where
        of-body : (o : Option Body) (c : ℕ) (ty : Ty) → ((b : Body) → o ≡ some b → Each N b.cells) → get_elem? (cells_of o) c ≡ some ty → N ty
        of-body none c ty f h = never-some h
        of-body (some b) c ty f h = each_at N b.cells c ty (f b refl) h

        of-cell : (k : ℕ) (o : Owner) (c : ℕ) (ty : Ty) → cell_ty (compiled t) k o c ≡ some ty → N ty
        of-cell k own c ty h = of-body (body_at (compiled t) k) c ty (λ b e. (body-cells k b e).0) h
        of-cell k root c ty h = of-body (body_at (compiled t) 0) c ty (λ b e. (body-cells 0 b e).0) h

        of-result : (b : ℕ) (B : Body) → procedure_at (compiled t) b ≡ some B → Each N B.results
        of-result zero B h = never-some h
        of-result (suc b) B h = let q = known-part (suc b) B h in subst (λ (x : Body). Each N x.results) q.2 (results-are (suc b) q.0 q.1).0

    -- every body's code: what it holds, how the state flows, of what types its shapes are
    holdable : (k : ℕ) (p : Part) → get_elem? (parts t) k ≡ some p → Ops Holdable p.code
    unfolding Ops flat_body
    holdable = by_part (λ k p. Ops Holdable p.code) (
      of-head t.head (global own) (locals t.head) (start_of_root t) (at 0 0)
          (λ Δ q. code_items t.head t.items (labels t.items q.address ∷ Δ) [] q) O.root-entries.0
          (λ Δ q. fields_items t.head t.items (labels t.items q.address ∷ Δ) [] q O.root-entries.1),
      tt,
    )
        (λ j q b h g. (in-body q.body (around_body t q.parameters) (at b (length q.parameters)) (O.procs j q h).entries, tt))
      where
        in-body : (x : TreeBody) (Γ : List Around) (p : At) → Each Entered (flat_body x) → Ops Holdable (code_body t.head x Γ p)
        in-body (proper s) Γ p h = fields_s t.head s Γ [] p h
        in-body (function u e) Γ p h = fields_e t.head e Γ [] p h

    proc-held : (q : Proc) → held_in (around_body t q.parameters) ≡ []
    unfolding held_in
    proc-held q = held-parameters q.parameters 0 (inside (procedure_of q.parameters) ∷ shared t) ∙ held-roots (locals t.head) 0 (start_of_root t)

    flows : (k : ℕ) (p : Part) → get_elem? (parts t) k ≡ some p → (Aim : ℕ → Shape → Type 0) → Marks (compiled t) k Aim p.code (start_of p) → Seg (compiled t) k Aim p.code at_first none
    flows k p e Aim = by_part (λ k p. Marks (compiled t) k Aim p.code (start_of p) → Seg (compiled t) k Aim p.code at_first none)
        (λ g. root-flows (compiled t) t O.root-typed root-celled O.root-keeps Aim g)
        (λ j q b h g w. proc-flows (compiled t) t j q b (O.procs j q h).typed (proc-celled j q b g) (proc-held q) (proc_part t q b).head
        (head_of (suc j) (proc_part t q b) g) refl (O.procs j q h).keeps Aim w) k p e

    marks-known : (k : ℕ) (p : Part) → get_elem? (parts t) k ≡ some p → Marks (compiled t) k (λ a s. Each N s.operands) p.code (start_of p)
    marks-known = by_part (λ k p. Marks (compiled t) k (λ a s. Each N s.operands) p.code (start_of p))
        (root-marks-known (compiled t) t O.root-typed root-celled heads)
        (λ j q b h g. proc-marks-known (compiled t) t j q b (O.procs j q h).typed (proc-celled j q b g) heads)

    -- ── the macro is well-formed, and no head is at fault ──
    code-size : length (compiled t).code ≡ total (parts t)
    code-size = ap length code_is ∙ records-length (parts t) chain

    -- what a shape must keep to
    abbrev Fine : Shape → Type 0
    Fine s = Each N s.operands × (roomy s ≡ true)

    fine-marks : (k : ℕ) (p : Part) → get_elem? (parts t) k ≡ some p → Marks (compiled t) k (λ a s. Fine s) p.code (start_of p)
    unfolding Marks
    fine-marks k p h = both-marks (compiled t) k (λ s. Each N s.operands) (λ s. roomy s ≡ true) p.code (start_of p) (marks-known k p h)
        (roomy-marks (compiled t) k (λ a s. Unit {0}) p.code (start_of p) at_first none (flows k p h (λ a s. Unit {0}) (no-aim k p.code (start_of p))))
      where
        no-aim : (k : ℕ) (x : Code) (q : At) → Marks (compiled t) k (λ a s. Unit {0}) x q
        no-aim k nil q = tt
        no-aim k (op i) q = tt
        no-aim k (mark s) q = tt
        no-aim k (cell u) q = tt
        no-aim k (x ▸ y) q = (no-aim k x q, no-aim k y (after x q))

    fine-lines : (i : ℕ) (ps : List Part) → ((k : ℕ) (p : Part) → get_elem? ps k ≡ some p → Marks (compiled t) (i + k) (λ a s. Fine s) p.code (start_of p)) → ShapeLines Fine (lines_of ps)
    unfolding lines_of
    fine-lines i [] f = tt
    fine-lines i (p ∷ ps) f = shape-lines (compiled t) (i + 0) Fine p.code (start_of p) none (λ o. lines_of ps) (f 0 p refl) tt
        (λ o u. fine-lines (suc i) ps (λ k q h. subst (λ n. Marks (compiled t) n (λ a s. Fine s) q.code (start_of q)) (omega arith) (f (suc k) q h)))

    fine-shapes : Each (λ (p : Placed). (0 ≤ p.address) × (p.address < total (parts t)) × Fine p.found) (compiled t).shapes
    fine-shapes = rw shapes-are (placed-each Fine (lines_of (parts t)) 0 (total (parts t)) (let z = lines-length (parts t) 0 chain in omega arith)
        (fine-lines 0 (parts t) (λ k p h. subst (λ n. Marks (compiled t) n (λ a s. Fine s) p.code (start_of p)) (omega arith) (fine-marks k p h))))

    bodies-read : Each (ReadBody (class_count t) (length (compiled t).code)) (compiled t).bodies
    unfolding ops
    bodies-read = each_from (ReadBody (class_count t) (length (compiled t).code)) (compiled t).bodies (λ k b h.
        let q = known-part k b h in let p = q.0 in
        subst (λ (x : Body). ReadBody (class_count t) (length (compiled t).code) x) q.2 (record {
          begins = rw code-size (let z = begins (parts t) 0 chain p k q.1 in let y = some-op k p q.1 in omega arith);
          fewer-parameters = by_part (λ k (p : Part). p.head.parameters ≤ length p.head.cells) (omega arith)
              (λ j r c h' g. let z = length-append (map (ty_in t.head) (types r.parameters))
              (cells_in (code_proc t r c) []) in let y = params-length (ty_in t.head) r.parameters in omega arith) k p q.1;
          one-result = (results-are k p q.1).1;
          named-results = (results-are k p q.1).0;
          named-cells = cells-known k p q.1;
        }))
      where
        some-op : (k : ℕ) (p : Part) → get_elem? (parts t) k ≡ some p → 1 ≤ ops p.code
        some-op = by_part (λ k (p : Part). 1 ≤ ops p.code) (omega arith) (λ j q b h g. omega arith)

    well-formed : WellFormed (compiled t)
    unfolding parts
    well-formed = record {
      some-body = rw bodies-are (rw (heads-length (parts t)) (rw parts-count (omega arith)));
      few-bodies = rw bodies-are (rw (heads-length (parts t)) (rw parts-count (let z = O.few-procs in omega arith)));
      few-classes = O.few-classes;
      classes-read = O.fields-known;
      root-first = λ b h. ap (λ (x : Body). x.first) (same_some (sym h ∙ head_of 0 (root_part t) root-there));
      rises = rw bodies-are (rises (parts t) 0 0 (omega arith) chain);
      bodies-read = bodies-read;
      shapes-read =
          rw code-size (each_more (λ (p : Placed). (0 ≤ p.address) × (p.address < total (parts t)) × Fine p.found)
          (ReadShape (class_count t) (total (parts t))) (λ p h. record { stands = h.1; named = h.2.0 }) (compiled t).shapes fine-shapes);
      ascends = rw shapes-are (placed-ascends (lines_of (parts t)) 0 0 (omega arith));
    }
      where
        parts-count : length (parts t) ≡ suc (length (procs_of t.head))
        parts-count = ap suc (parts-length (procs_of t.head) (after (code_root t) (at 0 0)).address)

    heads-right : (i : ℕ) → body_fault (compiled t).bodies 0 i ≡ false
    unfolding body_fault sames
    heads-right i =
        all_right (compiled t).bodies 0 (λ k b h. let q = known-part k b h in let e : k
        ≡ 0 + k = omega arith in subst (λ j. head_fault j b ≡ false) e (subst (λ (x : Body). head_fault k x ≡ false) q.2 (right k q.0 q.1)))
      where
        right : (k : ℕ) (p : Part) → get_elem? (parts t) k ≡ some p → head_fault k p.head ≡ false
        right zero p h =
            let e : root_part t ≡ p = same_some (sym root-there ∙ h) in
            subst (λ (x : Part). head_fault 0 x.head ≡ false) e (rw (le-ltb 32 (length (root_part t).head.cells) (few-cells 0 (root_part t) root-there)) refl)
        right (suc k) p h = le-ltb 32 (length p.head.cells) (few-cells (suc k) p h)

        fault-not : (a b c : Bool) → b ≡ false → c ≡ false → ((a && b) || c) ≡ false
        fault-not true b c e f = rw (e, f) refl
        fault-not false b c e f = rw f refl

        all_right : (bs : List Body) (n : ℕ) → ((k : ℕ) (b : Body) → get_elem? bs k ≡ some b → head_fault (n + k) b ≡ false) → body_fault bs n i ≡ false
        all_right [] n f = refl
        all_right (b ∷ bs) n f = fault-not (eqb b.first i) (head_fault n b) (body_fault bs (suc n) i) (let e : n + 0 ≡ n = omega arith in subst (λ k. head_fault k b ≡ false) e (f 0 b refl))
            (all_right bs (suc n) (λ k c h. let e : n + suc k ≡ suc n + k = omega arith in subst (λ j. head_fault j c ≡ false) e (f (suc k) c h)))

    -- ── each body's lines, in the macro ──
    pub lined : (k : ℕ) (p : Part) → get_elem? (parts t) k ≡ some p → Lined (compiled t) k (lines_alone (compiled t) k p.code) p.head.first
    lined k p h = its-lined (compiled t) (parts t) bodies-are code_is shapes-are well-formed heads-right chain k p h (more-ops Holdable Writable holdable-writable p.code (holdable k p h))

    pub right-everywhere : (i : ℕ) → i < length (compiled t).code → fault_at (compiled t) i ≡ false
    right-everywhere = no-fault (compiled t) (parts t) bodies-are code_is shapes-are well-formed heads-right chain (λ k p h.
        passes (compiled t) k p.code (start_of p) (flows k p h) (lined k p h) (begins-empty (compiled t) (parts t) bodies-are code_is shapes-are well-formed heads-right chain k p h))

    is-short : total (parts t) ≤ 45120
    is-short = short t O.root-keeps.holds (λ k q h. (O.procs k q h).keeps.holds) O.few-procs O.entries

    pub few-instructions : length (compiled t).code ≤ 45120
    few-instructions = rw code-size is-short

    pub few-shapes : length (compiled t).shapes ≤ 45120
    few-shapes = rw shapes-are (let z = placed-few (lines_of (parts t)) 0 in let y = lines-length (parts t) 0 chain in let x = is-short in omega arith)

    code-short : length (compiled t).code < 65536
    code-short = let x = few-instructions in omega arith

    narrow-lines-of : (i : ℕ) (ps : List Part) → ((k : ℕ) (p : Part) → get_elem? ps k ≡ some p → Ops (λ x. OfBytes (record_of x)) p.code) → Lines (λ x. OfBytes (record_of x)) (lines_of ps)
    unfolding lines_of
    narrow-lines-of i [] f = tt
    narrow-lines-of i (p ∷ ps) f = ops-lines (λ x. OfBytes (record_of x)) p.code none (λ o. lines_of ps) (f 0 p refl) (λ o. narrow-lines-of (suc i) ps (λ k q h. f (suc k) q h))

    narrow : Narrow (compiled t)
    narrow = record {
      few-instructions = code-short;
      instructions-narrow = rw code_is (narrow-lines (lines_of (parts t)) (narrow-lines-of 0 (parts t) (λ k p h.
          two-ops Holdable (λ i. (s : Shape) × (g : Option Shape) × Goes (Aimed (compiled t) k) (flow (effect (compiled t) k i s) s) g) (λ x. OfBytes (record_of x))
          (narrow-op (compiled t) k well-formed code-short (λ j b e. (body-cells j b e).1)) p.code (holdable k p h)
          (flowing (compiled t) k p.code at_first none (segged (compiled t) k p.code (start_of p) (flows k p h) (lined k p h))))));
    }

    -- ── the macro can be written, and is accepted ──
    pub writable : CanWrite (compiled t)
    writable = record {
      well-formed = well-formed;
      narrow = narrow;
      few-shapes = let x = few-shapes in omega arith;
      small-bodies = each_from SmallBody (compiled t).bodies (λ k b h. let z = (body-cells k b h).1 in omega arith);
      small-shapes = each_more (λ (p : Placed). (0 ≤ p.address) × (p.address < total (parts t)) × Fine p.found) SmallShape (λ p h.
          let q = halves (leb p.found.holds 16) (leb (length p.found.operands) 32) h.2.1 in
          let a = leb-true p.found.holds 16 q.0 in let b = leb-true (length p.found.operands) 32 q.1 in (omega arith, omega arith)) (compiled t).shapes fine-shapes;
    }

    pub macro-bytes : Bytes (macro_of t)
    unfolding macro_of
    macro-bytes = bytes (compiled t) writable

    -- demand 3, its last sentence: the compiled macro passes the loading check
    pub accepted-macro : judge_macro (macro_of t) ≡ accepted (compiled t)
    unfolding macro_of
    accepted-macro = judged (compiled t) writable right-everywhere

    pub passed-macro : Passed (compiled t)
    passed-macro = all-passed (compiled t) writable right-everywhere

    -- ── for the simulation: the code stands, names are found ──
    module _ (o : ℕ → ℕ → ℕ) where
      all-stand : (k : ℕ) (p : Part) → get_elem? (parts t) k ≡ some p → Stands (setting_of t o) k p.code (start_of p)
      all-stand k p h = stands (setting_of t o) k p.code (start_of p) (lined k p h) (shown-marks (compiled t) k p.code (start_of p) (flows k p h) (lined k p h))

      called : (a k : ℕ) (r : Proc) → body_number t.head a ≡ suc k → get_elem? (procs_of t.head) k ≡ some r → Called (setting_of t o) t.head a (asked r)
      unfolding Stands parts
      called a k r e h =
          let b = part-proc (procs_of t.head) (after (code_root t) (at 0 0)).address k r h in
          let s = all-stand (suc k) (proc_part t r b.0) b.1 in
          record {
            head = (proc_part t r b.0).head;
            there = subst (λ n. procedure_at (compiled t) n ≡ some (proc_part t r b.0).head) (sym e) (head_of (suc k) (proc_part t r b.0) b.1);
            counts = refl;
            scope = procedure_of r.parameters;
            names = defines_typed r.parameters;
            is-procedure = refl;
            stand =
                subst (λ n. Stands (setting_of t o) n (code_body t.head r.body (around_body t r.parameters)
                (at b.0 (length r.parameters))) (at b.0 (length r.parameters))) (sym e) s.0;
            ret =
                subst (λ n. fetch (compiled t) n (after (code_body t.head r.body (around_body t r.parameters)
                (at b.0 (length r.parameters))) (at b.0 (length r.parameters))).address ≡ some return) (sym e) s.1;
            static = (O.procs k r h).static;
            good = (O.procs k r h).named;
          }

      pub built : Built (setting_of t o) t
      unfolding Stands parts compiled
      built =
          let s = all-stand 0 (root_part t) root-there in
          record {
            table = λ a q h. let f = proc-found t.head a q h in subst (Called (setting_of t o) t.head a) f.2 (called a (index_of a (proc_names (procs_of t.head))) f.0 refl f.1);
            classes = λ c xs h. class-found t.head t.head c xs h;
            good = O.root-named o;
            stand = s.0;
            last = s.1;
          }
