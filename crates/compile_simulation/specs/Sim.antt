-- The simulation: by fuel, and at one fuel by the tree.
use Rattle.std.specs.Prelude.{Bool, ◌&&◌, ◌≡◌, ltb, ℤ, pos, ◌+ℤ◌, length}
use Rattle.std.proofs.Math.Bool.{true, false}
use Rattle.std.specs.Bool.{beq}
use Rattle.std.proofs.Math.Path.{refl, ap, sym, subst}
use Rattle.std.proofs.Common.{◌∙◌, subst₂, arith, length-append}
use mathlib.Core.List.{List, [], ◌∷◌, ◌++◌, map, append_assoc}
use Rattle.std.proofs.Math.Option.{Option, none, some}
use Prim.Native.Nat.{ℕ, zero, suc, ◌+◌, ◌≤◌, zero-le}
use Rattle.std.proofs.Math.ListN.{get_elem?}
use Rattle.std.specs.Int.Signed.{mag}
use Rattle.logic.specs.Choice.{If◌then◌else◌}
use Rattle.logic.specs.Options.{if_some}
use Rattle.words.specs.Numbers.{word_of}
use Rattle.values.specs.Types.{Ty, integer, logical}
use Rattle.values.specs.Ends.{overflow, out_of_range, assert_false, case_index, step_zero}
use Rattle.values.specs.Operators.{Binary, unary, binary, plus, minus, times, divide, remainder, less, at_most, greater, at_least, equal, unequal, both, either, shift_left, shift_right}
use Rattle.values.specs.Arithmetic.{Outcome, gives, mistyped, settle, sum}
use Rattle.values.specs.Arithmetic.{ends as ends_by}
use Rattle.values.specs.Values.{Value, int, log, bit, ref, as_integer, as_logical, ty_of, assigned, between, size, apply1, apply2}
use Rattle.values.specs.Trace.{event, reading}
use Rattle.values.specs.Trace.{set as set_event}
use Rattle.language.specs.Tree.{Typed, Stmt, block, assign, when, choose, while, goto, assert, call, set_level, select, for, Items, no_item, label, item, Arms, last_arm}
use Rattle.language.specs.Tree.{arm, Target, to_variable, to_field, Expr, number, truth, pattern, null, variable, invoke, field, make, operate1, operate2, conditional}
use Rattle.language.specs.Tree.{fader, block_expr, Exprs, no_expr, expr, Global, proper, function, count_exprs}
use Rattle.language.specs.Tree.{Body as TreeBody}
use Rattle.language.specs.Names.{Scope, Definition, in_procedure, block_of, expression_of, loop_of}
use Rattle.language.specs.Faults.{type_e, is_ty}
use Rattle.language.specs.Execute.{slot, with_blocks, outer_blocks, leaving, Store, Result, done, jump, ended, later, wrong, next, Place, World, Less}
use Rattle.language.specs.Execute.{say, read, value_of, asked, branch, do_set, do_fader, do_assign}
use Rattle.language.specs.Execute.{of_field, do_make, class_in, deciding, decides, catch, from, exec, exec_items, exec_arm, exec_body, eval_body, Procedure, procedure_in}
use Rattle.language.specs.Execute.{Loop, due, if_due, turning, advancing, turns, counted, activate, locate, eval, evals, fueled}
use Rattle.language.specs.Execute.{settled as tree_settled, condition as tree_condition}
use Rattle.bytecode.specs.Instructions.{Owner, own, push, load, operate, go, go_unless, read_fader, stop}
use Rattle.bytecode.specs.Instructions.{return, procedure_at}
use Rattle.bytecode.specs.Instructions.{set_level as set_op, assert as assert_op, call as call_op}
use Rattle.bytecode.specs.Machine.{all_holds, fetch, act, settled, do_operate, do_go_unless, goes_on, do_set as machine_set, do_fader as machine_fader, do_assert, condition, bad_type, goes as goes_to}
use Rattle.compile_code.specs.Code.{Code, ◌▸◌, At, at, ahead, skip, after}
use Rattle.compile_code.specs.Compile.{Around, inside, bound, labels, held_in, scopes_of, passing, the_labels, has_label, label_at, found, kept, Way, plainly, marked, if_true}
use Rattle.compile_code.specs.Compile.{if_false, way_of, code_way, code_s, code_items, code_arms, code_target, code_e, code_es, body_number, field_number, classes_of, ops_arms, ty_e}
use Rattle.compile_code.specs.Compile.{ty_target, class_number, op_target, code_stored, code_downward, code_upward, code_once, code_turned, code_entered}
use Rattle.compile_code.specs.Compile.{cell_of as kept_of}
use Rattle.compile_simulation.specs.Meets.{Conf, run, stepped, Setting, Meets, ends, here, lost, asks, onward, binds}
use Rattle.compile_simulation.specs.View.{Data, written, of_owner, seen, seen_v, seen_c, blocks_of, roots_of, cell_at, found_at, cell_for, reads, writes, class_of, seen_r}
use Rattle.compile_simulation.specs.View.{below_apart, put_same}
use Rattle.compile_simulation.specs.Projections.{is-integer, not-logical, unlike, seen-integer, seen-logical}
use Rattle.compile_simulation.specs.Ops.{says, here_of, op-at, op-tick, pushes, loads, stores, forks, conds, goes-on, jumps}
use Rattle.compile_simulation.specs.Operate.{Agrees, seen-1, seen-2, seen-decides}
use Rattle.compile_simulation.specs.Sizes.{more-cells, len_arms}
use Rattle.compile_simulation.specs.Cases.{Index, starts, hits, misses, nexts, tests}
use Rattle.compile_simulation.specs.Placed.{Work, Holds, Fit, fit_on, fit-inside, fit-labels, fit-loop, looping, Free, Stands, at-work, place_of, Sees, Within, Nothing, One, Arrives, lands}
use Rattle.compile_simulation.specs.Placed.{nowhere, bind_e, also_e, bind_s, also_s, given-one, arrived}
use Rattle.compile_simulation.specs.Typing.{typed, integers, is-log, not-log}
use Rattle.compile_simulation.specs.Counting.{Small, fits-small, Steers, settles-to}
use Rattle.compile_simulation.specs.Loops.{hidden, Held, stored, downward, turned, releases}
use Rattle.bytecode.specs.Macro.{Body, Shape, shape_in}
use Rattle.compile_code.specs.Encode.{code_body, parameter_cells}
use Rattle.compile_simulation.specs.Records.{OkField, gets, puts, makes}
use Rattle.compile_code.specs.Counts.{held-parameters}
use Rattle.compile_simulation.specs.Calls.{onto, onto-last, callee, inside-proc, Static, fit-callee, calls}
use Rattle.compile_simulation.specs.Blocks.{GotoOk, OkHead, Opens, SameRoots, goes, heads, Found, found-label, Resumes, catches, left, inner-seen}

abbrev pub IsProper : TreeBody → Type 0
IsProper (proper s) = Unit {0}
IsProper (function t e) = ⊥

abbrev pub IsFunction : TreeBody → Type 0
IsFunction (proper s) = ⊥
IsFunction (function t e) = Unit {0}

-- ── what the simulation asks of a tree: names are found, gotos reach ──
module _ (gs : List Global) where
  unfoldable mutual
    pub OkS : Stmt → List Around → Type 0
    OkS (block ds is) Γ = OkHead gs ds (inside (block_of ds is) ∷ Γ) (λ Δ. (x : ℕ) → OkItems is (labels is x ∷ Δ))
    OkS (assign x e) Γ = OkTarget x Γ × OkE e Γ
    OkS (when e s) Γ = OkE e Γ × OkS s Γ
    OkS (choose e s t) Γ = OkE e Γ × OkS s Γ × OkS t Γ
    OkS (while e s) Γ = OkE e Γ × OkS s Γ
    OkS (goto a) Γ = GotoOk true Γ a
    OkS (assert e) Γ = OkE e Γ
    OkS (call a es) Γ = (q : Procedure) × (procedure_in a gs ≡ some q) × IsProper q.body × (count_exprs es ≡ length q.parameters) × OkEs es Γ
    OkS (set_level e f) Γ = OkE e Γ × OkE f Γ
    OkS (select e r) Γ = OkE e Γ × OkArms r Γ
    OkS (for a e f g s) Γ =
        OkE e Γ × OkE f Γ × OkE g Γ × (ty_e gs Γ e ≡ integer) × (ty_e gs Γ f ≡ integer) × (ty_e gs Γ g ≡ integer) × ((c : ℕ) → OkS s (bound a c ∷ inside (loop_of a) ∷ Γ))

    pub OkItems : Items → List Around → Type 0
    OkItems no_item Γ = Unit {0}
    OkItems (label a is) Γ = OkItems is Γ
    OkItems (item s is) Γ = OkS s Γ × OkItems is Γ

    pub OkArms : Arms → List Around → Type 0
    OkArms (last_arm s) Γ = OkS s Γ
    OkArms (arm s r) Γ = OkS s Γ × OkArms r Γ

    pub OkTarget : Target → List Around → Type 0
    OkTarget (to_variable a) Γ = (o : Owner) × (c : ℕ) × (kept_of a Γ ≡ some (kept o c)) × Free a Γ
    OkTarget (to_field a e) Γ = OkE e Γ × OkField gs a (field_number gs a).class (field_number gs a).index

    pub OkE : Expr → List Around → Type 0
    OkE (number z) Γ = Unit {0}
    OkE (truth b) Γ = Unit {0}
    OkE (pattern z) Γ = Unit {0}
    OkE (null c) Γ = seen_v gs (ref (class_number gs c) none) ≡ ref c none
    OkE (variable a) Γ = (o : Owner) × (c : ℕ) × (kept_of a Γ ≡ some (kept o c))
    OkE (invoke a es) Γ = (q : Procedure) × (procedure_in a gs ≡ some q) × IsFunction q.body × (count_exprs es ≡ length q.parameters) × OkEs es Γ
    OkE (field a e) Γ = OkE e Γ × OkField gs a (field_number gs a).class (field_number gs a).index
    OkE (make c es) Γ =
        OkEs es Γ × ((xs : List Typed) × (class_in c gs ≡ some xs) × (count_exprs es ≡ length xs)
        × ((class_of (classes_of gs) (class_number gs c)).name ≡ c) × ((class_of (classes_of gs) (class_number gs c)).fields ≡ xs))
    OkE (operate1 o e) Γ = OkE e Γ
    OkE (operate2 o e f) Γ = OkE e Γ × OkE f Γ
    OkE (conditional e f g) Γ = OkE e Γ × OkE f Γ × OkE g Γ
    OkE (fader e) Γ = OkE e Γ
    OkE (block_expr ds is e) Γ = OkHead gs ds (inside (expression_of ds is) ∷ Γ) (λ Δ. ((x : ℕ) → OkItems is (labels is x ∷ Δ)) × OkE e Δ)

    pub OkEs : Exprs → List Around → Type 0
    OkEs no_expr Γ = Unit {0}
    OkEs (expr e es) Γ = OkE e Γ × OkEs es Γ

  abbrev pub OkBody : TreeBody → List Around → Type 0
  OkBody (proper s) Γ = OkS s Γ
  OkBody (function t e) Γ = OkE e Γ

module _ (W : Setting) (gs : List Global) where
  abbrev pub world : World
  world = record { oracle = W.oracle; globals = gs }

  -- an operator's outcome, in the machine and in the tree
  settles : {n : ℕ} {L : ℕ → Store → Conf → Type 0} (C : Work) (Γ : List Around) (a : ℕ) (vs st : List Value) (D : Data) (x y : Outcome Value) → Agrees gs x y → Holds C D
      → Meets W n L (Arrives W gs C (One W gs C) (Sees W gs C Γ) (held_in Γ) (suc a) st)
      (stepped (settled x st (here_of W gs C.body C.below a vs (held_in Γ) D)) D.trace D.taken) (tree_settled y (place_of W gs C Γ) (seen gs Γ D))
  unfolding tree_settled
  settles C Γ a vs st D (gives v) y e k = rw e (goes-on W gs C.body C.below [] (v ∷ st) a vs (held_in Γ) D (given-one W gs C Γ v D k))
  settles C Γ a vs st D (ends_by c) y e k = rw e (conds W gs C.body C.below c Γ a vs D)
  settles C Γ a vs st D mistyped y e k = lost

  -- a procedure that is there to be called
  pub record Called (a : ℕ) (q : Procedure) : Type 0 where
    pub head : Body
    pub there : procedure_at W.macro (body_number gs a) ≡ some head
    pub counts : head.parameters ≡ length q.parameters
    pub scope : Scope
    pub names : List Definition
    pub is-procedure : scope ≡ in_procedure names
    pub stand : Stands W (body_number gs a) (code_body gs q.body (inside-proc q.parameters scope W.shared-names)
        (at head.first (length q.parameters))) (at head.first (length q.parameters))
    pub ret : fetch W.macro (body_number gs a) (after (code_body gs q.body (inside-proc q.parameters scope W.shared-names)
        (at head.first (length q.parameters))) (at head.first (length q.parameters))).address ≡ some return
    pub static : Static gs W.shared-names q.parameters scope
    pub good : OkBody gs q.body (inside-proc q.parameters scope W.shared-names)

  abbrev pub around : (a : ℕ) (q : Procedure) → Called a q → List Around
  around a q c = inside-proc q.parameters c.scope W.shared-names

  abbrev pub end_of : (a : ℕ) (q : Procedure) → Called a q → ℕ
  end_of a q c = (after (code_body gs q.body (around a q c) (at c.head.first (length q.parameters))) (at c.head.first (length q.parameters))).address

  -- a loop that stands from its turns on: the statement at b, the loop's cells from c on, what follows the loop at z
  pub record Turning (C : Work) (l : Loop) (Γ : List Around) (ts : List Ty) (b : At) (c z : ℕ) : Type 0 where
    pub good : OkS gs l.statement (bound l.control c ∷ inside (loop_of l.control) ∷ Γ)
    pub fit : Fit W gs C Γ c
    pub later-cells : suc (suc (suc c)) ≤ b.cell
    pub stand : Stands W C.body (code_s gs l.statement (bound l.control c ∷ inside (loop_of l.control) ∷ Γ) ts b) b
    pub turned : Stands W C.body (code_turned c b.address z (found Γ ts)) (after (code_s gs l.statement (bound l.control c ∷ inside (loop_of l.control) ∷ Γ) ts b) b)

  -- what is known of the parts that run at one fuel less
  pub record Below (n : ℕ) (r : Less) : Type 1 where
    pub b-again : (C : Work) (e : Expr) (s : Stmt) (Γ : List Around) (ts : List Ty) (p : At) (st : List Value) (D : Data) → OkS gs (while e s) Γ
        → Fit W gs C Γ p.cell → Stands W C.body (code_s gs (while e s) Γ ts p) p → Holds C D
        → Meets W n (lands W gs C Γ st) (Arrives W gs C (Nothing W gs C) (Sees W gs C Γ) (held_in Γ)
        (after (code_s gs (while e s) Γ ts p) p).address st) (at-work W gs C p.address st (held_in Γ) D) (r.again e s (place_of W gs C Γ) (seen gs Γ D))
    pub b-further : (C : Work) (l : Loop) (Γ : List Around) (ts : List Ty) (b : At) (c z : ℕ) (h : Turning C l Γ ts b c z) (st : List Value) (σ : Store) (D : Data) (v s t : ℤ)
        → Held W gs C Γ c h.fit st σ D v s t → Steers l s t → Small v
        → Meets W n (lands W gs C Γ st) (Arrives W gs C (Nothing W gs C) (Sees W gs C Γ) (held_in Γ) z st)
        (at-work W gs C b.address st (held_in Γ) D) (r.further l v (place_of W gs C Γ) σ)
    pub b-resume : (C : Work) (is : Items) (Γ : List Around) (ts : List Ty) (st : List Value) (x n' : ℕ) (e : At)
        → ((a : ℕ) → Found W gs C (has_label a is) (from a is) (labels is x ∷ Γ) ts (label_at is (scopes_of Γ) (the_labels is ∷ passing Γ) x a) n' e
        (λ js. OkItems gs js (labels is x ∷ Γ)))
        → Fit W gs C Γ n' → Resumes W gs C n r is Γ ts st x e (λ js. OkItems gs js (labels is x ∷ Γ))
    pub b-call_s : (a : ℕ) (q : Procedure) (c : Called a q) (C : Work) (D : Data) → IsProper q.body → C.body ≡ body_number gs a → Fit W gs C (around a q c) (length q.parameters) → Holds C D
        → Meets W n (nowhere W gs C) (Arrives W gs C (Nothing W gs C) (Sees W gs C (around a q c)) (held_in (around a q c)) (end_of a q c) [])
        (at-work W gs C c.head.first [] (held_in (around a q c)) D) (r.call_s q.body (place_of W gs C (around a q c)) (seen gs (around a q c) D))
    pub b-call_e : (a : ℕ) (q : Procedure) (c : Called a q) (C : Work) (D : Data) → IsFunction q.body → C.body ≡ body_number gs a → Fit W gs C (around a q c) (length q.parameters) → Holds C D
        → Meets W n (nowhere W gs C) (Arrives W gs C (One W gs C) (Sees W gs C (around a q c)) (held_in (around a q c)) (end_of a q c) [])
        (at-work W gs C c.head.first [] (held_in (around a q c)) D) (r.call_e q.body (place_of W gs C (around a q c)) (seen gs (around a q c) D))

  module _ (table : (a : ℕ) (q : Procedure) → procedure_in a gs ≡ some q → Called a q)
      (classes : (c : ℕ) (xs : List Typed) → class_in c gs ≡ some xs → (ts : List Ty) × (get_elem? W.macro.classes (class_number gs c) ≡ some ts)
      × (length ts ≡ length xs)) (n : ℕ) (r : Less) (below : Below n r) where
    -- the statement of the simulation, for a statement and for an expression
    abbrev Goes : Work → List Around → List Value → ℕ → ℕ → (Place → Store → Result (Unit {0})) → Type 0
    Goes C Γ st a b f = (D : Data) → Holds C D
        → Meets W (suc n) (lands W gs C Γ st) (Arrives W gs C (Nothing W gs C) (Sees W gs C Γ) (held_in Γ) b st) (at-work W gs C a st (held_in Γ) D) (f (place_of W gs C Γ) (seen gs Γ D))

    abbrev Gives : Work → List Around → List Value → ℕ → ℕ → (Place → Store → Result Value) → Type 0
    Gives C Γ st a b f = (D : Data) → Holds C D
        → Meets W (suc n) (nowhere W gs C) (Arrives W gs C (One W gs C) (Sees W gs C Γ) (held_in Γ) b st) (at-work W gs C a st (held_in Γ) D) (f (place_of W gs C Γ) (seen gs Γ D))

    -- a block's statements, with the gotos that it catches
    pub block_items : (C : Work) (is : Items) (Γ : List Around) (ts : List Ty) (st : List Value) (p : At) → ((x : ℕ) → OkItems gs is (labels is x ∷ Γ)) → Fit W gs C Γ p.cell
        → Stands W C.body (code_items gs is (labels is p.address ∷ Γ) ts p) p
        → Goes C (labels is p.address ∷ Γ) st p.address (after (code_items gs is (labels is p.address ∷ Γ) ts p) p).address (exec_items world r is)
        → Goes C Γ st p.address (after (code_items gs is (labels is p.address ∷ Γ) ts p) p).address (λ Y τ. catch r is Y (exec_items world r is Y τ))
    unfolding OkS held_in blocks_of roots_of scopes_of passing
    block_items C is Γ ts st p o w h g D k =
        let e = after (code_items gs is (labels is p.address ∷ Γ) ts p) p in
        let P : Items → Type 0 = λ js. OkItems gs js (labels is p.address ∷ Γ) in
        let f : (a : ℕ) → Found W gs C (has_label a is) (from a is) (labels is p.address ∷ Γ) ts (label_at is (scopes_of Γ) (the_labels is ∷ passing Γ) p.address a) p.cell e P =
        λ a. found-label W gs C P (λ b js q. q) (λ s js q. q.1) is (labels is p.address ∷ Γ) ts p a (o p.address) h in
        catches W gs C r is Γ ts st p e P (at-work W gs C p.address st (held_in Γ) D) (exec_items world r is (place_of W gs C Γ) (seen gs Γ D)) f w
        (below.b-resume C is Γ ts st p.address p.cell e f w) (g D k)

    -- inside a block, and about to leave it
    inward : {A : Type 0} {G : A → List Value → Type 0} {L : ℕ → Store → Conf → Type 0} (C : Work) (Γ Δ : List Around) (K : List ℕ) (b : ℕ)
        (st : List Value) (x : Conf) (z : Result A) → Opens gs Γ Δ → SameRoots gs Γ Δ
        → Meets W (suc n) L (Arrives W gs C G (Sees W gs C Δ) K b st) x z → Meets W (suc n) L (Arrives W gs C G (Within W gs C Γ) K b st) x z
    inward C Γ Δ K b st x z o q h = onward z (λ l σ y. y) h (λ v σ y a.
        ends (here (record { top = a.top; now = a.now; there = a.there; sees = inner-seen W gs C Γ Δ a.now σ o q a.sees; gave = a.gave; holding = a.holding })))

    branches : {A : Type 0} {L : ℕ → Store → Conf → Type 0} {F : A → Store → Conf → Type 0} (C : Work) (t : ℕ) (w : Value) (a : ℕ) (st : List Value)
        (K : List ℕ) (D : Data) (f g : Store → Result A) (σ : Store)
        → fetch W.macro C.body a ≡ some (go_unless t)
        → Meets W (suc n) L F (at-work W gs C (suc a) st K D) (f σ) → Meets W (suc n) L F (at-work W gs C t st K D) (g σ)
        → Meets W (suc n) L F (at-work W gs C a (w ∷ st) K D) (branch (seen_v gs w) f g σ)
    unfolding branch act do_go_unless
    branches {A} {L} {F} C t w a st K D f g σ p x y = op-at W gs C.body C.below (go_unless t) a (w ∷ st) K D p
        (rw (seen-logical gs w) (asks D.trace D.taken (as_logical w) bad_type _ _ (λ b e. pick b)))
      where
        pick : (b : Bool) → Meets W (suc n) L F (stepped (goes_to (If b then suc a else t) st (here_of W gs C.body C.below a (w ∷ st) K D)) D.trace D.taken) (If b then f σ else g σ)
        pick true = x
        pick false = y

    fades : {L : ℕ → Store → Conf → Type 0} (C : Work) (Γ : List Around) (w : Value) (a : ℕ) (st : List Value) (D : Data) → fetch W.macro C.body a ≡ some read_fader → Holds C D
        → Meets W (suc n) L (Arrives W gs C (One W gs C) (Sees W gs C Γ) (held_in Γ) (suc a) st) (at-work W gs C a (w ∷ st) (held_in Γ) D)
        (do_fader W.oracle (seen_v gs w) (place_of W gs C Γ) (seen gs Γ D))
    unfolding act machine_fader do_fader
    fades {L = L} C Γ w a st D p k = op-at W gs C.body C.below read_fader a (w ∷ st) (held_in Γ) D p
        (rw (seen-integer gs w) (asks D.trace D.taken (as_integer w) bad_type _ _ (λ z e. pick z (between 1 64 z))))
      where
        pick : (z : ℤ) (b : Bool) → Meets W (suc n) L (Arrives W gs C (One W gs C) (Sees W gs C Γ) (held_in Γ) (suc a) st)
            (stepped (If b then goes_on (reading (size z) (W.oracle D.taken (size z)) ∷ []) (int (pos (W.oracle D.taken (size z))) ∷ st)
            (here_of W gs C.body C.below a (w ∷ st) (held_in Γ) D) else condition out_of_range
            (here_of W gs C.body C.below a (w ∷ st) (held_in Γ) D)) D.trace D.taken)
            (If b then done (int (pos (W.oracle D.taken (size z)))) (read (size z) (W.oracle D.taken (size z)) (seen gs Γ D)) else tree_condition out_of_range (place_of W gs C Γ) (seen gs Γ D))
        pick z true = goes-on W gs C.body C.below (reading (size z) (W.oracle D.taken (size z)) ∷ []) (int (pos (W.oracle D.taken (size z))) ∷ st) a (w ∷ st) (held_in Γ) D
            (given-one W gs C Γ (int (pos (W.oracle D.taken (size z)))) (says (reading (size z) (W.oracle D.taken (size z)) ∷ []) D) k)
        pick z false = conds W gs C.body C.below out_of_range Γ a (w ∷ st) D

    asserts : {L : ℕ → Store → Conf → Type 0} (C : Work) (Γ : List Around) (w : Value) (a : ℕ) (st : List Value) (D : Data) → fetch W.macro C.body a ≡ some assert_op → Holds C D
        → Meets W (suc n) L (Arrives W gs C (Nothing W gs C) (Sees W gs C Γ) (held_in Γ) (suc a) st) (at-work W gs C a (w ∷ st) (held_in Γ) D)
        (branch (seen_v gs w) (λ ρ. done tt ρ) (λ ρ. tree_condition assert_false (place_of W gs C Γ) ρ) (seen gs Γ D))
    unfolding act do_assert branch
    asserts {L = L} C Γ w a st D p k = op-at W gs C.body C.below assert_op a (w ∷ st) (held_in Γ) D p
        (rw (seen-logical gs w) (asks D.trace D.taken (as_logical w) bad_type _ _ (λ b e. pick b)))
      where
        pick : (b : Bool) → Meets W (suc n) L (Arrives W gs C (Nothing W gs C) (Sees W gs C Γ) (held_in Γ) (suc a) st)
            (stepped (If b then goes_on [] st (here_of W gs C.body C.below a (w ∷ st) (held_in Γ) D) else condition assert_false
            (here_of W gs C.body C.below a (w ∷ st) (held_in Γ) D)) D.trace D.taken)
            (If b then done tt (seen gs Γ D) else tree_condition assert_false (place_of W gs C Γ) (seen gs Γ D))
        pick true = goes-on W gs C.body C.below [] st a (w ∷ st) (held_in Γ) D (arrived W gs C Γ tt D k)
        pick false = conds W gs C.body C.below assert_false Γ a (w ∷ st) D

    sets : {L : ℕ → Store → Conf → Type 0} (C : Work) (Γ : List Around) (v w : Value) (a : ℕ) (st : List Value) (D : Data) → fetch W.macro C.body a ≡ some set_op → Holds C D
        → Meets W (suc n) L (Arrives W gs C (Nothing W gs C) (Sees W gs C Γ) (held_in Γ) (suc a) st) (at-work W gs C a (w ∷ (v ∷ st)) (held_in Γ) D)
        (do_set (seen_v gs v) (seen_v gs w) (place_of W gs C Γ) (seen gs Γ D))
    unfolding act machine_set do_set
    sets {L = L} C Γ v w a st D p k = op-at W gs C.body C.below set_op a (w ∷ (v ∷ st)) (held_in Γ) D p
        (rw (seen-integer gs v, seen-integer gs w) (asks D.trace D.taken (as_integer v) bad_type _ _ (λ x e.
        asks D.trace D.taken (as_integer w) bad_type _ _ (λ y e'. pick x y (between 1 512 x && between 0 255 y)))))
      where
        pick : (x y : ℤ) (b : Bool) → Meets W (suc n) L (Arrives W gs C (Nothing W gs C) (Sees W gs C Γ) (held_in Γ) (suc a) st)
            (stepped (If b then goes_on (event (set_event (size x) (size y)) ∷ []) st
            (here_of W gs C.body C.below a (w ∷ (v ∷ st)) (held_in Γ) D) else condition out_of_range
            (here_of W gs C.body C.below a (w ∷ (v ∷ st)) (held_in Γ) D)) D.trace D.taken)
            (If b then done tt (say (set_event (size x) (size y)) (seen gs Γ D)) else tree_condition out_of_range (place_of W gs C Γ) (seen gs Γ D))
        pick x y true =
            goes-on W gs C.body C.below (event (set_event (size x) (size y)) ∷ []) st a (w ∷ (v ∷ st)) (held_in Γ) D
            (arrived W gs C Γ tt (says (event (set_event (size x) (size y)) ∷ []) D) k)
        pick x y false = conds W gs C.body C.below out_of_range Γ a (w ∷ (v ∷ st)) D

    -- the second operand, by its way
    abbrev WayFor : Way → Binary → Bool → Type 0
    WayFor plainly o b = (v : Value) → decides o v ≡ false
    WayFor marked o b = (b ≡ false) × ((v : Value) → (ty_of v ≡ logical → ⊥) → decides o v ≡ false)
    WayFor if_true o b = o ≡ both
    WayFor if_false o b = o ≡ either

    no-log : (o : Option Bool) (v : Value) → (ty_of v ≡ logical → ⊥) → if_some o (λ d. if_some (as_logical v) (beq d) false) false ≡ false
    no-log none v f = refl
    no-log (some d) v f = ap (λ x. if_some x (beq d) false) (not-logical v f)

    way-for : (o : Binary) (b : Bool) → WayFor (way_of o b) o b
    unfolding decides deciding
    way-for plus b = λ v. refl
    way-for minus b = λ v. refl
    way-for times b = λ v. refl
    way-for divide b = λ v. refl
    way-for remainder b = λ v. refl
    way-for less b = λ v. refl
    way-for at_most b = λ v. refl
    way-for greater b = λ v. refl
    way-for at_least b = λ v. refl
    way-for equal b = λ v. refl
    way-for unequal b = λ v. refl
    way-for shift_left b = λ v. refl
    way-for shift_right b = λ v. refl
    way-for both true = refl
    way-for both false = (refl, λ v f. no-log (some false) v f)
    way-for either true = refl
    way-for either false = (refl, λ v f. no-log (some true) v f)

    second_of : (C : Work) (Γ : List Around) (o : Binary) (f : Expr) (v : Value) (D : Data) (a b : ℕ) (st : List Value) → fetch W.macro C.body b ≡ some (operate (binary o))
        → Gives C Γ (v ∷ st) a b (eval world r f) → Holds C D → decides o v ≡ false
        → Meets W (suc n) (nowhere W gs C) (Arrives W gs C (One W gs C) (Sees W gs C Γ) (held_in Γ) (suc b) st) (at-work W gs C a (v ∷ st) (held_in Γ) D)
        (If decides o (seen_v gs v) then done (seen_v gs v) (seen gs Γ D) else next (eval world r f (place_of W gs C Γ) (seen gs Γ D)) (λ w ρ. tree_settled (apply2 o (seen_v gs v) w) (place_of W gs C Γ) ρ))
    unfolding act do_operate
    second_of C Γ o f v D a b st p g k e = rw (seen-decides gs o v, e) (bind_e W gs C Γ (λ w ρ. tree_settled (apply2 o (seen_v gs v) w) (place_of W gs C Γ) ρ) (g D k) (λ w D' k'.
        op-at W gs C.body C.below (operate (binary o)) b (w ∷ (v ∷ st)) (held_in Γ) D' p
        (settles C Γ b (w ∷ (v ∷ st)) st D' (apply2 o v w) (apply2 o (seen_v gs v) (seen_v gs w)) (seen-2 gs o v w) k')))

    -- both operands, whatever the way
    abbrev Two : Work → List Around → Binary → Expr → Expr → List Value → ℕ → ℕ → Type 0
    Two C Γ u e f st a b = (D : Data) → Holds C D
        → Meets W (suc n) (nowhere W gs C) (Arrives W gs C (One W gs C) (Sees W gs C Γ) (held_in Γ) b st) (at-work W gs C a st (held_in Γ) D)
        (next (eval world r e (place_of W gs C Γ) (seen gs Γ D)) (λ v τ.
        If decides u v then done v τ else next (eval world r f (place_of W gs C Γ) τ) (λ w ρ. tree_settled (apply2 u v w) (place_of W gs C Γ) ρ)))

    -- at the end of a logical `and` or `or` the shape says that the second operand is logical, and it is the result
    joins : (C : Work) (Γ : List Around) (ts : List Ty) (u : Binary) (v w : Value) (a : ℕ) (st : List Value) (D : Data) → shape_in W.macro.shapes a ≡ some (found Γ (logical ∷ ts)) → Holds C D
        → ((b : Bool) → apply2 u v (log b) ≡ gives (log b))
        → Meets W (suc n) (nowhere W gs C) (Arrives W gs C (One W gs C) (Sees W gs C Γ) (held_in Γ) a st) (at-work W gs C a (w ∷ st) (held_in Γ) D)
        (tree_settled (apply2 u v (seen_v gs w)) (place_of W gs C Γ) (seen gs Γ D))
    unfolding tree_settled
    joins C Γ ts u v w a st D e k f = typed W gs C.body C.below Γ w st a logical ts (held_in Γ) D e (λ q.
        let z = is-log w q in
        let g : apply2 u v (seen_v gs w) ≡ gives (seen_v gs w) = subst (λ x. apply2 u v (seen_v gs x) ≡ gives (seen_v gs x)) (sym z.1) (f z.0) in
        rw g (given-one W gs C Γ w D k))

    ways : (way : Way) (u : Binary) (C : Work) (Γ : List Around) (ts : List Ty) (x : Code) (p : At) (F : List Ty → At → Code) (e f : Expr) (st : List Value)
        → WayFor way u (is_ty logical (type_e (scopes_of Γ) e)) → Stands W C.body (code_way way u Γ ts (ty_e gs Γ e) x p F) p
        → (Stands W C.body x p → Gives C Γ st p.address (after x p).address (eval world r e))
        → ((us : List Ty) (q : At) (vs : List Value) → p.cell ≤ q.cell → Stands W C.body (F us q) q → Gives C Γ vs q.address (after (F us q) q).address (eval world r f))
        → Two C Γ u e f st p.address (after (code_way way u Γ ts (ty_e gs Γ e) x p F) p).address
    unfolding Stands after decides deciding apply2 act
    ways plainly u C Γ ts x p F e f st q h g i D k =
        bind_e W gs C Γ _ (g h.0 D k) (λ v D' k'. second_of C Γ u f v D' (after x p).address
        (after (F (ty_e gs Γ e ∷ ts) (after x p)) (after x p)).address st h.1.1 (i (ty_e gs Γ e ∷ ts) (after x p) (v ∷ st) (more-cells x p) h.1.0) k' (q v))
    ways marked u C Γ ts x p F e f st q h g i D k =
        bind_e W gs C Γ _ (g h.0 D k) (λ v D' k'. typed W gs C.body C.below Γ v st (after x p).address (ty_e gs Γ e) ts (held_in Γ) D' h.1.0 (λ m.
        second_of C Γ u f v D' (after x p).address (after (F (ty_e gs Γ e ∷ ts) (after x p)) (after x p)).address st h.1.1.1
        (i (ty_e gs Γ e ∷ ts) (after x p) (v ∷ st) (more-cells x p) h.1.1.0) k'
        (q.1 v (not-log gs (type_e (scopes_of Γ) e) v q.0 m))))
    ways if_true u C Γ ts x p F e f st q h g i D k =
        let m = skip 1 (after x p) in let y = F ts m in let d = suc (after y m).address in
        subst (λ z. Meets W (suc n) (nowhere W gs C) (Arrives W gs C (One W gs C) (Sees W gs C Γ) (held_in Γ) (suc d) st) (at-work W gs C p.address st (held_in Γ) D)
        (next (eval world r e (place_of W gs C Γ) (seen gs Γ D)) (λ v τ.
        If decides z v then done v τ else next (eval world r f (place_of W gs C Γ) τ) (λ w ρ. tree_settled (apply2 z v w) (place_of W gs C Γ) ρ)))) (sym q)
        (bind_e W gs C Γ _ (g h.0 D k) (λ v D' k'. forks W gs C.body C.below d v (after x p).address st (held_in Γ) D' h.1.0
        (λ t. rw t (bind_e W gs C Γ _ (i ts m st (more-cells x p) h.1.1.0 D' k') (λ w D'' k''. jumps W gs C.body C.below (suc d) (after y m).address (w ∷ st) (held_in Γ) D'' h.1.1.1.0
        (joins C Γ ts both (log true) w (suc d) st D'' h.1.1.1.1.1.1 k'' (λ b. refl)))))
        (λ t. rw t (pushes W gs C.body C.below (log false) d st (held_in Γ) D' h.1.1.1.1.1.0 (given-one W gs C Γ (log false) D' k')))))
    ways if_false u C Γ ts x p F e f st q h g i D k =
        let m = skip 3 (after x p) in let y = F ts m in
        subst (λ z. Meets W (suc n) (nowhere W gs C) (Arrives W gs C (One W gs C) (Sees W gs C Γ) (held_in Γ) (after y m).address st) (at-work W gs C p.address st (held_in Γ) D)
        (next (eval world r e (place_of W gs C Γ) (seen gs Γ D)) (λ v τ.
        If decides z v then done v τ else next (eval world r f (place_of W gs C Γ) τ) (λ w ρ. tree_settled (apply2 z v w) (place_of W gs C Γ) ρ)))) (sym q)
        (bind_e W gs C Γ _ (g h.0 D k) (λ v D' k'. forks W gs C.body C.below m.address v (after x p).address st (held_in Γ) D' h.1.0
        (λ t. rw t (pushes W gs C.body C.below (log true) (suc (after x p).address) st (held_in Γ) D' h.1.1.0
        (jumps W gs C.body C.below (after y m).address (suc (suc (after x p).address)) (log true ∷ st) (held_in Γ) D' h.1.1.1.0 (given-one W gs C Γ (log true) D' k'))))
        (λ t. rw t (bind_e W gs C Γ _ (i ts m st (more-cells x p) h.1.1.1.1.1.0 D' k') (λ w D'' k''.
        joins C Γ ts either (log false) w (after y m).address st D'' h.1.1.1.1.1.1 k'' (λ b. refl))))))

    never : {A : Type 0} → false ≡ true → A
    never h = let z : ◌≡◌ {A = ℕ} 0 1 = cc h in absurd (omega arith)

    cells-after : (x : Code) (a c : ℕ) → c ≤ (after x (at a (suc c))).cell
    cells-after x a c = let z = more-cells x (at a (suc c)) in omega arith

    -- every alternative begins with a test of the index
    begins : (rs : Arms) (k c i z : ℕ) (Γ : List Around) (ts : List Ty) (p : At) → Stands W k (code_arms gs rs c i z Γ ts p) p
        → (fetch W.macro k p.address ≡ some (load own c)) × (fetch W.macro k (suc p.address) ≡ some (push (int (pos i))))
        × (fetch W.macro k (suc (suc p.address)) ≡ some (operate (binary equal)))
    unfolding code_s Stands after
    begins (last_arm s) k c i z Γ ts p h = (h.0, h.1.0, h.1.1.0)
    begins (arm s rs) k c i z Γ ts p h = (h.0, h.1.0, h.1.1.0)

    -- an index that is no integer leaves the machine nothing to do
    cased : {L : ℕ → Store → Conf → Type 0} {F : Unit {0} → Store → Conf → Type 0} (C : Work) (Γ : List Around) (v : Value)
        (f : ℤ → Result (Unit {0})) (c i a : ℕ) (st : List Value) (D : Data) → cell_at D.cells c ≡ assigned v
        → (fetch W.macro C.body a ≡ some (load own c)) × (fetch W.macro C.body (suc a) ≡ some (push (int (pos i))))
        × (fetch W.macro C.body (suc (suc a)) ≡ some (operate (binary equal)))
        → ((z : ℤ) → v ≡ int z → Meets W (suc n) L F (at-work W gs C a st (held_in Γ) D) (f z)) → Meets W (suc n) L F (at-work W gs C a st (held_in Γ) D) (asked (as_integer (seen_v gs v)) f)
    unfolding act do_operate apply2
    cased {L} {F} C Γ v f c i a st D g p h = rw (seen-integer gs v) (pick (as_integer v) refl)
      where
        pick : (o : Option ℤ) → as_integer v ≡ o → Meets W (suc n) L F (at-work W gs C a st (held_in Γ) D) (asked o f)
        pick (some z) e = h z (is-integer v z e)
        pick none e = loads W gs C.body C.below own c a st (held_in Γ) D tt p.0 (λ u q. let same-value : u ≡ v = cc (sym (found_at D.cells c (assigned u) q) ∙ g) in
            rw same-value (pushes W gs C.body C.below (int (pos i)) (suc a) (v ∷ st) (held_in Γ) D p.1
            (op-at W gs C.body C.below (operate (binary equal)) (suc (suc a)) (int (pos i) ∷ (v ∷ st)) (held_in Γ) D p.2 (rw (unlike (λ b. b) v (pos i) e) lost))))

    stops : {L : ℕ → Store → Conf → Type 0} {F : Unit {0} → Store → Conf → Type 0} (c : ℕ) (C : Work) (Γ : List Around) (a : ℕ) (st : List Value) (D : Data)
        → fetch W.macro C.body a ≡ some (stop c)
        → Meets W (suc n) L F (at-work W gs C a st (held_in Γ) D) (tree_condition c (place_of W gs C Γ) (seen gs Γ D))
    unfolding act
    stops c C Γ a st D p = op-at W gs C.body C.below (stop c) a st (held_in Γ) D p (conds W gs C.body C.below c Γ a st D)

    arms_none : (rs : Arms) (X : Place) (σ : Store) → exec_arm world r rs zero X σ ≡ tree_condition case_index X σ
    unfolding exec
    arms_none (last_arm s) X σ = refl
    arms_none (arm s rs) X σ = refl

    next-next : {A B E : Type 0} (z : Result A) (f : A → Store → Result B) (g : B → Store → Result E) → next (next z f) g ≡ next z (λ x σ. next (f x σ) g)
    unfolding next
    next-next (done x σ) f g = refl
    next-next (jump a σ) f g = refl
    next-next (ended c σ) f g = refl
    next-next (later σ) f g = refl
    next-next wrong f g = refl

    counted-more : (x c : ℕ) → x ≡ c → x + 1 ≡ suc c
    counted-more x c e = omega arith

    -- the values of a list of operands, the last on top
    abbrev Many : ℕ → List Value → List Value → Type 0
    Many c vs top = (map (seen_v gs) (onto top []) ≡ vs) × (length top ≡ c)

    -- ── loops ──
    loop-stands : (k c x z : ℕ) (m : Shape) (p : At) (y y' : Code) → Stands W k (code_entered c x z m ▸ (y ▸ y')) p
        → Stands W k (code_entered c x z m) p × Stands W k y (skip 48 p) × Stands W k y' (after y (skip 48 p))
    unfolding Stands after code_stored code_downward code_upward code_once
    loop-stands k c x z m p y y' h = (h.0, h.1.0, h.1.1)

    loop-ends : (c x z b : ℕ) (m : Shape) (p : At) (y : Code) → (after (code_entered c x z m ▸ (y ▸ code_turned c b z m)) p).address ≡ ahead 13 (after y (skip 48 p)).address
    unfolding after code_stored code_downward code_upward code_once code_turned
    loop-ends c x z b m p y = refl

    all-integers : (Γ : List Around) (ts : List Ty) (t u v : Ty) → t ≡ integer → u ≡ integer → v ≡ integer
        → some (found Γ (v ∷ (u ∷ (t ∷ ts)))) ≡ some (found Γ (integer ∷ (integer ∷ (integer ∷ ts))))
    all-integers Γ ts t u v e f g = rw (e, f, g) refl

    -- the next value is not due, or of more than 32 bits
    leaves-off : {L : ℕ → Store → Conf → Type 0} (C : Work) (Γ : List Around) (l : Loop) (v : ℤ) (z : ℕ) (st : List Value) (E : Data) (τ : Store) (f : ℤ → Store → Result (Unit {0}))
        → (Small (v +ℤ l.step) → due l (v +ℤ l.step) ≡ false) → seen gs Γ E ≡ τ → Holds C E
        → Meets W (suc n) L (Arrives W gs C (Nothing W gs C) (Sees W gs C Γ) (held_in Γ) z st) (at-work W gs C z st (held_in Γ) E)
        (advancing (sum v l.step) (λ w ρ. if_due l w (f w) ρ) τ)
    unfolding advancing if_due settle
    leaves-off {L} C Γ l v z st E τ f o q k = go (ltb (mag (v +ℤ l.step)) 2147483648) refl
      where
        over : Meets W (suc n) L (Arrives W gs C (Nothing W gs C) (Sees W gs C Γ) (held_in Γ) z st) (at-work W gs C z st (held_in Γ) E) (done tt τ)
        over = subst (λ s. Meets W (suc n) L (Arrives W gs C (Nothing W gs C) (Sees W gs C Γ) (held_in Γ) z st) (at-work W gs C z st (held_in Γ) E) (done tt s)) q (arrived W gs C Γ tt E k)

        go : (b : Bool) → ltb (mag (v +ℤ l.step)) 2147483648 ≡ b → Meets W (suc n) L (Arrives W gs C (Nothing W gs C) (Sees W gs C Γ) (held_in Γ) z st) (at-work W gs C z st (held_in Γ) E)
            (advancing (If b then gives (v +ℤ l.step) else ends_by overflow) (λ w ρ. if_due l w (f w) ρ) τ)
        go true e = rw (o (fits-small (v +ℤ l.step) e)) over
        go false e = over

    -- a turn: the statement with its control name, then the next value
    turn : (C : Work) (l : Loop) (Γ : List Around) (ts : List Ty) (b : At) (c z : ℕ) (h : Turning C l Γ ts b c z) (st : List Value) (σ : Store) (D : Data) (v s t : ℤ)
        → Held W gs C Γ c h.fit st σ D v s t → Steers l s t → Small v
        → Goes (looping C c v s t) (bound l.control c ∷ inside (loop_of l.control) ∷ Γ) st b.address
        (after (code_s gs l.statement (bound l.control c ∷ inside (loop_of l.control) ∷ Γ) ts b) b).address (exec world r l.statement)
        → Meets W (suc n) (lands W gs C Γ st) (Arrives W gs C (Nothing W gs C) (Sees W gs C Γ) (held_in Γ) z st)
        (at-work W gs C b.address st (held_in Γ) D) (turns r l (λ Y μ. exec world r l.statement Y μ) v (place_of W gs C Γ) σ)
    unfolding turns turning held_in blocks_of roots_of lands advancing if_due act
    turn C l Γ ts b c z h st σ D v s t k f m sim =
        let C' = looping C c v s t in let a = l.control in let Δ = bound a c ∷ inside (loop_of a) ∷ Γ in
        let e = after (code_s gs l.statement Δ ts b) b in
        let inner : seen gs Δ D ≡ with_blocks ((slot a (assigned (int v)) ∷ []) ∷ σ.blocks) σ =
        ap (λ x. record {
          root = roots_of gs Γ D.cells D.lowest;
          blocks = (slot a (seen_c gs x) ∷ []) ∷ blocks_of gs Γ D.cells;
          records = map (seen_r gs) D.shared.records;
          trace = D.trace;
          taken = D.taken;
        }) k.value ∙ ap (λ τ. with_blocks ((slot a (assigned (int v)) ∷ []) ∷ τ.blocks) τ) k.same in
        binds (leaving (λ τ. outer_blocks τ.blocks) (exec world r l.statement (place_of W gs C Γ) (with_blocks ((slot a (assigned (int v)) ∷ []) ∷ σ.blocks) σ)))
        (λ j τ q. releases W gs C c v s t Γ st j τ q)
        (left W gs C' Γ (held_in Γ) e.address st _ _ (inward C' Γ Δ (held_in Γ) e.address st _ _ (λ cs. (slot a (seen_c gs (cell_at cs c)) ∷ [], refl)) (λ cs ls. refl)
        (subst (λ τ. Meets W (suc n) (lands W gs C' Δ st) (Arrives W gs C' (Nothing W gs C') (Sees W gs C' Δ) (held_in Γ) e.address st)
        (at-work W gs C' b.address st (held_in Γ) D) (exec world r l.statement (place_of W gs C Γ) τ)) inner
        (sim D (k.holding, k.value, k.step, k.bound)))))
        (λ u τ y x.
        let E = x.now in let i = x.holding in
        let held : Held W gs C Γ c h.fit st τ E v s t = record { value = i.1; step = i.2; bound = i.3; holding = i.0; same = x.sees } in
        let at-end : at-work W gs C e.address st (held_in Γ) E ≡ y = sym (x.there ∙ ap (λ q. at-work W gs C e.address (q ++ st) (held_in Γ) E) x.gave) in
        subst (λ q. Meets W (suc n) (lands W gs C Γ st) (Arrives W gs C (Nothing W gs C) (Sees W gs C Γ) (held_in Γ) z st) q
        (advancing (sum v l.step) (λ w ρ. if_due l w (λ π. r.further l w (place_of W gs C Γ) π) ρ) τ)) at-end
        (turned W gs C Γ c h.fit st τ l v s t b.address z e.cell e.address (found Γ ts) E held f m h.turned
        (λ E' k' m' d' p. rw (settles-to (v +ℤ l.step) m', d') (op-tick W gs C.body C.below (go b.address) (ahead 12 e.address) st (held_in Γ) E' p
        (below.b-further C l Γ ts b c z h st τ E' (v +ℤ l.step) s t k' f m')))
        (λ o. leaves-off C Γ l v z st E τ _ o x.sees i.0)))

    -- from the three values to the first turn, or past the loop
    begins-loop : (C : Work) (l : Loop) (Γ : List Around) (ts : List Ty) (p : At) (c z : ℕ) (h : Turning C l Γ ts (skip 48 p) c z) (st : List Value) (D : Data) (v : ℤ)
        → Small v → Small l.step → Small l.limit → Stands W C.body (code_entered c p.address z (found Γ ts)) p → Holds C D
        → ((E : Data) (s t : ℤ) → Held W gs C Γ c h.fit st (seen gs Γ D) E v s t → Steers l s t
        → Meets W (suc n) (lands W gs C Γ st) (Arrives W gs C (Nothing W gs C) (Sees W gs C Γ) (held_in Γ) z st) (at-work W gs C (ahead 48 p.address) st (held_in Γ) E)
        (turns r l (λ Y μ. exec world r l.statement Y μ) v (place_of W gs C Γ) (seen gs Γ D)))
        → Meets W (suc n) (lands W gs C Γ st) (Arrives W gs C (Nothing W gs C) (Sees W gs C Γ) (held_in Γ) z st)
        (at-work W gs C p.address (int l.limit ∷ (int l.step ∷ (int v ∷ st))) (held_in Γ) D)
        (counted r l (λ Y μ. exec world r l.statement Y μ) v (place_of W gs C Γ) (seen gs Γ D))
    unfolding counted if_due Stands after code_stored code_downward code_upward
    begins-loop C l Γ ts p c z h st D v hv hs hl e k go_on =
        let σ = seen gs Γ D in let x = p.address in let Y = place_of W gs C Γ in
        let f : Place → Store → Result (Unit {0}) = λ X μ. exec world r l.statement X μ in
        let F = Arrives W gs C (Nothing W gs C) (Sees W gs C Γ) (held_in Γ) z st in
        stored W gs C Γ c h.fit st σ (counted r l f v Y σ) v l.step l.limit x p.cell (found Γ ts) D k refl e.0
        (λ E m i q. rw i (subst (λ τ. Meets W (suc n) (lands W gs C Γ st) F (at-work W gs C (ahead 7 x) st (held_in Γ) E) (tree_condition step_zero Y τ)) m.same
        (stops step_zero C Γ (ahead 7 x) st E q)))
        (λ E m i. rw i (downward W gs C Γ c h.fit st σ l v x z p.cell (found Γ ts) hs hl
        (λ s t E₁ m₁ g d. rw d (go_on E₁ s t m₁ g))
        (λ s t E₁ m₁ d. rw d (subst (λ τ. Meets W (suc n) (lands W gs C Γ st) F (at-work W gs C z st (held_in Γ) E₁) (done tt τ)) m₁.same (arrived W gs C Γ tt E₁ m₁.holding)))
        E m e.1.0 e.1.1.0 e.1.1.1))

    -- a procedure's body starts with no holds of its own
    called : {A : Type 0} (G : A → List Value → Type 0) (C : Work) (Γ : List Around) (a : ℕ) (q : Procedure) (c : Called a q) (m n' : ℕ)
        (top st : List Value) (D : Data) (f : TreeBody → Place → Store → Result A)
        → fetch W.macro C.body m ≡ some (call_op (body_number gs a)) → length top ≡ length q.parameters → Fit W gs C Γ n' → Holds C D
        → ((C' : Work) (E : Data) → C'.body ≡ body_number gs a → Fit W gs C' (around a q c) (length q.parameters) → Holds C' E
        → Meets W n (nowhere W gs C') (Arrives W gs C' G (Sees W gs C' (around a q c)) (held_in (around a q c)) (end_of a q c) [])
        (at-work W gs C' c.head.first [] (held_in (around a q c)) E) (f q.body (place_of W gs C' (around a q c)) (seen gs (around a q c) E)))
        → Meets W (suc n) (nowhere W gs C) (Arrives W gs C G (Sees W gs C Γ) (held_in Γ) (suc m) st) (at-work W gs C m (top ++ st) (held_in Γ) D)
        (activate (some q) f (map (seen_v gs) (onto top [])) (place_of W gs C Γ) (seen gs Γ D))
    unfolding all_holds held_in
    called G C Γ a q c m n' top st D f p l w k sim =
        let C' = callee gs C (body_number gs a) Γ m st D in
        let none-held : held_in (around a q c) ≡ [] = held-parameters q.parameters 0 (inside c.scope ∷ W.shared-names) ∙ c.static.no-hold in
        calls W gs C G Γ (body_number gs a) m (end_of a q c) n' c.head q c.scope top st D f p c.ret c.there c.counts l w c.static k (λ E h.
        subst (λ K. Meets W n (nowhere W gs C) (Arrives W gs C' G (Sees W gs C' (around a q c)) K (end_of a q c) []) (at-work W gs C' c.head.first [] K E)
        (f q.body (record { holds = K ++ all_holds C'.below; activations = suc (length C'.below) }) (seen gs (around a q c) E))) none-held
        (sim C' E refl (fit-callee W gs C (body_number gs a) Γ m st D n' q.parameters c.scope w c.static) h))

    mutual
      unfolding exec code_s OkS Stands after act next do_operate lands blocks_of roots_of held_in do_assign onto count_exprs

      sim_s : (s : Stmt) (C : Work) (Γ : List Around) (ts : List Ty) (p : At) (st : List Value) → OkS gs s Γ → Fit W gs C Γ p.cell → Stands W C.body (code_s gs s Γ ts p) p
          → Goes C Γ st p.address (after (code_s gs s Γ ts p) p).address (exec world r s)
      sim_s (block ds is) C Γ ts p st o w h D k =
          left W gs C Γ (held_in Γ) _ st _ _ (heads W gs C (Nothing W gs C) ds Γ (inside (block_of ds is) ∷ Γ) p st
          (λ Δ. (x : ℕ) → OkItems gs is (labels is x ∷ Δ)) (λ Δ q. code_items gs is (labels is q.address ∷ Δ) ts q)
          (λ Y τ. catch r is Y (exec_items world r is Y τ)) D
          (λ Δ q D' o' w' b' c' h' k'. inward C Γ Δ (held_in Δ) _ st _ _ b' c'
          (block_items C is Δ ts st q o' w' h' (λ D₁ k₁. sim_items is C (labels is q.address ∷ Δ) ts q st (o' q.address)
          (fit-labels is q.address w') h' D₁ k₁) D' k'))
          o (fit-inside (block_of ds is) w) (λ cs. ([], refl)) (λ cs ls. refl) h k)
      sim_s (assign x e) C Γ ts p st o w h D k =
          let y = code_target gs x Γ ts p in
          sim_target x C Γ ts p (after (code_e gs e Γ (ty_target gs Γ x ts) (after y p)) (after y p)).address st e o.0 w h.0 h.1.1 D k
          (λ st' D' k'. sim_e e C Γ (ty_target gs Γ x ts) (after y p) st' o.1 (fit_on (more-cells y p) w) h.1.0 D' k')
      sim_s (when e s) C Γ ts p st o w h D k =
          let x = code_e gs e Γ ts p in let q = skip 1 (after x p) in
          bind_e W gs C Γ _ (sim_e e C Γ ts p st o.0 w h.0 D k) (λ v D' k'.
          branches C (after (code_s gs s Γ ts q) q).address v (after x p).address st (held_in Γ) D' _ _ (seen gs Γ D') h.1.0
          (sim_s s C Γ ts q st o.1 (fit_on (more-cells x p) w) h.1.1.0 D' k') (arrived W gs C Γ tt D' k'))
      sim_s (choose e s t) C Γ ts p st o w h D k =
          let x = code_e gs e Γ ts p in let q = skip 1 (after x p) in let y = code_s gs s Γ ts q in let m = skip 1 (after y q) in let z = code_s gs t Γ ts m in
          let w₁ = fit_on (more-cells x p) w in
          bind_e W gs C Γ _ (sim_e e C Γ ts p st o.0 w h.0 D k) (λ v D' k'.
          branches C m.address v (after x p).address st (held_in Γ) D' _ _ (seen gs Γ D') h.1.0
          (also_s W gs C Γ (sim_s s C Γ ts q st o.1 w₁ h.1.1.0 D' k') (λ u D'' k''.
          jumps W gs C.body C.below (after z m).address (after y q).address st (held_in Γ) D'' h.1.1.1.0 (arrived W gs C Γ u D'' k'')))
          (sim_s t C Γ ts m st o.2 (fit_on (more-cells y q) w₁) h.1.1.1.1.1.0 D' k'))
      sim_s (while e s) C Γ ts p st o w h D k =
          let x = code_e gs e Γ ts p in let q = skip 1 (after x p) in let y = code_s gs s Γ ts q in
          bind_e W gs C Γ _ (sim_e e C Γ ts p st o.0 w h.1.0 D k) (λ v D' k'.
          branches C (suc (after y q).address) v (after x p).address st (held_in Γ) D' _ _ (seen gs Γ D') h.1.1.0
          (bind_s W gs C Γ _ (sim_s s C Γ ts q st o.1 (fit_on (more-cells x p) w) h.1.1.1.0 D' k') (λ u D'' k''.
          op-tick W gs C.body C.below (go p.address) (after y q).address st (held_in Γ) D'' h.1.1.1.1.0 (below.b-again C e s Γ ts p st D'' o w h k'')))
          (arrived W gs C Γ tt D' k'))
      sim_s (goto a) C Γ ts p st o w h D k = ends (goes W gs C Γ true a p st D (seen gs Γ D) o h.0 refl k)
      sim_s (assert e) C Γ ts p st o w h D k =
          bind_e W gs C Γ _ (sim_e e C Γ ts p st o w h.0 D k) (λ v D' k'. asserts C Γ v (after (code_e gs e Γ ts p) p).address st D' h.1 k')
      sim_s (call a es) C Γ ts p st o w h D k =
          let q = o.0 in let c = table a q o.1 in
          binds (evals world r es (place_of W gs C Γ) (seen gs Γ D)) (λ l σ z. absurd z.there) (sim_es es C Γ ts p st o.4 w h.0 D k) (λ vs σ y m.
          rw o.1 (subst (λ x. Meets W (suc n) (lands W gs C Γ st) (Arrives W gs C (Nothing W gs C) (Sees W gs C Γ) (held_in Γ)
          (suc (after (code_es gs es Γ ts p) p).address) st) x (activate (some q) r.call_s vs (place_of W gs C Γ) σ)) (sym m.there)
          (subst₂ (λ us τ. Meets W (suc n) (lands W gs C Γ st) (Arrives W gs C (Nothing W gs C) (Sees W gs C Γ) (held_in Γ)
          (suc (after (code_es gs es Γ ts p) p).address) st) (at-work W gs C (after (code_es gs es Γ ts p) p).address (m.top ++ st) (held_in Γ)
          m.now) (activate (some q) r.call_s us (place_of W gs C Γ) τ)) m.gave.0 m.sees
          (onward _ (λ l σ z. absurd z.there) (called (Nothing W gs C) C Γ a q c (after (code_es gs es Γ ts p) p).address p.cell m.top st
          m.now r.call_s h.1 (m.gave.1 ∙ o.3) w m.holding (λ C' E b w' h'. below.b-call_s a q c C' E o.2 b w' h'))
          (λ v τ x z. ends (here z))))))
      sim_s (set_level e f) C Γ ts p st o w h D k =
          let x = code_e gs e Γ ts p in let us = ty_e gs Γ e ∷ ts in
          bind_e W gs C Γ _ (sim_e e C Γ ts p st o.0 w h.0 D k) (λ v D' k'.
          bind_e W gs C Γ _ (sim_e f C Γ us (after x p) (v ∷ st) o.1 (fit_on (more-cells x p) w) h.1.0 D' k') (λ u D'' k''.
          sets C Γ v u (after (code_e gs f Γ us (after x p)) (after x p)).address st D'' h.1.1 k''))
      sim_s (select e rs) C Γ ts p st o w h D k =
          let q = at p.address (suc p.cell) in let x = code_e gs e Γ ts q in let b = skip 1 (after x q) in
          bind_e W gs C Γ _ (sim_e e C Γ ts q st o.0 (fit_on (omega arith) w) h.1.0 D k) (λ v D' k'.
          stores W gs C.body C.below own p.cell v (after x q).address st (held_in Γ) D' tt h.1.1.0 (λ y g.
          let E = written own p.cell (assigned v) D' in
          rw (sym (hidden gs Γ p.cell (assigned v) D' (below_apart p.cell Γ w.below-n)))
          (subst (λ e''. Meets W (suc n) (lands W gs C Γ st) (Arrives W gs C (Nothing W gs C) (Sees W gs C Γ) (held_in Γ) e'' st)
          (at-work W gs C b.address st (held_in Γ) E) (asked (as_integer (seen_v gs v)) (λ z. exec_arm world r rs (size z) (place_of W gs C Γ) (seen gs Γ E))))
          (sym (len_arms gs rs p.cell 1 (b.address + ops_arms rs (scopes_of Γ) (passing Γ)) Γ ts b))
          (cased C Γ v (λ z. exec_arm world r rs (size z) (place_of W gs C Γ) (seen gs Γ E)) p.cell 1 b.address st E
          (put_same D'.cells p.cell (assigned v) y g) (begins rs C.body p.cell 1
          (b.address + ops_arms rs (scopes_of Γ) (passing Γ)) Γ ts b h.1.1.1.0) (λ z e'.
          sim_arms rs p.cell 1 (b.address + ops_arms rs (scopes_of Γ) (passing Γ)) z C Γ ts b st (size z) (starts z) o.1 (fit_on (cells-after x p.address p.cell) w) h.1.1.1.0
          (len_arms gs rs p.cell 1 (b.address + ops_arms rs (scopes_of Γ) (passing Γ)) Γ ts b) E
          (put_same D'.cells p.cell (assigned v) y g ∙ ap assigned e') (w.fresh p.cell (assigned v) D'.cells D'.lowest (omega arith) k'))))))
      sim_s (for a e f g s) C Γ ts p st o w h D k =
          let c = p.cell in let q = at p.address (suc (suc (suc c))) in let x = code_e gs e Γ ts q in let q₁ = after x q in let us = ty_e gs Γ e ∷ ts in
          let y = code_e gs f Γ us q₁ in let q₂ = after y q₁ in let vs = ty_e gs Γ f ∷ us in let z = code_e gs g Γ vs q₂ in let q₃ = after z q₂ in let b = skip 48 q₃ in
          let Δ = bound a c ∷ inside (loop_of a) ∷ Γ in let exit = ahead 13 (after (code_s gs s Δ ts b) b).address in
          let l₁ = more-cells x q in let l₂ = more-cells y q₁ in let l₃ = more-cells z q₂ in let h₃ = h.1.1.1 in
          let there = loop-stands C.body c q₃.address exit (found Γ ts) q₃ (code_s gs s Δ ts b) (code_turned c b.address exit (found Γ ts)) h₃.1.1.1.1 in
          subst (λ j. Meets W (suc n) (lands W gs C Γ st) (Arrives W gs C (Nothing W gs C) (Sees W gs C Γ) (held_in Γ) j st) (at-work W gs C p.address st (held_in Γ) D)
          (exec world r (for a e f g s) (place_of W gs C Γ) (seen gs Γ D))) (sym (loop-ends c q₃.address exit b.address (found Γ ts) q₃ (code_s gs s Δ ts b)))
          (bind_e W gs C Γ _ (sim_e e C Γ ts q st o.0 (fit_on (omega arith) w) h₃.0 D k) (λ i D₁ k₁.
          bind_e W gs C Γ _ (sim_e f C Γ us q₁ (i ∷ st) o.1 (fit_on (omega arith) w) h₃.1.0 D₁ k₁) (λ j D₂ k₂.
          bind_e W gs C Γ _ (sim_e g C Γ vs q₂ (j ∷ (i ∷ st)) o.2 (fit_on (omega arith) w) h₃.1.1.0 D₂ k₂) (λ m D₃ k₃.
          integers W gs C.body C.below Γ i j m st q₃.address ts (held_in Γ) D₃ (h₃.1.1.1.0 ∙ all-integers Γ ts (ty_e gs Γ e) (ty_e gs Γ f) (ty_e gs Γ g) o.3 o.4 o.5)
          (λ v d t ei ej em hv hd ht.
          let l : Loop = record { control = a; step = d; limit = t; statement = s } in
          let turning : Turning C l Γ ts b c exit = record { good = o.6 c; fit = w; later-cells = omega arith; stand = there.1; turned = there.2 } in
          rw (ei, ej, em) (begins-loop C l Γ ts q₃ c exit turning st D₃ v hv hd ht there.0 k₃ (λ E s' t' held steers.
          turn C l Γ ts b c exit turning st (seen gs Γ D₃) E v s' t' held steers hv
          (sim_s s (looping C c v s' t') Δ ts b st (o.6 c) (fit_on (omega arith) (fit-loop a v s' t' w)) there.1))))))))

      pub sim_items : (is : Items) (C : Work) (Γ : List Around) (ts : List Ty) (p : At) (st : List Value) → OkItems gs is Γ → Fit W gs C Γ p.cell → Stands W C.body (code_items gs is Γ ts p) p
          → Goes C Γ st p.address (after (code_items gs is Γ ts p) p).address (exec_items world r is)
      sim_items no_item C Γ ts p st o w h D k = arrived W gs C Γ tt D k
      sim_items (label a is) C Γ ts p st o w h D k = sim_items is C Γ ts p st o w h.1 D k
      sim_items (item s is) C Γ ts p st o w h D k =
          bind_s W gs C Γ _ (sim_s s C Γ ts p st o.0 w h.0 D k) (λ u D' k'. sim_items is C Γ ts (after (code_s gs s Γ ts p) p) st o.1 (fit_on (more-cells (code_s gs s Γ ts p) p) w) h.1 D' k')

      -- the alternatives from the i-th on, with the index in cell c
      sim_arms : (rs : Arms) (c i z' : ℕ) (z : ℤ) (C : Work) (Γ : List Around) (ts : List Ty) (p : At) (st : List Value) (k : ℕ) → Index z i k
          → OkArms gs rs Γ → Fit W gs C Γ p.cell → Stands W C.body (code_arms gs rs c i z' Γ ts p) p
          → (after (code_arms gs rs c i z' Γ ts p) p).address ≡ z' → (D : Data) → cell_at D.cells c ≡ assigned (int z) → Holds C D
          → Meets W (suc n) (lands W gs C Γ st) (Arrives W gs C (Nothing W gs C) (Sees W gs C Γ) (held_in Γ) z' st)
          (at-work W gs C p.address st (held_in Γ) D) (exec_arm world r rs k (place_of W gs C Γ) (seen gs Γ D))
      sim_arms (last_arm s) c i z' z C Γ ts p st zero x o w h e D g k =
          let q = skip 4 p in let y = code_s gs s Γ ts q in
          tests W gs C.body C.below z i c (suc (after y q).address) p.address st (held_in Γ) D false (x i (omega arith)) g h.0 h.1.0 h.1.1.0 h.1.1.1.0 (λ u. never u)
          (λ u. stops case_index C Γ (suc (after y q).address) st D h.1.1.1.1.1.1.1)
      sim_arms (last_arm s) c i z' z C Γ ts p st (suc zero) x o w h e D g k =
          let q = skip 4 p in let y = code_s gs s Γ ts q in
          tests W gs C.body C.below z i c (suc (after y q).address) p.address st (held_in Γ) D true (hits z i x) g h.0 h.1.0 h.1.1.0 h.1.1.1.0
          (λ u. also_s W gs C Γ (sim_s s C Γ ts q st o w h.1.1.1.1.0 D k)
          (λ v D' k'. jumps W gs C.body C.below z' (after y q).address st (held_in Γ) D' h.1.1.1.1.1.0 (arrived W gs C Γ v D' k'))) (λ u. never (sym u))
      sim_arms (last_arm s) c i z' z C Γ ts p st (suc (suc m)) x o w h e D g k =
          let q = skip 4 p in let y = code_s gs s Γ ts q in
          tests W gs C.body C.below z i c (suc (after y q).address) p.address st (held_in Γ) D false (misses z i m x) g h.0 h.1.0 h.1.1.0 h.1.1.1.0 (λ u. never u)
          (λ u. stops case_index C Γ (suc (after y q).address) st D h.1.1.1.1.1.1.1)
      sim_arms (arm s rs) c i z' z C Γ ts p st zero x o w h e D g k =
          let q = skip 4 p in let y = code_s gs s Γ ts q in let v = skip 1 (after y q) in
          tests W gs C.body C.below z i c v.address p.address st (held_in Γ) D false (x i (omega arith)) g h.0 h.1.0 h.1.1.0 h.1.1.1.0 (λ u. never u)
          (λ u. rw (sym (arms_none rs (place_of W gs C Γ) (seen gs Γ D)))
          (sim_arms rs c (suc i) z' z C Γ ts v st zero (λ j l. x j (omega arith)) o.1 (fit_on (more-cells y q) w) h.1.1.1.1.1.1.1 e D g k))
      sim_arms (arm s rs) c i z' z C Γ ts p st (suc zero) x o w h e D g k =
          let q = skip 4 p in let y = code_s gs s Γ ts q in let v = skip 1 (after y q) in
          tests W gs C.body C.below z i c v.address p.address st (held_in Γ) D true (hits z i x) g h.0 h.1.0 h.1.1.0 h.1.1.1.0
          (λ u. also_s W gs C Γ (sim_s s C Γ ts q st o.0 w h.1.1.1.1.0 D k)
          (λ v D' k'. jumps W gs C.body C.below z' (after y q).address st (held_in Γ) D' h.1.1.1.1.1.0 (arrived W gs C Γ v D' k'))) (λ u. never (sym u))
      sim_arms (arm s rs) c i z' z C Γ ts p st (suc (suc m)) x o w h e D g k =
          let q = skip 4 p in let y = code_s gs s Γ ts q in let v = skip 1 (after y q) in
          tests W gs C.body C.below z i c v.address p.address st (held_in Γ) D false (misses z i m x) g h.0 h.1.0 h.1.1.0 h.1.1.1.0 (λ u. never u)
          (λ u. sim_arms rs c (suc i) z' z C Γ ts v st (suc m) (nexts z i m x) o.1 (fit_on (more-cells y q) w) h.1.1.1.1.1.1.1 e D g k)

      sim_target : (x : Target) (C : Work) (Γ : List Around) (ts : List Ty) (p : At) (m : ℕ) (st : List Value) (f : Expr) → OkTarget gs x Γ
          → Fit W gs C Γ p.cell → Stands W C.body (code_target gs x Γ ts p) p
          → fetch W.macro C.body m ≡ some (op_target gs Γ x) → (D : Data) → Holds C D → ((st' : List Value) → Gives C Γ st' (after (code_target gs x Γ ts p) p).address m (eval world r f))
          → Meets W (suc n) (lands W gs C Γ st) (Arrives W gs C (Nothing W gs C) (Sees W gs C Γ) (held_in Γ) (suc m) st) (at-work W gs C p.address st (held_in Γ) D)
          (next (locate world r x (place_of W gs C Γ) (seen gs Γ D)) (λ l τ. next (eval world r f (place_of W gs C Γ) τ) (λ v ρ. do_assign l v (place_of W gs C Γ) ρ)))
      sim_target (to_variable a) C Γ ts p m st f o w h i D k g =
          bind_e W gs C Γ _ (g st D k) (λ v D' k'.
          stores W gs C.body C.below o.0 o.1 v m st (held_in Γ) D' (w.owners a o.1 o.0 o.2) (rw o.2 at i) (λ y z.
          rw (writes gs a Γ o.0 o.1 v y D' o.2 w.distinct z)
          (arrived W gs C Γ tt (written o.0 o.1 (assigned v) D') (w.stable a o.1 o.0 (assigned v) D'.cells D'.lowest o.2 o.3 k'))))
      sim_target (to_field a e) C Γ ts p m st f o w h i D k g =
          rw (next-next (eval world r e (place_of W gs C Γ) (seen gs Γ D)) (λ v τ. done (of_field a v) τ) (λ l τ. next (eval world r f (place_of W gs C Γ) τ) (λ v ρ. do_assign l v (place_of W gs C Γ) ρ)))
          (bind_e W gs C Γ _ (sim_e e C Γ ts p st o.0 w h D k) (λ v D' k'.
          bind_e W gs C Γ _ (g (v ∷ st) D' k') (λ u D'' k''. puts W gs C Γ a (field_number gs a).class (field_number gs a).index v u m st D'' o.1 i k'')))

      sim_e : (e : Expr) (C : Work) (Γ : List Around) (ts : List Ty) (p : At) (st : List Value) → OkE gs e Γ → Fit W gs C Γ p.cell → Stands W C.body (code_e gs e Γ ts p) p
          → Gives C Γ st p.address (after (code_e gs e Γ ts p) p).address (eval world r e)
      sim_e (number z) C Γ ts p st o w h D k = pushes W gs C.body C.below (int z) p.address st (held_in Γ) D h (given-one W gs C Γ (int z) D k)
      sim_e (truth b) C Γ ts p st o w h D k = pushes W gs C.body C.below (log b) p.address st (held_in Γ) D h (given-one W gs C Γ (log b) D k)
      sim_e (pattern z) C Γ ts p st o w h D k = pushes W gs C.body C.below (bit (word_of z)) p.address st (held_in Γ) D h (given-one W gs C Γ (bit (word_of z)) D k)
      sim_e (null c) C Γ ts p st o w h D k =
          pushes W gs C.body C.below (ref (class_number gs c) none) p.address st (held_in Γ) D h
          (subst (λ v. Meets W (suc n) (nowhere W gs C) (Arrives W gs C (One W gs C) (Sees W gs C Γ) (held_in Γ) (suc p.address) st)
          (at-work W gs C (suc p.address) (ref (class_number gs c) none ∷ st) (held_in Γ) D) (done v (seen gs Γ D))) o
          (given-one W gs C Γ (ref (class_number gs c) none) D k))
      sim_e (variable a) C Γ ts p st o w h D k =
          loads W gs C.body C.below o.0 o.1 p.address st (held_in Γ) D (w.owners a o.1 o.0 o.2) (rw o.2 at h) (λ v g.
          let e : value_of a (seen gs Γ D) ≡ some (assigned (seen_v gs v)) = reads gs a Γ D ∙ ap (λ z. cell_for gs z D.cells D.lowest) o.2
          ∙ ap (λ z. some (seen_c gs z)) (found_at (of_owner gs o.0 D.cells D.lowest) o.1 (assigned v) g) in
          rw e (given-one W gs C Γ v D k))
      sim_e (invoke a es) C Γ ts p st o w h D k =
          let q = o.0 in let c = table a q o.1 in
          binds (evals world r es (place_of W gs C Γ) (seen gs Γ D)) (λ l σ z. z) (sim_es es C Γ ts p st o.4 w h.0 D k) (λ vs σ y m.
          rw o.1 (subst (λ x. Meets W (suc n) (nowhere W gs C) (Arrives W gs C (One W gs C) (Sees W gs C Γ) (held_in Γ)
          (suc (after (code_es gs es Γ ts p) p).address) st) x (activate (some q) r.call_e vs (place_of W gs C Γ) σ)) (sym m.there)
          (subst₂ (λ us τ. Meets W (suc n) (nowhere W gs C) (Arrives W gs C (One W gs C) (Sees W gs C Γ) (held_in Γ)
          (suc (after (code_es gs es Γ ts p) p).address) st) (at-work W gs C (after (code_es gs es Γ ts p) p).address (m.top ++ st) (held_in Γ)
          m.now) (activate (some q) r.call_e us (place_of W gs C Γ) τ)) m.gave.0 m.sees
          (called (One W gs C) C Γ a q c (after (code_es gs es Γ ts p) p).address p.cell m.top st m.now r.call_e h.1
          (m.gave.1 ∙ o.3) w m.holding (λ C' E b w' h'. below.b-call_e a q c C' E o.2 b w' h')))))
      sim_e (field a e) C Γ ts p st o w h D k =
          bind_e W gs C Γ _ (sim_e e C Γ ts p st o.0 w h.0 D k) (λ v D' k'.
          gets W gs C Γ a (field_number gs a).class (field_number gs a).index v (after (code_e gs e Γ ts p) p).address st D' o.1 h.1 k')
      sim_e (make c es) C Γ ts p st o w h D k =
          let m' = (after (code_es gs es Γ ts p) p).address in
          let t = classes c o.1.0 o.1.1 in
          binds (evals world r es (place_of W gs C Γ) (seen gs Γ D)) (λ l σ z. z) (sim_es es C Γ ts p st o.0 w h.0 D k) (λ vs σ y m.
          rw o.1.1 (subst (λ x. Meets W (suc n) (nowhere W gs C) (Arrives W gs C (One W gs C) (Sees W gs C Γ) (held_in Γ) (suc m') st) x
          (do_make c (some o.1.0) vs (place_of W gs C Γ) σ)) (sym m.there)
          (subst₂ (λ us τ. Meets W (suc n) (nowhere W gs C) (Arrives W gs C (One W gs C) (Sees W gs C Γ) (held_in Γ) (suc m') st)
          (at-work W gs C m' (m.top ++ st) (held_in Γ) m.now) (do_make c (some o.1.0) us (place_of W gs C Γ) τ)) m.gave.0 m.sees
          (makes W gs C Γ c (class_number gs c) o.1.0 t.0 m' m.top st m.now h.1 t.1 (m.gave.1 ∙ o.1.2 ∙ sym t.2) o.1.3 o.1.4 m.holding))))
      sim_e (operate1 u e) C Γ ts p st o w h D k =
          let m = (after (code_e gs e Γ ts p) p).address in
          bind_e W gs C Γ _ (sim_e e C Γ ts p st o w h.0 D k) (λ v D' k'.
          op-at W gs C.body C.below (operate (unary u)) m (v ∷ st) (held_in Γ) D' h.1 (settles C Γ m (v ∷ st) st D' (apply1 u v) (apply1 u (seen_v gs v)) (seen-1 gs u v) k'))
      sim_e (operate2 u e f) C Γ ts p st o w h D k =
          ways (way_of u (is_ty logical (type_e (scopes_of Γ) e))) u C Γ ts (code_e gs e Γ ts p) p (λ us q. code_e gs f Γ us q) e f st (way-for u (is_ty logical (type_e (scopes_of Γ) e))) h
          (λ h' D' k'. sim_e e C Γ ts p st o.0 w h' D' k') (λ us q vs l h' D' k'. sim_e f C Γ us q vs o.1 (fit_on l w) h' D' k') D k
      sim_e (conditional e f g) C Γ ts p st o w h D k =
          let x = code_e gs e Γ ts p in let q = skip 1 (after x p) in let y = code_e gs f Γ ts q in let m = skip 1 (after y q) in let z = code_e gs g Γ ts m in
          let w₁ = fit_on (more-cells x p) w in
          bind_e W gs C Γ _ (sim_e e C Γ ts p st o.0 w h.0 D k) (λ v D' k'.
          branches C m.address v (after x p).address st (held_in Γ) D' _ _ (seen gs Γ D') h.1.0
          (also_e W gs C Γ (sim_e f C Γ ts q st o.1 w₁ h.1.1.0 D' k') (λ u D'' k''.
          jumps W gs C.body C.below (after z m).address (after y q).address (u ∷ st) (held_in Γ) D'' h.1.1.1.0 (given-one W gs C Γ u D'' k'')))
          (sim_e g C Γ ts m st o.2 (fit_on (more-cells y q) w₁) h.1.1.1.1.1.0 D' k'))
      sim_e (fader e) C Γ ts p st o w h D k = bind_e W gs C Γ _ (sim_e e C Γ ts p st o w h.0 D k) (λ v D' k'. fades C Γ v (after (code_e gs e Γ ts p) p).address st D' h.1 k')
      sim_e (block_expr ds is e) C Γ ts p st o w h D k =
          left W gs C Γ (held_in Γ) _ st _ _ (heads W gs C (One W gs C) ds Γ (inside (expression_of ds is) ∷ Γ) p st (λ Δ. ((x : ℕ) → OkItems gs is (labels is x ∷ Δ)) × OkE gs e Δ)
          (λ Δ q. let y = code_items gs is (labels is q.address ∷ Δ) ts q in y ▸ code_e gs e Δ ts (after y q))
          (λ Y τ. next (catch r is Y (exec_items world r is Y τ)) (λ u ρ. eval world r e Y ρ)) D
          (λ Δ q D' o' w' b' c' h' k'. let y = code_items gs is (labels is q.address ∷ Δ) ts q in
          bind_s W gs C Δ _ (block_items C is Δ ts st q o'.0 w' h'.0
          (λ D₁ k₁. sim_items is C (labels is q.address ∷ Δ) ts q st (o'.0 q.address) (fit-labels is q.address w') h'.0 D₁ k₁) D' k') (λ u D'' k''.
          inward C Γ Δ (held_in Δ) _ st _ _ b' c' (also_e W gs C Δ (sim_e e C Δ ts (after y q) st o'.1 (fit_on (more-cells y q) w') h'.1 D'' k'') (λ v D₃ k₃. given-one W gs C Δ v D₃ k₃))))
          o (fit-inside (expression_of ds is) w) (λ cs. ([], refl)) (λ cs ls. refl) h k)

      sim_es : (es : Exprs) (C : Work) (Γ : List Around) (ts : List Ty) (p : At) (st : List Value) → OkEs gs es Γ → Fit W gs C Γ p.cell
          → Stands W C.body (code_es gs es Γ ts p) p → (D : Data) → Holds C D
          → Meets W (suc n) (nowhere W gs C) (Arrives W gs C (Many (count_exprs es)) (Sees W gs C Γ) (held_in Γ)
          (after (code_es gs es Γ ts p) p).address st) (at-work W gs C p.address st (held_in Γ) D) (evals world r es (place_of W gs C Γ) (seen gs Γ D))
      sim_es no_expr C Γ ts p st o w h D k = ends (here (record { top = []; now = D; there = refl; sees = refl; gave = (refl, refl); holding = k }))
      sim_es (expr e es) C Γ ts p st o w h D k =
          let x = code_e gs e Γ ts p in let us = ty_e gs Γ e ∷ ts in
          bind_e W gs C Γ _ (sim_e e C Γ ts p st o.0 w h.0 D k) (λ v D' k'.
          binds (evals world r es (place_of W gs C Γ) (seen gs Γ D')) (λ l σ z. z) (sim_es es C Γ us (after x p) (v ∷ st) o.1 (fit_on (more-cells x p) w) h.1 D' k') (λ vs σ y m.
          ends (here (record {
            top = m.top ++ (v ∷ []);
            now = m.now;
            there = m.there ∙ ap (λ z. at-work W gs C (after (code_es gs es Γ us (after x p)) (after x p)).address z (held_in Γ) m.now) (sym (append_assoc m.top (v ∷ []) st));
            sees = m.sees;
            gave = (
              ap (map (seen_v gs)) (onto-last m.top v []) ∙ ap (λ z. seen_v gs v ∷ z) m.gave.0,
              length-append m.top (v ∷ [])
                  ∙ counted-more (length m.top) (count_exprs es) m.gave.1,
            );
            holding = m.holding;
          }))))

    -- a block's statements from a label on
    resumed : (C : Work) (is : Items) (Γ : List Around) (ts : List Ty) (st : List Value) (x n' : ℕ) (e : At)
        → ((a : ℕ) → Found W gs C (has_label a is) (from a is) (labels is x ∷ Γ) ts (label_at is (scopes_of Γ) (the_labels is ∷ passing Γ) x a) n' e
        (λ js. OkItems gs js (labels is x ∷ Γ)))
        → Fit W gs C Γ n' → (js : Items) (q : At) (D : Data) → OkItems gs js (labels is x ∷ Γ) → Fit W gs C Γ q.cell
        → Stands W C.body (code_items gs js (labels is x ∷ Γ) ts q) q → after (code_items gs js (labels is x ∷ Γ) ts q) q ≡ e → Holds C D
        → Meets W (suc n) (lands W gs C Γ st) (Arrives W gs C (Nothing W gs C) (Sees W gs C Γ) (held_in Γ) e.address st)
        (at-work W gs C q.address st (held_in Γ) D) (catch r is (place_of W gs C Γ) (exec_items world r js (place_of W gs C Γ) (seen gs Γ D)))
    unfolding held_in blocks_of roots_of
    resumed C is Γ ts st x n' e f w js q D o w' h g k =
        catches W gs C r is Γ ts st (at x n') e (λ js. OkItems gs js (labels is x ∷ Γ)) (at-work W gs C q.address st (held_in Γ) D) (exec_items world r js (place_of W gs C Γ) (seen gs Γ D)) f w
        (below.b-resume C is Γ ts st x n' e f w)
        (subst (λ z. Meets W (suc n) (lands W gs C (labels is x ∷ Γ) st) (Arrives W gs C (Nothing W gs C) (Sees W gs C Γ) (held_in Γ) z.address st)
        (at-work W gs C q.address st (held_in Γ) D) (exec_items world r js (place_of W gs C Γ) (seen gs Γ D))) g
        (sim_items js C (labels is x ∷ Γ) ts q st o (fit-labels is x w') h D k))

    -- the bodies of procedures: no goto leaves them
    walled : (C : Work) (xs : List Typed) (k : ℕ) (s : Scope) (ds : List Definition) (Γ : List Around) (st : List Value) (a : ℕ) (σ : Store)
        (y : Conf) → s ≡ in_procedure ds → lands W gs C (parameter_cells xs k (inside s ∷ Γ)) st a σ y → ⊥
    unfolding parameter_cells lands
    walled C [] k s ds Γ st a σ y e h = subst (λ z. lands W gs C (inside z ∷ Γ) st a σ y) e h
    walled C (x ∷ xs) k s ds Γ st a σ y e h = walled C xs (suc k) s ds Γ st a σ y e h

    runs_s : (b : TreeBody) (Γ : List Around) (p : At) (C : Work) (D : Data) → IsProper b → OkBody gs b Γ → Fit W gs C Γ p.cell → Stands W C.body (code_body gs b Γ p) p → Holds C D
        → Meets W (suc n) (lands W gs C Γ []) (Arrives W gs C (Nothing W gs C) (Sees W gs C Γ) (held_in Γ) (after (code_body gs b Γ p) p).address [])
        (at-work W gs C p.address [] (held_in Γ) D) (exec_body world r b (place_of W gs C Γ) (seen gs Γ D))
    unfolding exec_body
    runs_s (proper s) Γ p C D i o w h k = sim_s s C Γ [] p [] o w h D k
    runs_s (function t e) Γ p C D i o w h k = absurd i

    runs_e : (b : TreeBody) (Γ : List Around) (p : At) (C : Work) (D : Data) → IsFunction b → OkBody gs b Γ → Fit W gs C Γ p.cell → Stands W C.body (code_body gs b Γ p) p → Holds C D
        → Meets W (suc n) (nowhere W gs C) (Arrives W gs C (One W gs C) (Sees W gs C Γ) (held_in Γ) (after (code_body gs b Γ p) p).address [])
        (at-work W gs C p.address [] (held_in Γ) D) (eval_body world r b (place_of W gs C Γ) (seen gs Γ D))
    unfolding eval_body
    runs_e (proper s) Γ p C D i o w h k = absurd i
    runs_e (function t e) Γ p C D i o w h k = sim_e e C Γ [] p [] o w h D k

    body_s : (a : ℕ) (q : Procedure) (c : Called a q) (C : Work) (D : Data) → IsProper q.body → C.body ≡ body_number gs a → Fit W gs C (around a q c) (length q.parameters) → Holds C D
        → Meets W (suc n) (nowhere W gs C) (Arrives W gs C (Nothing W gs C) (Sees W gs C (around a q c)) (held_in (around a q c)) (end_of a q c) [])
        (at-work W gs C c.head.first [] (held_in (around a q c)) D) (exec_body world r q.body (place_of W gs C (around a q c)) (seen gs (around a q c) D))
    body_s a q c C D i e w k =
        onward _ (λ l σ h. absurd (walled C q.parameters 0 c.scope c.names W.shared-names [] l σ _ c.is-procedure h.there))
        (runs_s q.body (around a q c) (at c.head.first (length q.parameters)) C D i c.good w
        (subst (λ z. Stands W z (code_body gs q.body (around a q c) (at c.head.first (length q.parameters)))
        (at c.head.first (length q.parameters))) (sym e) c.stand) k)
        (λ v σ y m. ends (here m))

    body_e : (a : ℕ) (q : Procedure) (c : Called a q) (C : Work) (D : Data) → IsFunction q.body → C.body ≡ body_number gs a → Fit W gs C (around a q c) (length q.parameters) → Holds C D
        → Meets W (suc n) (nowhere W gs C) (Arrives W gs C (One W gs C) (Sees W gs C (around a q c)) (held_in (around a q c)) (end_of a q c) [])
        (at-work W gs C c.head.first [] (held_in (around a q c)) D) (eval_body world r q.body (place_of W gs C (around a q c)) (seen gs (around a q c) D))
    body_e a q c C D i e w k =
        runs_e q.body (around a q c) (at c.head.first (length q.parameters)) C D i c.good w
        (subst (λ z. Stands W z (code_body gs q.body (around a q c) (at c.head.first (length q.parameters)))
        (at c.head.first (length q.parameters))) (sym e) c.stand) k

  -- ── by fuel ──
  late : {L : ℕ → Store → Conf → Type 0} {F : Unit {0} → Store → Conf → Type 0} (C : Work) (Γ : List Around) (a : ℕ) (st : List Value) (D : Data)
      → Meets W 0 L F (at-work W gs C a st (held_in Γ) D) (later (seen gs Γ D))
  unfolding run
  late C Γ a st D = ends (record { steps = 0; many = zero-le; alive = (refl, refl) })

  late_at : {A : Type 0} {L : ℕ → Store → Conf → Type 0} {F : A → Store → Conf → Type 0} (C : Work) (Γ : List Around) (a : ℕ) (st : List Value)
      (D : Data) → Meets W 0 L F (at-work W gs C a st (held_in Γ) D) (later (seen gs Γ D))
  unfolding run
  late_at C Γ a st D = ends (record { steps = 0; many = zero-le; alive = (refl, refl) })

  turns_on : (table : (a : ℕ) (q : Procedure) → procedure_in a gs ≡ some q → Called a q)
      (classes : (c : ℕ) (xs : List Typed) → class_in c gs ≡ some xs → (ts : List Ty) × (get_elem? W.macro.classes (class_number gs c) ≡ some ts)
      × (length ts ≡ length xs)) (n : ℕ) (r : Less) (below : Below n r)
      (C : Work) (l : Loop) (Γ : List Around) (ts : List Ty) (b : At) (c z : ℕ) (h : Turning C l Γ ts b c z) (st : List Value) (σ : Store) (D : Data) (v s t : ℤ)
      → Held W gs C Γ c h.fit st σ D v s t → Steers l s t → Small v
      → Meets W (suc n) (lands W gs C Γ st) (Arrives W gs C (Nothing W gs C) (Sees W gs C Γ) (held_in Γ) z st)
      (at-work W gs C b.address st (held_in Γ) D) (turns r l (λ Y μ. exec world r l.statement Y μ) v (place_of W gs C Γ) σ)
  turns_on table classes n r ih C l Γ ts b c z h st σ D v s t k f m =
      turn table classes n r ih C l Γ ts b c z h st σ D v s t k f m
      (sim_s table classes n r ih l.statement (looping C c v s t) (bound l.control c ∷ inside (loop_of l.control) ∷ Γ) ts b st h.good
      (fit_on h.later-cells (fit-loop l.control v s t h.fit)) h.stand)

  pub all : (table : (a : ℕ) (q : Procedure) → procedure_in a gs ≡ some q → Called a q)
      (classes : (c : ℕ) (xs : List Typed) → class_in c gs ≡ some xs → (ts : List Ty) × (get_elem? W.macro.classes (class_number gs c) ≡ some ts)
      × (length ts ≡ length xs)) (n : ℕ) → Below n (fueled world n)
  unfolding fueled
  all table classes zero = record {
    b-call_s = λ a q c C D i e w k. late_at C (around a q c) c.head.first [] D;
    b-call_e = λ a q c C D i e w k. late_at C (around a q c) c.head.first [] D;
    b-again = λ C e s Γ ts p st D o w h k. late C Γ p.address st D;
    b-further = λ C l Γ ts b c z h st σ D v s t k f m. subst (λ τ. Meets W {A = Unit {0}} zero (lands W gs C Γ st) (Arrives W gs C (Nothing W gs C) (Sees W gs C Γ) (held_in Γ) z st)
        (at-work W gs C b.address st (held_in Γ) D) (later τ)) k.same (late C Γ b.address st D);
    b-resume = λ C is Γ ts st x n' e f w js q D o w' h g k. late C Γ q.address st D;
  }
  all table classes (suc n) = let r = fueled world n in let ih = all table classes n in record {
    b-call_s = λ a q c C D i e w k. body_s table classes n r ih a q c C D i e w k;
    b-call_e = λ a q c C D i e w k. body_e table classes n r ih a q c C D i e w k;
    b-again = λ C e s Γ ts p st D o w h k. sim_s table classes n r ih (while e s) C Γ ts p st o w h D k;
    b-further = λ C l Γ ts b c z h st σ D v s t k f m. turns_on table classes n r ih C l Γ ts b c z h st σ D v s t k f m;
    b-resume = λ C is Γ ts st x n' e f w js q D o w' h g k. resumed table classes n r ih C is Γ ts st x n' e f w js q D o w' h g k;
  }
