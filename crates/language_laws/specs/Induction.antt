-- Induction over executions: what every way to put results together keeps holds of every part of every tree, with any fuel.
-- A claim `R A X σ p q` is about a part that begins at place X with store σ, and ends as p over one `Less` and as q over another.
use Rattle.std.specs.Prelude.{Bool, true, false, ◌&&◌, ◌≡◌, ℕ, zero, suc, ltb, ℤ, length}
use Rattle.std.proofs.Math.Path.{refl}
use Rattle.std.proofs.Common.{sym}
use mathlib.Core.List.{List, [], ◌∷◌}
use Rattle.std.proofs.Math.Option.{Option, none, some}
use Rattle.std.proofs.Math.ListN.{get_elem?}
use Rattle.logic.specs.Options.{is_some}
use Rattle.logic.specs.Choice.{If◌then◌else◌}
use Rattle.values.specs.Arithmetic.{Outcome, gives, ends, mistyped, is_zero, sum}
use Rattle.values.specs.Values.{Value, as_integer, as_logical, as_reference, Cell, assigned, fresh, between, size, apply1, apply2}
use Rattle.values.specs.Trace.{set, hold, Item, event, reading}
use Rattle.language.specs.Tree.{Typed, Decl, declare, holding, Target, to_variable, to_field, Exprs, no_expr, expr, Body, proper, function}
use Rattle.language.specs.Tree.{Stmt, block, assign, when, choose, while, goto, assert, call, set_level, select, for, Items, no_item, label, item, Arms, last_arm, arm}
use Rattle.language.specs.Tree.{Expr, number, truth, pattern, null, variable, invoke, field, make, operate1, operate2, conditional, fader, block_expr}
use Rattle.language.specs.Execute.{Slot, slot, Made, Store, with_blocks, with_root, say, cell_in, cell_of, put_in, put_of, value_of, assign_to, declare_first, declare_in}
use Rattle.language.specs.Execute.{Result, done, jump, wrong, next, Place, under, deeper, condition, settled, asked, branch, cell_value, on_made, on_record}
use Rattle.language.specs.Execute.{do_set, do_fader, do_field, do_put_field, of_variable, of_field, Location, do_assign, pair_up, do_make, decides}
use Rattle.language.specs.Execute.{let_go, within, leaving, new_block, Loop, due, if_due, turning, advancing, turns, counted, Less, catch, Procedure, procedure_in, class_in, World, activate, arm_at}
use Rattle.language.specs.Execute.{exec, exec_items, exec_arm, locate, eval, evals, exec_body, eval_body, fueled}
use Rattle.language_laws.specs.Holds.{Quiet}

abbrev pub Claim : Type 1
Claim = (A : Type 0) → Place → Store → Result A → Result A → Type 0

-- of a part at one place, and at any place, with any store
abbrev pub Here : Claim → (A : Type 0) → Place → (Store → Result A) → (Store → Result A) → Type 0
Here R A X f h = (σ : Store) → R A X σ (f σ) (h σ)

abbrev pub Anywhere : Claim → (A : Type 0) → (Place → Store → Result A) → (Place → Store → Result A) → Type 0
Anywhere R A f h = (X : Place) (σ : Store) → R A X σ (f X σ) (h X σ)

-- a law for each way to put results together
pub record Lawful (R : Claim) : Type 1 where
  -- of the store only the trace matters, and of the place only the holds
  pub same : {A : Type 0} {X : Place} {σ τ : Store} {p q : Result A} → σ.trace ≡ τ.trace → R A X σ p q → R A X τ p q
  pub called : {A : Type 0} {X : Place} {σ : Store} {p q : Result A} → R A (deeper X) σ p q → R A X σ p q
  -- leaves of an execution
  pub gives : {A : Type 0} {X : Place} {σ : Store} {v : A} → R A X σ (done v σ) (done v σ)
  pub adds : {A : Type 0} {X : Place} {σ τ : Store} {v : A} (i : Item) → Quiet i → i ∷ σ.trace ≡ τ.trace → R A X σ (done v τ) (done v τ)
  pub jumps : {A : Type 0} {X : Place} {σ : Store} {a : ℕ} → R A X σ (jump a σ) (jump a σ)
  pub stops : {A : Type 0} {X : Place} {σ : Store} {c : ℕ} → R A X σ (condition c X σ) (condition c X σ)
  pub fails : {A : Type 0} {X : Place} {σ : Store} → R A X σ wrong wrong
  -- one part after another; a hold around a part; a block's end; a block's labels
  pub binds : {A B : Type 0} {X : Place} {σ : Store} {p q : Result A} {f h : A → Store → Result B}
      → R A X σ p q → ((v : A) → Here R B X (f v) (h v)) → R B X σ (next p f) (next q h)
  pub holds : {A : Type 0} {X : Place} {σ : Store} {p q : Result A} {g : ℕ} → R A (under g X) (say (hold g) σ) p q → R A X σ (let_go g p) (let_go g q)
  pub leaves : {A : Type 0} {X : Place} {σ : Store} {p q : Result A} (f : Store → List (List Slot)) → R A X σ p q → R A X σ (leaving f p) (leaving f q)
  pub catches : {X : Place} {σ : Store} {p q : Result (Unit {0})} (r s : Less) (is : Items) → R (Unit {0}) X σ p q
      → ((js : Items) → Here R (Unit {0}) X (r.resume is js X) (s.resume is js X)) → R (Unit {0}) X σ (catch r is X p) (catch s is X q)

-- what is known of the parts that run with one fuel less
pub record Below (R : Claim) (r s : Less) : Type 0 where
  pub again : (e : Expr) (b : Stmt) → Anywhere R (Unit {0}) (r.again e b) (s.again e b)
  pub further : (l : Loop) (z : ℤ) → Anywhere R (Unit {0}) (r.further l z) (s.further l z)
  pub resume : (is js : Items) → Anywhere R (Unit {0}) (r.resume is js) (s.resume is js)
  pub call_s : (b : Body) → Anywhere R (Unit {0}) (r.call_s b) (s.call_s b)
  pub call_e : (b : Body) → Anywhere R Value (r.call_e b) (s.call_e b)

-- the root, a block whose variables are the root's
abbrev pub root_over : World → Less → List Decl → Items → Place → Store → Result (Unit {0})
root_over W r ds is X σ = within ds X σ (λ Y τ. catch r is Y (exec_items W r is Y τ))

-- variables are no part of the trace
declared-first : (x : Slot) (bs : List (List Slot)) (σ : Store) → σ.trace ≡ (declare_first x bs σ).trace
declared-first x [] σ = refl
declared-first x (b ∷ bs) σ = refl

declared : (x : Typed) (σ : Store) → σ.trace ≡ (declare_in x σ).trace
unfolding declare_in
declared x σ = declared-first (slot x.name (fresh x.type)) σ.blocks σ

chosen : (b : Bool) (σ τ ρ : Store) → σ.trace ≡ τ.trace → σ.trace ≡ ρ.trace → σ.trace ≡ (If b then τ else ρ).trace
chosen true σ τ ρ h k = h
chosen false σ τ ρ h k = k

assigned-to : (a : ℕ) (v : Value) (σ : Store) → σ.trace ≡ (assign_to a v σ).trace
unfolding assign_to
assigned-to a v σ =
    chosen (is_some (cell_of a σ.blocks)) σ (with_blocks (put_of a (assigned v) σ.blocks) σ) (with_root (put_in a (assigned v) σ.root) σ) refl refl

module _ (R : Claim) (L : Lawful R) where
  -- ── values and effects ──
  -- the same, with another store of the same trace
  keeps : {A : Type 0} {X : Place} {σ τ : Store} {v : A} → τ.trace ≡ σ.trace → R A X σ (done v τ) (done v τ)
  keeps h = L.same h L.gives

  either_way : {A : Type 0} {X : Place} {σ : Store} {p q p' q' : Result A} (b : Bool) → R A X σ p q → R A X σ p' q' → R A X σ (If b then p else p') (If b then q else q')
  either_way true h k = h
  either_way false h k = k

  settles : {A : Type 0} {X : Place} {σ : Store} (o : Outcome A) → R A X σ (settled o X σ) (settled o X σ)
  unfolding settled
  settles (gives x) = L.gives
  settles (ends c) = L.stops
  settles mistyped = L.fails

  asks : {A B : Type 0} {X : Place} {σ : Store} (o : Option A) {f h : A → Result B} → ((x : A) → R B X σ (f x) (h x)) → R B X σ (asked o f) (asked o h)
  asks none k = L.fails
  asks (some x) k = k x

  branches : {A : Type 0} {X : Place} {σ : Store} (v : Value) {f h f' h' : Store → Result A} → Here R A X f h → Here R A X f' h' → R A X σ (branch v f f' σ) (branch v h h' σ)
  unfolding branch
  branches {σ = σ} v t e = asks (as_logical v) (λ b. either_way b (t σ) (e σ))

  on-made : {A : Type 0} {X : Place} {σ : Store} (r : Option ℕ) {f h : ℕ → Made → Result A}
      → ((n : ℕ) (m : Made) → R A X σ (f n m) (h n m)) → R A X σ (on_made r X σ f) (on_made r X σ h)
  on-made none k = L.stops
  on-made {σ = σ} (some n) k = asks (get_elem? σ.records n) (λ m. k n m)

  on-record : {A : Type 0} {X : Place} {σ : Store} (v : Value) {f h : ℕ → Made → Result A}
      → ((n : ℕ) (m : Made) → R A X σ (f n m) (h n m)) → R A X σ (on_record v X σ f) (on_record v X σ h)
  on-record v k = asks (as_reference v) (λ r. on-made r.target k)

  has_value : {X : Place} {σ : Store} (c : Option Cell) → R Value X σ (cell_value c σ) (cell_value c σ)
  has_value none = L.fails
  has_value (some (assigned v)) = L.gives

  sets-level : (v w : Value) → Anywhere R (Unit {0}) (do_set v w) (do_set v w)
  unfolding do_set
  sets-level v w X σ = asks (as_integer v) (λ x. asks (as_integer w) (λ y.
      either_way (between 1 512 x && between 0 255 y) (L.adds (event (set (size x) (size y))) tt refl) L.stops))

  reads-fader : (oracle : ℕ → ℕ → ℕ) (v : Value) → Anywhere R Value (do_fader oracle v) (do_fader oracle v)
  unfolding do_fader
  reads-fader oracle v X σ = asks (as_integer v) (λ x. either_way (between 1 64 x) (L.adds (reading (size x) (oracle σ.taken (size x))) tt refl) L.stops)

  gets-field : (a : ℕ) (v : Value) → Anywhere R Value (do_field a v) (do_field a v)
  unfolding do_field
  gets-field a v X σ = on-record v (λ n m. has_value (cell_in a m.fields))

  puts-field : (a : ℕ) (v w : Value) → Anywhere R (Unit {0}) (do_put_field a v w) (do_put_field a v w)
  unfolding do_put_field
  puts-field a v w X σ = on-record v (λ n m. keeps refl)

  assigns : (l : Location) (v : Value) → Anywhere R (Unit {0}) (do_assign l v) (do_assign l v)
  unfolding do_assign
  assigns (of_variable a) v X σ = keeps (sym (assigned-to a v σ))
  assigns (of_field a r) v X σ = puts-field a r v X σ

  makes : (c : ℕ) (xs : Option (List Typed)) (vs : List Value) → Anywhere R Value (do_make c xs vs) (do_make c xs vs)
  unfolding do_make
  makes c none vs X σ = L.fails
  makes c (some xs) vs X σ = either_way (ltb (length σ.records) 256) (keeps refl) L.stops

  -- ── blocks, calls and cases ──
  enters : {A : Type 0} (ds : List Decl) (X : Place) (σ : Store) {f h : Place → Store → Result A} → Anywhere R A f h → R A X σ (within ds X σ f) (within ds X σ h)
  unfolding within
  enters [] X σ k = k X σ
  enters (declare x ∷ ds) X σ k = L.same (sym (declared x σ)) (enters ds X (declare_in x σ) k)
  enters (holding g ∷ ds) X σ k = L.holds (enters ds (under g X) (say (hold g) σ) k)

  in_block : {A : Type 0} (ds : List Decl) (X : Place) (σ : Store) {f h : Place → Store → Result A} → Anywhere R A f h → R A X σ (new_block ds X σ f) (new_block ds X σ h)
  in_block ds X σ k = L.leaves _ (L.same refl (enters ds X (with_blocks ([] ∷ σ.blocks) σ) k))

  calls : {A : Type 0} (p : Option Procedure) {f h : Body → Place → Store → Result A} (vs : List Value) (X : Place) (σ : Store)
      → ((b : Body) → Anywhere R A (f b) (h b)) → R A X σ (activate p f vs X σ) (activate p h vs X σ)
  unfolding activate
  calls none vs X σ k = L.fails
  calls (some q) vs X σ k =
      let τ = with_blocks (pair_up q.parameters vs ∷ []) σ in
      either_way (ltb X.activations 32) (L.leaves _ (L.same refl (L.called (k q.body (deeper X) τ)))) L.stops

  picks : (n : ℕ) {f f' : Store → Result (Unit {0})} {g g' : ℕ → Store → Result (Unit {0})} (X : Place) (σ : Store)
      → Here R (Unit {0}) X f f' → ((m : ℕ) → Here R (Unit {0}) X (g m) (g' m)) → R (Unit {0}) X σ (arm_at n f g X σ) (arm_at n f' g' X σ)
  picks zero X σ h k = L.stops
  picks (suc zero) X σ h k = h σ
  picks (suc (suc n)) X σ h k = k (suc n) σ

  -- ── loops ──
  advances : {X : Place} {σ : Store} (o : Outcome ℤ) {f h : ℤ → Store → Result (Unit {0})} → ((w : ℤ) → Here R (Unit {0}) X (f w) (h w))
      → R (Unit {0}) X σ (advancing o f σ) (advancing o h σ)
  unfolding advancing
  advances {σ = σ} (gives w) k = k w σ
  advances (ends c) k = L.gives
  advances mistyped k = L.fails

  -- the tree below the loop is run over one `Less` and over another
  turned : (r s : Less) (l : Loop) {f h : Place → Store → Result (Unit {0})} (v : ℤ) → Anywhere R (Unit {0}) f h
      → ((w : ℤ) → Anywhere R (Unit {0}) (r.further l w) (s.further l w)) → Anywhere R (Unit {0}) (turns r l f v) (turns s l h v)
  unfolding turns turning if_due
  turned r s l v h k X σ = L.binds (L.leaves _ (L.same refl (h X _))) (λ u τ. advances (sum v l.step) (λ w ρ. either_way (due l w) (k w X ρ) L.gives))

  counts : (r s : Less) (l : Loop) {f h : Place → Store → Result (Unit {0})} (v : ℤ) → Anywhere R (Unit {0}) f h
      → ((w : ℤ) → Anywhere R (Unit {0}) (r.further l w) (s.further l w)) → Anywhere R (Unit {0}) (counted r l f v) (counted s l h v)
  unfolding counted if_due
  counts r s l v h k X σ = either_way (is_zero l.step) L.stops (either_way (due l v) (turned r s l v h k X σ) L.gives)

  -- ── the tree ──
  module _ (W : World) (r s : Less) (B : Below R r s) where
    mutual
      unfolding exec

      pub statement : (b : Stmt) → Anywhere R (Unit {0}) (exec W r b) (exec W s b)
      statement (block ds is) X σ = in_block ds X σ (λ Y τ. L.catches r s is (items is Y τ) (λ js ρ. B.resume is js Y ρ))
      statement (assign x e) X σ = L.binds (target x X σ) (λ l τ. L.binds (expression e X τ) (λ v ρ. assigns l v X ρ))
      statement (when e b) X σ = L.binds (expression e X σ) (λ v τ. branches v (λ ρ. statement b X ρ) (λ ρ. L.gives))
      statement (choose e b c) X σ = L.binds (expression e X σ) (λ v τ. branches v (λ ρ. statement b X ρ) (λ ρ. statement c X ρ))
      statement (while e b) X σ = L.binds (expression e X σ) (λ v τ. branches v (λ ρ. L.binds (statement b X ρ) (λ u π. B.again e b X π)) (λ ρ. L.gives))
      statement (goto a) X σ = L.jumps
      statement (assert e) X σ = L.binds (expression e X σ) (λ v τ. branches v (λ ρ. L.gives) (λ ρ. L.stops))
      statement (call a es) X σ = L.binds (expressions es X σ) (λ vs τ. calls (procedure_in a W.globals) vs X τ B.call_s)
      statement (set_level e f) X σ = L.binds (expression e X σ) (λ v τ. L.binds (expression f X τ) (λ w ρ. sets-level v w X ρ))
      statement (select e cs) X σ = L.binds (expression e X σ) (λ v τ. asks (as_integer v) (λ z. arms cs (size z) X τ))
      statement (for a e f g b) X σ =
          L.binds (expression e X σ) (λ u τ. L.binds (expression f X τ) (λ v ρ. L.binds (expression g X ρ) (λ w π.
          asks (as_integer u) (λ x. asks (as_integer v) (λ y. asks (as_integer w) (λ z. let l : Loop = record { control = a; step = y; limit = z; statement = b } in
          counts r s l x (λ Y μ. statement b Y μ) (λ i. B.further l i) X π))))))

      pub items : (is : Items) → Anywhere R (Unit {0}) (exec_items W r is) (exec_items W s is)
      items no_item X σ = L.gives
      items (label a is) X σ = items is X σ
      items (item b is) X σ = L.binds (statement b X σ) (λ u τ. items is X τ)

      pub arms : (cs : Arms) (n : ℕ) → Anywhere R (Unit {0}) (exec_arm W r cs n) (exec_arm W s cs n)
      arms (last_arm b) n X σ = picks n X σ (λ ρ. statement b X ρ) (λ m ρ. L.stops)
      arms (arm b cs) n X σ = picks n X σ (λ ρ. statement b X ρ) (λ m ρ. arms cs m X ρ)

      pub target : (x : Target) → Anywhere R Location (locate W r x) (locate W s x)
      target (to_variable a) X σ = L.gives
      target (to_field a e) X σ = L.binds (expression e X σ) (λ v τ. L.gives)

      pub expression : (e : Expr) → Anywhere R Value (eval W r e) (eval W s e)
      expression (number z) X σ = L.gives
      expression (truth b) X σ = L.gives
      expression (pattern z) X σ = L.gives
      expression (null c) X σ = L.gives
      expression (variable a) X σ = has_value (value_of a σ)
      expression (invoke a es) X σ = L.binds (expressions es X σ) (λ vs τ. calls (procedure_in a W.globals) vs X τ B.call_e)
      expression (field a e) X σ = L.binds (expression e X σ) (λ v τ. gets-field a v X τ)
      expression (make c es) X σ = L.binds (expressions es X σ) (λ vs τ. makes c (class_in c W.globals) vs X τ)
      expression (operate1 o e) X σ = L.binds (expression e X σ) (λ v τ. settles (apply1 o v))
      expression (operate2 o e f) X σ =
          L.binds (expression e X σ) (λ v τ. either_way (decides o v) L.gives (L.binds (expression f X τ) (λ w ρ. settles (apply2 o v w))))
      expression (conditional e f g) X σ = L.binds (expression e X σ) (λ v τ. branches v (λ ρ. expression f X ρ) (λ ρ. expression g X ρ))
      expression (fader e) X σ = L.binds (expression e X σ) (λ v τ. reads-fader W.oracle v X τ)
      expression (block_expr ds is e) X σ = in_block ds X σ (λ Y τ. L.binds (L.catches r s is (items is Y τ) (λ js ρ. B.resume is js Y ρ)) (λ u ρ. expression e Y ρ))

      pub expressions : (es : Exprs) → Anywhere R (List Value) (evals W r es) (evals W s es)
      expressions no_expr X σ = L.gives
      expressions (expr e es) X σ = L.binds (expression e X σ) (λ v τ. L.binds (expressions es X τ) (λ vs ρ. L.gives))

    -- a block's statements, with the gotos that it catches
    block-items : (is js : Items) → Anywhere R (Unit {0}) (λ X σ. catch r is X (exec_items W r js X σ)) (λ X σ. catch s is X (exec_items W s js X σ))
    block-items is js X σ = L.catches r s is (items js X σ) (λ ks τ. B.resume is ks X τ)

    pub root : (ds : List Decl) (is : Items) → Anywhere R (Unit {0}) (root_over W r ds is) (root_over W s ds is)
    root ds is X σ = enters ds X σ (λ Y τ. block-items is is Y τ)

    pub body_s : (b : Body) → Anywhere R (Unit {0}) (exec_body W r b) (exec_body W s b)
    unfolding exec_body
    body_s (proper b) X σ = statement b X σ
    body_s (function t e) X σ = L.fails

    pub body_e : (b : Body) → Anywhere R Value (eval_body W r b) (eval_body W s b)
    unfolding eval_body
    body_e (proper b) X σ = L.fails
    body_e (function t e) X σ = expression e X σ

  -- ── one fuel more on both sides ──
  pub more : (W : World) (n m : ℕ) → Below R (fueled W n) (fueled W m) → Below R (fueled W (suc n)) (fueled W (suc m))
  unfolding fueled
  more W n m B = record {
    again = λ e b X σ. statement W (fueled W n) (fueled W m) B (while e b) X σ;
    further = λ l v X σ. turned (fueled W n) (fueled W m) l v (λ Y μ. statement W (fueled W n) (fueled W m) B l.statement Y μ) (λ w. B.further l w) X σ;
    resume = λ is js X σ. block-items W (fueled W n) (fueled W m) B is js X σ;
    call_s = λ b X σ. body_s W (fueled W n) (fueled W m) B b X σ;
    call_e = λ b X σ. body_e W (fueled W n) (fueled W m) B b X σ;
  }
