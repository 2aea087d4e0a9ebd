-- What the entries of a part are read as: the part, where they keep to the layout and nest no deeper than the readers go.
use Rattle.std.specs.Prelude.{◌≡◌, refl, Bool, true, false, List, [], ◌∷◌, ◌++◌, map, eqb, pos, length}
use Rattle.std.proofs.Common.{sym, subst, append-nil, arith, eqb-true}
use Rattle.std.proofs.Math.Option.{get_or}
use Prim.Native.Nat.{ℕ, zero, suc, ◌-◌, ◌≤◌, max}
use Rattle.language.specs.Measure.{measure_s}
use Rattle.language.specs.Program.{flat_typed, flat_decl, flat_s, flat_items, flat_arms, flat_target, flat_e, flat_es, deep_head, deep_s, deep_items, deep_arms, deep_target, deep_e, deep_es}
use Rattle.logic.specs.Choice.{If◌then◌else◌}
use Rattle.values.specs.Operators.{negate, plus, unary_code, binary_code, unary_of, binary_of}
use Rattle.language.specs.Tree.{Typed, Decl, declare, holding, Stmt, block, assign, when, choose, while, goto, assert, call, set_level, select, for, Items, no_item, label, item}
use Rattle.language.specs.Tree.{Arms, last_arm, arm, Target, to_variable, to_field, Expr, number, truth, pattern, null, variable, invoke, field, make, operate1, operate2}
use Rattle.language.specs.Tree.{conditional, fader, block_expr, Exprs, no_expr, expr, count_items, count_arms, count_exprs}
use Rattle.language.specs.Table as T
use Rattle.language.specs.Table.{Entry, entry, in_layout, took, stop, Reader, after, made, three, first, form_typed, form_decl, Part, label_part, stmt_part, items_of, arms_of}
use Rattle.language.specs.Table.{exprs_of, Below, form_s, form_part, form_target, form_e, below}
use Rattle.logic.specs.Tests.{clash}
use Rattle.language_laws.specs.Codes.{type-back, unary-back, binary-back}
use Rattle.language_laws.specs.Takes.{Fits, fits_head, Takes, takes-as, takes-here, takes-made, takes_two, takes-three, takes-four, takes_none, takes-more, takes_first}

-- ── the readers of what stands below, where so much nesting is left ──
abbrev pub flat_part : Part → List Entry
flat_part (label_part a) = entry 20 a (pos 0) ∷ []
flat_part (stmt_part s) = flat_s s

abbrev pub deep_part : Part → ℕ
deep_part (label_part a) = 1
deep_part (stmt_part s) = deep_s s

pub record Reads (r : Below) (d : ℕ) : Type 0 where
  pub typed : (x : Typed) → Fits d (flat_typed x ∷ []) 1 → Takes r.typed (flat_typed x ∷ []) x
  pub decl : (x : Decl) → Fits d (flat_decl x ∷ []) 1 → Takes r.decl (flat_decl x ∷ []) x
  pub part : (p : Part) → Fits d (flat_part p) (deep_part p) → Takes r.part (flat_part p) p
  pub stmt : (s : Stmt) → Fits d (flat_s s) (deep_s s) → Takes r.stmt (flat_s s) s
  pub target : (x : Target) → Fits d (flat_target x) (deep_target x) → Takes r.target (flat_target x) x
  pub expr : (e : Expr) → Fits d (flat_e e) (deep_e e) → Takes r.expr (flat_e e) e

-- a part that is nothing but an entry
takes-typed : {d : ℕ} (x : Typed) → Fits (suc d) (flat_typed x ∷ []) 1 → Takes (first form_typed) (flat_typed x ∷ []) x
unfolding form_typed flat_typed in_layout
takes-typed x h = takes_first form_typed h (λ k. takes-as takes-here (rw (type-back x.type (fits_head h))))

pub decl-form : (x : Decl) → in_layout (flat_decl x) ≡ true → Takes (form_decl (flat_decl x)) [] x
unfolding form_decl flat_decl flat_typed in_layout
decl-form (declare x) l = takes-as takes-here (rw (type-back x.type l))
decl-form (holding g) l = takes-here

takes-decl : {d : ℕ} (x : Decl) → Fits (suc d) (flat_decl x ∷ []) 1 → Takes (first form_decl) (flat_decl x ∷ []) x
takes-decl x h = takes_first form_decl h (λ k. decl-form x (fits_head h))

-- entries with nothing below them
abbrev pub leaves : {A : Type 0} → List A → ℕ
leaves [] = 0
leaves (x ∷ xs) = 1

leaves-one : {A : Type 0} (xs : List A) → leaves xs ≤ 1
leaves-one [] = omega arith
leaves-one (x ∷ xs) = omega arith

pub takes-leaves : {A : Type 0} {r : Reader A} {d : ℕ} (flat : A → Entry) → ((x : A) → Fits d (flat x ∷ []) 1 → Takes r (flat x ∷ []) x)
    → (xs : List A) → Fits d (map flat xs) (leaves xs) → Takes (T.repeated (length xs) r) (map flat xs) xs
takes-leaves {r = r} flat h [] g = takes_none r
takes-leaves {d = d} flat h (x ∷ xs) g =
    let k : Fits d (map flat (x ∷ xs)) (max 1 (leaves xs)) = record { layout = g.layout; depth = omega (arith, leaves-one xs) } in
    takes-more (length xs) k (h x) (takes-leaves flat h xs)

pub deep-head : (ds : List Decl) → deep_head ds ≡ leaves ds
deep-head [] = refl
deep-head (x ∷ ds) = refl

-- ── the lists of the tree ──
parts_of : Items → List Part
parts_of no_item = []
parts_of (label a is) = label_part a ∷ parts_of is
parts_of (item s is) = stmt_part s ∷ parts_of is

parts-back : (is : Items) → items_of (parts_of is) ≡ is
unfolding parts_of items_of
parts-back no_item = refl
parts-back (label a is) = rw (parts-back is)
parts-back (item s is) = rw (parts-back is)

expr_list : Exprs → List Expr
expr_list no_expr = []
expr_list (expr e es) = e ∷ expr_list es

exprs-back : (es : Exprs) → exprs_of (expr_list es) ≡ es
unfolding expr_list exprs_of
exprs-back no_expr = refl
exprs-back (expr e es) = rw (exprs-back es)

first_arm : Arms → Stmt
first_arm (last_arm s) = s
first_arm (arm s a) = s

more_arms : Arms → List Stmt
more_arms (last_arm s) = []
more_arms (arm s a) = first_arm a ∷ more_arms a

arms-back : (a : Arms) → arms_of (first_arm a) (more_arms a) ≡ a
unfolding first_arm more_arms arms_of
arms-back (last_arm s) = refl
arms-back (arm s a) = rw (arms-back a)

rest_arms : Arms → List Entry
rest_arms (last_arm s) = []
rest_arms (arm s a) = flat_arms a

deep_rest : Arms → ℕ
deep_rest (last_arm s) = 0
deep_rest (arm s a) = deep_arms a

arms-flat : (a : Arms) → flat_arms a ≡ flat_s (first_arm a) ++ rest_arms a
unfolding flat_s first_arm rest_arms
arms-flat (last_arm s) = sym (append-nil (flat_s s))
arms-flat (arm s a) = refl

arms-deep : (a : Arms) → deep_arms a ≡ max (deep_s (first_arm a)) (deep_rest a)
unfolding measure_s first_arm deep_rest
arms-deep (last_arm s) = omega arith
arms-deep (arm s a) = refl

pub arms-count : (a : Arms) → 1 ≤ count_arms a
unfolding count_arms
arms-count (last_arm s) = omega arith
arms-count (arm s a) = omega arith

-- ── the forms, over readers of what stands below ──
module _ {r : Below} {d : ℕ} (G : Reads r d) where
  takes-head : (ds : List Decl) → Fits d (map flat_decl ds) (deep_head ds) → Takes (T.repeated (length ds) r.decl) (map flat_decl ds) ds
  takes-head ds h = takes-leaves flat_decl G.decl ds (rw (deep-head ds) at h)

  takes-parts : (is : Items) → Fits d (flat_items is) (deep_items is) → Takes (T.repeated (count_items is) r.part) (flat_items is) (parts_of is)
  unfolding flat_s measure_s count_items parts_of
  takes-parts no_item h = takes_none r.part
  takes-parts (label a is) h = takes-more (count_items is) h (G.part (label_part a)) (takes-parts is)
  takes-parts (item s is) h = takes-more (count_items is) h (G.part (stmt_part s)) (takes-parts is)

  pub takes-items : (is : Items) → Fits d (flat_items is) (deep_items is)
      → Takes (made items_of (T.repeated (count_items is) r.part)) (flat_items is) is
  takes-items is h = takes-as (takes-made items_of (takes-parts is h)) (parts-back is)

  takes-list : (es : Exprs) → Fits d (flat_es es) (deep_es es) → Takes (T.repeated (count_exprs es) r.expr) (flat_es es) (expr_list es)
  unfolding flat_s measure_s count_exprs expr_list
  takes-list no_expr h = takes_none r.expr
  takes-list (expr e es) h = takes-more (count_exprs es) h (G.expr e) (takes-list es)

  takes-exprs : (es : Exprs) → Fits d (flat_es es) (deep_es es) → Takes (made exprs_of (T.repeated (count_exprs es) r.expr)) (flat_es es) es
  takes-exprs es h = takes-as (takes-made exprs_of (takes-list es h)) (exprs-back es)

  takes-rest : (a : Arms) → Fits d (rest_arms a) (deep_rest a) → Takes (T.repeated (count_arms a - 1) r.stmt) (rest_arms a) (more_arms a)
  unfolding rest_arms deep_rest more_arms count_arms
  takes-rest (last_arm s) h = takes_none r.stmt
  takes-rest (arm s a) h =
      let e : suc (count_arms a) - 1 ≡ suc (count_arms a - 1) = omega (arith, arms-count a) in
      rw (e, arms-flat a) (takes-more (count_arms a - 1) (rw (arms-flat a, arms-deep a) at h) (G.stmt (first_arm a)) (takes-rest a))

  takes-select : (e : Expr) (a : Arms) → Fits d (flat_e e ++ flat_arms a) (max (deep_e e) (deep_arms a))
      → Takes (three (λ x s ss. select x (arms_of s ss)) r.expr r.stmt (T.repeated (count_arms a - 1) r.stmt)) (flat_e e ++ flat_arms a) (select e a)
  takes-select e a h =
      let k : Fits d (flat_e e ++ (flat_s (first_arm a) ++ rest_arms a)) (max (deep_e e) (max (deep_s (first_arm a)) (deep_rest a))) = rw (arms-flat a, arms-deep a) at h in
      rw (arms-flat a) (takes-as (takes-three (λ x s ss. select x (arms_of s ss)) k (G.expr e) (G.stmt (first_arm a)) (takes-rest a)) (rw (arms-back a)))

  takes-stmt : (s : Stmt) → Fits (suc d) (flat_s s) (deep_s s) → Takes (first (form_s r)) (flat_s s) s
  unfolding form_s flat_s measure_s
  takes-stmt (block ds is) h = takes_first (form_s r) h (λ k. takes_two block k (takes-head ds) (takes-items is))
  takes-stmt (assign x e) h = takes_first (form_s r) h (λ k. takes_two assign k (G.target x) (G.expr e))
  takes-stmt (when e s) h = takes_first (form_s r) h (λ k. takes_two when k (G.expr e) (G.stmt s))
  takes-stmt (choose e s t) h = takes_first (form_s r) h (λ k. takes-three choose k (G.expr e) (G.stmt s) (G.stmt t))
  takes-stmt (while e s) h = takes_first (form_s r) h (λ k. takes_two while k (G.expr e) (G.stmt s))
  takes-stmt (goto a) h = takes_first (form_s r) h (λ k. takes-here)
  takes-stmt (assert e) h = takes_first (form_s r) h (λ k. takes-made assert (G.expr e k))
  takes-stmt (call a es) h = takes_first (form_s r) h (λ k. takes-made (call a) (takes-exprs es k))
  takes-stmt (set_level e f) h = takes_first (form_s r) h (λ k. takes_two set_level k (G.expr e) (G.expr f))
  takes-stmt (select e a) h = takes_first (form_s r) h (takes-select e a)
  takes-stmt (for a e f g s) h = takes_first (form_s r) h (λ k. takes-four (for a) k (G.expr e) (G.expr f) (G.expr g) (G.stmt s))

  takes-target : (x : Target) → Fits (suc d) (flat_target x) (deep_target x) → Takes (first (form_target r)) (flat_target x) x
  unfolding form_target flat_s measure_s
  takes-target (to_variable a) h = takes_first (form_target r) h (λ k. takes-here)
  takes-target (to_field a e) h = takes_first (form_target r) h (λ k. takes-made (to_field a) (G.expr e k))

  takes-expr : (e : Expr) → Fits (suc d) (flat_e e) (deep_e e) → Takes (first (form_e r)) (flat_e e) e
  unfolding form_e flat_s measure_s
  takes-expr (number z) h = takes_first (form_e r) h (λ k. takes-here)
  takes-expr (truth false) h = takes_first (form_e r) h (λ k. takes-here)
  takes-expr (truth true) h = takes_first (form_e r) h (λ k. takes-here)
  takes-expr (pattern z) h = takes_first (form_e r) h (λ k. takes-here)
  takes-expr (null c) h = takes_first (form_e r) h (λ k. takes-here)
  takes-expr (variable a) h = takes_first (form_e r) h (λ k. takes-here)
  takes-expr (invoke a es) h = takes_first (form_e r) h (λ k. takes-made (invoke a) (takes-exprs es k))
  takes-expr (field a e) h = takes_first (form_e r) h (λ k. takes-made (field a) (G.expr e k))
  takes-expr (make c es) h = takes_first (form_e r) h (λ k. takes-made (make c) (takes-exprs es k))
  takes-expr (operate1 o e) h = takes_first (form_e r) h (λ k. takes-as (takes-made (operate1 (get_or (unary_of (unary_code o)) negate)) (G.expr e k)) (rw (unary-back o)))
  takes-expr (operate2 o e f) h = takes_first (form_e r) h (λ k. takes-as (takes_two (operate2 (get_or (binary_of (binary_code o)) plus)) k (G.expr e) (G.expr f)) (rw (binary-back o)))
  takes-expr (conditional e f g) h = takes_first (form_e r) h (λ k. takes-three conditional k (G.expr e) (G.expr f) (G.expr g))
  takes-expr (fader e) h = takes_first (form_e r) h (λ k. takes-made fader (G.expr e k))
  takes-expr (block_expr ds is e) h = takes_first (form_e r) h (λ k. takes-three block_expr k (takes-head ds) (takes-items is) (G.expr e))

-- ── a statement among the parts of a block: a label's entry begins no statement ──
label-stops : (r : Below) (e : Entry) (es : List Entry) → e.kind ≡ 20 → form_s r e es ≡ stop (e ∷ es)
unfolding form_s
label-stops r e es h = subst (λ (k : ℕ). form_s r (entry k e.a e.b) es ≡ stop (entry k e.a e.b ∷ es)) (sym h) refl

part-done : (r : Below) (e : Entry) (es rest : List Entry) (s : Stmt) → form_s r e es ≡ took s rest → form_part r e es ≡ took (stmt_part s) rest
unfolding form_part after
part-done r e es rest s h = go (eqb e.kind 20) refl
  where
    go : (b : Bool) → eqb e.kind 20 ≡ b → (If b then took (label_part e.a) es else made stmt_part (form_s r e) es) ≡ took (stmt_part s) rest
    go true q = clash (cc (label-stops r e es (eqb-true e.kind 20 q)))
    go false q = rw h

takes-done : (r : Below) {us : List Entry} {s : Stmt} → Takes (first (form_s r)) us s → Takes (first (form_part r)) us (stmt_part s)
unfolding first
takes-done r {us} {s} h = record { takes = λ rest. at (us ++ rest) rest (h.takes rest) }
  where
    at : (es rest : List Entry) → first (form_s r) es ≡ took s rest → first (form_part r) es ≡ took (stmt_part s) rest
    at [] rest q = clash (cc)
    at (e ∷ es) rest q = go (in_layout e) q
      where
        go : (b : Bool) → (If b then form_s r e es else stop (e ∷ es)) ≡ took s rest
            → (If b then form_part r e es else stop (e ∷ es)) ≡ took (stmt_part s) rest
        go true q = part-done r e es rest s q
        go false q = clash (cc)

takes_part : {r : Below} {d : ℕ} → Reads r d → (p : Part) → Fits (suc d) (flat_part p) (deep_part p)
    → Takes (first (form_part r)) (flat_part p) p
unfolding form_part
takes_part {r} G (label_part a) h = takes_first (form_part r) h (λ k. takes-here)
takes_part {r} G (stmt_part s) h = takes-done r (takes-stmt G s h)

-- ── no part has no entry ──
pos-stmt : (s : Stmt) → 1 ≤ deep_s s
unfolding measure_s
pos-stmt s =
    elim s as (λ k. 1 ≤ deep_s k) [
      | block ds is ↦ omega arith
      | assign x e ↦ omega arith
      | when e s ↦ omega arith
      | choose e s t ↦ omega arith
      | while e s ↦ omega arith
      | goto a ↦ omega arith
      | assert e ↦ omega arith
      | call a es ↦ omega arith
      | set_level e f ↦ omega arith
      | select e a ↦ omega arith
      | for a e f g s ↦ omega arith
    ]

pos-target : (x : Target) → 1 ≤ deep_target x
unfolding measure_s
pos-target (to_variable a) = omega arith
pos-target (to_field a e) = omega arith

pos-expr : (e : Expr) → 1 ≤ deep_e e
unfolding measure_s
pos-expr e =
    elim e as (λ k. 1 ≤ deep_e k) [
      | number z ↦ omega arith
      | truth b ↦ omega arith
      | pattern z ↦ omega arith
      | null c ↦ omega arith
      | variable a ↦ omega arith
      | invoke a es ↦ omega arith
      | field a e ↦ omega arith
      | make c es ↦ omega arith
      | operate1 o e ↦ omega arith
      | operate2 o e f ↦ omega arith
      | conditional e f g ↦ omega arith
      | fader e ↦ omega arith
      | block_expr ds is e ↦ omega arith
    ]

pos-part : (p : Part) → 1 ≤ deep_part p
pos-part (label_part a) = omega arith
pos-part (stmt_part s) = pos-stmt s

too-deep : {A : Type 0} {us : List Entry} {n : ℕ} → Fits 0 us n → 1 ≤ n → A
too-deep h k = absurd (omega arith)

pub reads : (d : ℕ) → Reads (below d) d
unfolding below
reads zero =
    record {
      typed = λ x h. too-deep h (omega arith);
      decl = λ x h. too-deep h (omega arith);
      part = λ p h. too-deep h (pos-part p);
      stmt = λ s h. too-deep h (pos-stmt s);
      target = λ x h. too-deep h (pos-target x);
      expr = λ e h. too-deep h (pos-expr e);
    }
reads (suc d) =
    let G : Reads (below d) d = reads d in
    record { typed = takes-typed; decl = takes-decl; part = takes_part G; stmt = takes-stmt G; target = takes-target G; expr = takes-expr G }
