-- The instruction count of every accepted table fits 16 bits: at most 22 ops an entry.
use Rattle.std.specs.Prelude.{Bool, true, false, List, [], ◌∷◌, ℕ, suc, ◌+◌, ◌*◌, ◌≤◌, max, length}
use Rattle.std.proofs.Common.{arith}
use Rattle.logic.specs.Choice.{If◌then◌else◌}
use Rattle.values.specs.Types.{logical}
use Rattle.language.specs.Tree.{Decl, declare, holding, Stmt, block, assign, when, choose, while, goto, assert, call, set_level, select, for, Items, no_item, label, item, Arms}
use Rattle.language.specs.Tree.{last_arm, arm, Target, to_variable, to_field, Expr, number, truth, pattern, null, variable, invoke, field, make, operate1, operate2}
use Rattle.language.specs.Tree.{conditional, fader, block_expr, Exprs, no_expr, expr}
use Rattle.language.specs.Names.{Scope, block_of, expression_of, loop_of}
use Rattle.language.specs.Measure.{measure_s}
use Rattle.language.specs.Faults.{type_e, is_ty, size_s, size_items, size_arms, size_target, size_e, size_es}
use Rattle.language.specs.Limits.{head_holds, holds_s, holds_items, holds_arms, holds_target, holds_e, holds_es}
use Rattle.compile_code.specs.Compile.{Passing, a_hold, the_labels, has_label, size_goto, size_head, Way, plainly, marked, if_true, if_false, size_way, way_of, ops_s, ops_items, ops_arms, ops_target, ops_e, ops_es}

unfoldable pub holds_in : List Passing → ℕ
holds_in [] = 0
holds_in (a_hold ∷ Θ) = suc (holds_in Θ)
holds_in (the_labels is ∷ Θ) = holds_in Θ

few-goto : (Θ : List Passing) (a : ℕ) → size_goto Θ a ≤ suc (holds_in Θ)
unfolding size_goto holds_in
few-goto [] a = omega arith
few-goto (a_hold ∷ Θ) a = let q = few-goto Θ a in omega arith
few-goto (the_labels is ∷ Θ) a = pick (has_label a is) (few-goto Θ a)
  where
    pick : (b : Bool) → size_goto Θ a ≤ suc (holds_in Θ) → (If b then 1 else size_goto Θ a) ≤ suc (holds_in Θ)
    pick true q = omega arith
    pick false q = q

pub few_head : (ds : List Decl) (Θ : List Passing) (f : List Passing → ℕ) (n h : ℕ) → ((Φ : List Passing) → holds_in Φ + h ≤ 16 → f Φ ≤ n)
    → holds_in Θ + (head_holds ds + h) ≤ 16 → size_head ds Θ f ≤ 2 * length ds + n
unfolding size_head head_holds holds_in
few_head [] Θ f n h g l = let q = g Θ (omega arith) in omega arith
few_head (declare x ∷ ds) Θ f n h g l = let q = few_head ds Θ f n h g (omega arith) in omega arith
few_head (holding k ∷ ds) Θ f n h g l = let q = few_head ds (a_hold ∷ Θ) f n h g (omega arith) in omega arith

few-way : (w : Way) → size_way w ≤ 3
few-way plainly = omega arith
few-way marked = omega arith
few-way if_true = omega arith
few-way if_false = omega arith

mutual
  unfolding ops_s measure_s holds_in

  pub few_s : (s : Stmt) (ss : List Scope) (Θ : List Passing) → holds_in Θ + holds_s s ≤ 16 → ops_s s ss Θ + 5 ≤ 22 * size_s s
  few_s (block ds is) ss Θ l =
      let q = few_head ds Θ (λ Φ. ops_items is (block_of ds is ∷ ss) (the_labels is ∷ Φ)) (22 * size_items is) (holds_items is)
      (λ Φ m. few_items is (block_of ds is ∷ ss) (the_labels is ∷ Φ) m) l in omega arith
  few_s (assign x e) ss Θ l = let q = few_target x ss Θ (omega arith) in let r = few_e e ss Θ (omega arith) in omega arith
  few_s (when e s) ss Θ l = let q = few_e e ss Θ (omega arith) in let r = few_s s ss Θ (omega arith) in omega arith
  few_s (choose e s t) ss Θ l = let q = few_e e ss Θ (omega arith) in let r = few_s s ss Θ (omega arith) in let u = few_s t ss Θ (omega arith) in omega arith
  few_s (while e s) ss Θ l = let q = few_e e ss Θ (omega arith) in let r = few_s s ss Θ (omega arith) in omega arith
  few_s (goto a) ss Θ l = let q = few-goto Θ a in omega arith
  few_s (assert e) ss Θ l = let q = few_e e ss Θ l in omega arith
  few_s (call a es) ss Θ l = let q = few_es es ss Θ l in omega arith
  few_s (set_level e f) ss Θ l = let q = few_e e ss Θ (omega arith) in let r = few_e f ss Θ (omega arith) in omega arith
  few_s (select e r) ss Θ l = let q = few_e e ss Θ (omega arith) in let u = few_arms r ss Θ (omega arith) in omega arith
  few_s (for a e f g s) ss Θ l =
      let q = few_e e ss Θ (omega arith) in let r = few_e f ss Θ (omega arith) in let u = few_e g ss Θ (omega arith) in let v = few_s s (loop_of a ∷ ss) Θ (omega arith) in omega arith

  pub few_items : (is : Items) (ss : List Scope) (Θ : List Passing) → holds_in Θ + holds_items is ≤ 16 → ops_items is ss Θ ≤ 22 * size_items is
  few_items no_item ss Θ l = omega arith
  few_items (label a is) ss Θ l = let q = few_items is ss Θ l in omega arith
  few_items (item s is) ss Θ l = let q = few_s s ss Θ (omega arith) in let r = few_items is ss Θ (omega arith) in omega arith

  few_arms : (r : Arms) (ss : List Scope) (Θ : List Passing) → holds_in Θ + holds_arms r ≤ 16 → ops_arms r ss Θ ≤ 22 * size_arms r + 1
  few_arms (last_arm s) ss Θ l = let q = few_s s ss Θ l in omega arith
  few_arms (arm s r) ss Θ l = let q = few_s s ss Θ (omega arith) in let u = few_arms r ss Θ (omega arith) in omega arith

  few_target : (x : Target) (ss : List Scope) (Θ : List Passing) → holds_in Θ + holds_target x ≤ 16 → ops_target x ss Θ ≤ 22 * size_target x
  few_target (to_variable a) ss Θ l = omega arith
  few_target (to_field a e) ss Θ l = let q = few_e e ss Θ l in omega arith

  pub few_e : (e : Expr) (ss : List Scope) (Θ : List Passing) → holds_in Θ + holds_e e ≤ 16 → ops_e e ss Θ + 13 ≤ 22 * size_e e
  few_e (number z) ss Θ l = omega arith
  few_e (truth b) ss Θ l = omega arith
  few_e (pattern z) ss Θ l = omega arith
  few_e (null c) ss Θ l = omega arith
  few_e (variable a) ss Θ l = omega arith
  few_e (invoke a es) ss Θ l = let q = few_es es ss Θ l in omega arith
  few_e (field a e) ss Θ l = let q = few_e e ss Θ l in omega arith
  few_e (make c es) ss Θ l = let q = few_es es ss Θ l in omega arith
  few_e (operate1 o e) ss Θ l = let q = few_e e ss Θ l in omega arith
  few_e (operate2 o e f) ss Θ l = let q = few_e e ss Θ (omega arith) in let r = few_e f ss Θ (omega arith) in let w = few-way (way_of o (is_ty logical (type_e ss e))) in omega arith
  few_e (conditional e f g) ss Θ l = let q = few_e e ss Θ (omega arith) in let r = few_e f ss Θ (omega arith) in let u = few_e g ss Θ (omega arith) in omega arith
  few_e (fader e) ss Θ l = let q = few_e e ss Θ l in omega arith
  few_e (block_expr ds is e) ss Θ l =
      let inner = expression_of ds is ∷ ss in
      let q = few_head ds Θ (λ Φ. ops_items is inner (the_labels is ∷ Φ) + ops_e e inner Φ) (22 * size_items is + 22 * size_e e) (max (holds_items is) (holds_e e))
      (λ Φ m. let r = few_items is inner (the_labels is ∷ Φ) (omega arith) in let u = few_e e inner Φ (omega arith) in omega arith) l in omega arith

  few_es : (es : Exprs) (ss : List Scope) (Θ : List Passing) → holds_in Θ + holds_es es ≤ 16 → ops_es es ss Θ ≤ 22 * size_es es
  few_es no_expr ss Θ l = omega arith
  few_es (expr e es) ss Θ l = let q = few_e e ss Θ (omega arith) in let r = few_es es ss Θ (omega arith) in omega arith
