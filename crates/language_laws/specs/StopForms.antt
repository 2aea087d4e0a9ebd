-- Where the readers of parts of the tree stop, beside those that read deeper: what is left to fill in, and which entry is too deep.
use Rattle.std.specs.Prelude.{◌≡◌, ℕ, zero, suc, ◌+◌, ◌-◌, ◌<◌, eqb, drop, pos, nat_abs}
use Rattle.std.proofs.Math.Path.{refl, ap}
use Rattle.std.proofs.Common.{sym, arith}
use mathlib.Core.List.{List, [], ◌∷◌, ◌++◌, append-nil}
use Rattle.std.proofs.Math.Option.{get_or}
use Rattle.values.specs.Types.{integer}
use Rattle.values.specs.Operators.{negate, plus, unary_of, binary_of}
use Rattle.language.specs.Tree.{typed, holding, Stmt, block, assign, when, choose, while, goto, assert, call, set_level, select, for, Items, Target, to_variable, to_field, Expr}
use Rattle.language.specs.Tree.{number, truth, pattern, null, variable, invoke, field, make, operate1, operate2, conditional, fader, block_expr, Exprs}
use Rattle.language.specs.Table as T
use Rattle.language.specs.Table.{Entry, entry, in_layout, made, first, form_typed, form_decl, Part, label_part, stmt_part, items_of, arms_of, exprs_of, Below, form_s, form_part, form_target, form_e, below}
use Rattle.language_laws.specs.Outline.{Outline, leaf, depths, leaves_of, outline_s, outline_items, outline_arms, outline_target, outline_e, outline_es}
use Rattle.language_laws.specs.Stops.{Whole, Stops, stops-here, stops-made, stops-two, stops-three, stops-four, stops-times, Forms, goes, forms-stop, forms-if, forms-made}
use Rattle.language_laws.specs.Stops.{Rooted, stops-at-once, stops_first}

-- ── the depths of each sort of part, its first entry at depth d ──
abbrev pub one : {A : Type 0} → ℕ → A → List ℕ
one d x = d ∷ []

abbrev outline_part : Part → Outline
outline_part (label_part a) = leaf
outline_part (stmt_part s) = outline_s s

abbrev pub part_at : ℕ → Part → List ℕ
part_at d x = depths d (outline_part x)

abbrev pub stmt_at : ℕ → Stmt → List ℕ
stmt_at d s = depths d (outline_s s)

abbrev pub target_at : ℕ → Target → List ℕ
target_at d x = depths d (outline_target x)

abbrev pub expr_at : ℕ → Expr → List ℕ
expr_at d e = depths d (outline_e e)

abbrev pub leaves_at : {A : Type 0} → ℕ → List A → List ℕ
leaves_at d xs = depths d (leaves_of xs)

abbrev pub items_at : ℕ → Items → List ℕ
items_at d is = depths d (outline_items is)

abbrev exprs_at : ℕ → Exprs → List ℕ
exprs_at d es = depths d (outline_es es)

-- of the arms after the first
stmts_at : ℕ → List Stmt → List ℕ
stmts_at d [] = []
stmts_at d (s ∷ ss) = stmt_at d s ++ stmts_at d ss

arms_at : (d : ℕ) (s : Stmt) (ss : List Stmt) → depths d (outline_arms (arms_of s ss)) ≡ stmt_at d s ++ stmts_at d ss
unfolding depths outline_s arms_of stmts_at
arms_at d s [] = sym (append-nil (stmt_at d s))
arms_at d s (t ∷ ts) = ap (λ (l : List ℕ). stmt_at d s ++ l) (arms_at d t ts)

-- each has a first entry
root-stmt : (d : ℕ) → Rooted d (stmt_at d)
unfolding depths outline_s
root-stmt d s =
    elim s as (λ k. stmt_at d k ≡ d ∷ drop 1 (stmt_at d k)) [
      | block ds is ↦ refl
      | assign x e ↦ refl
      | when e s ↦ refl
      | choose e s t ↦ refl
      | while e s ↦ refl
      | goto a ↦ refl
      | assert e ↦ refl
      | call a es ↦ refl
      | set_level e f ↦ refl
      | select e a ↦ refl
      | for a e f g s ↦ refl
    ]

root-part : (d : ℕ) → Rooted d (part_at d)
unfolding depths
root-part d (label_part a) = refl
root-part d (stmt_part s) = root-stmt d s

root-target : (d : ℕ) → Rooted d (target_at d)
unfolding depths outline_s
root-target d (to_variable a) = refl
root-target d (to_field a e) = refl

root-expr : (d : ℕ) → Rooted d (expr_at d)
unfolding depths outline_s
root-expr d e =
    elim e as (λ k. expr_at d k ≡ d ∷ drop 1 (expr_at d k)) [
      | number z ↦ refl
      | truth b ↦ refl
      | pattern z ↦ refl
      | null c ↦ refl
      | variable a ↦ refl
      | invoke a es ↦ refl
      | field a e ↦ refl
      | make c es ↦ refl
      | operate1 o e ↦ refl
      | operate2 o e f ↦ refl
      | conditional e f g ↦ refl
      | fader e ↦ refl
      | block_expr ds is e ↦ refl
    ]

-- ── what is read where one reader goes to some depth and the other deeper ──
pub record Beside (r q : Below) (d : ℕ) : Type 0 where
  pub typed : Stops r.typed q.typed (one d)
  pub decl : Stops r.decl q.decl (one d)
  pub part : Stops r.part q.part (part_at d)
  pub stmt : Stops r.stmt q.stmt (stmt_at d)
  pub target : Stops r.target q.target (target_at d)
  pub expr : Stops r.expr q.expr (expr_at d)

typed-form : {d : ℕ} (e : Entry) → Forms e (form_typed e) (form_typed e) (one d)
unfolding form_typed
typed-form e = forms-if (eqb e.kind 10) (goes (stops-here (T.as_typed e) refl)) forms-stop

pub decl-form : {d : ℕ} (e : Entry) → Forms e (form_decl e) (form_decl e) (one d)
unfolding form_decl
decl-form e =
    forms-if (eqb e.kind 10) (goes (stops-here _ refl))
    (forms-if (eqb e.kind 14) (goes (stops-here _ refl)) forms-stop)

module _ {r q : Below} {d : ℕ} (G : Beside r q (suc d)) where
  stops-head : (n : ℕ) → Stops (T.repeated n r.decl) (T.repeated n q.decl) (leaves_at (suc d))
  unfolding depths leaves_of
  stops-head n = stops-times (leaves_at (suc d)) refl (λ x xs. refl) G.decl n

  pub stops-items : (n : ℕ) → Stops (made items_of (T.repeated n r.part)) (made items_of (T.repeated n q.part)) (items_at (suc d))
  unfolding depths outline_s items_of
  stops-items n = stops-made items_of (stops-times (λ ps. items_at (suc d) (items_of ps)) refl more G.part n) (λ ps. refl)
    where
      more : (p : Part) (ps : List Part) → items_at (suc d) (items_of (p ∷ ps)) ≡ part_at (suc d) p ++ items_at (suc d) (items_of ps)
      more (label_part a) ps = refl
      more (stmt_part s) ps = refl

  stops-exprs : (n : ℕ) → Stops (made exprs_of (T.repeated n r.expr)) (made exprs_of (T.repeated n q.expr)) (exprs_at (suc d))
  unfolding depths outline_s exprs_of
  stops-exprs n = stops-made exprs_of (stops-times (λ es. exprs_at (suc d) (exprs_of es)) refl (λ e es. refl) G.expr n) (λ es. refl)

  stops-arms : (n : ℕ) → Stops (T.repeated n r.stmt) (T.repeated n q.stmt) (stmts_at (suc d))
  unfolding stmts_at
  stops-arms n = stops-times (stmts_at (suc d)) refl (λ s ss. refl) G.stmt n

  stmt-form : (e : Entry) → Forms e (form_s r e) (form_s q e) (stmt_at d)
  unfolding depths outline_s form_s
  stmt-form e =
      let k = e.kind in
      forms-if (eqb k 1) (goes (stops-two block (stops-head e.a) (stops-items (nat_abs e.b)) (λ x y. refl)))
      (forms-if (eqb k 21) (goes (stops-two assign G.target G.expr (λ x y. refl)))
      (forms-if (eqb k 22) (goes (stops-two when G.expr G.stmt (λ x y. refl)))
      (forms-if (eqb k 23) (goes (stops-three choose G.expr G.stmt G.stmt (λ x y z. refl)))
      (forms-if (eqb k 24) (goes (stops-two while G.expr G.stmt (λ x y. refl)))
      (forms-if (eqb k 25) (goes (stops-here (goto e.a) refl))
      (forms-if (eqb k 26) (goes (stops-made assert G.expr (λ x. refl)))
      (forms-if (eqb k 27) (goes (stops-made (call e.a) (stops-exprs (nat_abs e.b)) (λ x. refl)))
      (forms-if (eqb k 28) (goes (stops-two set_level G.expr G.expr (λ x y. refl)))
      (forms-if (eqb k 30) (goes (stops-three (λ x s ss. select x (arms_of s ss)) G.expr G.stmt (stops-arms (e.a - 1))
      (λ x s ss. ap (λ (l : List ℕ). expr_at (suc d) x ++ l) (arms_at (suc d) s ss))))
      (forms-if (eqb k 31) (goes (stops-four (for e.a) G.expr G.expr G.expr G.stmt (λ x y z t. refl)))
      forms-stop))))))))))

  part-form : (e : Entry) → Forms e (form_part r e) (form_part q e) (part_at d)
  unfolding depths form_part
  part-form e = forms-if (eqb e.kind 20) (goes (stops-here (label_part e.a) refl)) (forms-made stmt_part (stmt-form e) (λ s. refl))

  target-form : (e : Entry) → Forms e (form_target r e) (form_target q e) (target_at d)
  unfolding depths outline_s form_target
  target-form e =
      forms-if (eqb e.kind 44) (goes (stops-here (to_variable e.a) refl))
      (forms-if (eqb e.kind 46) (goes (stops-made (to_field e.a) G.expr (λ x. refl))) forms-stop)

  expr-form : (e : Entry) → Forms e (form_e r e) (form_e q e) (expr_at d)
  unfolding depths outline_s form_e
  expr-form e =
      let k = e.kind in
      forms-if (eqb k 40) (goes (stops-here _ refl))
      (forms-if (eqb k 41) (goes (stops-here _ refl))
      (forms-if (eqb k 42) (goes (stops-here _ refl))
      (forms-if (eqb k 43) (goes (stops-here _ refl))
      (forms-if (eqb k 44) (goes (stops-here _ refl))
      (forms-if (eqb k 45) (goes (stops-made (invoke e.a) (stops-exprs (nat_abs e.b)) (λ x. refl)))
      (forms-if (eqb k 46) (goes (stops-made (field e.a) G.expr (λ x. refl)))
      (forms-if (eqb k 47) (goes (stops-made (make e.a) (stops-exprs (nat_abs e.b)) (λ x. refl)))
      (forms-if (eqb k 48) (goes (stops-made (operate1 (get_or (unary_of e.a) negate)) G.expr (λ x. refl)))
      (forms-if (eqb k 49) (goes (stops-two (operate2 (get_or (binary_of e.a) plus)) G.expr G.expr (λ x y. refl)))
      (forms-if (eqb k 50) (goes (stops-three conditional G.expr G.expr G.expr (λ x y z. refl)))
      (forms-if (eqb k 51) (goes (stops-made fader G.expr (λ x. refl)))
      (forms-if (eqb k 53) (goes (stops-three block_expr (stops-head e.a) (stops-items (nat_abs e.b)) G.expr (λ x y z. refl)))
      forms-stop))))))))))))

-- ── what can always be read: an entry with nothing below it ──
module _ (q : Below) (d : ℕ) where
  blank-typed : Whole (first form_typed) (one d) (entry 10 0 (pos 1) ∷ []) (typed 0 integer)
  unfolding first in_layout form_typed
  blank-typed = record { takes = record { takes = λ rest. refl }; count = refl }

  blank-decl : Whole (first form_decl) (one d) (entry 14 0 (pos 0) ∷ []) (holding 0)
  unfolding first in_layout form_decl
  blank-decl = record { takes = record { takes = λ rest. refl }; count = refl }

  blank_part : Whole (first (form_part q)) (part_at d) (entry 20 0 (pos 0) ∷ []) (label_part 0)
  unfolding first in_layout form_part depths
  blank_part = record { takes = record { takes = λ rest. refl }; count = refl }

  blank-stmt : Whole (first (form_s q)) (stmt_at d) (entry 25 0 (pos 0) ∷ []) (goto 0)
  unfolding first in_layout form_s depths outline_s
  blank-stmt = record { takes = record { takes = λ rest. refl }; count = refl }

  blank-target : Whole (first (form_target q)) (target_at d) (entry 44 0 (pos 0) ∷ []) (to_variable 0)
  unfolding first in_layout form_target depths outline_s
  blank-target = record { takes = record { takes = λ rest. refl }; count = refl }

  blank-expr : Whole (first (form_e q)) (expr_at d) (entry 40 0 (pos 0) ∷ []) (number (pos 0))
  unfolding first in_layout form_e depths outline_s
  blank-expr = record { takes = record { takes = λ rest. refl }; count = refl }

pub beside : (n m d : ℕ) → d + n ≡ 65 → n < m → Beside (below n) (below m) d
unfolding below
beside n zero d e h = absurd (omega arith)
beside zero (suc m) d e h =
    record {
      typed = stops-at-once (λ x. refl) (omega arith) (blank-typed (below m) d);
      decl = stops-at-once (λ x. refl) (omega arith) (blank-decl (below m) d);
      part = stops-at-once (root-part d) (omega arith) (blank_part (below m) d);
      stmt = stops-at-once (root-stmt d) (omega arith) (blank-stmt (below m) d);
      target = stops-at-once (root-target d) (omega arith) (blank-target (below m) d);
      expr = stops-at-once (root-expr d) (omega arith) (blank-expr (below m) d);
    }
beside (suc n) (suc m) d e h =
    let G : Beside (below n) (below m) (suc d) = beside n m (suc d) (omega arith) (omega arith) in
    record {
      typed = stops_first form_typed form_typed (λ x. refl) (omega arith) (blank-typed (below m) d) typed-form;
      decl = stops_first form_decl form_decl (λ x. refl) (omega arith) (blank-decl (below m) d) decl-form;
      part = stops_first (form_part (below n)) (form_part (below m)) (root-part d) (omega arith) (blank_part (below m) d) (part-form G);
      stmt = stops_first (form_s (below n)) (form_s (below m)) (root-stmt d) (omega arith) (blank-stmt (below m) d) (stmt-form G);
      target = stops_first (form_target (below n)) (form_target (below m)) (root-target d) (omega arith) (blank-target (below m) d) (target-form G);
      expr = stops_first (form_e (below n)) (form_e (below m)) (root-expr d) (omega arith) (blank-expr (below m) d) (expr-form G);
    }
