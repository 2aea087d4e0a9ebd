-- Each form of an entry is read as the operand table says. Assumes nothing.
use mathlib.Core.Path.{◌≡◌, ap}
use mathlib.Core.Bool.{true, ◌||◌}
use mathlib.Core.List.{List, [], ◌∷◌, ◌++◌}
use mathlib.Core.Option.{get_or}
use Prim.Native.Nat.{ℕ, zero, suc, ◌-◌, ◌≤◌}
use native.Mathlib.Omega.{arith}
use native.Mathlib.Decide.{ℕ_discrete}
use lib.Dec.{eqb, leb}
use lib.IntN.{nat_abs}
use lib.ListN.{replicate}
use borrow.Author.Tests.{ne_eqb, leb-true}
use Rattle.values.specs.Arithmetic.{is_zero}
use Rattle.logic.specs.Choice.{If◌then◌else◌}
use Rattle.language.specs.Tree as tree
use Rattle.language.specs.Tree.{block, assign, when, choose, while, assert, call, set_level, select, invoke, field, make, operate1, operate2, conditional, fader, block_expr, to_field}
use Rattle.values.specs.Operators.{negate, plus, unary_of, binary_of}
use Rattle.language.specs.Table as table
use Rattle.language.specs.Table.{Entry, in_layout, Reader, made, two, three, four, repeated, Below, label_part, stmt_part, items_of, arms_of, items_below, exprs_of, exprs_below}
use Rattle.language.specs.Table.{form_typed, form_decl, form_part, form_s, form_target, form_e, below}
use Rattle.logic.specs.Tests.{both_left}
use Rattle.table_read.specs.declared.kinds.Sort.{Sort}
use Rattle.table_read.specs.declared.kinds.Sort.TheVariants.{Typed, Decl, Part, Stmt, Target, Expr}
use Rattle.std.specs.Prelude.{Result, Err}
use Rattle.table_read.specs.Operands.{is_s, is_e, sorts}
use Rattle.table_read.specs.Walk.{moved, chain, sorts_of, admits, walk}
use Rattle.table_read.proofs.Ends.{Ends, Same, Chained, ends-made, ends-entry, ends-stop, same-eq, same-made, same_none, same-one, same_then, made_after, same-times, times-then, same_first}

-- what is read as an operand
abbrev Grown : Sort → Type 0
Grown Typed = tree.Typed
Grown Decl = tree.Decl
Grown Part = table.Part
Grown Stmt = tree.Stmt
Grown Target = tree.Target
Grown Expr = tree.Expr

abbrev pub reads : (s : Sort) → Below → Reader (Grown s)
reads Typed r = r.typed
reads Decl r = r.decl
reads Part r = r.part
reads Stmt r = r.stmt
reads Target r = r.target
reads Expr r = r.expr

module _ (r : Below) (w : Sort → List Entry → Result ℕ ℕ) (h : (s : Sort) → Same (reads s r) (w s)) (e : Entry) (es : List Entry) where
  -- a reader of the operands, where they are ss
  pub below-entry : {A : Type 0} {q : Reader A} {ss : List Sort} {f : Entry} → Chained w q ss → Ends (f ∷ es) (q es) (moved 1 (chain w ss es))
  below-entry {f = f} k = ends-entry f es (k.ends es)

  items : Chained w (items_below r e) ((replicate (nat_abs e.b) Part))
  items = same-made w items_of (same-times w (h Part) (nat_abs e.b))

  exprs : Chained w (exprs_below r e) ((replicate (nat_abs e.b) Expr))
  exprs = same-made w exprs_of (same-times w (h Expr) (nat_abs e.b))

  one-expr : {A : Type 0} (f : tree.Expr → A) → Chained w (made f r.expr) ((Expr ∷ []))
  one-expr f = same-made w f (same-one w (h Expr))

  two-exprs : {A : Type 0} (f : tree.Expr → tree.Expr → A) → Chained w (two f r.expr r.expr) ((Expr ∷ Expr ∷ []))
  two-exprs f = same_then w (λ x. made (f x) r.expr) (h Expr) (λ x. one-expr (f x))

  guarded : {A : Type 0} (f : tree.Expr → tree.Stmt → A) → Chained w (two f r.expr r.stmt) ((Expr ∷ Stmt ∷ []))
  guarded f = same_then w (λ x. made (f x) r.stmt) (h Expr) (λ x. same-made w (f x) (same-one w (h Stmt)))

  counted : {A : Type 0} (f : tree.Expr → tree.Expr → tree.Expr → tree.Stmt → A)
      → Chained w (four f r.expr r.expr r.expr r.stmt) ((Expr ∷ Expr ∷ Expr ∷ Stmt ∷ []))
  counted f =
      same_then w (λ x. three (f x) r.expr r.expr r.stmt) (h Expr)
      (λ x. same_then w (λ y. two (f x y) r.expr r.stmt) (h Expr) (λ y. guarded (f x y)))

  cases : (a : ℕ) → 1 ≤ a → Chained w (three (λ x s ss. select x (arms_of s ss)) r.expr r.stmt (repeated (a - 1) r.stmt)) ((Expr ∷ replicate a Stmt))
  cases a l =
      let p : a ≡ suc (a - 1) = omega arith in
      let q : replicate a Stmt ≡ Stmt ∷ replicate (a - 1) Stmt = ap (λ (m : ℕ). replicate m Stmt) p in
      rw q
      (same_then w (λ x. two (λ s ss. select x (arms_of s ss)) r.stmt (repeated (a - 1) r.stmt)) (h Expr)
      (λ x. same_then w (λ s. made (λ ss. select x (arms_of s ss)) (repeated (a - 1) r.stmt)) (h Stmt)
      (λ s. same-made w (λ ss. select x (arms_of s ss)) (same-times w (h Stmt) (a - 1)))))

  body : Chained w (three block_expr (repeated e.a r.decl) (items_below r e) r.expr) ((replicate e.a Decl ++ (replicate (nat_abs e.b) Part ++ (Expr ∷ []))))
  body =
      times-then w (h Decl) e.a (λ ds. two (block_expr ds) (items_below r e) r.expr)
      (λ ds. same-eq w (times-then w (h Part) (nat_abs e.b) (λ ps. made (block_expr ds (items_of ps)) r.expr) (λ ps. one-expr (block_expr ds (items_of ps))))
      (λ fs. made_after w (repeated (nat_abs e.b) r.part fs) items_of (λ is. made (block_expr ds is) r.expr)))

  statement : in_layout e ≡ true → Ends (e ∷ es) (form_s r e es) (If is_s e.kind then moved 1 (chain w (sorts_of e) es) else Err 0)
  unfolding form_s is_s sorts in_layout
  statement l =
      elim (ℕ_discrete e.kind 1) [
        | yes p ↦ rw p (below-entry (times-then w (h Decl) e.a (λ ds. made (block ds) (items_below r e)) (λ ds. same-made w (block ds) items)))
        | no n1 ↦
            elim (ℕ_discrete e.kind 21) [
              | yes p ↦ rw p (below-entry (same_then w (λ x. made (assign x) r.expr) (h Target) (λ x. one-expr (assign x))))
              | no n21 ↦
                  elim (ℕ_discrete e.kind 22) [
                    | yes p ↦ rw p (below-entry (guarded when))
                    | no n22 ↦
                        elim (ℕ_discrete e.kind 23) [
                          | yes p ↦ rw p (below-entry (same_then w (λ x. two (choose x) r.stmt r.stmt) (h Expr)
                              (λ x. same_then w (λ s. made (choose x s) r.stmt) (h Stmt) (λ s. same-made w (choose x s) (same-one w (h Stmt))))))
                          | no n23 ↦
                              elim (ℕ_discrete e.kind 24) [
                                | yes p ↦ rw p (below-entry (guarded while))
                                | no n24 ↦
                                    elim (ℕ_discrete e.kind 25) [
                                      | yes p ↦ rw p (below-entry (same_none w (tree.goto e.a)))
                                      | no n25 ↦
                                          elim (ℕ_discrete e.kind 26) [
                                            | yes p ↦ rw p (below-entry (one-expr assert))
                                            | no n26 ↦
                                                elim (ℕ_discrete e.kind 27) [
                                                  | yes p ↦ rw p (below-entry (same-made w (call e.a) exprs))
                                                  | no n27 ↦
                                                      elim (ℕ_discrete e.kind 28) [
                                                        | yes p ↦ rw p (below-entry (two-exprs set_level))
                                                        | no n28 ↦
                                                            elim (ℕ_discrete e.kind 30) [
                                                              | yes p ↦ rw p (below-entry (cases e.a (leb-true 1 e.a (both_left (leb 1 e.a) (is_zero e.b) (rw p at l)))))
                                                              | no n30 ↦
                                                                  elim (ℕ_discrete e.kind 31) [
                                                                    | yes p ↦ rw p (below-entry (counted (tree.for e.a)))
                                                                    | no n31 ↦
                                                                        simp (
                                                                          ne_eqb _ _ n1,
                                                                          ne_eqb _ _ n21,
                                                                          ne_eqb _ _ n22,
                                                                          ne_eqb _ _ n23,
                                                                          ne_eqb _ _ n24,
                                                                          ne_eqb _ _ n25,
                                                                          ne_eqb _ _ n26,
                                                                          ne_eqb _ _ n27,
                                                                          ne_eqb _ _ n28,
                                                                          ne_eqb _ _ n30,
                                                                          ne_eqb _ _ n31,
                                                                        ) (ends-stop (e ∷ es))
                                                                  ]
                                                            ]
                                                      ]
                                                ]
                                          ]
                                    ]
                              ]
                        ]
                  ]
            ]
      ]

  expression : Ends (e ∷ es) (form_e r e es) (If is_e e.kind then moved 1 (chain w (sorts_of e) es) else Err 0)
  unfolding form_e is_e sorts
  expression =
      elim (ℕ_discrete e.kind 40) [
        | yes p ↦ rw p (below-entry (same_none w (tree.number e.b)))
        | no n40 ↦
            elim (ℕ_discrete e.kind 41) [
              | yes p ↦ rw p (below-entry (same_none w _))
              | no n41 ↦
                  elim (ℕ_discrete e.kind 42) [
                    | yes p ↦ rw p (below-entry (same_none w (tree.pattern e.b)))
                    | no n42 ↦
                        elim (ℕ_discrete e.kind 43) [
                          | yes p ↦ rw p (below-entry (same_none w (tree.null e.a)))
                          | no n43 ↦
                              elim (ℕ_discrete e.kind 44) [
                                | yes p ↦ rw p (below-entry (same_none w (tree.variable e.a)))
                                | no n44 ↦
                                    elim (ℕ_discrete e.kind 45) [
                                      | yes p ↦ rw p (below-entry (same-made w (invoke e.a) exprs))
                                      | no n45 ↦
                                          elim (ℕ_discrete e.kind 46) [
                                            | yes p ↦ rw p (below-entry (one-expr (field e.a)))
                                            | no n46 ↦
                                                elim (ℕ_discrete e.kind 47) [
                                                  | yes p ↦ rw p (below-entry (same-made w (make e.a) exprs))
                                                  | no n47 ↦
                                                      elim (ℕ_discrete e.kind 48) [
                                                        | yes p ↦ rw p (below-entry (one-expr (operate1 (get_or (unary_of e.a) negate))))
                                                        | no n48 ↦
                                                            elim (ℕ_discrete e.kind 49) [
                                                              | yes p ↦ rw p (below-entry (two-exprs (operate2 (get_or (binary_of e.a) plus))))
                                                              | no n49 ↦
                                                                  elim (ℕ_discrete e.kind 50) [
                                                                    | yes p ↦ rw p (below-entry (same_then w (λ x. two (conditional x) r.expr r.expr) (h Expr) (λ x. two-exprs (conditional x))))
                                                                    | no n50 ↦
                                                                        elim (ℕ_discrete e.kind 51) [
                                                                          | yes p ↦ rw p (below-entry (one-expr fader))
                                                                          | no n51 ↦
                                                                              elim (ℕ_discrete e.kind 53) [
                                                                                | yes p ↦ rw p (below-entry body)
                                                                                | no n53 ↦
                                                                                    simp (
                                                                                      ne_eqb _ _ n40,
                                                                                      ne_eqb _ _ n41,
                                                                                      ne_eqb _ _ n42,
                                                                                      ne_eqb _ _ n43,
                                                                                      ne_eqb _ _ n44,
                                                                                      ne_eqb _ _ n45,
                                                                                      ne_eqb _ _ n46,
                                                                                      ne_eqb _ _ n47,
                                                                                      ne_eqb _ _ n48,
                                                                                      ne_eqb _ _ n49,
                                                                                      ne_eqb _ _ n50,
                                                                                      ne_eqb _ _ n51,
                                                                                      ne_eqb _ _ n53,
                                                                                    ) (ends-stop (e ∷ es))
                                                                              ]
                                                                        ]
                                                                  ]
                                                            ]
                                                      ]
                                                ]
                                          ]
                                    ]
                              ]
                        ]
                  ]
            ]
      ]

  target : Ends (e ∷ es) (form_target r e es) (If eqb e.kind 44 || eqb e.kind 46 then moved 1 (chain w (sorts_of e) es) else Err 0)
  unfolding form_target sorts
  target =
      elim (ℕ_discrete e.kind 44) [
        | yes p ↦ rw p (below-entry (same_none w (tree.to_variable e.a)))
        | no n44 ↦
            elim (ℕ_discrete e.kind 46) [
              | yes p ↦ rw p (below-entry (one-expr (to_field e.a)))
              | no n46 ↦
                  simp (ne_eqb _ _ n44, ne_eqb _ _ n46) (ends-stop (e ∷ es))
            ]
      ]

  label-or : in_layout e ≡ true → Ends (e ∷ es) (form_part r e es) (If eqb e.kind 20 || is_s e.kind then moved 1 (chain w (sorts_of e) es) else Err 0)
  unfolding form_part sorts
  label-or l =
      elim (ℕ_discrete e.kind 20) [
        | yes p ↦ rw p (below-entry (same_none w (label_part e.a)))
        | no n20 ↦
            rw (ne_eqb _ _ n20) (ends-made stmt_part (statement l))
      ]

  pub declaration : Ends (e ∷ es) (form_decl e es) (If eqb e.kind 10 || eqb e.kind 14 then moved 1 (chain w (sorts_of e) es) else Err 0)
  unfolding form_decl sorts
  declaration =
      elim (ℕ_discrete e.kind 10) [
        | yes p ↦ rw p (below-entry (same_none w _))
        | no n10 ↦
            elim (ℕ_discrete e.kind 14) [
              | yes p ↦ rw p (below-entry (same_none w _))
              | no n14 ↦
                  simp (ne_eqb _ _ n10, ne_eqb _ _ n14) (ends-stop (e ∷ es))
            ]
      ]

  typed_one : Ends (e ∷ es) (form_typed e es) (If eqb e.kind 10 then moved 1 (chain w (sorts_of e) es) else Err 0)
  unfolding form_typed sorts
  typed_one =
      elim (ℕ_discrete e.kind 10) [
        | yes p ↦ rw p (below-entry (same_none w _))
        | no n10 ↦
            simp (ne_eqb _ _ n10) (ends-stop (e ∷ es))
      ]

-- at every nesting
pub walks : (d : ℕ) (s : Sort) → Same (reads s (below d)) (walk d s)
unfolding below walk admits
walks zero Typed = record { ends = ends-stop }
walks zero Decl = record { ends = ends-stop }
walks zero Part = record { ends = ends-stop }
walks zero Stmt = record { ends = ends-stop }
walks zero Target = record { ends = ends-stop }
walks zero Expr = record { ends = ends-stop }
walks (suc d) Typed = same_first (walk d) (admits Typed) form_typed (λ e es l. typed_one (below d) (walk d) (walks d) e es)
walks (suc d) Decl = same_first (walk d) (admits Decl) form_decl (λ e es l. declaration (below d) (walk d) (walks d) e es)
walks (suc d) Part = same_first (walk d) (admits Part) (form_part (below d)) (λ e es l. label-or (below d) (walk d) (walks d) e es l)
walks (suc d) Stmt = same_first (walk d) (admits Stmt) (form_s (below d)) (λ e es l. statement (below d) (walk d) (walks d) e es l)
walks (suc d) Target = same_first (walk d) (admits Target) (form_target (below d)) (λ e es l. target (below d) (walk d) (walks d) e es)
walks (suc d) Expr = same_first (walk d) (admits Expr) (form_e (below d)) (λ e es l. expression (below d) (walk d) (walks d) e es)
