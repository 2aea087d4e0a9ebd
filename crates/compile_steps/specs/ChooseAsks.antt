-- An if with else: what its walker asks of its parts, and that it answers when they have answered.
use Rattle.std.specs.Prelude.{◌≡◌, refl, List, ℕ, ◌+◌, ◌-◌, ◌*◌, ◌<◌, length, get_or, set, take}
use Rattle.std.proofs.Common.{ap, ◌∙◌, arith}
use Rattle.language.specs.Program.{flat_s, flat_e}
use Rattle.language.specs.Tree.{Stmt, Expr, choose}
use Rattle.table_forms.specs.Part.{Passes}
use Rattle.compile_output.specs.declared.Cursor.{Cursor}
use Rattle.compile_output.specs.EmitRecord.{Fits, moved, cursor_shaped, emit_op, emit_shape}
use Rattle.compile_nodes.specs.Knows.{Walk}
use Rattle.compile_nodes.specs.Ready.{stmt, expr, Place, Lent, Ready, Done, Asks, Answers}
use Rattle.compile_steps.specs.Parts.{lent, below, moved_to, asked}
use Rattle.compile_steps.specs.Views.{IsExpr, IsStmt, IsKind, Choose, choose-of}
use Rattle.compile_steps.specs.Shared.{Shaping, ready-as, done-as, aim-as, kept-done}
use Rattle.compile_steps.specs.Forks.{behind-then, fork-test, fork-jump, fork-body, fork-jump-2, fork-mark, fork-else}
use Rattle.compile_steps.specs.Elses.{choose-forks, choose-mark-2, choose-small, choose-done}
use Rattle.compile_steps.specs.Parts.{ready-passes, ready-size, behind_test}

module _ {known aims l part : List ℕ} {nesting at : ℕ} {sizes : List ℕ} {L : Lent} {top holds depth : ℕ} {cursor : Cursor}
    (a : Asks (IsKind 23) known aims l part nesting at sizes L top holds depth cursor) where
  v : Choose a.node
  v = choose-of a.node a.such

  ready : Ready (stmt (choose v.e v.s v.t)) a.walk a.place l part nesting at sizes L top holds depth cursor
  ready = ready-as v.same a.ready

  pub asks-choose-first : Asks IsExpr known aims l (below part 8) (nesting - 1) (at + 1) sizes L top holds depth cursor
  asks-choose-first = record { node = expr v.e; walk = a.walk; place = a.place; such = tt; same_known = a.same_known; same-aims = a.same-aims; ready = fork-test (choose-forks _ _ _ ready) }

  pub asks-choose-passes : (n : ℕ) → n ≡ get_or sizes (at + 1) 0 → Passes (below part 8) sizes (at + 1) n
  asks-choose-passes n z = ready-passes (fork-test (choose-forks _ _ _ ready)) n z

  module _ (n : ℕ) (z : n ≡ get_or sizes (at + 1) 0) (m : ℕ) (z₂ : m ≡ get_or sizes (at + 1 + n) 0) {M : Lent} {p : Cursor}
      (b₁ : Answers IsExpr known aims l (below part 8) (nesting - 1) (at + 1) sizes L M top holds depth cursor p) where
    first : {W : Walk} {X : Place} {e : Expr} {s t : Stmt} → W.known ≡ known → W.aims ≡ aims → Ready (stmt (choose e s t)) W X l part nesting at sizes L top holds depth cursor
        → Done (expr e) W X (at + 1) L M depth cursor p
    first {W} {X} {e} {s} {t} x y h = b₁.done (expr e) W X tt x y (fork-test (choose-forks e s t h))

    behind : {W : Walk} {X : Place} {e : Expr} {s t : Stmt} → Ready (stmt (choose e s t)) W X l part nesting at sizes L top holds depth cursor → at + 1 + n ≡ at + 1 + length (flat_e e)
    behind {e = e} {s = s} {t = t} h = ap (λ (k : ℕ). at + 1 + k) (ready-size (fork-test (choose-forks e s t h)) n z)

    pub asks-choose-emit : Fits (moved p) (length M.out)
    asks-choose-emit = fork-jump (choose-forks _ _ _ ready) b₁.kept (first a.same_known a.same-aims ready)

    pub asks-choose-passes₂ : Passes (below part (8 * (at + 1 + n - at))) sizes (at + 1 + n) m
    asks-choose-passes₂ =
        let d = first a.same_known a.same-aims ready in
        ready-passes (fork-body (choose-forks _ _ _ ready) b₁.kept d (at + 1 + n) (get_or a.walk.aims (at + 1 + n) 0 + 1) (behind ready) refl (refl, refl)) m z₂

    module _ {b : ℕ} {p₂ : Cursor} {o : List ℕ} (aim : b ≡ get_or aims (at + 1 + n) 0) (i : (p₂ ≡ moved p) × (o ≡ emit_op p M.out 9 0 (b + 1))) where
      next : {vs : List ℕ} → vs ≡ aims → b + 1 ≡ get_or vs (at + 1 + n) 0 + 1
      next y = ap (λ (k : ℕ). k + 1) (aim-as (at + 1 + n) y aim)

      inner : {W : Walk} {X : Place} {e : Expr} {s t : Stmt} → W.known ≡ known → W.aims ≡ aims → (h : Ready (stmt (choose e s t)) W X l part nesting at sizes L top holds depth cursor)
          → Ready (stmt s) W (moved_to X (behind_test W X e)) l (below part (8 * (at + 1 + n - at))) (nesting - 1) (at + 1 + n) sizes (lent M.env M.ends M.stack o) top holds depth p₂
      inner {e = e} {s = s} {t = t} x y h = fork-body (choose-forks e s t h) b₁.kept (first x y h) (at + 1 + n) (b + 1) (behind h) (next y) i

      pub asks-choose-second : Asks IsStmt known aims l (below part (8 * (at + 1 + n - at))) (nesting - 1) (at + 1 + n) sizes (lent M.env M.ends M.stack o) top holds depth p₂
      asks-choose-second =
          record { node = stmt v.s; walk = a.walk; place = _; such = tt; same_known = a.same_known; same-aims = a.same-aims; ready = inner a.same_known a.same-aims ready }

      module _ {N : Lent} {r : Cursor}
          (b₂ : Answers IsStmt known aims l (below part (8 * (at + 1 + n - at))) (nesting - 1) (at + 1 + n) sizes (lent M.env M.ends M.stack o) N top holds depth p₂ r) where
        second : {W : Walk} {X : Place} {e : Expr} {s t : Stmt} → W.known ≡ known → W.aims ≡ aims → (h : Ready (stmt (choose e s t)) W X l part nesting at sizes L top holds depth cursor)
            → Done (stmt s) W (moved_to X (behind_test W X e)) (at + 1 + n) (lent M.env M.ends M.stack o) N depth p₂ r
        second {W} {X} {e} {s} {t} x y h = b₂.done (stmt s) W _ tt x y (inner x y h)

        behind₂ : {W : Walk} {X : Place} {e : Expr} {s t : Stmt} → W.known ≡ known → W.aims ≡ aims → Ready (stmt (choose e s t)) W X l part nesting at sizes L top holds depth cursor
            → at + 1 + n + m ≡ at + 1 + n + length (flat_s s)
        behind₂ x y h = ap (λ (k : ℕ). at + 1 + n + k) (ready-size (inner x y h) m z₂)

        pub asks-choose-emit₂ : Fits (moved r) (length N.out)
        asks-choose-emit₂ =
            let x = a.same_known in let y = a.same-aims in
            fork-jump-2 (choose-forks _ _ _ ready) b₁.kept (first x y ready) (at + 1 + n) (b + 1) (behind ready) (next y) i b₂.kept (second x y ready)

        module _ {c : ℕ} {p₃ : Cursor} {o₂ : List ℕ} (aim₂ : c ≡ get_or aims (at + 1 + n + m) 0) (i₂ : (p₃ ≡ moved r) × (o₂ ≡ emit_op r N.out 8 0 c)) where
          pub asks-choose-shape : Shaping N.stack o₂ holds depth p₃
          asks-choose-shape =
              let x = a.same_known in let y = a.same-aims in let q = asked a in (
                omega (arith, q.deep, q.stacked, b₁.kept.same-stack, b₂.kept.same-stack),
                omega (arith, q.deep),
                omega (arith, q.held),
                fork-mark (choose-forks _ _ _ ready) b₁.kept (first x y ready) (at + 1 + n) (b + 1) (behind ready) (next y) i
                    b₂.kept (second x y ready) (at + 1 + n + m) c (behind₂ x y ready) (aim-as (at + 1 + n + m) y aim₂) i₂,
              )

          module _ {p₄ : Cursor} {o₃ : List ℕ} (j : (p₄ ≡ cursor_shaped depth p₃) × (o₃ ≡ emit_shape p₃ o₂ holds depth (take depth N.stack))) where
            outer : {W : Walk} {X : Place} {e : Expr} {s t : Stmt} → W.known ≡ known → W.aims ≡ aims → (h : Ready (stmt (choose e s t)) W X l part nesting at sizes L top holds depth cursor)
                → Ready (stmt t) W (moved_to X (behind-then W X e (stmt s))) l (below part (8 * (at + 1 + n + m - at))) (nesting - 1) (at + 1 + n + m) sizes
                (lent N.env N.ends N.stack o₃) top holds depth p₄
            outer {e = e} {s = s} {t = t} x y h =
                fork-else (choose-forks e s t h) b₁.kept (first x y h) (at + 1 + n) (b + 1) (behind h) (next y) i
                b₂.kept (second x y h) (at + 1 + n + m) c (behind₂ x y h) (aim-as (at + 1 + n + m) y aim₂) i₂ j

            pub asks-choose-third : Asks IsStmt known aims l (below part (8 * (at + 1 + n + m - at))) (nesting - 1) (at + 1 + n + m) sizes (lent N.env N.ends N.stack o₃) top holds depth p₄
            asks-choose-third =
                record { node = stmt v.t; walk = a.walk; place = _; such = tt; same_known = a.same_known; same-aims = a.same-aims; ready = outer a.same_known a.same-aims ready }

            module _ {K : Lent} {u : Cursor}
                (b₃ : Answers IsStmt known aims l (below part (8 * (at + 1 + n + m - at))) (nesting - 1) (at + 1 + n + m) sizes (lent N.env N.ends N.stack o₃) K top holds depth p₄ u) where
              third : {W : Walk} {X : Place} {e : Expr} {s t : Stmt} → W.known ≡ known → W.aims ≡ aims → (h : Ready (stmt (choose e s t)) W X l part nesting at sizes L top holds depth cursor)
                  → Done (stmt t) W (moved_to X (behind-then W X e (stmt s))) (at + 1 + n + m) (lent N.env N.ends N.stack o₃) K depth p₄ u
              third {W} {X} {e} {s} {t} x y h = b₃.done (stmt t) W _ tt x y (outer x y h)

              pub asks-choose-shape₂ : Shaping K.stack K.out holds depth u
              asks-choose-shape₂ =
                  let x = a.same_known in let y = a.same-aims in let q = asked a in (
                    omega (arith, q.deep, q.stacked, b₁.kept.same-stack, b₂.kept.same-stack, b₃.kept.same-stack),
                    omega (arith, q.deep),
                    omega (arith, q.held),
                    choose-mark-2 _ _ _ ready b₁.kept (first x y ready) (at + 1 + n) (b + 1) (behind ready) (next y) i
                        b₂.kept (second x y ready) (at + 1 + n + m) c (behind₂ x y ready) (aim-as (at + 1 + n + m) y aim₂) i₂ j
                        b₃.kept (third x y ready),
                  )

              module _ {p₅ : Cursor} {o₄ : List ℕ} (j₂ : (p₅ ≡ cursor_shaped depth u) × (o₄ ≡ emit_shape u K.out holds depth (take depth K.stack))) where
                pub asks-choose-finish : (at < length K.ends) × (p₅.address < 65536)
                asks-choose-finish =
                    let x = a.same_known in let y = a.same-aims in (
                      omega (arith, (asked a).ending, b₁.kept.same_ends, b₂.kept.same_ends, b₃.kept.same_ends),
                      choose-small _ _ _ ready b₁.kept (first x y ready) (at + 1 + n) (b + 1) (behind ready) (next y) i
                          b₂.kept (second x y ready) (at + 1 + n + m) c (behind₂ x y ready) (aim-as (at + 1 + n + m) y aim₂) i₂ j
                          b₃.kept (third x y ready) j₂,
                    )

                module _ {w : Cursor} {ends : List ℕ} (f : (w ≡ p₅) × (ends ≡ set K.ends at p₅.address)) where
                  all : {W : Walk} {X : Place} {e : Expr} {s t : Stmt} → W.known ≡ known → W.aims ≡ aims → Ready (stmt (choose e s t)) W X l part nesting at sizes L top holds depth cursor
                      → Done (stmt (choose e s t)) W X at L (lent K.env ends K.stack o₄) depth cursor w
                  all {W} {X} {e} {s} {t} x y h =
                      rw f.0 (choose-done e s t h b₁.kept (first x y h) (at + 1 + n) (b + 1) (behind h) (next y) i
                      b₂.kept (second x y h) (at + 1 + n + m) c (behind₂ x y h) (aim-as (at + 1 + n + m) y aim₂) i₂ j
                      b₃.kept (third x y h) j₂ f.1)

                  pub answers-choose : Answers (IsKind 23) known aims l part nesting at sizes L (lent K.env ends K.stack o₄) top holds depth cursor w
                  answers-choose =
                      record {
                        kept = kept-done top depth (all a.same_known a.same-aims ready) (b₃.kept.env ∙ (b₂.kept.env ∙ b₁.kept.env))
                            (b₃.kept.same-env ∙ (b₂.kept.same-env ∙ b₁.kept.same-env))
                            (b₃.kept.stack ∙ (b₂.kept.stack ∙ b₁.kept.stack)) (b₃.kept.same-stack ∙ (b₂.kept.same-stack ∙ b₁.kept.same-stack));
                        done = λ k W X is x y g. let q = choose-of k is in done-as q.same (all x y (ready-as q.same g));
                      }
