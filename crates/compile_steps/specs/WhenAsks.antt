-- An if without else: what its walker asks of its parts, and that it answers when they have answered.
use Rattle.std.specs.Prelude.{◌≡◌, List, ℕ, ◌+◌, ◌-◌, ◌*◌, ◌<◌, length, get_or, set, take}
use Rattle.std.proofs.Common.{ap, ◌∙◌, arith}
use Rattle.language.specs.Program.{flat_e}
use Rattle.language.specs.Tree.{Stmt, Expr, when}
use Rattle.table_forms.specs.Part.{Passes}
use Rattle.compile_output.specs.declared.Cursor.{Cursor}
use Rattle.compile_output.specs.EmitRecord.{Fits, moved, cursor_shaped, emit_op, emit_shape}
use Rattle.compile_nodes.specs.Knows.{Walk}
use Rattle.compile_nodes.specs.Ready.{stmt, expr, Place, Lent, Ready, Done, Asks, Answers}
use Rattle.compile_steps.specs.Parts.{lent, below, moved_to, asked}
use Rattle.compile_steps.specs.Views.{IsExpr, IsStmt, IsKind, When, when-of}
use Rattle.compile_steps.specs.Shared.{Shaping, ready-as, done-as, aim-as, kept-done}
use Rattle.compile_steps.specs.Ifs.{when-test, when-jump, when-body, when-mark, when-small, when-done}
use Rattle.compile_steps.specs.Parts.{ready-passes, ready-size, behind_test}

module _ {known aims l part : List ℕ} {nesting at : ℕ} {sizes : List ℕ} {L : Lent} {top holds depth : ℕ} {cursor : Cursor}
    (a : Asks (IsKind 22) known aims l part nesting at sizes L top holds depth cursor) where
  v : When a.node
  v = when-of a.node a.such

  ready : Ready (stmt (when v.e v.s)) a.walk a.place l part nesting at sizes L top holds depth cursor
  ready = ready-as v.same a.ready

  pub asks-when-first : Asks IsExpr known aims l (below part 8) (nesting - 1) (at + 1) sizes L top holds depth cursor
  asks-when-first = record { node = expr v.e; walk = a.walk; place = a.place; such = tt; same_known = a.same_known; same-aims = a.same-aims; ready = when-test _ _ ready }

  module _ (n : ℕ) (z : n ≡ get_or sizes (at + 1) 0) where
    pub asks-when-passes : Passes (below part 8) sizes (at + 1) n
    asks-when-passes = ready-passes (when-test _ _ ready) n z

    module _ {M : Lent} {p : Cursor} (b₁ : Answers IsExpr known aims l (below part 8) (nesting - 1) (at + 1) sizes L M top holds depth cursor p) where
      first : {W : Walk} {X : Place} {e : Expr} {s : Stmt} → W.known ≡ known → W.aims ≡ aims → Ready (stmt (when e s)) W X l part nesting at sizes L top holds depth cursor
          → Done (expr e) W X (at + 1) L M depth cursor p
      first {W} {X} {e} {s} x y h = b₁.done (expr e) W X tt x y (when-test e s h)

      behind : {W : Walk} {X : Place} {e : Expr} {s : Stmt} → Ready (stmt (when e s)) W X l part nesting at sizes L top holds depth cursor → at + 1 + n ≡ at + 1 + length (flat_e e)
      behind {e = e} {s = s} h = ap (λ (k : ℕ). at + 1 + k) (ready-size (when-test e s h) n z)

      pub asks-when-emit : Fits (moved p) (length M.out)
      asks-when-emit = when-jump _ _ ready b₁.kept (first a.same_known a.same-aims ready)

      module _ {b : ℕ} {p₂ : Cursor} {o : List ℕ} (aim : b ≡ get_or aims (at + 1 + n) 0) (i : (p₂ ≡ moved p) × (o ≡ emit_op p M.out 9 0 b)) where
        inner : {W : Walk} {X : Place} {e : Expr} {s : Stmt} → W.known ≡ known → W.aims ≡ aims → (h : Ready (stmt (when e s)) W X l part nesting at sizes L top holds depth cursor)
            → Ready (stmt s) W (moved_to X (behind_test W X e)) l (below part (8 * (at + 1 + n - at))) (nesting - 1) (at + 1 + n) sizes (lent M.env M.ends M.stack o) top holds depth p₂
        inner {e = e} {s = s} x y h = when-body e s h b₁.kept (first x y h) (at + 1 + n) b (behind h) (aim-as (at + 1 + n) y aim) i

        pub asks-when-second : Asks IsStmt known aims l (below part (8 * (at + 1 + n - at))) (nesting - 1) (at + 1 + n) sizes (lent M.env M.ends M.stack o) top holds depth p₂
        asks-when-second =
            record { node = stmt v.s; walk = a.walk; place = _; such = tt; same_known = a.same_known; same-aims = a.same-aims; ready = inner a.same_known a.same-aims ready }

        module _ {N : Lent} {r : Cursor}
            (b₂ : Answers IsStmt known aims l (below part (8 * (at + 1 + n - at))) (nesting - 1) (at + 1 + n) sizes (lent M.env M.ends M.stack o) N top holds depth p₂ r) where
          second : {W : Walk} {X : Place} {e : Expr} {s : Stmt} → W.known ≡ known → W.aims ≡ aims → (h : Ready (stmt (when e s)) W X l part nesting at sizes L top holds depth cursor)
              → Done (stmt s) W (moved_to X (behind_test W X e)) (at + 1 + n) (lent M.env M.ends M.stack o) N depth p₂ r
          second {W} {X} {e} {s} x y h = b₂.done (stmt s) W _ tt x y (inner x y h)

          pub asks-when-shape : Shaping N.stack N.out holds depth r
          asks-when-shape =
              let x = a.same_known in let y = a.same-aims in let q = asked a in (
                omega (arith, q.deep, q.stacked, b₁.kept.same-stack, b₂.kept.same-stack),
                omega (arith, q.deep),
                omega (arith, q.held),
                when-mark _ _ ready b₁.kept (first x y ready) (at + 1 + n) b (behind ready) (aim-as (at + 1 + n) y aim) i b₂.kept (second x y ready),
              )

          module _ {t : Cursor} {o₂ : List ℕ} (j : (t ≡ cursor_shaped depth r) × (o₂ ≡ emit_shape r N.out holds depth (take depth N.stack))) where
            pub asks-when-finish : (at < length N.ends) × (t.address < 65536)
            asks-when-finish =
                let x = a.same_known in let y = a.same-aims in (
                  omega (arith, (asked a).ending, b₁.kept.same_ends, b₂.kept.same_ends),
                  when-small _ _ ready b₁.kept (first x y ready) (at + 1 + n) b (behind ready) (aim-as (at + 1 + n) y aim) i b₂.kept (second x y ready) j,
                )

            module _ {u : Cursor} {ends : List ℕ} (f : (u ≡ t) × (ends ≡ set N.ends at t.address)) where
              all : {W : Walk} {X : Place} {e : Expr} {s : Stmt} → W.known ≡ known → W.aims ≡ aims → Ready (stmt (when e s)) W X l part nesting at sizes L top holds depth cursor
                  → Done (stmt (when e s)) W X at L (lent N.env ends N.stack o₂) depth cursor u
              all {W} {X} {e} {s} x y h = rw f.0 (when-done e s h b₁.kept (first x y h) (at + 1 + n) b (behind h) (aim-as (at + 1 + n) y aim) i b₂.kept (second x y h) j f.1)

              pub answers-when : Answers (IsKind 22) known aims l part nesting at sizes L (lent N.env ends N.stack o₂) top holds depth cursor u
              answers-when =
                  record {
                    kept = kept-done top depth (all a.same_known a.same-aims ready) (b₂.kept.env ∙ b₁.kept.env) (b₂.kept.same-env ∙ b₁.kept.same-env) (b₂.kept.stack ∙ b₁.kept.stack)
                        (b₂.kept.same-stack ∙ b₁.kept.same-stack);
                    done = λ m W X c x y g. let w = when-of m c in done-as w.same (all x y (ready-as w.same g));
                  }
