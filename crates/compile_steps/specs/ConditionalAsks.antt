-- An if-expression: what its walker asks of its parts, and that it answers when they have answered.
use Rattle.std.specs.Prelude.{◌≡◌, refl, List, ℕ, ◌+◌, ◌-◌, ◌*◌, ◌<◌, length, get_or, take, set}
use Rattle.std.proofs.Common.{ap, ◌∙◌, arith, length-set}
use Rattle.language.specs.Program.{flat_e}
use Rattle.language.specs.Tree.{Expr, conditional}
use Rattle.table_forms.specs.Part.{Passes}
use Rattle.compile_output.specs.declared.Cursor.{Cursor}
use Rattle.compile_output.specs.EmitRecord.{Fits, moved, cursor_shaped, emit_op, emit_shape}
use Rattle.compile_nodes.specs.Knows.{Walk}
use Rattle.compile_nodes.specs.Ready.{expr, Place, Lent, Ready, Done, Asks, Answers}
use Rattle.compile_steps.specs.Parts.{below, lent, asked, kept_then, kept-stack, moved_to}
use Rattle.compile_steps.specs.Shared.{Shaping, ready-as, done-as, aim-as, kept-done}
use Rattle.compile_steps.specs.Views.{IsExpr, IsKind, Conditional, conditional-of}
use Rattle.compile_steps.specs.Forks.{behind-then, fork-test, fork-jump, fork-body, fork-jump-2, fork-mark, fork-else}
use Rattle.compile_steps.specs.Elses.{cond-forks, cond-mark-2, cond_small, cond-done}
use Rattle.compile_steps.specs.Parts.{ready-passes, ready-size, behind_test}

module _ {known aims l part : List ℕ} {nesting at : ℕ} {sizes : List ℕ} {L : Lent} {top holds depth : ℕ} {cursor : Cursor}
    (a : Asks (IsKind 50) known aims l part nesting at sizes L top holds depth cursor) where
  cond-v : Conditional a.node
  cond-v = conditional-of a.node a.such

  cond-ready : Ready (expr (conditional cond-v.e cond-v.f cond-v.g)) a.walk a.place l part nesting at sizes L top holds depth cursor
  cond-ready = ready-as cond-v.same a.ready

  pub asks-cond-first : Asks IsExpr known aims l (below part 8) (nesting - 1) (at + 1) sizes L top holds depth cursor
  asks-cond-first =
      record {
        node = expr cond-v.e;
        walk = a.walk;
        place = a.place;
        such = tt;
        same_known = a.same_known;
        same-aims = a.same-aims;
        ready = fork-test (cond-forks _ _ _ cond-ready);
      }

  pub asks-cond-passes : (n : ℕ) → n ≡ get_or sizes (at + 1) 0 → Passes (below part 8) sizes (at + 1) n
  asks-cond-passes n z = ready-passes (fork-test (cond-forks _ _ _ cond-ready)) n z

  module _ (n : ℕ) (z : n ≡ get_or sizes (at + 1) 0) {M : Lent} {p : Cursor} (b₁ : Answers IsExpr known aims l (below part 8) (nesting - 1) (at + 1) sizes L M top holds depth cursor p) where
    cond-first : {W : Walk} {X : Place} {e f g : Expr} → W.known ≡ known → W.aims ≡ aims
        → Ready (expr (conditional e f g)) W X l part nesting at sizes L top holds depth cursor → Done (expr e) W X (at + 1) L M depth cursor p
    cond-first {W} {X} {e} {f} {g} x y h = b₁.done (expr e) W X tt x y (fork-test (cond-forks e f g h))

    cond-place : {W : Walk} {X : Place} {e f g : Expr} → Ready (expr (conditional e f g)) W X l part nesting at sizes L top holds depth cursor → at + 1 + n ≡ at + 1 + length (flat_e e)
    cond-place {e = e} {f = f} {g = g} h = ap (λ (k : ℕ). at + 1 + k) (ready-size (fork-test (cond-forks e f g h)) n z)

    pub asks-cond-emit : Fits (moved p) (length M.out)
    asks-cond-emit = fork-jump (cond-forks _ _ _ cond-ready) b₁.kept (cond-first a.same_known a.same-aims cond-ready)

    pub asks-cond-passes₂ : (m : ℕ) → m ≡ get_or sizes (at + 1 + n) 0 → Passes (below part (8 * (at + 1 + n - at))) sizes (at + 1 + n) m
    asks-cond-passes₂ m z₂ =
        ready-passes (fork-body (cond-forks _ _ _ cond-ready) b₁.kept (cond-first a.same_known a.same-aims cond-ready) (at + 1 + n)
        (get_or a.walk.aims (at + 1 + n) 0 + 1) (cond-place cond-ready) refl (refl, refl)) m z₂

    module _ {b : ℕ} {p₂ : Cursor} {u : List ℕ} (aim : b ≡ get_or aims (at + 1 + n) 0) (j : (p₂ ≡ moved p) × (u ≡ emit_op p M.out 9 0 (b + 1))) where
      cond-inner : {W : Walk} {X : Place} {e f g : Expr} → W.known ≡ known → W.aims ≡ aims → (h : Ready (expr (conditional e f g)) W X l part nesting at sizes L top holds depth cursor)
          → Ready (expr f) W (moved_to X (behind_test W X e)) l (below part (8 * (at + 1 + n - at))) (nesting - 1) (at + 1 + n) sizes (lent M.env M.ends M.stack u) top holds depth p₂
      cond-inner {e = e} {f = f} {g = g} x y h = fork-body (cond-forks e f g h) b₁.kept (cond-first x y h) (at + 1 + n) (b + 1) (cond-place h) (ap (λ (k : ℕ). k + 1) (aim-as (at + 1 + n) y aim)) j

      pub asks-cond-second : Asks IsExpr known aims l (below part (8 * (at + 1 + n - at))) (nesting - 1) (at + 1 + n) sizes (lent M.env M.ends M.stack u) top holds depth p₂
      asks-cond-second =
          record {
            node = expr cond-v.f;
            walk = a.walk;
            place = _;
            such = tt;
            same_known = a.same_known;
            same-aims = a.same-aims;
            ready = cond-inner a.same_known a.same-aims cond-ready;
          }

      module _ {N : Lent} {t : Cursor} (b₂ : Answers IsExpr known aims l (below part (8 * (at + 1 + n - at))) (nesting - 1) (at + 1 + n) sizes
          (lent M.env M.ends M.stack u) N top holds depth p₂ t) where
        cond-second : {W : Walk} {X : Place} {e f g : Expr} → W.known ≡ known → W.aims ≡ aims → (h : Ready (expr (conditional e f g)) W X l part nesting at sizes L top holds depth cursor)
            → Done (expr f) W (moved_to X (behind_test W X e)) (at + 1 + n) (lent M.env M.ends M.stack u) N depth p₂ t
        cond-second {W} {X} {e} {f} {g} x y h = b₂.done (expr f) W _ tt x y (cond-inner x y h)

        pub asks-cond-read : depth < length N.stack
        asks-cond-read = omega (arith, (asked a).deep, (asked a).stacked, b₁.kept.same-stack, b₂.kept.same-stack)

        pub asks-cond-emit₂ : Fits (moved t) (length N.out)
        asks-cond-emit₂ =
            let x = a.same_known in let y = a.same-aims in let q = asked a in
            fork-jump-2 (cond-forks _ _ _ cond-ready) b₁.kept (cond-first x y cond-ready) (at + 1 + n) (b + 1) (cond-place cond-ready)
            (ap (λ (k : ℕ). k + 1) (aim-as (at + 1 + n) y aim)) j b₂.kept (cond-second x y cond-ready)

        module _ (m : ℕ) (z₂ : m ≡ get_or sizes (at + 1 + n) 0) {b2 : ℕ} {p₃ : Cursor} {v : List ℕ} (aim₂ : b2 ≡ get_or aims (at + 1 + n + m) 0)
            (j₂ : (p₃ ≡ moved t) × (v ≡ emit_op t N.out 8 0 b2)) where
          cond-third : {W : Walk} {X : Place} {e f g : Expr} → W.known ≡ known → W.aims ≡ aims
              → (h : Ready (expr (conditional e f g)) W X l part nesting at sizes L top holds depth cursor) → at + 1 + n + m ≡ at + 1 + n + length (flat_e f)
          cond-third x y h = ap (λ (k : ℕ). at + 1 + n + k) (ready-size (cond-inner x y h) m z₂)

          pub asks-cond-shape : Shaping N.stack v holds depth p₃
          asks-cond-shape =
              let x = a.same_known in let y = a.same-aims in let q = asked a in (
                omega (arith, asks-cond-read),
                omega (arith, q.deep),
                omega (arith, q.held),
                fork-mark (cond-forks _ _ _ cond-ready) b₁.kept (cond-first x y cond-ready) (at + 1 + n) (b + 1) (cond-place cond-ready)
                    (ap (λ (k : ℕ). k + 1) (aim-as (at + 1 + n) y aim)) j b₂.kept (cond-second x y cond-ready) (at + 1 + n + m) b2
                    (cond-third x y cond-ready) (aim-as (at + 1 + n + m) y aim₂) j₂,
              )

          module _ {p₄ : Cursor} {w : List ℕ} (i : (p₄ ≡ cursor_shaped depth p₃) × (w ≡ emit_shape p₃ v holds depth (take depth N.stack))) where
            cond-outer : {W : Walk} {X : Place} {e f g : Expr} → W.known ≡ known → W.aims ≡ aims → (h : Ready (expr (conditional e f g)) W X l part nesting at sizes L top holds depth cursor)
                → Ready (expr g) W (moved_to X (behind-then W X e (expr f))) l (below part (8 * (at + 1 + n + m - at))) (nesting - 1) (at + 1 + n + m) sizes
                (lent N.env N.ends N.stack w) top holds depth p₄
            cond-outer {e = e} {f = f} {g = g} x y h =
                fork-else (cond-forks e f g h) b₁.kept (cond-first x y h) (at + 1 + n) (b + 1) (cond-place h)
                (ap (λ (k : ℕ). k + 1) (aim-as (at + 1 + n) y aim)) j b₂.kept (cond-second x y h) (at + 1 + n + m) b2 (cond-third x y h)
                (aim-as (at + 1 + n + m) y aim₂) j₂ i

            pub asks-cond-third : Asks IsExpr known aims l (below part (8 * (at + 1 + n + m - at))) (nesting - 1) (at + 1 + n + m) sizes (lent N.env N.ends N.stack w) top holds depth p₄
            asks-cond-third =
                record {
                  node = expr cond-v.g;
                  walk = a.walk;
                  place = _;
                  such = tt;
                  same_known = a.same_known;
                  same-aims = a.same-aims;
                  ready = cond-outer a.same_known a.same-aims cond-ready;
                }

            module _ {O : Lent} {p₅ : Cursor} (b₃ : Answers IsExpr known aims l (below part (8 * (at + 1 + n + m - at))) (nesting - 1)
                (at + 1 + n + m) sizes (lent N.env N.ends N.stack w) O top holds depth p₄ p₅) where
              cond-last : {W : Walk} {X : Place} {e f g : Expr} → W.known ≡ known → W.aims ≡ aims → (h : Ready (expr (conditional e f g)) W X l part nesting at sizes L top holds depth cursor)
                  → Done (expr g) W (moved_to X (behind-then W X e (expr f))) (at + 1 + n + m) (lent N.env N.ends N.stack w) O depth p₄ p₅
              cond-last {W} {X} {e} {f} {g} x y h = b₃.done (expr g) W _ tt x y (cond-outer x y h)

              pub asks-cond-write : depth < length O.stack
              asks-cond-write = omega (arith, asks-cond-read, b₃.kept.same-stack)

              module _ (ty : ℕ) (first : ty ≡ get_or N.stack depth 0) where
                pub asks-cond-shape₂ : Shaping (set O.stack depth ty) O.out holds (depth + 1) p₅
                asks-cond-shape₂ =
                    let x = a.same_known in let y = a.same-aims in let q = asked a in (
                      omega (arith, asks-cond-write, length-set O.stack depth ty),
                      omega (arith, q.deep),
                      omega (arith, q.held),
                      cond-mark-2 _ _ _ cond-ready b₁.kept (cond-first x y cond-ready) (at + 1 + n) (b + 1) (cond-place cond-ready)
                          (ap (λ (k : ℕ). k + 1) (aim-as (at + 1 + n) y aim)) j b₂.kept (cond-second x y cond-ready) (at + 1 + n + m) b2
                          (cond-third x y cond-ready) (aim-as (at + 1 + n + m) y aim₂) j₂ i b₃.kept (cond-last x y cond-ready) ty first,
                    )

                module _ {p₆ : Cursor} {late : List ℕ} (k : (p₆ ≡ cursor_shaped (depth + 1) p₅) × (late ≡ emit_shape p₅ O.out holds (depth + 1) (take (depth + 1) (set O.stack depth ty)))) where
                  pub asks-cond-finish : (at < length O.ends) × (p₆.address < 65536)
                  asks-cond-finish =
                      let x = a.same_known in let y = a.same-aims in let q = asked a in (
                        omega (arith, q.ending, b₁.kept.same_ends, b₂.kept.same_ends, b₃.kept.same_ends),
                        cond_small _ _ _ cond-ready b₁.kept (cond-first x y cond-ready) (at + 1 + n) (b + 1) (cond-place cond-ready)
                            (ap (λ (k : ℕ). k + 1) (aim-as (at + 1 + n) y aim)) j b₂.kept (cond-second x y cond-ready) (at + 1 + n + m) b2
                            (cond-third x y cond-ready) (aim-as (at + 1 + n + m) y aim₂) j₂ i b₃.kept (cond-last x y cond-ready) ty first k,
                      )

                  module _ {p₇ : Cursor} {ends : List ℕ} (c : (p₇ ≡ p₆) × (ends ≡ set O.ends at p₆.address)) where
                    cond-all : {W : Walk} {X : Place} {e f g : Expr} → W.known ≡ known → W.aims ≡ aims
                        → (h : Ready (expr (conditional e f g)) W X l part nesting at sizes L top holds depth cursor)
                        → Done (expr (conditional e f g)) W X at L (lent O.env ends (set O.stack depth ty) late) depth cursor p₇
                    cond-all {W} {X} {e} {f} {g} x y h =
                        rw c.0 (cond-done e f g h b₁.kept (cond-first x y h) (at + 1 + n) (b + 1) (cond-place h)
                        (ap (λ (k : ℕ). k + 1) (aim-as (at + 1 + n) y aim)) j b₂.kept (cond-second x y h) (at + 1 + n + m) b2 (cond-third x y h)
                        (aim-as (at + 1 + n + m) y aim₂) j₂ i b₃.kept (cond-last x y h) ty first k c.1)

                    pub answers-cond : Answers (IsKind 50) known aims l part nesting at sizes L (lent O.env ends (set O.stack depth ty) late) top holds depth cursor p₇
                    answers-cond =
                        let kept = kept_then b₃.kept (kept-stack O depth ty (omega arith)) in
                        record {
                          kept =
                              kept-done top depth (cond-all a.same_known a.same-aims cond-ready) (kept.env ∙ (b₂.kept.env ∙ b₁.kept.env))
                              (kept.same-env ∙ (b₂.kept.same-env ∙ b₁.kept.same-env))
                              (kept.stack ∙ (b₂.kept.stack ∙ b₁.kept.stack)) (kept.same-stack ∙ (b₂.kept.same-stack ∙ b₁.kept.same-stack));
                          done = λ k W X r x y h. let v = conditional-of k r in done-as v.same (cond-all x y (ready-as v.same h));
                        }
