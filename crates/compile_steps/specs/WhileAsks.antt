-- A while: what its walker asks of its parts, and that it answers when they have answered.
use Rattle.std.specs.Prelude.{◌≡◌, List, ℕ, ◌+◌, ◌-◌, ◌*◌, ◌<◌, length, get_or, take, set}
use Rattle.std.proofs.Common.{ap, ◌∙◌, arith}
use Rattle.language.specs.Program.{flat_e}
use Rattle.language.specs.Tree.{Stmt, while, Expr}
use Rattle.table_forms.specs.Part.{Passes}
use Rattle.compile_output.specs.declared.Cursor.{Cursor}
use Rattle.compile_output.specs.EmitRecord.{Fits, moved, cursor_shaped, emit_op, emit_shape}
use Rattle.compile_nodes.specs.Knows.{Walk}
use Rattle.compile_nodes.specs.Ready.{stmt, expr, Place, Lent, Ready, Done, Asks, Answers}
use Rattle.compile_steps.specs.Parts.{below, lent, asked, moved_to}
use Rattle.compile_steps.specs.Shared.{Shaping, ready-as, done-as, aim-as, kept-done}
use Rattle.compile_steps.specs.Views.{IsExpr, IsStmt, IsKind, While, while-of}
use Rattle.compile_steps.specs.Ifs.{while-mark, while-test, while-jump, while-body, while-jump-2, while-mark-2, while-small, while-done}
use Rattle.compile_steps.specs.Parts.{ready-passes, ready-size, behind_test}

module _ {known aims l part : List ℕ} {nesting at : ℕ} {sizes : List ℕ} {L : Lent} {top holds depth : ℕ} {cursor : Cursor}
    (a : Asks (IsKind 24) known aims l part nesting at sizes L top holds depth cursor) where
  while-v : While a.node
  while-v = while-of a.node a.such

  while-ready : Ready (stmt (while while-v.e while-v.s)) a.walk a.place l part nesting at sizes L top holds depth cursor
  while-ready = ready-as while-v.same a.ready

  pub asks-while-shape : Shaping L.stack L.out holds depth cursor
  asks-while-shape = let q = asked a in (omega (arith, q.deep, q.stacked), omega (arith, q.deep), omega (arith, q.held), while-mark _ _ while-ready)

  module _ {early : List ℕ} {o : Cursor} (i : (o ≡ cursor_shaped depth cursor) × (early ≡ emit_shape cursor L.out holds depth (take depth L.stack))) where
    pub asks-while-first : Asks IsExpr known aims l (below part 8) (nesting - 1) (at + 1) sizes (lent L.env L.ends L.stack early) top holds depth o
    asks-while-first = record { node = expr while-v.e; walk = a.walk; place = a.place; such = tt; same_known = a.same_known; same-aims = a.same-aims; ready = while-test _ _ while-ready i }

    module _ (n : ℕ) (z : n ≡ get_or sizes (at + 1) 0) where
      pub asks-while-passes : Passes (below part 8) sizes (at + 1) n
      asks-while-passes = ready-passes (while-test _ _ while-ready i) n z

      module _ {M : Lent} {p : Cursor} (b₁ : Answers IsExpr known aims l (below part 8) (nesting - 1) (at + 1) sizes (lent L.env L.ends L.stack early) M top holds depth o p) where
        while-first : {W : Walk} {X : Place} {e : Expr} {s : Stmt} → W.known ≡ known → W.aims ≡ aims → Ready (stmt (while e s)) W X l part nesting at sizes L top holds depth cursor
            → Done (expr e) W X (at + 1) (lent L.env L.ends L.stack early) M depth o p
        while-first {W} {X} {e} {s} x y h = b₁.done (expr e) W X tt x y (while-test e s h i)

        while-place : {W : Walk} {X : Place} {e : Expr} {s : Stmt} → Ready (stmt (while e s)) W X l part nesting at sizes L top holds depth cursor → at + 1 + n ≡ at + 1 + length (flat_e e)
        while-place {e = e} {s = s} h = ap (λ (k : ℕ). at + 1 + k) (ready-size (while-test e s h i) n z)

        pub asks-while-emit : Fits (moved p) (length M.out)
        asks-while-emit = while-jump _ _ while-ready i b₁.kept (while-first a.same_known a.same-aims while-ready)

        module _ {b : ℕ} {p₂ : Cursor} {u : List ℕ} (aim : b ≡ get_or aims (at + 1 + n) 0) (j : (p₂ ≡ moved p) × (u ≡ emit_op p M.out 9 0 (b + 1))) where
          while-inner : {W : Walk} {X : Place} {e : Expr} {s : Stmt} → W.known ≡ known → W.aims ≡ aims → (h : Ready (stmt (while e s)) W X l part nesting at sizes L top holds depth cursor)
              → Ready (stmt s) W (moved_to X (behind_test W X e)) l (below part (8 * (at + 1 + n - at))) (nesting - 1) (at + 1 + n) sizes (lent M.env M.ends M.stack u) top holds depth p₂
          while-inner {e = e} {s = s} x y h = while-body e s h i b₁.kept (while-first x y h) (at + 1 + n) (b + 1) (while-place h) (ap (λ (k : ℕ). k + 1) (aim-as (at + 1 + n) y aim)) j

          pub asks-while-second : Asks IsStmt known aims l (below part (8 * (at + 1 + n - at))) (nesting - 1) (at + 1 + n) sizes (lent M.env M.ends M.stack u) top holds depth p₂
          asks-while-second =
              record {
                node = stmt while-v.s;
                walk = a.walk;
                place = _;
                such = tt;
                same_known = a.same_known;
                same-aims = a.same-aims;
                ready = while-inner a.same_known a.same-aims while-ready;
              }

          module _ {N : Lent} {t : Cursor} (b₂ : Answers IsStmt known aims l (below part (8 * (at + 1 + n - at))) (nesting - 1) (at + 1 + n) sizes
              (lent M.env M.ends M.stack u) N top holds depth p₂ t) where
            while-second : {W : Walk} {X : Place} {e : Expr} {s : Stmt} → W.known ≡ known → W.aims ≡ aims → (h : Ready (stmt (while e s)) W X l part nesting at sizes L top holds depth cursor)
                → Done (stmt s) W (moved_to X (behind_test W X e)) (at + 1 + n) (lent M.env M.ends M.stack u) N depth p₂ t
            while-second {W} {X} {e} {s} x y h = b₂.done (stmt s) W _ tt x y (while-inner x y h)

            pub asks-while-emit₂ : Fits (moved t) (length N.out)
            asks-while-emit₂ =
                let x = a.same_known in let y = a.same-aims in
                while-jump-2 _ _ while-ready i b₁.kept (while-first x y while-ready) (at + 1 + n) (b + 1) (while-place while-ready)
                (ap (λ (k : ℕ). k + 1) (aim-as (at + 1 + n) y aim)) j b₂.kept (while-second x y while-ready)

            module _ {back : ℕ} (home : back ≡ cursor.address) {p₃ : Cursor} {v : List ℕ} (j₂ : (p₃ ≡ moved t) × (v ≡ emit_op t N.out 8 0 back)) where
              pub asks-while-shape₂ : Shaping N.stack v holds depth p₃
              asks-while-shape₂ =
                  let x = a.same_known in let y = a.same-aims in let q = asked a in (
                    omega (arith, q.deep, q.stacked, b₁.kept.same-stack, b₂.kept.same-stack),
                    omega (arith, q.deep),
                    omega (arith, q.held),
                    while-mark-2 _ _ while-ready i b₁.kept (while-first x y while-ready) (at + 1 + n) (b + 1) (while-place while-ready)
                        (ap (λ (k : ℕ). k + 1) (aim-as (at + 1 + n) y aim)) j b₂.kept (while-second x y while-ready) back home j₂,
                  )

              module _ {p₄ : Cursor} {w : List ℕ} (m : (p₄ ≡ cursor_shaped depth p₃) × (w ≡ emit_shape p₃ v holds depth (take depth N.stack))) where
                pub asks-while-finish : (at < length N.ends) × (p₄.address < 65536)
                asks-while-finish =
                    let x = a.same_known in let y = a.same-aims in (
                      omega (arith, (asked a).ending, b₁.kept.same_ends, b₂.kept.same_ends),
                      while-small _ _ while-ready i b₁.kept (while-first x y while-ready) (at + 1 + n) (b + 1) (while-place while-ready)
                          (ap (λ (k : ℕ). k + 1) (aim-as (at + 1 + n) y aim)) j b₂.kept (while-second x y while-ready) back home j₂ m,
                    )

                module _ {p₅ : Cursor} {ends : List ℕ} (f : (p₅ ≡ p₄) × (ends ≡ set N.ends at p₄.address)) where
                  while-all : {W : Walk} {X : Place} {e : Expr} {s : Stmt} → W.known ≡ known → W.aims ≡ aims → Ready (stmt (while e s)) W X l part nesting at sizes L top holds depth cursor
                      → Done (stmt (while e s)) W X at L (lent N.env ends N.stack w) depth cursor p₅
                  while-all {W} {X} {e} {s} x y h =
                      rw f.0 (while-done e s h i b₁.kept (while-first x y h) (at + 1 + n) (b + 1) (while-place h)
                      (ap (λ (k : ℕ). k + 1) (aim-as (at + 1 + n) y aim)) j b₂.kept (while-second x y h) back home j₂ m f.1)

                  pub answers-while : Answers (IsKind 24) known aims l part nesting at sizes L (lent N.env ends N.stack w) top holds depth cursor p₅
                  answers-while =
                      record {
                        kept =
                            kept-done top depth (while-all a.same_known a.same-aims while-ready) (b₂.kept.env ∙ b₁.kept.env)
                            (b₂.kept.same-env ∙ b₁.kept.same-env) (b₂.kept.stack ∙ b₁.kept.stack)
                            (b₂.kept.same-stack ∙ b₁.kept.same-stack);
                        done = λ k W X c x y g. let v = while-of k c in done-as v.same (while-all x y (ready-as v.same g));
                      }
