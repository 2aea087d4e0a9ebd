-- A binary operator: what its walker asks of its operands, and that it answers when they have answered.
use Rattle.std.specs.Prelude.{◌≡◌, List, ℕ, ◌+◌, ◌-◌, ◌*◌, ◌<◌, length, get_or, set}
use Rattle.std.proofs.Common.{ap, ◌∙◌, arith, length-set}
use Rattle.language.specs.Program.{flat_e}
use Rattle.values.specs.Operators.{Binary, binary_code}
use Rattle.words.specs.Numbers.{half_at}
use Rattle.language.specs.Tree.{Expr, operate2}
use Rattle.language.specs.Faults.{type_e, is_ty}
use Rattle.table_forms.specs.Part.{Passes}
use Rattle.compile_code.specs.Code.{after}
use Rattle.values.specs.Types.{logical}
use Rattle.compile_code.specs.Compile.{scopes_of, way_of, code_e, ty_e}
use Rattle.compile_steps.specs.Ways.{second_place}
use Rattle.compile_output.specs.declared.Cursor.{Cursor}
use Rattle.compile_output.specs.EmitRecord.{Fits}
use Rattle.compile_emit.specs.EmitEntry.{way_by, waiting_by, pair_type, cursor_between, emit_between, cursor_behind, emit_behind}
use Rattle.compile_nodes.specs.Knows.{Walk}
use Rattle.compile_nodes.specs.Ready.{expr, Place, Lent, Ready, Done, Asks, Answers}
use Rattle.compile_steps.specs.Parts.{below, lent, asked, head-N, kept_then, kept-stack}
use Rattle.compile_steps.specs.Shared.{ready-as, done-as, aim-as, kept-done}
use Rattle.compile_steps.specs.Views.{IsExpr, IsKind, Pair, pair_of}
use Rattle.compile_steps.specs.Pairs.{pair-first, pair_fits, pair-operand, pair-kept, pair-fits-2, pair_small, pair-done}
use Rattle.compile_steps.specs.Parts.{ready-passes, ready-size}

-- where its second operand's code begins, and what waits there
abbrev behind-first : Walk → Place → Binary → Expr → Place
behind-first W X o e =
    second_place (way_of o (is_ty logical (type_e (scopes_of X.around) e))) (ty_e W.globals X.around e) X
    (after (code_e W.globals e X.around X.types X.start) X.start)

module _ {l part : List ℕ} {nesting at : ℕ} {sizes : List ℕ} {L : Lent} {top holds depth : ℕ} {cursor : Cursor} where
  pair_code : {W : Walk} {X : Place} {o : Binary} {e f : Expr} → Ready (expr (operate2 o e f)) W X l part nesting at sizes L top holds depth cursor → {c : ℕ} → c ≡ half_at part 2 → c ≡ binary_code o
  unfolding flat_e
  pair_code {o = o} {e = e} {f = f} h z = z ∙ (head-N (expr (operate2 o e f)) h.table h.laid.stands).a

module _ {known aims l part : List ℕ} {nesting at : ℕ} {sizes : List ℕ} {L : Lent} {top holds depth : ℕ} {cursor : Cursor}
    (a : Asks (IsKind 49) known aims l part nesting at sizes L top holds depth cursor) where
  pair-v : Pair a.node
  pair-v = pair_of a.node a.such

  pair-ready : Ready (expr (operate2 pair-v.o pair-v.e pair-v.f)) a.walk a.place l part nesting at sizes L top holds depth cursor
  pair-ready = ready-as pair-v.same a.ready

  pub asks-pair-first : Asks IsExpr known aims l (below part 8) (nesting - 1) (at + 1) sizes L top holds depth cursor
  asks-pair-first = record { node = expr pair-v.e; walk = a.walk; place = a.place; such = tt; same_known = a.same_known; same-aims = a.same-aims; ready = pair-first _ _ _ pair-ready }

  module _ (n : ℕ) (z : n ≡ get_or sizes (at + 1) 0) where
    pub asks-pair-passes : Passes (below part 8) sizes (at + 1) n
    asks-pair-passes = ready-passes (pair-first _ _ _ pair-ready) n z

    pair-at : {W : Walk} {X : Place} {o : Binary} {e f : Expr} → Ready (expr (operate2 o e f)) W X l part nesting at sizes L top holds depth cursor → at + 1 + n ≡ at + 1 + length (flat_e e)
    pair-at {o = o} {e = e} {f = f} h = ap (λ (k : ℕ). at + 1 + k) (ready-size (pair-first o e f h) n z)

    module _ {M : Lent} {p : Cursor} (b₁ : Answers IsExpr known aims l (below part 8) (nesting - 1) (at + 1) sizes L M top holds depth cursor p) where
      pair_one : {W : Walk} {X : Place} {o : Binary} {e f : Expr} → W.known ≡ known → W.aims ≡ aims
          → (h : Ready (expr (operate2 o e f)) W X l part nesting at sizes L top holds depth cursor) → Done (expr e) W X (at + 1) L M depth cursor p
      pair_one {W} {X} {o} {e} {f} x y h = b₁.done (expr e) W X tt x y (pair-first o e f h)

      pub asks-pair-read : depth < length M.stack
      asks-pair-read = omega (arith, (asked a).deep, (asked a).stacked, b₁.kept.same-stack)

      module _ {c b w : ℕ} (cs : c ≡ half_at part 2) (aim : b ≡ get_or aims (at + 1 + n) 0) (way : w ≡ way_by c (get_or M.stack depth 0)) where
        pair-way-is : {W : Walk} {X : Place} {o : Binary} {e f : Expr}
            → Ready (expr (operate2 o e f)) W X l part nesting at sizes L top holds depth cursor → w ≡ way_by (binary_code o) (get_or M.stack depth 0)
        pair-way-is h = way ∙ ap (λ (k : ℕ). way_by k (get_or M.stack depth 0)) (pair_code h cs)

        pub asks-pair-between : (depth < length M.stack) × (depth < 255) × (holds < 256) × Fits (cursor_between w depth p) (length M.out)
        asks-pair-between =
            let x = a.same_known in let y = a.same-aims in let q = asked a in (
              asks-pair-read,
              omega (arith, q.deep),
              omega (arith, q.held),
              pair_fits _ _ _ pair-ready b₁.kept (pair_one x y pair-ready) (at + 1 + n) b w (pair-at pair-ready) (aim-as (at + 1 + n) y aim)
                  (pair-way-is pair-ready),
            )

        module _ {p₂ : Cursor} {u : List ℕ} (j : (p₂ ≡ cursor_between w depth p) × (u ≡ emit_between w b holds M.stack depth p M.out)) (deeper : ℕ) (dz : deeper ≡ depth + waiting_by w) where
          pair-inner : {W : Walk} {X : Place} {o : Binary} {e f : Expr} → W.known ≡ known → W.aims ≡ aims
              → (h : Ready (expr (operate2 o e f)) W X l part nesting at sizes L top holds depth cursor)
              → Ready (expr f) W (behind-first W X o e) l (below part (8 * (at + 1 + n - at))) (nesting - 1) (at + 1 + n) sizes
              (lent M.env M.ends M.stack u) top holds deeper p₂
          pair-inner {o = o} {e = e} {f = f} x y h = pair-operand o e f h b₁.kept (pair_one x y h) (at + 1 + n) b w (pair-at h) (aim-as (at + 1 + n) y aim) (pair-way-is h) j deeper dz

          pub asks-pair-second : Asks IsExpr known aims l (below part (8 * (at + 1 + n - at))) (nesting - 1) (at + 1 + n) sizes (lent M.env M.ends M.stack u) top holds deeper p₂
          asks-pair-second =
              record {
                node = expr pair-v.f;
                walk = a.walk;
                place = _;
                such = tt;
                same_known = a.same_known;
                same-aims = a.same-aims;
                ready = pair-inner a.same_known a.same-aims pair-ready;
              }

          module _ {N : Lent} {t : Cursor} (b₂ : Answers IsExpr known aims l (below part (8 * (at + 1 + n - at))) (nesting - 1) (at + 1 + n) sizes
              (lent M.env M.ends M.stack u) N top holds deeper p₂ t) where
            pair-two : {W : Walk} {X : Place} {o : Binary} {e f : Expr} → W.known ≡ known → W.aims ≡ aims
                → (h : Ready (expr (operate2 o e f)) W X l part nesting at sizes L top holds depth cursor)
                → Done (expr f) W (behind-first W X o e) (at + 1 + n) (lent M.env M.ends M.stack u) N deeper p₂ t
            pair-two {W} {X} {o} {e} {f} x y h = b₂.done (expr f) W _ tt x y (pair-inner x y h)

            pub asks-pair-write : depth < length N.stack
            asks-pair-write = omega (arith, asks-pair-read, b₂.kept.same-stack)

            module _ {v : ℕ} (result : v ≡ pair_type c (get_or M.stack depth 0)) where
              pub asks-pair-behind : (depth < length (set N.stack depth v)) × (depth < 255) × (holds < 256) × Fits (cursor_behind w depth t) (length N.out)
              asks-pair-behind =
                  let x = a.same_known in let y = a.same-aims in let q = asked a in (
                    omega (arith, asks-pair-write, length-set N.stack depth v),
                    omega (arith, q.deep),
                    omega (arith, q.held),
                    pair-fits-2 _ _ _ pair-ready b₁.kept (pair_one x y pair-ready) (at + 1 + n) b w (pair-at pair-ready)
                        (aim-as (at + 1 + n) y aim) (pair-way-is pair-ready) j deeper dz b₂.kept (pair-two x y pair-ready) v
                        (result ∙ ap (λ (k : ℕ). pair_type k (get_or M.stack depth 0)) (pair_code pair-ready cs)),
                  )

              module _ {p₃ : Cursor} {late : List ℕ} (m : (p₃ ≡ cursor_behind w depth t) × (late ≡ emit_behind w c b holds (set N.stack depth v) depth t N.out)) where
                pair-wrote : {W : Walk} {X : Place} {o : Binary} {e f : Expr}
                    → Ready (expr (operate2 o e f)) W X l part nesting at sizes L top holds depth cursor → (p₃ ≡ cursor_behind w depth t)
                    × (late ≡ emit_behind w (binary_code o) b holds (set N.stack depth v) depth t N.out)
                pair-wrote h = (m.0, m.1 ∙ ap (λ (k : ℕ). emit_behind w k b holds (set N.stack depth v) depth t N.out) (pair_code h cs))

                pub asks-pair-finish : (at < length N.ends) × (p₃.address < 65536)
                asks-pair-finish =
                    let x = a.same_known in let y = a.same-aims in let q = asked a in (
                      omega (arith, q.ending, b₁.kept.same_ends, b₂.kept.same_ends),
                      pair_small _ _ _ pair-ready b₁.kept (pair_one x y pair-ready) (at + 1 + n) b w (pair-at pair-ready)
                          (aim-as (at + 1 + n) y aim) (pair-way-is pair-ready) j deeper dz b₂.kept (pair-two x y pair-ready) v
                          (result ∙ ap (λ (k : ℕ). pair_type k (get_or M.stack depth 0)) (pair_code pair-ready cs)) (pair-wrote pair-ready),
                    )

                module _ {p₄ : Cursor} {ends : List ℕ} (g : (p₄ ≡ p₃) × (ends ≡ set N.ends at p₃.address)) where
                  pair-all : {W : Walk} {X : Place} {o : Binary} {e f : Expr} → W.known ≡ known → W.aims ≡ aims
                      → (h : Ready (expr (operate2 o e f)) W X l part nesting at sizes L top holds depth cursor)
                      → Done (expr (operate2 o e f)) W X at L (lent N.env ends (set N.stack depth v) late) depth cursor p₄
                  pair-all {o = o} {e = e} {f = f} x y h =
                      rw g.0 (pair-done o e f h b₁.kept (pair_one x y h) (at + 1 + n) b w (pair-at h) (aim-as (at + 1 + n) y aim)
                      (pair-way-is h) j deeper dz b₂.kept (pair-two x y h) v
                      (result ∙ ap (λ (k : ℕ). pair_type k (get_or M.stack depth 0)) (pair_code h cs)) (pair-wrote h) g.1)

                  pub answers-pair : Answers (IsKind 49) known aims l part nesting at sizes L (lent N.env ends (set N.stack depth v) late) top holds depth cursor p₄
                  answers-pair =
                      let x = a.same_known in let y = a.same-aims in let q = asked a in
                      let kept = kept_then (pair-kept _ _ _ pair-ready b₁.kept (pair_one x y pair-ready) (at + 1 + n) b w (pair-at pair-ready)
                      (aim-as (at + 1 + n) y aim) (pair-way-is pair-ready) j deeper dz b₂.kept (pair-two x y pair-ready) v
                      (result ∙ ap (λ (k : ℕ). pair_type k (get_or M.stack depth 0)) (pair_code pair-ready cs))) (kept-stack N depth v (omega arith)) in
                      record {
                        kept = kept-done top depth (pair-all a.same_known a.same-aims pair-ready) kept.env kept.same-env kept.stack kept.same-stack;
                        done = λ k W X r x y h. let s = pair_of k r in done-as s.same (pair-all x y (ready-as s.same h));
                      }
