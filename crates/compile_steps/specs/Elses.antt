-- If with else, and the if-expression: what is ready below them, and what is done of them where it is done of what is below.
use Rattle.std.specs.Prelude.{◌≡◌, get_or, take, set}
use Rattle.std.proofs.Math.Path.{refl, ap}
use Rattle.std.proofs.Common.{sym, ◌∙◌}
use mathlib.Core.List.{List, ◌∷◌, ◌++◌, append_assoc}
use Prim.Native.Nat.{ℕ, suc, ◌+◌, ◌<◌}
use native.Mathlib.Omega.{arith}
use Rattle.std.proofs.Math.ListN.{length, length-append}
use Rattle.std.proofs.Math.Seq.{get_or-set_same}
use Rattle.language.specs.Measure.{measure_s}
use Rattle.language.specs.Program.{flat_s, flat_e}
use Rattle.language.specs.Faults.{type_e}
use Rattle.values.specs.Types.{Ty, ty_byte}
use Rattle.language.specs.Tree.{Stmt, choose, Expr, conditional}
use Rattle.compile_code.specs.Code.{Code, nil, mark, ◌▸◌, At, after}
use Rattle.compile_code.specs.Compile.{found, code_s, code_e, ty_e}
use Rattle.compile_names.specs.Good.{GoodS, GoodE}
use Rattle.compile_output.specs.declared.Cursor.{Cursor}
use Rattle.compile_output.specs.EmitRecord.{Fits, moved, cursor_shaped, emit_op, emit_shape}
use Rattle.compile_output.specs.EmitCode.{cursor_after, emitted}
use Rattle.compile_nodes.specs.Knows.{Walk}
use Rattle.compile_nodes.specs.Ends.{below_s, below_e, ends_s, ends_e}
use Rattle.compile_nodes.specs.Ready.{stmt, expr, Place, Lent, Kept, Ready, Done}
use Rattle.compile_steps.specs.Parts.{lent, laid-tail, kept_then, kept-stack, moved_to, held_on}
use Rattle.compile_steps.specs.Parts.{behind_test}
use Rattle.compile_steps.specs.Forks.{behind-then, fork_code, fork_ends, Forks, fork-stage}
use Rattle.compile_steps.specs.Stages.{Stage, stage-fits-mark, stage-mark, stage-part, stage-push, stage-done}
use Rattle.compile_steps.specs.Cells.{length-ends_e, length-ends_s}

-- ── an if with else ──
module _ (e : Expr) (s t : Stmt) {W : Walk} {X : Place} {l part : List ℕ} {nesting at : ℕ} {sizes : List ℕ} {L : Lent} {top holds depth : ℕ}
    {cursor : Cursor} (r : Ready (stmt (choose e s t)) W X l part nesting at sizes L top holds depth cursor) where
  pub choose-forks : Forks (stmt (choose e s t)) e (stmt s) (stmt t) (mark (found X.around X.types)) W X l part nesting at sizes L top holds depth cursor
  unfolding flat_s below_s code_s cursor_after measure_s GoodS
  choose-forks =
      record {
        ready = r;
        whole = refl;
        long = ap suc (length-append (flat_e e) (flat_s s ++ flat_s t) ∙ ap (λ (n : ℕ). length (flat_e e) + n) (length-append (flat_s s) (flat_s t)));
        laid = laid-tail _ _ _ _ X.start (omega arith) r.laid;
        fits = r.fits;
        first = record { deep = omega (arith, r.deep); good = r.good.0; few-holds = omega (arith, r.few-holds); few-values = omega (arith, r.few-values) };
        second = record { deep = omega (arith, r.deep); good = r.good.2; few-holds = omega (arith, r.few-holds); few-values = omega (arith, r.few-values) };
        third = record { deep = omega (arith, r.deep); good = r.good.3; few-holds = omega (arith, r.few-holds); few-values = omega (arith, r.few-values) };
        lands = λ k. (rw k.env r.lands, rw k.env r.lands);
      }

  module _ {M : Lent} {p : Cursor} (k : Kept L M top depth) (d : Done (expr e) W X (at + 1) L M depth cursor p)
      (place b : ℕ) (c : place ≡ at + 1 + length (flat_e e)) (target : b ≡ get_or W.aims place 0 + 1) {out : List ℕ} {q : Cursor} (j : (q ≡ moved p) × (out ≡ emit_op p M.out 9 0 b))
      {N : Lent} {u : Cursor} (k₂ : Kept (lent M.env M.ends M.stack out) N top depth)
      (d₂ : Done (stmt s) W (moved_to X (behind_test W X e)) place (lent M.env M.ends M.stack out) N depth q u)
      (behind b₂ : ℕ) (f : behind ≡ place + length (flat_s s)) (target₂ : b₂ ≡ get_or W.aims behind 0) {out₂ : List ℕ} {v : Cursor} (j₂ : (v ≡ moved u) × (out₂ ≡ emit_op u N.out 8 0 b₂))
      {out₃ : List ℕ} {w : Cursor} (i : (w ≡ cursor_shaped depth v) × (out₃ ≡ emit_shape v out₂ holds depth (take depth N.stack)))
      {O : Lent} {y : Cursor} (k₃ : Kept (lent N.env N.ends N.stack out₃) O top depth)
      (d₃ : Done (stmt t) W (moved_to X (behind-then W X e (stmt s))) behind (lent N.env N.ends N.stack out₃) O depth w y) where
    abbrev choose-z : Code
    choose-z = code_s W.globals t X.around X.types (behind-then W X e (stmt s))

    abbrev choose-past : At
    choose-past = after choose-z (behind-then W X e (stmt s))

    choose-end : Stage W l L top holds depth cursor at O (moved_to X choose-past) depth y (fork_code W X e (stmt s) (stmt t) ▸ choose-z)
        (mark (found X.around X.types) ▸ nil) (fork_ends W X e (stmt s) ++ ends_s W.globals t X.around X.types (behind-then W X e (stmt s)))
    choose-end =
        stage-part choose-z _ _ (fork-stage choose-forks k d place b c target j k₂ d₂ behind b₂ f target₂ j₂ i) behind k₃ d₃.wrote d₃.ended
        (f ∙ omega (
          arith,
          c,
          length-append (ends_e W.globals e X.around X.types X.start) (ends_s W.globals s X.around X.types (behind_test W X e)),
          length-ends_e W.globals e X.around X.types X.start,
          length-ends_s W.globals s X.around X.types (behind_test W X e),
        ))

    pub choose-mark-2 : Fits (cursor_shaped depth y) (length O.out)
    choose-mark-2 = stage-fits-mark nil choose-end

    module _ {late : List ℕ} {z : Cursor} (m : (z ≡ cursor_shaped depth y) × (late ≡ emit_shape y O.out holds depth (take depth O.stack))) where
      pub choose-small : z.address < 65536
      unfolding cursor_after
      choose-small = (stage-mark nil choose-end m).fits.address-small

      pub choose-done : {ends : List ℕ} → ends ≡ set O.ends at z.address → Done (stmt (choose e s t)) W X at L (lent O.env ends O.stack late) depth cursor z
      unfolding code_s cursor_after emitted below_s
      choose-done g =
          stage-done (stmt (choose e s t)) X (stage-mark nil choose-end m) r.stood.address refl refl
          (ap (λ (us : List ℕ). (after (code_s W.globals (choose e s t) X.around X.types X.start) X.start).address ∷ us)
          (sym (append_assoc (ends_e W.globals e X.around X.types X.start) (ends_s W.globals s X.around X.types (behind_test W X e))
          (ends_s W.globals t X.around X.types (behind-then W X e (stmt s)))))) g O.stack tt

-- ── an if-expression ──
module _ (e f g : Expr) {W : Walk} {X : Place} {l part : List ℕ} {nesting at : ℕ} {sizes : List ℕ} {L : Lent} {top holds depth : ℕ} {cursor : Cursor}
    (r : Ready (expr (conditional e f g)) W X l part nesting at sizes L top holds depth cursor) where
  abbrev cond_type : Ty
  cond_type = ty_e W.globals X.around f

  abbrev cond-last : Code
  cond-last = mark (found X.around (cond_type ∷ X.types))

  pub cond-forks : Forks (expr (conditional e f g)) e (expr f) (expr g) cond-last W X l part nesting at sizes L top holds depth cursor
  unfolding flat_e below_e code_e cursor_after measure_s GoodE
  cond-forks =
      record {
        ready = r;
        whole = refl;
        long = ap suc (length-append (flat_e e) (flat_e f ++ flat_e g) ∙ ap (λ (n : ℕ). length (flat_e e) + n) (length-append (flat_e f) (flat_e g)));
        laid = laid-tail _ _ _ _ X.start (omega arith) r.laid;
        fits = r.fits;
        first = record { deep = omega (arith, r.deep); good = r.good.0; few-holds = omega (arith, r.few-holds); few-values = omega (arith, r.few-values) };
        second = record { deep = omega (arith, r.deep); good = r.good.2; few-holds = omega (arith, r.few-holds); few-values = omega (arith, r.few-values) };
        third = record { deep = omega (arith, r.deep); good = r.good.3; few-holds = omega (arith, r.few-holds); few-values = omega (arith, r.few-values) };
        lands = λ k. (tt, tt);
      }

  module _ {M : Lent} {p : Cursor} (k : Kept L M top depth) (d : Done (expr e) W X (at + 1) L M depth cursor p)
      (place b : ℕ) (c : place ≡ at + 1 + length (flat_e e)) (target : b ≡ get_or W.aims place 0 + 1) {out : List ℕ} {q : Cursor} (j : (q ≡ moved p) × (out ≡ emit_op p M.out 9 0 b))
      {N : Lent} {u : Cursor} (k₂ : Kept (lent M.env M.ends M.stack out) N top depth)
      (d₂ : Done (expr f) W (moved_to X (behind_test W X e)) place (lent M.env M.ends M.stack out) N depth q u)
      (behind b₂ : ℕ) (h : behind ≡ place + length (flat_e f)) (target₂ : b₂ ≡ get_or W.aims behind 0) {out₂ : List ℕ} {v : Cursor} (j₂ : (v ≡ moved u) × (out₂ ≡ emit_op u N.out 8 0 b₂))
      {out₃ : List ℕ} {w : Cursor} (i : (w ≡ cursor_shaped depth v) × (out₃ ≡ emit_shape v out₂ holds depth (take depth N.stack)))
      {O : Lent} {y : Cursor} (k₃ : Kept (lent N.env N.ends N.stack out₃) O top depth)
      (d₃ : Done (expr g) W (moved_to X (behind-then W X e (expr f))) behind (lent N.env N.ends N.stack out₃) O depth w y) (ty : ℕ) (first : ty ≡ get_or N.stack depth 0) where
    abbrev cond-stack : List ℕ
    cond-stack = set O.stack depth ty

    abbrev cond-z : Code
    cond-z = code_e W.globals g X.around X.types (behind-then W X e (expr f))

    abbrev cond-past : At
    cond-past = after cond-z (behind-then W X e (expr f))

    cond-leaves : get_or cond-stack depth 0 ≡ ty_byte cond_type
    unfolding measure_s
    cond-leaves =
        get_or-set_same O.stack depth ty 0 (omega (arith, r.few-values, k₃.same-stack, k₂.same-stack, k.same-stack, r.stood.stacked)) ∙ (first ∙ d₂.leaves)

    cond-end : Stage W l L top holds depth cursor at (lent O.env O.ends cond-stack O.out) (held_on cond_type X cond-past) (depth + 1) y
        (fork_code W X e (expr f) (expr g) ▸ cond-z) (cond-last ▸ nil) (fork_ends W X e (expr f) ++ ends_e W.globals g X.around X.types (behind-then W X e (expr f)))
    unfolding measure_s
    cond-end =
        stage-push cond-z _ _ (fork-stage cond-forks k d place b c target j k₂ d₂ behind b₂ h target₂ j₂ i) behind
        (kept_then k₃ (kept-stack O depth ty (omega arith))) d₃.wrote d₃.ended
        (h ∙ omega (
          arith,
          c,
          length-append (ends_e W.globals e X.around X.types X.start) (ends_e W.globals f X.around X.types (behind_test W X e)),
          length-ends_e W.globals e X.around X.types X.start,
          length-ends_e W.globals f X.around X.types (behind_test W X e),
        )) cond_type cond-leaves (omega (arith, r.few-values))

    pub cond-mark-2 : Fits (cursor_shaped (depth + 1) y) (length O.out)
    cond-mark-2 = stage-fits-mark nil cond-end

    module _ {late : List ℕ} {z : Cursor} (m : (z ≡ cursor_shaped (depth + 1) y) × (late ≡ emit_shape y O.out holds (depth + 1) (take (depth + 1) cond-stack))) where
      pub cond_small : z.address < 65536
      unfolding cursor_after
      cond_small = (stage-mark nil cond-end m).fits.address-small

      pub cond-done : {ends : List ℕ} → ends ≡ set O.ends at z.address → Done (expr (conditional e f g)) W X at L (lent O.env ends cond-stack late) depth cursor z
      unfolding code_e cursor_after emitted below_e type_e
      cond-done n =
          stage-done (expr (conditional e f g)) X (stage-mark nil cond-end m) r.stood.address refl refl
          (ap (λ (us : List ℕ). (after (code_e W.globals (conditional e f g) X.around X.types X.start) X.start).address ∷ us)
          (sym (append_assoc (ends_e W.globals e X.around X.types X.start) (ends_e W.globals f X.around X.types (behind_test W X e))
          (ends_e W.globals g X.around X.types (behind-then W X e (expr f)))))) n cond-stack cond-leaves
