-- Binary operators: what is ready below them, and what is done of them where it is done of what is below.
use Rattle.std.specs.Prelude.{◌≡◌, false, List, [], ◌∷◌, ◌++◌, length, get_or, set}
use Rattle.std.proofs.Math.Path.{refl, ap}
use Rattle.std.proofs.Common.{sym, ◌∙◌, arith, length-append}
use Prim.Native.Nat.{ℕ, suc, ◌+◌, ◌-◌, ◌*◌, ◌≤◌, ◌<◌}
use Rattle.std.proofs.Math.Seq.{get_or-set_same}
use Rattle.language.specs.Measure.{measure_s}
use Rattle.language.specs.Program.{flat_e}
use Rattle.values.specs.Types.{Ty, ty_byte, logical}
use Rattle.language.specs.Tree.{Expr, operate2, Global}
use Rattle.language.specs.Faults.{type_e, is_ty}
use Rattle.std.proofs.Math.Option.{Option, some}
use Rattle.values.specs.Operators.{Binary, binary, binary_code, op_type}
use Rattle.language.specs.Limits.{need_e}
use Rattle.compile_code.specs.Code.{Code, nil, ◌▸◌, At, after}
use Rattle.compile_code.specs.Compile.{Around, scopes_of, code_e, ty_e, ty_in, Way, plainly, marked, if_true, if_false, way_of, or_integer}
use Rattle.compile_names.specs.Good.{GoodE}
use Rattle.compile_output.specs.declared.Cursor.{Cursor}
use Rattle.compile_output.specs.EmitRecord.{Fits}
use Rattle.compile_output.specs.EmitCode.{cursor_after, emitted}
use Rattle.compile_nodes.specs.Knows.{Walk}
use Rattle.compile_nodes.specs.Ends.{below_e, ends_e, seconds, begins}
use Rattle.compile_nodes.specs.Ready.{expr, flat_n, Place, Lent, Laid, Kept, Ready, Done}
use Rattle.compile_steps.specs.Parts.{below, lent, laid-tail, laid-left, laid-right, laid-aim, laid-at, kept_self, kept_then}
use Rattle.compile_steps.specs.Parts.{kept_less, fits-first, ready-part, need-E, fits-rest}
use Rattle.compile_steps.specs.Stages.{Stage, stage-start, stage-part, Finished, finished-done}
use Rattle.compile_steps.specs.Ways.{way_number, way-number, pair-type, Tested, code_between, code_behind, parts-cursor, parts-emitted, waits, waits-are}
use Rattle.compile_steps.specs.Ways.{second_place, between-stage, behind-stage, between-cursor, behind-cursor, tested-by}
use Rattle.compile_emit.specs.EmitEntry.{way_by, waiting_by, pair_type, cursor_between, emit_between, cursor_behind, emit_behind}
use Rattle.compile_steps.specs.Cells.{cell-E, length-ends_e}

way-cells : (w : Way) (p : At) → (begins w p).cell ≡ p.cell
way-cells plainly p = refl
way-cells marked p = refl
way-cells if_true p = refl
way-cells if_false p = refl

waits-most : (w : Way) (d n : ℕ) → waits w d + n ≤ d + (1 + n)
waits-most plainly d n = omega arith
waits-most marked d n = omega arith
waits-most if_true d n = omega arith
waits-most if_false d n = omega arith

waits-least : (w : Way) (d : ℕ) → d ≤ waits w d
waits-least plainly d = omega arith
waits-least marked d = omega arith
waits-least if_true d = omega arith
waits-least if_false d = omega arith

-- an operand that is tested is logical, and so is the result
tested-of : (gs : List Global) (o : Binary) (e f : Expr) (Γ : List Around) (t u z : Ty) → type_e (scopes_of Γ) e ≡ some t
    → type_e (scopes_of Γ) (operate2 o e f) ≡ some z → op_type (binary o) (t ∷ u ∷ []) ≡ some z
    → {v : ℕ} → v ≡ ty_byte (ty_e gs Γ (operate2 o e f)) → Tested (way_of o (is_ty logical (type_e (scopes_of Γ) e))) (v ≡ ty_byte logical)
tested-of gs o e f Γ t u z h k g {v} leaves = rw h (tested-by gs o t (leaves ∙ (ap (λ (x : Option Ty). ty_byte (ty_in gs (or_integer x))) k ∙ sym (pair-type gs o t u z g))))

module _ (o : Binary) (e f : Expr) {W : Walk} {X : Place} {l part : List ℕ} {nesting at : ℕ} {sizes : List ℕ} {L : Lent} {top holds depth : ℕ}
    {cursor : Cursor} (r : Ready (expr (operate2 o e f)) W X l part nesting at sizes L top holds depth cursor) where
  abbrev pair-w : Way
  pair-w = way_of o (is_ty logical (type_e (scopes_of X.around) e))

  abbrev pair-t : Ty
  pair-t = ty_e W.globals X.around e

  abbrev pair-x : Code
  pair-x = code_e W.globals e X.around X.types X.start

  abbrev pair-q : At
  pair-q = begins pair-w (after pair-x X.start)

  abbrev pair_place : Place
  pair_place = second_place pair-w pair-t X (after pair-x X.start)

  abbrev pair-y : Code
  pair-y = code_e W.globals f X.around (seconds pair-w pair-t X.types) pair-q

  abbrev pair_end : ℕ
  pair_end = (after pair-y pair-q).address

  abbrev pair-between : Code
  pair-between = code_between pair-w X.around X.types pair-t pair-q pair_end

  abbrev pair-behind : Code
  pair-behind = code_behind pair-w o X.around X.types pair_end

  abbrev pair-es : List ℕ
  pair-es = ends_e W.globals e X.around X.types X.start

  abbrev pair-fs : List ℕ
  pair-fs = ends_e W.globals f X.around (seconds pair-w pair-t X.types) pair-q

  pair-laid : Laid W l (at + 1) X.start (flat_e e ++ flat_e f) (pair-es ++ pair-fs)
  unfolding flat_e below_e
  pair-laid = laid-tail _ _ _ _ X.start (omega arith) r.laid

  pair-second : (place : ℕ) → place ≡ at + 1 + length (flat_e e) → Laid W l place pair-q (flat_e f) pair-fs
  pair-second place c =
      laid-at (sym c) (laid-right (flat_e e) (flat_e f) pair-es pair-fs pair-q (length-ends_e W.globals e X.around X.types X.start)
      (way-cells pair-w (after pair-x X.start) ∙ cell-E W.globals e X.around X.types X.start) pair-laid)

  pair-length : length (flat_n (expr (operate2 o e f))) ≡ suc (length (flat_e e) + length (flat_e f))
  unfolding flat_e
  pair-length = ap suc (length-append (flat_e e) (flat_e f))

  pair-start : Stage W l L top holds depth cursor at L X depth cursor nil (pair-x ▸ (pair-between ▸ (pair-y ▸ (pair-behind ▸ nil)))) []
  unfolding code_e
  pair-start = stage-start at _ r.stood (rw (parts-cursor o X.around X.types pair-t pair-x X.start (λ ts q. code_e W.globals f X.around ts q) cursor pair-w) at r.fits)

  pub pair-first : Ready (expr e) W X l (below part 8) (nesting - 1) (at + 1) sizes L top holds depth cursor
  unfolding measure_s GoodE
  pair-first =
      ready-part r (expr e) 1 (at + 1) X refl (omega (arith, pair-length)) (omega arith) refl
      (laid-left _ _ _ _ pair-laid) (kept_self L) r.stood (fits-first _ _ cursor (length L.out) pair-start.fits) (omega (arith, r.deep))
      r.good.0 tt (omega (arith, r.few-holds)) (omega (arith, r.few-values))

  -- the type of the first operand, and of the result
  pair_types : (t : Ty) × (u : Ty) × (z : Ty) × (type_e (scopes_of X.around) e ≡ some t) × (type_e (scopes_of X.around) (operate2 o e f) ≡ some z) × (op_type (binary o) (t ∷ u ∷ []) ≡ some z)
  unfolding GoodE type_e
  pair_types = let g = r.good.2 in (g.0, g.1, g.2, g.3, rw (g.3, g.4) g.5, g.5)

  pub pair-way : (first : ℕ) → first ≡ ty_byte pair-t → way_by (binary_code o) first ≡ way_number pair-w
  pair-way first h = let g = pair_types in rw (h, g.3) (way-number W.globals o g.0)

  pair-result : (first : ℕ) → first ≡ ty_byte pair-t → pair_type (binary_code o) first ≡ ty_byte (ty_e W.globals X.around (operate2 o e f))
  pair-result first h = let g = pair_types in rw (h, g.3, g.4) (pair-type W.globals o g.0 g.1 g.2 g.5)

  module _ {M : Lent} {p : Cursor} (k : Kept L M top depth) (d : Done (expr e) W X (at + 1) L M depth cursor p) (place b w : ℕ)
      (c : place ≡ at + 1 + length (flat_e e)) (target : b ≡ get_or W.aims place 0) (way : w ≡ way_by (binary_code o) (get_or M.stack depth 0)) where
    pair-target : W.dry ≡ false → b ≡ pair_end
    pair-target dry = target ∙ laid-aim _ _ _ (pair-second place c) dry

    pub pair-number : w ≡ way_number pair-w
    pair-number = way ∙ pair-way (get_or M.stack depth 0) d.leaves

    pair-1 : Fits (cursor_after (pair-between ▸ (pair-y ▸ (pair-behind ▸ nil))) p) (length M.out)
    pair-1 = (stage-part pair-x (pair-between ▸ (pair-y ▸ (pair-behind ▸ nil))) pair-es pair-start (at + 1) k d.wrote d.ended (omega arith)).fits

    pub pair_fits : Fits (cursor_between w depth p) (length M.out)
    pair_fits = rw (pair-number, between-cursor X.around X.types pair_end depth p r.stood.deep pair-w pair-t pair-q) (fits-first _ _ p (length M.out) pair-1)

    module _ {out : List ℕ} {q : Cursor} (j : (q ≡ cursor_between w depth p) × (out ≡ emit_between w b holds M.stack depth p M.out)) where
      pair-2 : Stage W l L top holds depth cursor at (lent M.env M.ends M.stack out) pair_place (waits pair-w depth) q
          ((nil ▸ pair-x) ▸ pair-between) (pair-y ▸ (pair-behind ▸ nil)) ([] ++ pair-es)
      unfolding measure_s
      pair-2 =
          between-stage pair-x pair-t pair_end (pair-y ▸ (pair-behind ▸ nil)) pair-es k d.wrote d.ended d.leaves
          (omega (arith, r.few-values, need-E f)) b pair-target pair-w pair-start (rw pair-number at j)

      pub pair-operand : (deeper : ℕ) → deeper ≡ depth + waiting_by w → Ready (expr f) W pair_place l (below part (8 * (place - at)))
          (nesting - 1) place sizes (lent M.env M.ends M.stack out) top holds deeper q
      unfolding measure_s GoodE
      pair-operand deeper z =
          let y : deeper ≡ waits pair-w depth = z ∙ (ap (λ (v : ℕ). depth + waiting_by v) pair-number ∙ waits-are pair-w depth) in
          rw y
          (ready-part r (expr f) (place - at) place pair_place (omega arith) (omega (arith, pair-length)) (omega arith) refl
          (pair-second place c) pair-2.kept pair-2.stood (fits-first _ _ q (length out) pair-2.fits) (omega (arith, r.deep)) r.good.1 tt
          (omega (arith, r.few-holds)) (omega (arith, r.few-values, waits-most pair-w depth (need_e f))))

      module _ (deeper : ℕ) (z : deeper ≡ depth + waiting_by w) {N : Lent} {u : Cursor} (k2 : Kept (lent M.env M.ends M.stack out) N top deeper)
          (d2 : Done (expr f) W pair_place place (lent M.env M.ends M.stack out) N deeper q u) (v : ℕ) (result : v ≡ pair_type (binary_code o) (get_or M.stack depth 0)) where
        pair-deeper : deeper ≡ waits pair-w depth
        pair-deeper = z ∙ (ap (λ (n : ℕ). depth + waiting_by n) pair-number ∙ waits-are pair-w depth)

        pub pair-kept : Kept L N top depth
        pair-kept = kept_then pair-2.kept (kept_less (omega (arith, waits-least pair-w depth, pair-deeper)) k2)

        pair-3 : Fits (cursor_after (pair-behind ▸ nil) u) (length N.out)
        pair-3 = fits-rest pair-y (pair-behind ▸ nil) d2.wrote pair-2.fits

        pub pair-fits-2 : Fits (cursor_behind w depth u) (length N.out)
        pair-fits-2 = rw (pair-number, behind-cursor X.around X.types pair_end depth u r.stood.deep pair-w o) (fits-first _ _ u (length N.out) pair-3)

        abbrev pair-stack : List ℕ
        pair-stack = set N.stack depth v

        pair-leaves : get_or pair-stack depth 0 ≡ ty_byte (ty_e W.globals X.around (operate2 o e f))
        unfolding measure_s
        pair-leaves =
            get_or-set_same N.stack depth v 0 (omega (arith, r.few-values, need-E f, pair-kept.same-stack, r.stood.stacked))
            ∙ (result ∙ pair-result (get_or M.stack depth 0) d.leaves)

        pair-tested : Tested pair-w (get_or pair-stack depth 0 ≡ ty_byte logical)
        pair-tested = tested-of W.globals o e f X.around pair_types.0 pair_types.1 pair_types.2 pair_types.3 pair_types.4 pair_types.5 pair-leaves

        module _ {late : List ℕ} {y : Cursor} (m : (y ≡ cursor_behind w depth u) × (late ≡ emit_behind w (binary_code o) b holds pair-stack depth u N.out)) where
          pair-4 : Finished L cursor at late N.ends y ((((nil ▸ pair-x) ▸ pair-between) ▸ pair-y) ▸ pair-behind) (([] ++ pair-es) ++ pair-fs)
          unfolding measure_s
          pair-4 =
              behind-stage X o pair-t (after pair-x X.start) pair-y pair_end ([] ++ pair-es) pair-fs place d2.wrote d2.ended
              (c ∙ omega (arith, length-ends_e W.globals e X.around X.types X.start)) v
              (omega (arith, r.few-values, need-E f)) b pair-target pair-w pair-2 (rw pair-deeper at k2) pair-tested (rw pair-number at m)

          pub pair_small : y.address < 65536
          pair_small = pair-4.small

          pub pair-done : {ends : List ℕ} → ends ≡ set N.ends at y.address → Done (expr (operate2 o e f)) W X at L (lent N.env ends pair-stack late) depth cursor y
          unfolding code_e cursor_after emitted below_e
          pair-done g = finished-done (expr (operate2 o e f)) X pair-4 r.stood.address
              (sym (parts-cursor o X.around X.types pair-t pair-x X.start (λ ts q. code_e W.globals f X.around ts q) cursor pair-w))
              (sym (parts-emitted o X.around X.types pair-t pair-x X.start (λ ts q. code_e W.globals f X.around ts q) cursor pair-w L.out)) refl g N.env pair-stack pair-leaves
