-- If without else, and while: what is ready below them, and what is done of them where it is done of what is below.
use Rattle.std.specs.Prelude.{◌≡◌, List, [], ◌++◌, ℕ, suc, ◌+◌, ◌-◌, ◌*◌, ◌<◌, length, get_or, take, set}
use Rattle.std.proofs.Math.Path.{refl, ap}
use Rattle.std.proofs.Common.{sym, ◌∙◌, arith}
use Rattle.std.proofs.Math.ListN.{length-append}
use Rattle.language.specs.Measure.{measure_s}
use Rattle.language.specs.Program.{flat_s, flat_e}
use Rattle.bytecode.specs.Instructions.{Instr, go, go_unless}
use Rattle.language.specs.Tree.{Stmt, when, while, Expr}
use Rattle.compile_code.specs.Code.{Code, nil, op, mark, ◌▸◌, At, skip, after}
use Rattle.compile_code.specs.Compile.{found, code_s, code_e}
use Rattle.compile_code.specs.Encode.{rec, record_of}
use Rattle.compile_names.specs.Good.{GoodS}
use Rattle.compile_output.specs.declared.Cursor.{Cursor}
use Rattle.compile_output.specs.EmitRecord.{Fits, moved, cursor_shaped, emit_op, emit_shape}
use Rattle.compile_output.specs.EmitCode.{cursor_after, emitted}
use Rattle.compile_nodes.specs.Knows.{Walk}
use Rattle.compile_nodes.specs.Ends.{below_s, ends_s, ends_e}
use Rattle.compile_nodes.specs.Ready.{stmt, expr, Place, Lent, Laid, Kept, Ready, Done}
use Rattle.compile_steps.specs.Parts.{below, lent, laid-tail, laid-left, laid-right, laid-aim, laid-at, kept_self, fits-first, moved_to, ready-part}
use Rattle.compile_steps.specs.Stages.{Stage, stage-start, stage-fits-op, stage-fits-mark, stage-op, stage-mark, stage-part, stage-done}
use Rattle.compile_steps.specs.Cells.{cell-E, length-ends_e}

-- ── an if without else ──
module _ (e : Expr) (s : Stmt) {W : Walk} {X : Place} {l part : List ℕ} {nesting at : ℕ} {sizes : List ℕ} {L : Lent} {top holds depth : ℕ} {cursor : Cursor}
    (r : Ready (stmt (when e s)) W X l part nesting at sizes L top holds depth cursor) where
  abbrev when-x : Code
  when-x = code_e W.globals e X.around X.types X.start

  abbrev when-q : At
  when-q = skip 1 (after when-x X.start)

  abbrev when-y : Code
  when-y = code_s W.globals s X.around X.types when-q

  abbrev when-es : List ℕ
  when-es = ends_e W.globals e X.around X.types X.start

  abbrev when-fs : List ℕ
  when-fs = ends_s W.globals s X.around X.types when-q

  abbrev when-shape : Code
  when-shape = mark (found X.around X.types)

  abbrev when-go : Instr
  when-go = go_unless (after when-y when-q).address

  when-laid : Laid W l (at + 1) X.start (flat_e e ++ flat_s s) (when-es ++ when-fs)
  unfolding flat_s below_s
  when-laid = laid-tail _ _ _ _ X.start (omega arith) r.laid

  pub when-test : Ready (expr e) W X l (below part 8) (nesting - 1) (at + 1) sizes L top holds depth cursor
  unfolding flat_s code_s measure_s GoodS
  when-test =
      ready-part r (expr e) 1 (at + 1) X refl (omega (arith, length-append (flat_e e) (flat_s s))) (omega arith) refl
      (laid-left _ _ _ _ when-laid) (kept_self L) r.stood (fits-first _ _ cursor (length L.out) r.fits) (omega (arith, r.deep)) r.good.0 tt
      (omega (arith, r.few-holds)) (omega (arith, r.few-values))

  when-start : Stage W l L top holds depth cursor at L X depth cursor nil (when-x ▸ (op when-go ▸ (when-y ▸ (when-shape ▸ nil)))) []
  unfolding code_s cursor_after
  when-start = stage-start at _ r.stood r.fits

  when-second : (place : ℕ) → place ≡ at + 1 + length (flat_e e) → Laid W l place when-q (flat_s s) when-fs
  when-second place c =
      laid-at (sym c) (laid-right (flat_e e) (flat_s s) when-es when-fs when-q (length-ends_e W.globals e X.around X.types X.start)
      (cell-E W.globals e X.around X.types X.start) when-laid)

  module _ {M : Lent} {p : Cursor} (k : Kept L M top depth) (d : Done (expr e) W X (at + 1) L M depth cursor p) where
    when-1 : Stage W l L top holds depth cursor at M (moved_to X (after when-x X.start)) depth p (nil ▸ when-x) (op when-go ▸ (when-y ▸ (when-shape ▸ nil))) ([] ++ when-es)
    when-1 = stage-part when-x (op when-go ▸ (when-y ▸ (when-shape ▸ nil))) when-es when-start (at + 1) k d.wrote d.ended (omega arith)

    pub when-jump : Fits (moved p) (length M.out)
    when-jump = stage-fits-op when-go (when-y ▸ (when-shape ▸ nil)) when-1

    module _ (place b : ℕ) (c : place ≡ at + 1 + length (flat_e e)) (target : b ≡ get_or W.aims place 0) {out : List ℕ} {q : Cursor} (j : (q ≡ moved p) × (out ≡ emit_op p M.out 9 0 b)) where
      when-2 : Stage W l L top holds depth cursor at (lent M.env M.ends M.stack out) (moved_to X when-q) depth q ((nil ▸ when-x) ▸ op when-go) (when-y ▸ (when-shape ▸ nil)) ([] ++ when-es)
      unfolding record_of
      when-2 = stage-op when-go (when-y ▸ (when-shape ▸ nil)) when-1 9 0 b j (λ dry. ap (λ (t : ℕ). rec 9 0 t) (sym (target ∙ laid-aim _ _ _ (when-second place c) dry)))

      pub when-body : Ready (stmt s) W (moved_to X when-q) l (below part (8 * (place - at))) (nesting - 1) place sizes (lent M.env M.ends M.stack out) top holds depth q
      unfolding flat_s measure_s GoodS
      when-body =
          ready-part r (stmt s) (place - at) place (moved_to X when-q) (omega arith) (omega (arith, length-append (flat_e e) (flat_s s))) (omega arith) refl
          (when-second place c) when-2.kept when-2.stood (fits-first _ _ q (length out) when-2.fits) (omega (arith, r.deep)) r.good.2 (rw when-2.kept.env r.lands)
          (omega (arith, r.few-holds)) (omega (arith, r.few-values))

      module _ {N : Lent} {t : Cursor} (k2 : Kept (lent M.env M.ends M.stack out) N top depth)
          (d2 : Done (stmt s) W (moved_to X when-q) place (lent M.env M.ends M.stack out) N depth q t) where
        when-3 : Stage W l L top holds depth cursor at N (moved_to X (after when-y when-q)) depth t (((nil ▸ when-x) ▸ op when-go) ▸ when-y) (when-shape ▸ nil) (([] ++ when-es) ++ when-fs)
        when-3 = stage-part when-y (when-shape ▸ nil) when-fs when-2 place k2 d2.wrote d2.ended (c ∙ omega (arith, length-ends_e W.globals e X.around X.types X.start))

        pub when-mark : Fits (cursor_shaped depth t) (length N.out)
        when-mark = stage-fits-mark nil when-3

        module _ {late : List ℕ} {u : Cursor} (m : (u ≡ cursor_shaped depth t) × (late ≡ emit_shape t N.out holds depth (take depth N.stack))) where
          when-4 : Stage W l L top holds depth cursor at (lent N.env N.ends N.stack late) (moved_to X (after when-y when-q)) depth u
              ((((nil ▸ when-x) ▸ op when-go) ▸ when-y) ▸ when-shape) nil (([] ++ when-es) ++ when-fs)
          when-4 = stage-mark nil when-3 m

          pub when-small : u.address < 65536
          unfolding cursor_after
          when-small = when-4.fits.address-small

          pub when-done : {ends : List ℕ} → ends ≡ set N.ends at u.address → Done (stmt (when e s)) W X at L (lent N.env ends N.stack late) depth cursor u
          unfolding code_s cursor_after emitted below_s
          when-done f = stage-done (stmt (when e s)) X when-4 r.stood.address refl refl refl f N.stack tt

-- ── a while ──
module _ (e : Expr) (s : Stmt) {W : Walk} {X : Place} {l part : List ℕ} {nesting at : ℕ} {sizes : List ℕ} {L : Lent} {top holds depth : ℕ} {cursor : Cursor}
    (r : Ready (stmt (while e s)) W X l part nesting at sizes L top holds depth cursor) where
  abbrev while-x : Code
  while-x = code_e W.globals e X.around X.types X.start

  abbrev while-q : At
  while-q = skip 1 (after while-x X.start)

  abbrev while-y : Code
  while-y = code_s W.globals s X.around X.types while-q

  abbrev while-es : List ℕ
  while-es = ends_e W.globals e X.around X.types X.start

  abbrev while-fs : List ℕ
  while-fs = ends_s W.globals s X.around X.types while-q

  abbrev while-shape : Code
  while-shape = mark (found X.around X.types)

  abbrev while-go : Instr
  while-go = go_unless (suc (after while-y while-q).address)

  abbrev while-back : Instr
  while-back = go X.start.address

  while-laid : Laid W l (at + 1) X.start (flat_e e ++ flat_s s) (while-es ++ while-fs)
  unfolding flat_s below_s
  while-laid = laid-tail _ _ _ _ X.start (omega arith) r.laid

  while-second : (place : ℕ) → place ≡ at + 1 + length (flat_e e) → Laid W l place while-q (flat_s s) while-fs
  while-second place c =
      laid-at (sym c) (laid-right (flat_e e) (flat_s s) while-es while-fs while-q (length-ends_e W.globals e X.around X.types X.start)
      (cell-E W.globals e X.around X.types X.start) while-laid)

  while-start : Stage W l L top holds depth cursor at L X depth cursor nil (while-shape ▸ (while-x ▸ (op while-go ▸ (while-y ▸ (op while-back ▸ (while-shape ▸ nil)))))) []
  unfolding code_s cursor_after
  while-start = stage-start at _ r.stood r.fits

  pub while-mark : Fits (cursor_shaped depth cursor) (length L.out)
  while-mark = stage-fits-mark (while-x ▸ (op while-go ▸ (while-y ▸ (op while-back ▸ (while-shape ▸ nil))))) while-start

  module _ {early : List ℕ} {o : Cursor} (i : (o ≡ cursor_shaped depth cursor) × (early ≡ emit_shape cursor L.out holds depth (take depth L.stack))) where
    while-0 : Stage W l L top holds depth cursor at (lent L.env L.ends L.stack early) X depth o (nil ▸ while-shape)
        (while-x ▸ (op while-go ▸ (while-y ▸ (op while-back ▸ (while-shape ▸ nil))))) []
    while-0 = stage-mark (while-x ▸ (op while-go ▸ (while-y ▸ (op while-back ▸ (while-shape ▸ nil))))) while-start i

    pub while-test : Ready (expr e) W X l (below part 8) (nesting - 1) (at + 1) sizes (lent L.env L.ends L.stack early) top holds depth o
    unfolding flat_s measure_s GoodS
    while-test =
        ready-part r (expr e) 1 (at + 1) X refl (omega (arith, length-append (flat_e e) (flat_s s))) (omega arith) refl
        (laid-left _ _ _ _ while-laid) while-0.kept while-0.stood (fits-first _ _ o (length early) while-0.fits) (omega (arith, r.deep))
        r.good.0 tt (omega (arith, r.few-holds)) (omega (arith, r.few-values))

    module _ {M : Lent} {p : Cursor} (k : Kept (lent L.env L.ends L.stack early) M top depth) (d : Done (expr e) W X (at + 1) (lent L.env L.ends L.stack early) M depth o p) where
      while-1 : Stage W l L top holds depth cursor at M (moved_to X (after while-x X.start)) depth p ((nil ▸ while-shape) ▸ while-x)
          (op while-go ▸ (while-y ▸ (op while-back ▸ (while-shape ▸ nil)))) ([] ++ while-es)
      while-1 = stage-part while-x (op while-go ▸ (while-y ▸ (op while-back ▸ (while-shape ▸ nil)))) while-es while-0 (at + 1) k d.wrote d.ended (omega arith)

      pub while-jump : Fits (moved p) (length M.out)
      while-jump = stage-fits-op while-go (while-y ▸ (op while-back ▸ (while-shape ▸ nil))) while-1

      module _ (place b : ℕ) (c : place ≡ at + 1 + length (flat_e e)) (target : b ≡ get_or W.aims place 0 + 1) {out : List ℕ} {q : Cursor} (j : (q ≡ moved p) × (out ≡ emit_op p M.out 9 0 b)) where
        while-2 : Stage W l L top holds depth cursor at (lent M.env M.ends M.stack out) (moved_to X while-q) depth q
            (((nil ▸ while-shape) ▸ while-x) ▸ op while-go) (while-y ▸ (op while-back ▸ (while-shape ▸ nil))) ([] ++ while-es)
        unfolding record_of
        while-2 =
            stage-op while-go (while-y ▸ (op while-back ▸ (while-shape ▸ nil))) while-1 9 0 b j
            (λ dry. ap (λ (t : ℕ). rec 9 0 t) (let z = laid-aim _ _ _ (while-second place c) dry in omega (arith, target, z)))

        pub while-body : Ready (stmt s) W (moved_to X while-q) l (below part (8 * (place - at))) (nesting - 1) place sizes (lent M.env M.ends M.stack out) top holds depth q
        unfolding flat_s measure_s GoodS
        while-body =
            ready-part r (stmt s) (place - at) place (moved_to X while-q) (omega arith) (omega (arith, length-append (flat_e e) (flat_s s))) (omega arith) refl
            (while-second place c) while-2.kept while-2.stood (fits-first _ _ q (length out) while-2.fits) (omega (arith, r.deep)) r.good.2 (rw while-2.kept.env r.lands)
            (omega (arith, r.few-holds)) (omega (arith, r.few-values))

        module _ {N : Lent} {t : Cursor} (k2 : Kept (lent M.env M.ends M.stack out) N top depth)
            (d2 : Done (stmt s) W (moved_to X while-q) place (lent M.env M.ends M.stack out) N depth q t) where
          while-3 : Stage W l L top holds depth cursor at N (moved_to X (after while-y while-q)) depth t
              ((((nil ▸ while-shape) ▸ while-x) ▸ op while-go) ▸ while-y) (op while-back ▸ (while-shape ▸ nil)) (([] ++ while-es) ++ while-fs)
          while-3 =
              stage-part while-y (op while-back ▸ (while-shape ▸ nil)) while-fs while-2 place k2 d2.wrote d2.ended
              (c ∙ omega (arith, length-ends_e W.globals e X.around X.types X.start))

          pub while-jump-2 : Fits (moved t) (length N.out)
          while-jump-2 = stage-fits-op while-back (while-shape ▸ nil) while-3

          module _ (b2 : ℕ) (back : b2 ≡ cursor.address) {out2 : List ℕ} {v : Cursor} (j2 : (v ≡ moved t) × (out2 ≡ emit_op t N.out 8 0 b2)) where
            while-4 : Stage W l L top holds depth cursor at (lent N.env N.ends N.stack out2)
                (moved_to X (skip 1 (after while-y while-q))) depth v (((((nil ▸ while-shape) ▸ while-x) ▸ op while-go) ▸ while-y) ▸ op while-back)
                (while-shape ▸ nil) (([] ++ while-es) ++ while-fs)
            unfolding record_of
            while-4 = stage-op while-back (while-shape ▸ nil) while-3 8 0 b2 j2 (λ dry. ap (λ (t : ℕ). rec 8 0 t) (sym (back ∙ r.stood.address)))

            pub while-mark-2 : Fits (cursor_shaped depth v) (length out2)
            while-mark-2 = stage-fits-mark nil while-4

            module _ {late : List ℕ} {u : Cursor} (m : (u ≡ cursor_shaped depth v) × (late ≡ emit_shape v out2 holds depth (take depth N.stack))) where
              while-5 : Stage W l L top holds depth cursor at (lent N.env N.ends N.stack late)
                  (moved_to X (skip 1 (after while-y while-q))) depth u
                  ((((((nil ▸ while-shape) ▸ while-x) ▸ op while-go) ▸ while-y) ▸ op while-back) ▸ while-shape) nil (([] ++ while-es) ++ while-fs)
              while-5 = stage-mark nil while-4 m

              pub while-small : u.address < 65536
              unfolding cursor_after
              while-small = while-5.fits.address-small

              pub while-done : {ends : List ℕ} → ends ≡ set N.ends at u.address → Done (stmt (while e s)) W X at L (lent N.env ends N.stack late) depth cursor u
              unfolding code_s cursor_after emitted below_s
              while-done f = stage-done (stmt (while e s)) X while-5 r.stood.address refl refl refl f N.stack tt
