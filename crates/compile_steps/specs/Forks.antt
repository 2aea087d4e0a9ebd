-- What an if with else and an if-expression have in common: a test, a jump past the second part, the second part, a jump past the third,
-- the shape, and the third part.
use Rattle.std.specs.Prelude.{◌≡◌, refl, false, List, [], ◌++◌, ℕ, suc, ◌+◌, ◌-◌, ◌*◌, ◌≤◌, length, get_or, take}
use Rattle.std.proofs.Math.Path.{ap}
use Rattle.std.proofs.Common.{sym, ◌∙◌, arith}
use Rattle.language.specs.Program.{flat_e}
use Rattle.bytecode.specs.Instructions.{Instr, go, go_unless}
use Rattle.language.specs.Tree.{Expr}
use Rattle.compile_code.specs.Code.{Code, nil, op, mark, ◌▸◌, At, skip, after}
use Rattle.compile_code.specs.Compile.{scopes_of, found, code_e}
use Rattle.compile_code.specs.Encode.{rec, record_of}
use Rattle.compile_output.specs.declared.Cursor.{Cursor}
use Rattle.compile_output.specs.EmitRecord.{Fits, moved, cursor_shaped, emit_op, emit_shape}
use Rattle.compile_output.specs.EmitCode.{cursor_after}
use Rattle.compile_nodes.specs.Knows.{Walk}
use Rattle.compile_nodes.specs.Ends.{ends_e}
use Rattle.compile_nodes.specs.Ready.{Node, stmt, expr, name, flat_n, room_n, deep_n, holds_n, need_n, GoodN, code_n, ends_n, Place, Lent, Laid, Kept, LandsN, Ready, Done}
use Rattle.compile_steps.specs.Parts.{below, lent, laid-left, laid-right, laid-aim, laid-at, kept_self, fits-first, moved_to, ready-part, behind_test}
use Rattle.compile_steps.specs.Shared.{cell-N, ends-N}
use Rattle.compile_steps.specs.Stages.{Stage, stage-start, stage-fits-op, stage-fits-mark, stage-op, stage-mark, stage-part}

-- where a node's code ends is what the walk before has found
aim-N : (n : Node) (W : Walk) (X : Place) {l : List ℕ} {at : ℕ} → Laid W l at X.start (flat_n n) (ends_n W.globals n X.around X.types X.start)
    → W.dry ≡ false → get_or W.aims at 0 ≡ (after (code_n W.globals n X.around X.types X.start) X.start).address
unfolding after
aim-N (stmt s) W X h d = laid-aim _ _ _ h d
aim-N (expr e) W X h d = laid-aim _ _ _ h d
aim-N (name a) W X h d = laid-aim _ _ _ h d

-- the second part's code, where the third's begins, and the third's
abbrev second_code : Walk → Place → Expr → Node → Code
second_code W X e s = code_n W.globals s X.around X.types (behind_test W X e)

abbrev pub behind-then : Walk → Place → Expr → Node → At
behind-then W X e s = skip 1 (after (second_code W X e s) (behind_test W X e))

abbrev third_code : Walk → Place → Expr → Node → Node → Code
third_code W X e s t = code_n W.globals t X.around X.types (behind-then W X e s)

-- the code before the third part, and the ends noted there
abbrev pub fork_code : Walk → Place → Expr → Node → Node → Code
fork_code W X e s t =
    ((((nil ▸ code_e W.globals e X.around X.types X.start) ▸ op (go_unless (behind-then W X e s).address)) ▸ second_code W X e s)
    ▸ op (go (after (third_code W X e s t) (behind-then W X e s)).address)) ▸ mark (found X.around X.types)

abbrev pub fork_ends : Walk → Place → Expr → Node → List ℕ
fork_ends W X e s = ([] ++ ends_e W.globals e X.around X.types X.start) ++ ends_n W.globals s X.around X.types (behind_test W X e)

-- what is asked of a part, but where it stands
pub record Suited (n : Node) (X : Place) (nesting holds depth : ℕ) : Type 0 where
  pub deep : deep_n n ≤ nesting - 1
  pub good : GoodN (scopes_of X.around) n
  pub few-holds : holds + holds_n n ≤ 16
  pub few-values : depth + need_n n ≤ 32

-- the node n is ready and has the three parts; `last` is the shape behind them
pub record Forks (n : Node) (e : Expr) (s t : Node) (last : Code) (W : Walk) (X : Place) (l part : List ℕ) (nesting at : ℕ) (sizes : List ℕ) (L : Lent)
    (top holds depth : ℕ) (cursor : Cursor) : Type 0 where
  pub ready : Ready n W X l part nesting at sizes L top holds depth cursor
  pub whole : room_n n ≡ length (flat_n n)
  pub long : length (flat_n n) ≡ suc (length (flat_e e) + (length (flat_n s) + length (flat_n t)))
  pub laid : Laid W l (at + 1) X.start (flat_e e ++ (flat_n s ++ flat_n t)) (ends_e W.globals e X.around X.types X.start
      ++ (ends_n W.globals s X.around X.types (behind_test W X e) ++ ends_n W.globals t X.around X.types (behind-then W X e s)))
  pub fits : Fits (cursor_after (code_e W.globals e X.around X.types X.start ▸ (op (go_unless (behind-then W X e s).address) ▸ (second_code W X e s
      ▸ (op (go (after (third_code W X e s t) (behind-then W X e s)).address) ▸ (mark (found X.around X.types) ▸ (third_code W X e s t ▸ (last ▸ nil))))))) cursor) (length L.out)
  pub first : Suited (expr e) X nesting holds depth
  pub second : Suited s X nesting holds depth
  pub third : Suited t X nesting holds depth
  pub lands : {M : Lent} → Kept L M top depth → LandsN W M.env top X.around s × LandsN W M.env top X.around t

module _ {n : Node} {e : Expr} {s t : Node} {last : Code} {W : Walk} {X : Place} {l part : List ℕ} {nesting at : ℕ} {sizes : List ℕ} {L : Lent}
    {top holds depth : ℕ} {cursor : Cursor} (h : Forks n e s t last W X l part nesting at sizes L top holds depth cursor) where
  abbrev x : Code
  x = code_e W.globals e X.around X.types X.start

  abbrev q₂ : At
  q₂ = behind_test W X e

  abbrev y : Code
  y = second_code W X e s

  abbrev q₃ : At
  q₃ = behind-then W X e s

  abbrev z : Code
  z = third_code W X e s t

  abbrev es : List ℕ
  es = ends_e W.globals e X.around X.types X.start

  abbrev fs : List ℕ
  fs = ends_n W.globals s X.around X.types q₂

  abbrev gs : List ℕ
  gs = ends_n W.globals t X.around X.types q₃

  abbrev shape : Code
  shape = mark (found X.around X.types)

  abbrev over : Instr
  over = go_unless q₃.address

  abbrev past : Instr
  past = go (after z q₃).address

  rest : (place : ℕ) → place ≡ at + 1 + length (flat_e e) → Laid W l place q₂ (flat_n s ++ flat_n t) (fs ++ gs)
  rest place c = laid-at (sym c) (laid-right (flat_e e) (flat_n s ++ flat_n t) es (fs ++ gs) q₂ (ends-N (expr e) W X) (cell-N (expr e) W X) h.laid)

  second : (place : ℕ) → place ≡ at + 1 + length (flat_e e) → Laid W l place q₂ (flat_n s) fs
  second place c = laid-left _ _ _ _ (rest place c)

  third : (place behind : ℕ) → place ≡ at + 1 + length (flat_e e) → behind ≡ place + length (flat_n s) → Laid W l behind q₃ (flat_n t) gs
  third place behind c f =
      laid-at (sym f) (laid-right (flat_n s) (flat_n t) fs gs q₃ (ends-N s W (moved_to X q₂)) (cell-N s W (moved_to X q₂)) (rest place c))

  start : Stage W l L top holds depth cursor at L X depth cursor nil (x ▸ (op over ▸ (y ▸ (op past ▸ (shape ▸ (z ▸ (last ▸ nil))))))) []
  start = stage-start at _ h.ready.stood h.fits

  pub fork-test : Ready (expr e) W X l (below part 8) (nesting - 1) (at + 1) sizes L top holds depth cursor
  fork-test =
      ready-part h.ready (expr e) 1 (at + 1) X refl (omega (arith, h.long)) (omega arith) h.whole
      (laid-left _ _ _ _ h.laid) (kept_self L) h.ready.stood (fits-first _ _ cursor (length L.out) start.fits)
      h.first.deep h.first.good tt h.first.few-holds h.first.few-values

  module _ {M : Lent} {p : Cursor} (k : Kept L M top depth) (d : Done (expr e) W X (at + 1) L M depth cursor p) where
    stage-1 : Stage W l L top holds depth cursor at M (moved_to X (after x X.start)) depth p (nil ▸ x)
        (op over ▸ (y ▸ (op past ▸ (shape ▸ (z ▸ (last ▸ nil)))))) ([] ++ es)
    stage-1 = stage-part x _ es start (at + 1) k d.wrote d.ended (omega arith)

    pub fork-jump : Fits (moved p) (length M.out)
    fork-jump = stage-fits-op over _ stage-1

    module _ (place b : ℕ) (c : place ≡ at + 1 + length (flat_e e)) (target : b ≡ get_or W.aims place 0 + 1) {out : List ℕ} {q : Cursor}
        (j : (q ≡ moved p) × (out ≡ emit_op p M.out 9 0 b)) where
      stage-2 : Stage W l L top holds depth cursor at (lent M.env M.ends M.stack out) (moved_to X q₂) depth q
          ((nil ▸ x) ▸ op over) (y ▸ (op past ▸ (shape ▸ (z ▸ (last ▸ nil))))) ([] ++ es)
      unfolding record_of
      stage-2 =
          stage-op over _ stage-1 9 0 b j
          (λ dry. ap (λ (a : ℕ). rec 9 0 a) (let i = aim-N s W (moved_to X q₂) (second place c) dry in omega (arith, target, i)))

      pub fork-body : Ready s W (moved_to X q₂) l (below part (8 * (place - at))) (nesting - 1) place sizes (lent M.env M.ends M.stack out) top holds depth q
      fork-body =
          ready-part h.ready s (place - at) place (moved_to X q₂) (omega arith) (omega (arith, h.long)) (omega arith) h.whole
          (second place c) stage-2.kept stage-2.stood (fits-first _ _ q (length out) stage-2.fits)
          h.second.deep h.second.good (h.lands stage-2.kept).0 h.second.few-holds h.second.few-values

      module _ {N : Lent} {u : Cursor} (k₂ : Kept (lent M.env M.ends M.stack out) N top depth)
          (d₂ : Done s W (moved_to X q₂) place (lent M.env M.ends M.stack out) N depth q u) where
        stage-3 : Stage W l L top holds depth cursor at N (moved_to X (after y q₂)) depth u (((nil ▸ x) ▸ op over) ▸ y)
            (op past ▸ (shape ▸ (z ▸ (last ▸ nil)))) (([] ++ es) ++ fs)
        stage-3 = stage-part y _ fs stage-2 place k₂ d₂.wrote d₂.ended (c ∙ omega (arith, ends-N (expr e) W X))

        pub fork-jump-2 : Fits (moved u) (length N.out)
        fork-jump-2 = stage-fits-op past _ stage-3

        module _ (behind b₂ : ℕ) (f : behind ≡ place + length (flat_n s)) (target₂ : b₂ ≡ get_or W.aims behind 0) {out₂ : List ℕ} {v : Cursor}
            (j₂ : (v ≡ moved u) × (out₂ ≡ emit_op u N.out 8 0 b₂)) where
          stage-4 : Stage W l L top holds depth cursor at (lent N.env N.ends N.stack out₂) (moved_to X q₃) depth v
              ((((nil ▸ x) ▸ op over) ▸ y) ▸ op past) (shape ▸ (z ▸ (last ▸ nil))) (([] ++ es) ++ fs)
          unfolding record_of
          stage-4 =
              stage-op past _ stage-3 8 0 b₂ j₂
              (λ dry. ap (λ (a : ℕ). rec 8 0 a) (sym (target₂ ∙ aim-N t W (moved_to X q₃) (third place behind c f) dry)))

          pub fork-mark : Fits (cursor_shaped depth v) (length out₂)
          fork-mark = stage-fits-mark _ stage-4

          module _ {out₃ : List ℕ} {w : Cursor} (i : (w ≡ cursor_shaped depth v) × (out₃ ≡ emit_shape v out₂ holds depth (take depth N.stack))) where
            pub fork-stage : Stage W l L top holds depth cursor at (lent N.env N.ends N.stack out₃) (moved_to X q₃) depth w
                (fork_code W X e s t) (z ▸ (last ▸ nil)) (fork_ends W X e s)
            fork-stage = stage-mark _ stage-4 i

            pub fork-else : Ready t W (moved_to X q₃) l (below part (8 * (behind - at))) (nesting - 1) behind sizes
                (lent N.env N.ends N.stack out₃) top holds depth w
            fork-else =
                ready-part h.ready t (behind - at) behind (moved_to X q₃) (omega arith) (omega (arith, h.long)) (omega arith) h.whole
                (third place behind c f) fork-stage.kept fork-stage.stood (fits-first _ _ w (length out₃) fork-stage.fits)
                h.third.deep h.third.good (h.lands fork-stage.kept).1 h.third.few-holds h.third.few-values
