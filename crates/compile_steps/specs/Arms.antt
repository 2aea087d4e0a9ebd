-- The statements of a case, one after the other: what its walker asks at each, and that they are done when each is.
use Rattle.std.specs.Prelude.{◌≡◌, false, pos, length, get_or, take}
use Rattle.std.proofs.Math.Path.{refl, ap, sym}
use Rattle.std.proofs.Common.{◌∙◌, arith}
use mathlib.Core.List.{List, [], ◌++◌, append-nil}
use Prim.Native.Nat.{ℕ, suc, ◌+◌, ◌-◌, ◌*◌, ◌≤◌, ◌<◌}
use Rattle.std.proofs.Math.Nat.{sub-zero}
use Rattle.std.proofs.Math.Numerals.{add-one}
use Rattle.language.specs.Measure.{measure_s}
use Rattle.language.specs.Program.{flat_s, flat_arms, deep_s}
use Rattle.values.specs.Operators.{binary, equal}
use Rattle.values.specs.Values.{int}
use Rattle.bytecode.specs.Instructions.{Instr, own, load, push, operate, go, go_unless}
use Rattle.language.specs.Tree.{Stmt, Arms, last_arm, arm, count_arms}
use Rattle.language.specs.Table.{Entry}
use Rattle.language.specs.Limits.{holds_s, need_s}
use Rattle.language_laws.specs.Claims.{entries_of}
use Rattle.table_scopes.specs.Environment.{env_of}
use Rattle.table_entries.specs.Stands.{Stands, stands-left}
use Rattle.table_forms.specs.Part.{table-next, Passes}
use Rattle.table_forms.specs.Walk.{Table}
use Rattle.compile_code.specs.Code.{Code, nil, op, mark, ◌▸◌, At, at, skip, after}
use Rattle.compile_code.specs.Compile.{scopes_of, found, code_s}
use Rattle.compile_code.specs.Encode.{rec, record_of}
use Rattle.compile_symbols.specs.Numbers.{second_in}
use Rattle.compile_names.specs.Good.{GoodS, GoodArms}
use Rattle.compile_output.specs.declared.Cursor.{Cursor}
use Rattle.compile_output.specs.EmitRecord.{Fits, moved, cursor_shaped, emit_op, emit_shape}
use Rattle.compile_output.specs.EmitCode.{cursor_after, emitted}
use Rattle.compile_nodes.specs.Ends.{ends_s, ends_arms}
use Rattle.compile_nodes.specs.Knows.{Walk, Lands}
use Rattle.compile_nodes.specs.Ready.{stmt, Place, Lent, Kept, Wrote, Ready, Done, Answers, Asks, code_cases, ReadyArms, DoneArms, Owner, AsksArms, AnswersArms}
use Rattle.compile_steps.specs.Parts.{lent, below, moved_to, size-N, passes-N, laid-aim, kept_self, kept_then, kept_out, wrote_then, wrote-op, wrote-nil, wrote-length}
use Rattle.compile_steps.specs.Views.{IsStmt}
use Rattle.compile_steps.specs.Shared.{Rest, rest-left, rest-node, rest-own, rest-ready, lands-kept, shaping, shaped-wrote, fits-op, ends-then, ends-N, aim-as}
use Rattle.language_laws.specs.ReadBack.{arms-count}

-- ── one statement: before it its number is looked for, behind it the case is left ──
module _ (s : Stmt) (us : List Entry) (ks : List ℕ) (tail : Code) (c j z : ℕ) (W : Walk) (X : Place) where
  abbrev q : At
  q = skip 4 X.start

  abbrev y : Code
  y = code_s W.globals s X.around X.types q

  abbrev fs : List ℕ
  fs = ends_s W.globals s X.around X.types q

  abbrev seen : Code
  seen = mark (found X.around X.types)

  abbrev unless : Instr
  unless = go_unless (suc (after y q).address)

  abbrev equals : Instr
  equals = operate (binary equal)

  abbrev behind : Code
  behind = op (go z) ▸ (seen ▸ tail)

  abbrev all : Code
  all = op (load own c) ▸ (op (push (int (pos j))) ▸ (op equals ▸ (op unless ▸ (y ▸ behind))))

  module _ {l : List ℕ} {place : ℕ} {L : Lent} {top holds depth : ℕ} {cursor : Cursor} (h : Rest W X l place L top holds depth cursor (flat_s s ++ us) (fs ++ ks) all) where
    abbrev o₁ : List ℕ
    o₁ = emit_op cursor L.out 5 0 c

    abbrev o₂ : List ℕ
    o₂ = emit_op (moved cursor) o₁ 1 0 j

    abbrev o₃ : List ℕ
    o₃ = emit_op (moved (moved cursor)) o₂ 7 10 0

    w₁ : Wrote L.out o₁ cursor (moved cursor) (op (load own c))
    unfolding record_of
    w₁ = wrote-op (load own c) 5 0 c (refl, refl) (λ d. refl)

    w₂ : Wrote o₁ o₂ (moved cursor) (moved (moved cursor)) (op (push (int (pos j))))
    unfolding record_of
    w₂ = wrote-op (push (int (pos j))) 1 0 j (refl, refl) (λ d. refl)

    w₃ : Wrote o₂ o₃ (moved (moved cursor)) (moved (moved (moved cursor))) (op equals)
    unfolding record_of
    w₃ = wrote-op equals 7 10 0 (refl, refl) (λ d. refl)

    abbrev with_out : List ℕ → Lent
    with_out o = lent L.env L.ends L.stack o

    r₁ : Rest W (moved_to X (skip 1 X.start)) l place (with_out o₁) top holds depth (moved cursor) (flat_s s ++ us) (fs ++ ks) (op (push (int (pos j))) ▸ (op equals ▸ (op unless ▸ (y ▸ behind))))
    unfolding after
    r₁ = rest-own (skip 1 X.start) refl (kept_out L o₁ (wrote-length w₁)) w₁ (flat_s s ++ us) _ refl h

    r₂ : Rest W (moved_to X (skip 2 X.start)) l place (with_out o₂) top holds depth (moved (moved cursor)) (flat_s s ++ us) (fs ++ ks) (op equals ▸ (op unless ▸ (y ▸ behind)))
    unfolding after
    r₂ = rest-own (skip 2 X.start) refl (kept_out (with_out o₁) o₂ (wrote-length w₂)) w₂ (flat_s s ++ us) _ refl r₁

    r₃ : Rest W (moved_to X (skip 3 X.start)) l place (with_out o₃) top holds depth (moved (moved (moved cursor))) (flat_s s ++ us) (fs ++ ks) (op unless ▸ (y ▸ behind))
    unfolding after
    r₃ = rest-own (skip 3 X.start) refl (kept_out (with_out o₂) o₃ (wrote-length w₃)) w₃ (flat_s s ++ us) _ refl r₂

    long-before : length o₃ ≡ length L.out
    long-before = wrote-length w₃ ∙ (wrote-length w₂ ∙ wrote-length w₁)

    pub arm-before : Fits (moved (moved (moved (moved cursor)))) (length L.out)
    arm-before = rw long-before at (fits-op unless _ (moved (moved (moved cursor))) (length o₃) r₃.fits)

    module _ {b : ℕ} {p : Cursor} {o : List ℕ} (aim : b ≡ get_or W.aims place 0) (i : (p ≡ moved (moved (moved (moved cursor)))) × (o ≡ emit_op (moved (moved (moved cursor))) o₃ 9 0 (b + 1))) where
      w₄ : Wrote o₃ o (moved (moved (moved cursor))) p (op unless)
      unfolding record_of
      w₄ = wrote-op unless 9 0 (b + 1) i (λ v. ap (λ (k : ℕ). rec 9 0 k) (sym (ap (λ (k : ℕ). k + 1) (aim ∙ laid-aim _ _ _ r₃.laid (sym r₃.stood.dryness ∙ v)) ∙ add-one _)))

      kept-before : Kept L (with_out o) top depth
      kept-before = kept_out L o (wrote-length w₄ ∙ long-before)

      r₄ : Rest W (moved_to X q) l place (with_out o) top holds depth p (flat_s s ++ us) (fs ++ ks) (y ▸ behind)
      unfolding after
      r₄ = rest-own q refl (kept_out (with_out o₃) o (wrote-length w₄)) w₄ (flat_s s ++ us) _ refl r₃

      pub arm-this : {part : List ℕ} {nesting : ℕ} {sizes : List ℕ} → Table l part sizes place → deep_s s ≤ nesting → GoodS (scopes_of X.around) s
          → Lands W (env_of L.env top) X.around → holds + holds_s s ≤ 16 → depth + need_s s ≤ 32
          → Ready (stmt s) W (moved_to X q) l part nesting place sizes (lent L.env L.ends L.stack o) top holds depth p
      arm-this table deep good lands few more = rest-ready (stmt s) table deep good lands few more (rest-left (flat_s s) us _ _ r₄)

      module _ {N : Lent} {r : Cursor} (out_of_lem : ℕ) (leaving : W.dry ≡ false → out_of_lem ≡ z) (n : ℕ) (e : n ≡ length (flat_s s)) (few : holds ≤ 16)
          (more : depth ≤ 32) (k : Kept (lent L.env L.ends L.stack o) N top depth)
          (d : Done (stmt s) W (moved_to X q) place (lent L.env L.ends L.stack o) N depth p r) where
        r₅ : Rest W (moved_to X (after y q)) l (place + n) N top holds depth r us ks behind
        r₅ = rest-node (stmt s) us ks n e k d.wrote r₄

        abbrev o₆ : List ℕ
        o₆ = emit_op r N.out 8 0 out_of_lem

        w₆ : Wrote N.out o₆ r (moved r) (op (go z))
        unfolding record_of
        w₆ = wrote-op (go z) 8 0 out_of_lem (refl, refl) (λ v. ap (λ (i : ℕ). rec 8 0 i) (sym (leaving (sym r₅.stood.dryness ∙ v))))

        r₆ : Rest W (moved_to X (skip 1 (after y q))) l (place + n) (lent N.env N.ends N.stack o₆) top holds depth (moved r) us ks (seen ▸ tail)
        unfolding after
        r₆ = rest-own (skip 1 (after y q)) refl (kept_out N o₆ (wrote-length w₆)) w₆ us ks refl r₅

        pub arm-behind : (depth ≤ length N.stack) × (depth < 256) × (holds < 256) × Fits (cursor_shaped depth (moved r)) (length N.out)
        arm-behind = let f = shaping r₆.stood few more tail r₆.fits in (f.0, f.1, f.2, rw (wrote-length w₆) at f.3)

        module _ {t : Cursor} {o₇ : List ℕ} (g : (t ≡ cursor_shaped depth (moved r)) × (o₇ ≡ emit_shape (moved r) o₆ holds depth (take depth N.stack))) where
          w₇ : Wrote o₆ o₇ (moved r) t seen
          w₇ = shaped-wrote r₆.stood few more g

          pub arm-next : Rest W (moved_to X (skip 1 (after y q))) l (place + n) (lent N.env N.ends N.stack o₇) top holds depth t us ks tail
          unfolding after
          arm-next = rest-own (skip 1 (after y q)) refl (kept_out (lent N.env N.ends N.stack o₆) o₇ (wrote-length w₇)) w₇ us ks refl r₆

          pub arm-kept : Kept L (lent N.env N.ends N.stack o₇) top depth
          arm-kept = kept_then kept-before (kept_then k (kept_out N o₇ (wrote-length w₇ ∙ wrote-length w₆)))

          pub arm-wrote : {o₈ : List ℕ} {u : Cursor} → Wrote o₇ o₈ t u tail → Wrote L.out o₈ cursor u all
          arm-wrote w = wrote_then w₁ (wrote_then w₂ (wrote_then w₃ (wrote_then w₄ (wrote_then d.wrote (wrote_then w₆ (wrote_then w₇ w))))))

-- ── the first of some ──
abbrev arm_of : Arms → Stmt
arm_of (last_arm s) = s
arm_of (arm s r) = s

abbrev later_entries : Arms → List Entry
later_entries (last_arm s) = []
later_entries (arm s r) = flat_arms r

-- where those after it begin
abbrev then : Walk → Place → Stmt → At
then W X s = let q = skip 4 X.start in skip 1 (after (code_s W.globals s X.around X.types q) q)

abbrev later_ends : Walk → Place → Arms → List ℕ
later_ends W X (last_arm s) = []
later_ends W X (arm s r) = ends_arms W.globals r X.around X.types (then W X s)

abbrev later_code : Walk → Place → Arms → ℕ → ℕ → ℕ → Code
later_code W X (last_arm s) c j z = nil
later_code W X (arm s r) c j z = code_cases W.globals r c (suc j) z X.around X.types (then W X s)

pub record Bounds (s : Stmt) (W : Walk) (X : Place) (nesting holds depth : ℕ) : Type 0 where
  pub deep : deep_s s ≤ nesting
  pub good : GoodS (scopes_of X.around) s
  pub few-holds : holds + holds_s s ≤ 16
  pub few-values : depth + need_s s ≤ 32

module _ {c j z : ℕ} {W : Walk} {X : Place} {l rest : List ℕ} {count nesting place : ℕ} {sizes : List ℕ} {L : Lent} {top holds depth : ℕ} {cursor : Cursor} where
  first_rest : (r : Arms) → ReadyArms r c j z W X l rest count nesting place sizes L top holds depth cursor
      → Rest W X l place L top holds depth cursor (flat_s (arm_of r) ++ later_entries r)
      (ends_s W.globals (arm_of r) X.around X.types (skip 4 X.start) ++ later_ends W X r)
      (all (arm_of r) (later_entries r) (later_ends W X r) (later_code W X r c j z) c j z W X)
  unfolding flat_arms ends_arms code_cases cursor_after
  first_rest (last_arm s) h =
      record {
        laid = rw (append-nil (flat_s s), append-nil (ends_s W.globals s X.around X.types (skip 4 X.start))) h.laid;
        stood = h.stood;
        room = rw (append-nil (flat_s s)) h.room;
        ending = rw (append-nil (flat_s s)) h.ending;
        fits = h.fits;
      }
  first_rest (arm s r) h = record { laid = h.laid; stood = h.stood; room = h.room; ending = h.ending; fits = h.fits }

  first-bounds : (r : Arms) → ReadyArms r c j z W X l rest count nesting place sizes L top holds depth cursor → Bounds (arm_of r) W X nesting holds depth
  unfolding measure_s GoodArms
  first-bounds (last_arm s) h = record { deep = h.deep; good = h.good; few-holds = h.few-holds; few-values = h.few-values }
  first-bounds (arm s r) h = record { deep = omega (arith, h.deep); good = h.good.0; few-holds = omega (arith, h.few-holds); few-values = omega (arith, h.few-values) }

-- ── so far ──
-- what is left after i statements: whatever does it has done the whole
pub record Later (c z : ℕ) (W : Walk) (l rest : List ℕ) (count nesting place : ℕ) (sizes : List ℕ) (M : Lent) (top holds depth : ℕ) (p : Cursor) (i : ℕ) (Whole : Lent → Cursor → Type 0) : Type 0 where
  pub left : Arms
  pub number : ℕ
  pub spot : Place
  pub is : number ≡ i + 1
  pub ready : ReadyArms left c number z W spot l rest (count - i) nesting place sizes M top holds depth p
  pub whole : (N : Lent) (q : Cursor) → DoneArms left c number z W spot place M N depth p q → Whole N q

pub data Going (c z : ℕ) (W : Walk) (l rest : List ℕ) (count nesting place : ℕ) (sizes : List ℕ) (M : Lent) (top holds depth : ℕ) (p : Cursor) (i : ℕ) (Whole : Lent → Cursor → Type 0) : Type 0 where
  more : Later c z W l rest count nesting place sizes M top holds depth p i Whole → Going c z W l rest count nesting place sizes M top holds depth p i Whole
  over : count ≤ i → Whole M p → Going c z W l rest count nesting place sizes M top holds depth p i Whole

pub record ArmsSoFar (known aims l part : List ℕ) (owner count nesting at : ℕ) (sizes : List ℕ) (L : Lent) (top holds depth : ℕ) (cursor : Cursor)
    (M : Lent) (rest : List ℕ) (place i : ℕ) (p : Cursor) : Type 0 where
  pub kept : Kept L M top depth
  pub goes : (r : Arms) (c z : ℕ) (W : Walk) (X : Place) → W.known ≡ known → W.aims ≡ aims → Owner W owner c z → ReadyArms r c 1 z W X l part count nesting at sizes L top holds depth cursor
      → Going c z W l rest count nesting place sizes M top holds depth p i (λ N q. DoneArms r c 1 z W X at L N depth cursor q)

pub arms_start : (known aims l part : List ℕ) (owner count nesting at : ℕ) (sizes : List ℕ) (L : Lent) (top holds depth : ℕ) (cursor : Cursor)
    → ArmsSoFar known aims l part owner count nesting at sizes L top holds depth cursor L part at 0 cursor
arms_start known aims l part owner count nesting at sizes L top holds depth cursor =
    record {
      kept = kept_self L;
      goes = λ r c z W X a b o h. more (record { left = r; number = 1; spot = X; is = refl; ready = rw (sub-zero count) h; whole = λ N q d. d });
    }

left-of : {c z : ℕ} {W : Walk} {l rest : List ℕ} {count nesting place : ℕ} {sizes : List ℕ} {M : Lent} {top holds depth : ℕ} {p : Cursor} {i : ℕ} {Whole : Lent → Cursor → Type 0} → i < count
    → Going c z W l rest count nesting place sizes M top holds depth p i Whole → Later c z W l rest count nesting place sizes M top holds depth p i Whole
left-of h (more g) = g
left-of h (over k d) = absurd (omega arith)

-- ── one statement further ──
module _ {c j z : ℕ} {W : Walk} {X : Place} {l rest : List ℕ} {count nesting place : ℕ} {sizes : List ℕ} {L : Lent} {top holds depth : ℕ} {cursor : Cursor}
    (r : Arms) (h : ReadyArms r c j z W X l rest count nesting place sizes L top holds depth cursor) where
  this-stands : Stands (entries_of l) place (flat_s (arm_of r))
  this-stands = stands-left (flat_s (arm_of r)) (later_entries r) (first_rest r h).laid.stands

  this-passes : (n : ℕ) → n ≡ get_or sizes place 0 → Passes rest sizes place n
  this-passes n e = passes-N (stmt (arm_of r)) h.table this-stands n e

  this-size : (n : ℕ) → n ≡ get_or sizes place 0 → n ≡ length (flat_s (arm_of r))
  this-size n e = e ∙ size-N (stmt (arm_of r)) h.table this-stands

  few : holds ≤ 16
  few = omega (arith, h.few-holds)

  many : depth ≤ 32
  many = omega (arith, h.few-values)

  this-before : Fits (moved (moved (moved (moved cursor)))) (length L.out)
  this-before = arm-before (arm_of r) (later_entries r) (later_ends W X r) (later_code W X r c j z) c j z W X (first_rest r h)

  abbrev before-out : ℕ → List ℕ
  before-out b = emit_op (moved (moved (moved cursor))) (emit_op (moved (moved cursor)) (emit_op (moved cursor) (emit_op cursor L.out 5 0 c) 1 0 j) 7 10 0) 9 0 (b + 1)

  module _ {b : ℕ} {p : Cursor} {o : List ℕ} (aim : b ≡ get_or W.aims place 0) (i : (p ≡ moved (moved (moved (moved cursor)))) × (o ≡ before-out b)) where
    this-ready : Ready (stmt (arm_of r)) W (moved_to X (skip 4 X.start)) l rest nesting place sizes (lent L.env L.ends L.stack o) top holds depth p
    this-ready =
        let f = first-bounds r h in
        arm-this (arm_of r) (later_entries r) (later_ends W X r) (later_code W X r c j z) c j z W X (first_rest r h) aim i h.table f.deep f.good h.lands f.few-holds f.few-values

    module _ {N : Lent} {q : Cursor} (out_of_lem : ℕ) (leaving : W.dry ≡ false → out_of_lem ≡ z) (n : ℕ) (e : n ≡ get_or sizes place 0) (k : Kept (lent L.env L.ends L.stack o) N top depth)
        (d : Done (stmt (arm_of r)) W (moved_to X (skip 4 X.start)) place (lent L.env L.ends L.stack o) N depth p q) where
      this-behind : (depth ≤ length N.stack) × (depth < 256) × (holds < 256) × Fits (cursor_shaped depth (moved q)) (length N.out)
      this-behind =
          arm-behind (arm_of r) (later_entries r) (later_ends W X r) (later_code W X r c j z) c j z W X (first_rest r h) aim i out_of_lem leaving n (this-size n e) few many k d

      module _ {t : Cursor} {o₂ : List ℕ} (g : (t ≡ cursor_shaped depth (moved q)) × (o₂ ≡ emit_shape (moved q) (emit_op q N.out 8 0 out_of_lem) holds depth (take depth N.stack))) where
        this-kept : Kept L (lent N.env N.ends N.stack o₂) top depth
        this-kept = arm-kept (arm_of r) (later_entries r) (later_ends W X r) (later_code W X r c j z) c j z W X (first_rest r h) aim i out_of_lem leaving n (this-size n e) few many k d g

        this-next : Rest W (moved_to X (then W X (arm_of r))) l (place + n) (lent N.env N.ends N.stack o₂) top holds depth t (later_entries r) (later_ends W X r) (later_code W X r c j z)
        this-next = arm-next (arm_of r) (later_entries r) (later_ends W X r) (later_code W X r c j z) c j z W X (first_rest r h) aim i out_of_lem leaving n (this-size n e) few many k d g

        this-wrote : {o₃ : List ℕ} {u : Cursor} → Wrote o₂ o₃ t u (later_code W X r c j z)
            → Wrote L.out o₃ cursor u (all (arm_of r) (later_entries r) (later_ends W X r) (later_code W X r c j z) c j z W X)
        this-wrote w = arm-wrote (arm_of r) (later_entries r) (later_ends W X r) (later_code W X r c j z) c j z W X (first_rest r h) aim i out_of_lem leaving n (this-size n e) few many k d g w

-- a case split: the last statement, or one before others
module _ {c j z : ℕ} {W : Walk} {X : Place} {l rest : List ℕ} {count nesting place : ℕ} {sizes : List ℕ} {L : Lent} {top holds depth : ℕ}
    {cursor : Cursor} {i : ℕ} {Whole : Lent → Cursor → Type 0} where
  going : (r : Arms) (h : ReadyArms r c j z W X l rest (count - i) nesting place sizes L top holds depth cursor) → j ≡ i + 1 → i < count
      → ((N : Lent) (q : Cursor) → DoneArms r c j z W X place L N depth cursor q → Whole N q)
      → {b : ℕ} {p : Cursor} {o : List ℕ} (aim : b ≡ get_or W.aims place 0) (e : (p ≡ moved (moved (moved (moved cursor)))) × (o ≡ before-out r h b))
      → {N : Lent} {q : Cursor} (out_of_lem : ℕ) (leaving : W.dry ≡ false → out_of_lem ≡ z) (n : ℕ) (s : n ≡ get_or sizes place 0) (k : Kept (lent L.env L.ends L.stack o) N top depth)
      → (d : Done (stmt (arm_of r)) W (moved_to X (skip 4 X.start)) place (lent L.env L.ends L.stack o) N depth p q)
      → {t : Cursor} {o₂ : List ℕ} (g : (t ≡ cursor_shaped depth (moved q)) × (o₂ ≡ emit_shape (moved q) (emit_op q N.out 8 0 out_of_lem) holds depth (take depth N.stack)))
      → Going c z W l (below rest (8 * n)) count nesting (place + n) sizes (lent N.env N.ends N.stack o₂) top holds depth t (i + 1) Whole
  unfolding flat_arms ends_arms code_cases cursor_after emitted count_arms measure_s GoodArms
  going (last_arm s) h is small whole aim e {N} out_of_lem leaving n z₂ k d {t} {o₂} g =
      let w = this-wrote (last_arm s) h aim e out_of_lem leaving n z₂ k d g (wrote-nil o₂ t) in
      over (omega (arith, h.many)) (whole (lent N.env N.ends N.stack o₂) t (record { wrote = record { advanced = w.advanced; written = w.written }; ended = d.ended }))
  going (arm s r) h is small whole aim e {N} out_of_lem leaving n z₂ k d {t} {o₂} g =
      let next = this-next (arm s r) h aim e out_of_lem leaving n z₂ k d g in
      let kept = this-kept (arm s r) h aim e out_of_lem leaving n z₂ k d g in
      more (record {
        left = r;
        number = suc j;
        spot = moved_to X (then W X s);
        is = omega arith;
        ready = record {
          table = table-next h.table (8 * n) n refl;
          laid = next.laid;
          stood = next.stood;
          room = next.room;
          ending = next.ending;
          fits = next.fits;
          deep = omega (arith, h.deep);
          good = h.good.1;
          lands = lands-kept kept h.lands;
          few-holds = omega (arith, h.few-holds);
          few-values = omega (arith, h.few-values);
          many = omega (arith, h.many);
          few = omega (arith, h.few);
        };
        whole = λ K u D. whole K u (record {
          wrote = this-wrote (arm s r) h aim e out_of_lem leaving n z₂ k d g D.wrote;
          ended =
              ends-then L.ends place n (ends_s W.globals s X.around X.types (skip 4 X.start)) (later_ends W X (arm s r))
              (this-size (arm s r) h n z₂ ∙ sym (ends-N (stmt s) W (moved_to X (skip 4 X.start)))) d.ended D.ended;
        });
      })

-- ── for the walker ──
-- the bytes where a number is looked for: `emit_before` of crates/compile_own, over the number
abbrev looked : ℕ → ℕ → ℕ → Cursor → List ℕ → List ℕ
looked c j b p l = emit_op (moved (moved (moved p))) (emit_op (moved (moved p)) (emit_op (moved p) (emit_op p l 5 0 c) 1 0 j) 7 10 0) 9 0 (b + 1)

looked-as : {c d j : ℕ} (i b : ℕ) (p : Cursor) (l : List ℕ) {q : Cursor} {o : List ℕ} → c ≡ d → j ≡ i + 1 → (q ≡ moved (moved (moved (moved p)))) × (o ≡ looked c (i + 1) b p l)
    → (q ≡ moved (moved (moved (moved p)))) × (o ≡ looked d j b p l)
looked-as {c} {d} {j} i b p l e f g = (g.0, g.1 ∙ (ap (λ (k : ℕ). looked k (i + 1) b p l) e ∙ ap (λ (k : ℕ). looked d k b p l) (sym f)))

cell_as : {W : Walk} {known : List ℕ} {owner c z n : ℕ} → W.known ≡ known → Owner W owner c z → n ≡ second_in (get_or known owner 0) → n ≡ c
cell_as {W} {known} {owner} x o e = e ∙ (ap (λ (k : List ℕ). second_in (get_or k owner 0)) (sym x) ∙ o.celled)

leaving-as : {W : Walk} {aims : List ℕ} {owner c z n : ℕ} → W.aims ≡ aims → Owner W owner c z → n ≡ get_or aims owner 0 → W.dry ≡ false → n ≡ z
leaving-as {W} {aims} {owner} y o e d = e ∙ (ap (λ (k : List ℕ). get_or k owner 0) (sym y) ∙ o.leaving d)

module _ {known aims l part : List ℕ} {owner count nesting at : ℕ} {sizes : List ℕ} {L : Lent} {top holds depth : ℕ} {cursor : Cursor} {M : Lent} {rest : List ℕ} {place i : ℕ} {p : Cursor}
    (a : AsksArms known aims l part owner count nesting at sizes L top holds depth cursor)
    (s : ArmsSoFar known aims l part owner count nesting at sizes L top holds depth cursor M rest place i p) (h : i < count) where
  later : Later a.cell a.exit a.walk l rest count nesting place sizes M top holds depth p i (λ N q. DoneArms a.arms a.cell 1 a.exit a.walk a.place at L N depth cursor q)
  later = left-of h (s.goes a.arms a.cell a.exit a.walk a.place a.same_known a.same-aims a.owned a.ready)

  pub arms-before : (i < 65536) × Fits (moved (moved (moved (moved p)))) (length M.out)
  arms-before = let f = later in (omega (arith, f.is, f.ready.few, f.ready.many, arms-count f.left), this-before f.left f.ready)

  pub arms-passes : (n : ℕ) → n ≡ get_or sizes place 0 → Passes rest sizes place n
  arms-passes n e = this-passes later.left later.ready n e

  module _ {cell b : ℕ} {q : Cursor} {o : List ℕ} (cl : cell ≡ second_in (get_or known owner 0)) (aim : b ≡ get_or aims place 0)
      (e : (q ≡ moved (moved (moved (moved p)))) × (o ≡ looked cell (i + 1) b p M.out)) where
    ready_by : {c z : ℕ} {W : Walk} {Whole : Lent → Cursor → Type 0} → W.known ≡ known → W.aims ≡ aims → Owner W owner c z
        → (f : Later c z W l rest count nesting place sizes M top holds depth p i Whole)
        → Ready (stmt (arm_of f.left)) W (moved_to f.spot (skip 4 f.spot.start)) l rest nesting place sizes (lent M.env M.ends M.stack o) top holds depth q
    ready_by x y w f = this-ready f.left f.ready (aim-as place y aim) (looked-as i b p M.out (cell_as x w cl) f.is e)

    pub arms-asks : Asks IsStmt known aims l rest nesting place sizes (lent M.env M.ends M.stack o) top holds depth q
    arms-asks =
        record {
          node = stmt (arm_of later.left);
          walk = a.walk;
          place = _;
          such = tt;
          same_known = a.same_known;
          same-aims = a.same-aims;
          ready = ready_by a.same_known a.same-aims a.owned later;
        }

    module _ {out_of_lem : ℕ} {N : Lent} {r : Cursor} (ex : out_of_lem ≡ get_or aims owner 0)
        (b₁ : Answers IsStmt known aims l rest nesting place sizes (lent M.env M.ends M.stack o) N top holds depth q r) where
      pub arms-behind : (depth ≤ length N.stack) × (depth < 256) × (holds < 256) × Fits (cursor_shaped depth (moved r)) (length N.out)
      arms-behind =
          let f = later in let x = a.same_known in let y = a.same-aims in
          this-behind f.left f.ready (aim-as place y aim) (looked-as i b p M.out (cell_as x a.owned cl) f.is e) out_of_lem (leaving-as y a.owned ex) (get_or sizes place 0) refl
          b₁.kept (b₁.done (stmt (arm_of f.left)) a.walk _ tt x y (ready_by x y a.owned f))

      module _ {t : Cursor} {o₂ : List ℕ} (g : (t ≡ cursor_shaped depth (moved r)) × (o₂ ≡ emit_shape (moved r) (emit_op r N.out 8 0 out_of_lem) holds depth (take depth N.stack))) where
        pub arms_next : (n : ℕ) → n ≡ get_or sizes place 0
            → ArmsSoFar known aims l part owner count nesting at sizes L top holds depth cursor (lent N.env N.ends N.stack o₂) (below rest (8 * n)) (place + n) (i + 1) t
        arms_next n z =
            let f = later in let x = a.same_known in let y = a.same-aims in
            record {
              kept = kept_then s.kept
                  (this-kept f.left f.ready (aim-as place y aim) (looked-as i b p M.out (cell_as x a.owned cl) f.is e) out_of_lem (leaving-as y a.owned ex) n z b₁.kept
                  (b₁.done (stmt (arm_of f.left)) a.walk _ tt x y (ready_by x y a.owned f)) g);
              goes = λ m c v W X x y w rd. let f = left-of h (s.goes m c v W X x y w rd) in
                  going f.left f.ready f.is h f.whole (aim-as place y aim) (looked-as i b p M.out (cell_as x w cl) f.is e) out_of_lem (leaving-as y w ex) n z b₁.kept
                  (b₁.done (stmt (arm_of f.left)) W _ tt x y (ready_by x y w f)) g;
            }

over-of : {c z : ℕ} {W : Walk} {l rest : List ℕ} {count nesting place : ℕ} {sizes : List ℕ} {M : Lent} {top holds depth : ℕ} {p : Cursor} {i : ℕ} {Whole : Lent → Cursor → Type 0} → count ≤ i
    → Going c z W l rest count nesting place sizes M top holds depth p i Whole → Whole M p
over-of h (more g) = absurd (omega (arith, g.ready.many, arms-count g.left))
over-of h (over k d) = d

pub arms_end : {known aims l part : List ℕ} {owner count nesting at : ℕ} {sizes : List ℕ} {L : Lent} {top holds depth : ℕ} {cursor : Cursor} {M : Lent} {rest : List ℕ} {place i : ℕ} {p : Cursor}
    → ArmsSoFar known aims l part owner count nesting at sizes L top holds depth cursor M rest place i p → count ≤ i
    → AnswersArms known aims l part owner count nesting at sizes L M top holds depth cursor p
arms_end s h = record { kept = s.kept; done = λ r c z W X x y w rd. over-of h (s.goes r c z W X x y w rd) }
