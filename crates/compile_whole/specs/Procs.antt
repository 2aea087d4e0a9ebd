-- A procedure, a declaration of the root, and all of them: what their walkers ask and answer.
use Rattle.std.specs.Prelude.{◌≡◌, refl, List, [], ℕ, ◌+◌, ◌*◌, ◌/◌, ◌%◌, ◌≤◌, ◌<◌, length, set}
use Rattle.std.proofs.Math.Path.{ap}
use Rattle.std.proofs.Common.{sym, ◌∙◌, arith, length-set}
use Rattle.std.proofs.lemmas.List.Edits.{sets}
use Rattle.language.specs.Program.{result_code}
use Rattle.words.specs.Numbers.{word_at}
use Rattle.language.specs.Tree.{Typed, Stmt, Expr, Body, proper, function, Tree}
use Rattle.table_scopes.specs.EnvironmentLaws.{fewer}
use Rattle.table_forms.specs.Part.{below}
use Rattle.table_types.specs.Types.{code-some}
use Rattle.table_forms.specs.Procedures.{Walled}
use Rattle.bytecode.specs.Instructions.{return}
use Rattle.compile_code.specs.Code.{Code, op, at}
use Rattle.compile_code.specs.Compile.{Proc}
use Rattle.compile_code.specs.Encode.{record_of, around_body, code_body, code_proc}
use Rattle.compile_output.specs.declared.Cursor.{Cursor}
use Rattle.compile_output.specs.EmitRecord.{moved, emit_op, Fits, length-emit}
use Rattle.compile_output.specs.EmitCode.{cursor_after, emitted, emitted-op, address-after}
use Rattle.compile_nodes.specs.Ready.{Node, stmt, expr, code_n, ends_n, Lent, Kept, Ready, Done, Asks, Answers}
use Rattle.compile_symbols.specs.Tabled.{the_tree}
use Rattle.compile_whole.specs.Ends.{proc_end, ended_proc, ends_body}
use Rattle.compile_whole.specs.Stage.{walk_of, lent_of, ReadyProc, heading-of, node_of, body_place, ready-body}

-- ── a procedure ──
pub record AsksProc (l part : List ℕ) (place : ℕ) (sizes env : List ℕ) (top : ℕ) (known aims ends stack out : List ℕ) (cursor : Cursor) : Type 0 where
  pub proc : Proc
  pub ready : ReadyProc (the_tree l) proc l part place sizes env top known aims ends stack out cursor

pub record DoneProc (t : Tree) (q : Proc) (place : ℕ) (ends out : List ℕ) (later written : List ℕ) (cursor r : Cursor) : Type 0 where
  pub advanced : r ≡ cursor_after (code_proc t q cursor.address) cursor
  pub emits : written ≡ emitted (code_proc t q cursor.address) cursor out
  pub ended : later ≡ ended_proc t q place cursor.address ends

pub record AnswersProc (l part : List ℕ) (place : ℕ) (sizes : List ℕ) (L M : Lent) (top : ℕ) (known aims : List ℕ) (cursor r : Cursor) : Type 0 where
  pub kept : Kept L M top 0
  pub done : (q : Proc) → ReadyProc (the_tree l) q l part place sizes L.env top known aims L.ends L.stack L.out cursor
      → DoneProc (the_tree l) q place L.ends L.out M.ends M.out cursor r

-- the numbers that the code works with
pub record ProcAsks (l part : List ℕ) (heading place : ℕ) (ends env : List ℕ) (top : ℕ) : Type 0 where
  pub small : place + 1 + heading / 256 ≤ 2048
  pub inside : 8 * (1 + heading / 256) ≤ length part
  pub within : 8 * (place + 1 + heading / 256) ≤ length l
  pub short : length l ≤ 16384
  pub room : 4 * (top + 1 + heading / 256) ≤ length env
  pub ending : place < length ends

-- what holds of every statement, of every expression
abbrev pub OfStmt : (Node → Type 0) → Type 0
OfStmt P = (s : Stmt) → P (stmt s)

abbrev pub OfExpr : (Node → Type 0) → Type 0
OfExpr P = (e : Expr) → P (expr e)

stmt-in : (P : Node → Type 0) → OfStmt P → (b : Body) → result_code b ≡ 0 → P (node_of b)
stmt-in P f (proper s) e = f s
stmt-in P f (function u x) e = absurd (code-some u e)

expr-in : (P : Node → Type 0) → OfExpr P → (b : Body) → ¬ (result_code b ≡ 0) → P (node_of b)
expr-in P f (proper s) e = absurd (e refl)
expr-in P f (function u x) e = f x

module _ (t : Tree) (xs : List Typed) (a : ℕ) where
  code_is : (b : Body) → code_n t.head (node_of b) (around_body t xs) [] (at a (length xs)) ≡ code_body t.head b (around_body t xs) (at a (length xs))
  code_is (proper s) = refl
  code_is (function u e) = refl

  ends-are : (b : Body) → ends_n t.head (node_of b) (around_body t xs) [] (at a (length xs)) ≡ ends_body t.head b (around_body t xs) (at a (length xs))
  ends-are (proper s) = refl
  ends-are (function u e) = refl

-- what is asked of the body's walker, and what it has done
abbrev pub BodyAsks : (Node → Type 0) → List ℕ → List ℕ → List ℕ → List ℕ → ℕ → ℕ → List ℕ → Lent → ℕ → Cursor → Type 0
BodyAsks P known aims l part heading place sizes L up cursor = Asks P known aims l (below part (8 * (1 + heading / 256))) 62 (place + 1 + heading / 256) sizes L up 0 0 cursor

abbrev pub BodyAnswers : (Node → Type 0) → List ℕ → List ℕ → List ℕ → List ℕ → ℕ → ℕ → List ℕ → Lent → Lent → ℕ → Cursor → Cursor → Type 0
BodyAnswers P known aims l part heading place sizes L M up cursor p = Answers P known aims l (below part (8 * (1 + heading / 256))) 62 (place + 1 + heading / 256) sizes L M up 0 0 cursor p

module _ {l part : List ℕ} {place : ℕ} {sizes env : List ℕ} {top : ℕ} {known aims ends stack out : List ℕ} {cursor : Cursor} {q : Proc}
    (r : ReadyProc (the_tree l) q l part place sizes env top known aims ends stack out cursor) (heading : ℕ) (c : heading ≡ word_at part 4) {mid : List ℕ} {up : ℕ}
    (w : Walled l place (heading / 256) top env mid up) where
  -- the body, with what is pushed
  body-ready : Ready (node_of q.body) (walk_of (the_tree l) known aims cursor) (body_place (the_tree l) q.parameters cursor.address) l
      (below part (8 * (1 + heading / 256))) 62 (place + 1 + heading / 256) sizes
      (lent_of mid ends stack out) up 0 0 cursor
  body-ready =
      let h = heading-of r heading c in
      rw h.many (ready-body (the_tree l) l part place sizes env top known aims ends stack out cursor q.name q.parameters mid up (rw h.many at w) q.body r)

  body-asks : (P : Node → Type 0) → P (node_of q.body) → BodyAsks P known aims l part heading place sizes (lent_of mid ends stack out) up cursor
  body-asks P s =
      record {
        node = node_of q.body;
        walk = walk_of (the_tree l) known aims cursor;
        place = body_place (the_tree l) q.parameters cursor.address;
        such = s;
        same_known = refl;
        same-aims = refl;
        ready = body-ready;
      }

  body-stmt : (P : Node → Type 0) → OfStmt P → heading % 256 ≡ 0 → P (node_of q.body)
  body-stmt P f e = stmt-in P f q.body (sym (heading-of r heading c).result ∙ e)

  body-expr : (P : Node → Type 0) → OfExpr P → ¬ (heading % 256 ≡ 0) → P (node_of q.body)
  body-expr P f e = expr-in P f q.body (λ z. e ((heading-of r heading c).result ∙ z))

  -- ── it is walked: the return, and its end ──
  module _ {P : Node → Type 0} (such : P (node_of q.body)) {M : Lent} {p : Cursor} (y : BodyAnswers P known aims l part heading place sizes (lent_of mid ends stack out) M up cursor p) where
    done-here : Done (node_of q.body) (walk_of (the_tree l) known aims cursor) (body_place (the_tree l) q.parameters cursor.address)
        (place + 1 + heading / 256) (lent_of mid ends stack out) M 0 cursor p
    done-here = y.done (node_of q.body) (walk_of (the_tree l) known aims cursor) (body_place (the_tree l) q.parameters cursor.address) such refl refl body-ready

    last-cursor : moved p ≡ cursor_after (code_proc (the_tree l) q cursor.address) cursor
    unfolding cursor_after
    last-cursor = ap moved (done-here.wrote.advanced ∙ ap (λ (x : Code). cursor_after x cursor) (code_is (the_tree l) q.parameters cursor.address q.body))

    last_fits : Fits (moved p) (length M.out)
    last_fits = rw (last-cursor, y.kept.same_out) r.fits

    last-emit : emit_op p M.out 11 0 0 ≡ emitted (code_proc (the_tree l) q cursor.address) cursor out
    unfolding emitted cursor_after record_of
    last-emit =
        let x = code_is (the_tree l) q.parameters cursor.address q.body in
        let b = code_body (the_tree l).head q.body (around_body (the_tree l) q.parameters) (at cursor.address (length q.parameters)) in
        emitted-op return 11 0 0 p (λ e. refl) M.out
        ∙ (ap (λ (z : Cursor). emitted (op return) z M.out) (done-here.wrote.advanced ∙ ap (λ (y : Code). cursor_after y cursor) x)
        ∙ ap (emitted (op return) (cursor_after b cursor)) (done-here.wrote.written ∙ ap (λ (y : Code). emitted y cursor out) x))

    proc-done-in : (s : Cursor) (written later : List ℕ) → s ≡ moved p → written ≡ emit_op p M.out 11 0 0 → later ≡ set M.ends place s.address
        → DoneProc (the_tree l) q place ends out later written cursor s
    proc-done-in s written later e f g =
        let h = heading-of r heading c in
        let a = e ∙ last-cursor in
        let z : s.address ≡ proc_end (the_tree l) q cursor.address = ap (λ (x : Cursor). x.address) a
        ∙ address-after (code_proc (the_tree l) q cursor.address) cursor (at cursor.address 0) refl in
        record {
          advanced = a;
          emits = f ∙ last-emit;
          ended = g ∙ (ap (λ (n : ℕ). set M.ends place n) z ∙ ap (λ (m : List ℕ). set m place (proc_end (the_tree l) q cursor.address))
              (done-here.ended ∙ (ap (λ (n : ℕ). sets ends (place + 1 + n)
              (ends_n (the_tree l).head (node_of q.body) (around_body (the_tree l) q.parameters) [] (at cursor.address (length q.parameters)))) h.many
              ∙ ap (λ (us : List ℕ). sets ends (place + 1 + length q.parameters) us) (ends-are (the_tree l) q.parameters cursor.address q.body))));
        }

module _ {l part : List ℕ} {place : ℕ} {sizes env : List ℕ} {top : ℕ} {known aims ends stack out : List ℕ} {cursor : Cursor}
    (q : AsksProc l part place sizes env top known aims ends stack out cursor) where
  pub proc-long : 8 ≤ length part
  proc-long = let h = heading-of q.ready (word_at part 4) refl in omega (arith, h.within, h.long)

  module _ (heading : ℕ) (c : heading ≡ word_at part 4) where
    pub proc-asks : ProcAsks l part heading place ends env top
    proc-asks =
        let h = heading-of q.ready heading c in
        let r = q.ready in
        record {
          small = omega (arith, h.within, h.many, r.stage.prepared.tabled.legible.short);
          inside = omega (arith, h.within, h.many, h.long);
          within = omega (arith, h.within, h.many);
          short = r.stage.prepared.tabled.legible.short;
          room = omega (arith, r.stage.room, h.within, h.many);
          ending = omega (arith, r.ending, h.within);
        }

    -- P is what the walker of the body takes
    module _ {mid : List ℕ} {up : ℕ} (w : Walled l place (heading / 256) top env mid up) (P : Node → Type 0) where
      pub proc-statement : OfStmt P → heading % 256 ≡ 0 → BodyAsks P known aims l part heading place sizes (lent_of mid ends stack out) up cursor
      proc-statement k e = body-asks q.ready heading c w P (body-stmt q.ready heading c w P k e)

      pub proc-expression : OfExpr P → ¬ (heading % 256 ≡ 0) → BodyAsks P known aims l part heading place sizes (lent_of mid ends stack out) up cursor
      proc-expression k e = body-asks q.ready heading c w P (body-expr q.ready heading c w P k e)

      proc-kept : {M : Lent} {p : Cursor} → BodyAnswers P known aims l part heading place sizes (lent_of mid ends stack out) M up cursor p → (written later : List ℕ)
          → length written ≡ length M.out → length later ≡ length M.ends → Kept (lent_of env ends stack out) (lent_of M.env later M.stack written) top 0
      proc-kept {M} y written later e f =
          record {
            env = fewer M.env mid top up w.least y.kept.env ∙ w.kept;
            same-env = y.kept.same-env ∙ w.same;
            same_ends = f ∙ y.kept.same_ends;
            stack = refl;
            same-stack = y.kept.same-stack;
            same_out = e ∙ y.kept.same_out;
          }

      returned : ((x : Proc) → ReadyProc (the_tree l) x l part place sizes env top known aims ends stack out cursor → P (node_of x.body))
          → {M : Lent} {p : Cursor} → BodyAnswers P known aims l part heading place sizes (lent_of mid ends stack out) M up cursor p → {s v : Cursor} {written later : List ℕ}
          → (v ≡ moved p) × (written ≡ emit_op p M.out 11 0 0) → (s ≡ v) × (later ≡ set M.ends place v.address)
          → AnswersProc l part place sizes (lent_of env ends stack out) (lent_of M.env later M.stack written) top known aims cursor s
      returned such {M} {p} y {s} {v} {written} {later} a b =
          let g : later ≡ set M.ends place s.address = b.1 ∙ ap (λ (x : Cursor). set M.ends place x.address) (sym b.0) in
          record {
            kept = proc-kept y written later (ap (length {A = ℕ}) a.1 ∙ length-emit p M.out 11 0 0) (ap (length {A = ℕ}) g ∙ length-set M.ends place s.address);
            done = λ x r. proc-done-in r heading c w (such x r) y s written later (b.0 ∙ a.0) a.1 g;
          }

      pub proc-proper : OfStmt P → heading % 256 ≡ 0 → {M : Lent} {p : Cursor}
          → BodyAnswers P known aims l part heading place sizes (lent_of mid ends stack out) M up cursor p → {s v : Cursor} {written later : List ℕ}
          → (v ≡ moved p) × (written ≡ emit_op p M.out 11 0 0) → (s ≡ v) × (later ≡ set M.ends place v.address)
          → AnswersProc l part place sizes (lent_of env ends stack out) (lent_of M.env later M.stack written) top known aims cursor s
      proc-proper k z y a b = returned (λ x r. body-stmt r heading c w P k z) y a b

      pub proc-function : OfExpr P → ¬ (heading % 256 ≡ 0) → {M : Lent} {p : Cursor}
          → BodyAnswers P known aims l part heading place sizes (lent_of mid ends stack out) M up cursor p → {s v : Cursor} {written later : List ℕ}
          → (v ≡ moved p) × (written ≡ emit_op p M.out 11 0 0) → (s ≡ v) × (later ≡ set M.ends place v.address)
          → AnswersProc l part place sizes (lent_of env ends stack out) (lent_of M.env later M.stack written) top known aims cursor s
      proc-function k z y a b = returned (λ x r. body-expr r heading c w P k z) y a b

      pub proper-fits : OfStmt P → {M : Lent} {p : Cursor} → heading % 256 ≡ 0
          → BodyAnswers P known aims l part heading place sizes (lent_of mid ends stack out) M up cursor p → Fits (moved p) (length M.out)
      proper-fits k z y = last_fits q.ready heading c w (body-stmt q.ready heading c w P k z) y

      pub function-fits : OfExpr P → {M : Lent} {p : Cursor} → ¬ (heading % 256 ≡ 0)
          → BodyAnswers P known aims l part heading place sizes (lent_of mid ends stack out) M up cursor p → Fits (moved p) (length M.out)
      function-fits k z y = last_fits q.ready heading c w (body-expr q.ready heading c w P k z) y
