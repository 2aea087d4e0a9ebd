-- Entries with expressions only below them, and one instruction after those.
use Rattle.std.specs.Prelude.{◌≡◌, ℕ, suc, ◌+◌, ◌-◌, ◌%◌, ◌≤◌, ◌<◌, pos, get_or, take, set}
use Rattle.std.proofs.Math.Path.{refl, ap}
use Rattle.std.proofs.Common.{sym, ◌∙◌, arith, add-zero, take-suc, length-take-le}
use mathlib.Core.List.{List, [], ◌∷◌, ◌++◌, append-nil, map, reverse, reverse-cons, map-append}
use Rattle.std.proofs.Math.Option.{Option, none, some}
use Rattle.std.proofs.Math.ListN.{length}
use Rattle.std.proofs.lemmas.List.{length-reverse, get_or_at}
use Rattle.language.specs.Measure.{measure_s}
use Rattle.language.specs.Program.{flat_es, deep_es}
use Rattle.logic.specs.Options.{or_else}
use Rattle.table_scopes.specs.Trees.{length-map}
use Rattle.std.proofs.Math.Seq.{get_or-set_same}
use Rattle.words.specs.Numbers.{half_at, word_at}
use Rattle.values.specs.Types.{Ty, ty_byte, integer, logical, bits}
use Rattle.values.specs.Ends.{case_index}
use Rattle.bytecode.specs.Instructions.{Instr, operate, get_field, read_fader, stop}
use Rattle.bytecode.specs.Instructions.{call as call_op, make as make_op, set_level as set_op, assert as assert_op}
use Rattle.values.specs.Operators.{unary, Unary, negate, absolute, complement, unary_code, op_type, takes, logical_or_bits}
use Rattle.language.specs.Tree.{Exprs, no_expr, count_exprs}
use Rattle.language.specs.Tree.{expr as more}
use Rattle.compile_names.specs.Types.{took}
use Rattle.language.specs.Tree.{block, assign, when, choose, while, goto, assert, call, set_level, select, for, Expr, number, truth, pattern, null, variable, invoke, field, make, operate1, operate2}
use Rattle.language.specs.Tree.{conditional, fader, block_expr, Global}
use Rattle.language.specs.Table.{Entry}
use Rattle.language.specs.Faults.{type_e}
use Rattle.language.specs.Limits.{holds_es, need_es}
use Rattle.language.specs.Names.{Scope}
use Rattle.table_scopes.specs.Environment.{env_of}
use Rattle.table_forms.specs.Forms.{head_f, one, two}
use Rattle.table_forms.specs.Part.{table-next}
use Rattle.compile_code.specs.Code.{nil, op, ◌▸◌, At, after}
use Rattle.compile_code.specs.Compile.{Around, scopes_of, code_s, code_es, ty_e, or_integer, body_number, field_number, ty_in, class_number}
use Rattle.compile_code.specs.Encode.{rec, record_of}
use Rattle.compile_names.specs.Good.{GoodS, GoodEs}
use Rattle.compile_symbols.specs.Numbers.{first_in, second_in}
use Rattle.compile_symbols.specs.Meaning.{meaning_of}
use Rattle.compile_output.specs.declared.Cursor.{Cursor}
use Rattle.compile_output.specs.EmitRecord.{Fits, moved}
use Rattle.compile_output.specs.EmitCode.{cursor_after, emitted}
use Rattle.compile_nodes.specs.Knows.{Walk}
use Rattle.compile_nodes.specs.Ends.{below_s, ends_es}
use Rattle.compile_nodes.specs.Ready.{Node, stmt, expr, name, flat_n, form_n, code_n, ends_n, LeavesN, Place, Lent, Kept, Wrote, Ready, Done, deep_n, holds_n, need_n, GoodN, pushed, ValuesEs, ReadyEs}
use Rattle.compile_nodes.specs.Ready.{DoneEs}
use Rattle.compile_emit.specs.EmitEntry.{names as names_by, known_for, operands_by, emit_last, last_type}
use Rattle.compile_steps.specs.Parts.{below, laid-tail, need-E, fits-rest, lent, flat-N, head-N, wrote_then, wrote-op, moved_to, fits-first}
use Rattle.compile_steps.specs.Stages.{Stage, stage-start, stage-fits-op, stage-part, Finished, finished-done}
use Rattle.compile_steps.specs.Named.{meaning-of, class-type, class-first, field-type, field-first, field-second, body-type, body-second}
use Rattle.compile_steps.specs.Views.{IsSimple}
use Rattle.compile_steps.specs.Leaves.{half-small}
use Rattle.compile_symbols.specs.Numbers.{cells_of}
use Rattle.compile_nodes.specs.Ready.{room_n}

-- such a node, by its form
data Simple : Node → Type 0 where
  asserts : (e : Expr) → Simple (stmt (assert e))
  calls : (a : ℕ) (es : Exprs) → Simple (stmt (call a es))
  levels : (e f : Expr) → Simple (stmt (set_level e f))
  invokes : (a : ℕ) (es : Exprs) → Simple (expr (invoke a es))
  fields : (a : ℕ) (e : Expr) → Simple (expr (field a e))
  makes : (c : ℕ) (es : Exprs) → Simple (expr (make c es))
  computes : (o : Unary) (e : Expr) → Simple (expr (operate1 o e))
  faders : (e : Expr) → Simple (expr (fader e))

simple-of : (n : Node) → IsSimple n → Simple n
simple-of (stmt (block ds is)) h = absurd h
simple-of (stmt (assign x e)) h = absurd h
simple-of (stmt (when e s)) h = absurd h
simple-of (stmt (choose e s t)) h = absurd h
simple-of (stmt (while e s)) h = absurd h
simple-of (stmt (goto a)) h = absurd h
simple-of (stmt (assert e)) h = asserts e
simple-of (stmt (call a es)) h = calls a es
simple-of (stmt (set_level e f)) h = levels e f
simple-of (stmt (select e r)) h = absurd h
simple-of (stmt (for a e f g s)) h = absurd h
simple-of (expr (number z)) h = absurd h
simple-of (expr (truth b)) h = absurd h
simple-of (expr (pattern z)) h = absurd h
simple-of (expr (null c)) h = absurd h
simple-of (expr (variable a)) h = absurd h
simple-of (expr (invoke a es)) h = invokes a es
simple-of (expr (field a e)) h = fields a e
simple-of (expr (make c es)) h = makes c es
simple-of (expr (operate1 o e)) h = computes o e
simple-of (expr (operate2 o e f)) h = absurd h
simple-of (expr (conditional e f g)) h = absurd h
simple-of (expr (fader e)) h = faders e
simple-of (expr (block_expr ds is e)) h = absurd h
simple-of (name a) h = absurd h

-- the expressions, and the instruction
abbrev pub ops_of : Node → Exprs
ops_of (stmt (assert e)) = one e
ops_of (stmt (call a es)) = es
ops_of (stmt (set_level e f)) = two e f
ops_of (expr (invoke a es)) = es
ops_of (expr (field a e)) = one e
ops_of (expr (make c es)) = es
ops_of (expr (operate1 o e)) = one e
ops_of (expr (fader e)) = one e
ops_of (stmt (block ds is)) = no_expr
ops_of (stmt (assign x e)) = no_expr
ops_of (stmt (when e s)) = no_expr
ops_of (stmt (choose e s t)) = no_expr
ops_of (stmt (while e s)) = no_expr
ops_of (stmt (goto a)) = no_expr
ops_of (stmt (select e r)) = no_expr
ops_of (stmt (for a e f g s)) = no_expr
ops_of (expr (number z)) = no_expr
ops_of (expr (truth b)) = no_expr
ops_of (expr (pattern z)) = no_expr
ops_of (expr (null c)) = no_expr
ops_of (expr (variable a)) = no_expr
ops_of (expr (operate2 o e f)) = no_expr
ops_of (expr (conditional e f g)) = no_expr
ops_of (expr (block_expr ds is e)) = no_expr
ops_of (name a) = no_expr

module _ (gs : List Global) where
  abbrev pub last_op : Node → Instr
  last_op (stmt (assert e)) = assert_op
  last_op (stmt (call a es)) = call_op (body_number gs a)
  last_op (stmt (set_level e f)) = set_op
  last_op (expr (invoke a es)) = call_op (body_number gs a)
  last_op (expr (field a e)) = get_field (field_number gs a).class (field_number gs a).index
  last_op (expr (make c es)) = make_op (class_number gs c)
  last_op (expr (operate1 o e)) = operate (unary o)
  last_op (expr (fader e)) = read_fader
  last_op (stmt (block ds is)) = stop case_index
  last_op (stmt (assign x e)) = stop case_index
  last_op (stmt (when e s)) = stop case_index
  last_op (stmt (choose e s t)) = stop case_index
  last_op (stmt (while e s)) = stop case_index
  last_op (stmt (goto a)) = stop case_index
  last_op (stmt (select e r)) = stop case_index
  last_op (stmt (for a e f g s)) = stop case_index
  last_op (expr (number z)) = stop case_index
  last_op (expr (truth b)) = stop case_index
  last_op (expr (pattern z)) = stop case_index
  last_op (expr (null c)) = stop case_index
  last_op (expr (variable a)) = stop case_index
  last_op (expr (operate2 o e f)) = stop case_index
  last_op (expr (conditional e f g)) = stop case_index
  last_op (expr (block_expr ds is e)) = stop case_index
  last_op (name a) = stop case_index

  module _ (Γ : List Around) (st : List Ty) (p : At) where
    simple-ends : {n : Node} → Simple n → ends_n gs n Γ st p ≡ (after (code_n gs n Γ st p) p).address ∷ ends_es gs (ops_of n) Γ st p
    unfolding below_s ends_es
    simple-ends (asserts e) = rw (append-nil _)
    simple-ends (calls a es) = refl
    simple-ends (levels e f) = rw (append-nil _)
    simple-ends (invokes a es) = refl
    simple-ends (fields a e) = rw (append-nil _)
    simple-ends (makes c es) = refl
    simple-ends (computes o e) = rw (append-nil _)
    simple-ends (faders e) = rw (append-nil _)

    simple-cursor : {n : Node} → Simple n → (cursor : Cursor) → cursor_after (code_n gs n Γ st p) cursor ≡ cursor_after (code_es gs (ops_of n) Γ st p ▸ (op (last_op n) ▸ nil)) cursor
    unfolding code_s cursor_after
    simple-cursor (asserts e) cursor = refl
    simple-cursor (calls a es) cursor = refl
    simple-cursor (levels e f) cursor = refl
    simple-cursor (invokes a es) cursor = refl
    simple-cursor (fields a e) cursor = refl
    simple-cursor (makes c es) cursor = refl
    simple-cursor (computes o e) cursor = refl
    simple-cursor (faders e) cursor = refl

    simple-emitted : {n : Node} → Simple n → (cursor : Cursor) (l : List ℕ) → emitted (code_n gs n Γ st p) cursor l ≡ emitted (code_es gs (ops_of n) Γ st p ▸ op (last_op n)) cursor l
    unfolding code_s cursor_after emitted
    simple-emitted (asserts e) cursor l = refl
    simple-emitted (calls a es) cursor l = refl
    simple-emitted (levels e f) cursor l = refl
    simple-emitted (invokes a es) cursor l = refl
    simple-emitted (fields a e) cursor l = refl
    simple-emitted (makes c es) cursor l = refl
    simple-emitted (computes o e) cursor l = refl
    simple-emitted (faders e) cursor l = refl

simple-flat : {n : Node} → Simple n → flat_n n ≡ head_f (form_n n) ∷ flat_es (ops_of n)
simple-flat (asserts e) = flat-N (stmt (assert e))
simple-flat (calls a es) = flat-N (stmt (call a es))
simple-flat (levels e f) = flat-N (stmt (set_level e f))
simple-flat (invokes a es) = flat-N (expr (invoke a es))
simple-flat (fields a e) = flat-N (expr (field a e))
simple-flat (makes c es) = flat-N (expr (make c es))
simple-flat (computes o e) = flat-N (expr (operate1 o e))
simple-flat (faders e) = flat-N (expr (fader e))

simple-cells : {n : Node} → Simple n → cells_of (head_f (form_n n)) ≡ 0
simple-cells (asserts e) = refl
simple-cells (calls a es) = refl
simple-cells (levels e f) = refl
simple-cells (invokes a es) = refl
simple-cells (fields a e) = refl
simple-cells (makes c es) = refl
simple-cells (computes o e) = refl
simple-cells (faders e) = refl

simple-room : {n : Node} → Simple n → room_n n ≡ length (flat_n n)
simple-room (asserts e) = refl
simple-room (calls a es) = refl
simple-room (levels e f) = refl
simple-room (invokes a es) = refl
simple-room (fields a e) = refl
simple-room (makes c es) = refl
simple-room (computes o e) = refl
simple-room (faders e) = refl

simple-deep : {n : Node} → Simple n → suc (deep_es (ops_of n)) ≤ deep_n n
unfolding measure_s
simple-deep (asserts e) = omega arith
simple-deep (calls a es) = omega arith
simple-deep (levels e f) = omega arith
simple-deep (invokes a es) = omega arith
simple-deep (fields a e) = omega arith
simple-deep (makes c es) = omega arith
simple-deep (computes o e) = omega arith
simple-deep (faders e) = omega arith

simple-good : (ss : List Scope) {n : Node} → Simple n → GoodN ss n → GoodEs ss (ops_of n)
unfolding GoodS
simple-good ss (asserts e) g = (g.0, tt)
simple-good ss (calls a es) g = g.0
simple-good ss (levels e f) g = (g.0, (g.2, tt))
simple-good ss (invokes a es) g = g.0
simple-good ss (fields a e) g = (g.0, tt)
simple-good ss (makes c es) g = g.0
simple-good ss (computes o e) g = (g.0, tt)
simple-good ss (faders e) g = (g.0, tt)

simple-holds : {n : Node} → Simple n → holds_es (ops_of n) ≤ holds_n n
unfolding measure_s
simple-holds (asserts e) = omega arith
simple-holds (calls a es) = omega arith
simple-holds (levels e f) = omega arith
simple-holds (invokes a es) = omega arith
simple-holds (fields a e) = omega arith
simple-holds (makes c es) = omega arith
simple-holds (computes o e) = omega arith
simple-holds (faders e) = omega arith

values-from : (d i : ℕ) (es : Exprs) → d + need_es i es ≤ 32 → ValuesEs (d + i) es
unfolding measure_s ValuesEs
values-from d i no_expr h = tt
values-from d i (more e es) h = let z : d + suc i ≡ suc (d + i) = omega arith in (omega arith, rw z at (values-from d (suc i) es (omega arith)))

values-all : (d : ℕ) (es : Exprs) → d + need_es 0 es ≤ 32 → ValuesEs d es
values-all d es h = rw (add-zero d) at (values-from d 0 es h)

simple-values : {n : Node} → Simple n → (d : ℕ) → d + need_n n ≤ 32 → ValuesEs d (ops_of n)
unfolding measure_s ValuesEs
simple-values (asserts e) d small = (small, tt)
simple-values (calls a es) d small = values-all d es small
simple-values (levels e f) d small = (omega arith, (omega arith, tt))
simple-values (invokes a es) d small = values-all d es small
simple-values (fields a e) d small = (small, tt)
simple-values (makes c es) d small = values-all d es small
simple-values (computes o e) d small = (small, tt)
simple-values (faders e) d small = (small, tt)

simple-count : {n : Node} → Simple n → (b : ℕ) → ((m : ℕ) → (head_f (form_n n)).b ≡ pos m → b ≡ m) → operands_by (head_f (form_n n)).kind b ≡ count_exprs (ops_of n)
unfolding operands_by count_exprs
simple-count (asserts e) w h = refl
simple-count (calls a es) w h = h _ refl
simple-count (levels e f) w h = refl
simple-count (invokes a es) w h = h _ refl
simple-count (fields a e) w h = refl
simple-count (makes c es) w h = h _ refl
simple-count (computes o e) w h = refl
simple-count (faders e) w h = refl

-- ── what is ready ──
module _ (n : Node) (hyp : IsSimple n) {W : Walk} {X : Place} {l part : List ℕ} {nesting at : ℕ} {sizes : List ℕ} {L : Lent} {top holds depth : ℕ}
    {cursor : Cursor} (r : Ready n W X l part nesting at sizes L top holds depth cursor) where
  simple-left : Fits (cursor_after (code_es W.globals (ops_of n) X.around X.types X.start ▸ (op (last_op W.globals n) ▸ nil)) cursor) (length L.out)
  simple-left = rw (simple-cursor W.globals X.around X.types X.start (simple-of n hyp) cursor) at r.fits

  pub simple-operands : (count : ℕ) → count ≡ operands_by (half_at part 0) (word_at part 4) → ReadyEs (ops_of n) W X l (below part 8) count (nesting - 1) (at + 1) sizes L top holds depth cursor
  simple-operands count c =
      let h = head-N n r.table r.laid.stands in
      let z : length (flat_n n) ≡ suc (length (flat_es (ops_of n))) = ap (length {A = Entry}) (simple-flat (simple-of n hyp)) in
      record {
        table = table-next r.table 8 1 refl;
        laid = laid-tail _ _ _ _ X.start (omega (arith, simple-cells (simple-of n hyp)))
            (rw (simple-flat (simple-of n hyp), simple-ends W.globals X.around X.types X.start (simple-of n hyp)) at r.laid);
        stood = r.stood;
        room = omega (arith, r.room, simple-room (simple-of n hyp), z);
        ending = omega (arith, r.ending, z);
        fits = fits-first _ _ cursor (length L.out) simple-left;
        deep = omega (arith, r.deep, simple-deep (simple-of n hyp));
        good = simple-good (scopes_of X.around) (simple-of n hyp) r.good;
        few-holds = omega (arith, r.few-holds, simple-holds (simple-of n hyp));
        few-values = simple-values (simple-of n hyp) depth r.few-values;
        many = c ∙ (rw h.kind (simple-count (simple-of n hyp) (word_at part 4) h.b));
      }

-- ── what is done ──
-- the type on top of the stack
typed-top : (st : List Ty) (t : Ty) (d : ℕ) (stack : List ℕ) → map ty_byte (reverse (t ∷ st)) ≡ take (d + 1) stack → d ≡ length st → d < length stack → get_or stack d 0 ≡ ty_byte t
typed-top st t d stack h e k =
    let z : suc d ≡ d + 1 = omega arith in
    let a : map ty_byte (reverse st) ++ (ty_byte t ∷ []) ≡ take d stack ++ (get_or stack d 0 ∷ []) = sym (map-append ty_byte (reverse st) (t ∷ []))
    ∙ (ap (map ty_byte) (sym (reverse-cons t st)) ∙ (h ∙ (ap (λ (n : ℕ). take n stack) (sym z) ∙ take-suc stack d 0 k))) in
    let n : length (map ty_byte (reverse st)) ≡ d = length-map ty_byte (reverse st) ∙ (length-reverse st ∙ sym e) in
    let m : length (take d stack) ≡ d = length-take-le d stack (omega arith) in
    sym (get_or_at (take d stack) (get_or stack d 0) [] 0 d m) ∙ (ap (λ (l : List ℕ). get_or l d 0) (sym a) ∙ get_or_at (map ty_byte (reverse st)) (ty_byte t) [] 0 d n)

unary-byte : (o : Unary) → unary_code o ≡ unary_code o % 256
unary-byte negate = refl
unary-byte absolute = refl
unary-byte complement = refl

complement-type : (t r : Ty) → logical_or_bits (λ v. v ∷ []) (t ∷ []) ≡ some r → t ≡ r
complement-type t r h = go (takes (logical ∷ []) logical (t ∷ [])) refl h
  where
    go : (x : Option Ty) → takes (logical ∷ []) logical (t ∷ []) ≡ x → or_else x (takes (bits ∷ []) bits (t ∷ [])) ≡ some r → t ≡ r
    go none e k = let q = took (bits ∷ []) (t ∷ []) bits r k in let a = q.0 in let b = q.1 in cc
    go (some y) e k = let q = took (logical ∷ []) (t ∷ []) logical y e in let a = q.0 in let b = q.1 in cc

unary_type : (gs : List Global) (o : Unary) (t r : Ty) (k : ℕ) → op_type (unary o) (t ∷ []) ≡ some r → last_type 48 (unary_code o) k (ty_byte (ty_in gs t)) ≡ ty_byte (ty_in gs r)
unfolding op_type last_type
unary_type gs negate t r k h = rw (took (integer ∷ []) (t ∷ []) integer r h).1
unary_type gs absolute t r k h = rw (took (integer ∷ []) (t ∷ []) integer r h).1
unary_type gs complement t r k h = ap (λ (x : Ty). ty_byte (ty_in gs x)) (complement-type t r h)

type-is : (gs : List Global) (Γ : List Around) (e : Expr) (t : Ty) → type_e (scopes_of Γ) e ≡ some t → ty_byte (ty_e gs Γ e) ≡ ty_byte (ty_in gs t)
type-is gs Γ e t h = ap (λ (x : Option Ty). ty_byte (ty_in gs (or_integer x))) h

module _ {W : Walk} {X : Place} {l part : List ℕ} {nesting at : ℕ} {sizes : List ℕ} {L : Lent} {top holds depth : ℕ} {cursor : Cursor} (k : ℕ)
    (known : k ≡ known_for (half_at part 0) (half_at part 2) (env_of L.env top) W.known) where
  -- the last instruction
  simple-wrote : {n : Node} → Simple n → Ready n W X l part nesting at sizes L top holds depth cursor → {o out : List ℕ} {p q : Cursor}
      → (q ≡ moved p) × (out ≡ emit_last (half_at part 0) (half_at part 2) k p o) → Wrote o out p q (op (last_op W.globals n))
  unfolding record_of emit_last names_by GoodS
  simple-wrote (asserts e) r j = let d = head-N (stmt (assert e)) r.table r.laid.stands in wrote-op assert_op 19 0 0 (rw d.kind at j) (λ z. refl)
  simple-wrote (calls a es) r j =
      let d = head-N (stmt (call a es)) r.table r.laid.stands in
      let m = meaning-of r.stood.sees r.stood.knows a (rw d.a at (half-small r.table)) _ _ r.good.1.1.1 in
      wrote-op (call_op (body_number W.globals a)) 10 0 (second_in k) (rw d.kind at j) (λ z. ap (λ (i : ℕ). rec 10 0 i) (sym (body-second m k (rw (d.kind, d.a) at known))))
  simple-wrote (levels e f) r j = let d = head-N (stmt (set_level e f)) r.table r.laid.stands in wrote-op set_op 15 0 0 (rw d.kind at j) (λ z. refl)
  simple-wrote (invokes a es) r j =
      let d = head-N (expr (invoke a es)) r.table r.laid.stands in
      let m = meaning-of r.stood.sees r.stood.knows a (rw d.a at (half-small r.table)) _ _ r.good.1.2.1 in
      wrote-op (call_op (body_number W.globals a)) 10 0 (second_in k) (rw d.kind at j) (λ z. ap (λ (i : ℕ). rec 10 0 i) (sym (body-second m k (rw (d.kind, d.a) at known))))
  simple-wrote (fields a e) r j =
      let d = head-N (expr (field a e)) r.table r.laid.stands in
      let m = meaning-of r.stood.sees r.stood.knows a (rw d.a at (half-small r.table)) _ _ r.good.1.2.1 in
      let e : k ≡ meaning_of a (env_of L.env top) W.known = rw (d.kind, d.a) at known in
      wrote-op (get_field (field_number W.globals a).class (field_number W.globals a).index) 13 (first_in k) (second_in k) (rw d.kind at j) (λ z. rw (field-first m k e, field-second m k e))
  simple-wrote (makes c es) r j =
      let d = head-N (expr (make c es)) r.table r.laid.stands in
      let m = meaning-of r.stood.sees r.stood.knows c (rw d.a at (half-small r.table)) _ _ r.good.1.1.1 in
      wrote-op (make_op (class_number W.globals c)) 12 (first_in k) 0 (rw d.kind at j) (λ z. ap (λ (i : ℕ). rec 12 i 0) (sym (class-first m k (rw (d.kind, d.a) at known))))
  simple-wrote (computes o e) r j =
      let d = head-N (expr (operate1 o e)) r.table r.laid.stands in
      wrote-op (operate (unary o)) 7 (unary_code o % 256) 0 (rw (d.kind, d.a) at j) (λ z. ap (λ (i : ℕ). rec 7 i 0) (unary-byte o))
  simple-wrote (faders e) r j = let d = head-N (expr (fader e)) r.table r.laid.stands in wrote-op read_fader 16 0 0 (rw d.kind at j) (λ z. refl)

  -- the type of the result; the first operand's stands on the stack
  simple-leaves : {n : Node} → Simple n → Ready n W X l part nesting at sizes L top holds depth cursor → (stack : List ℕ) → map ty_byte
      (reverse (pushed W.globals X.around (ops_of n) X.types)) ≡ take (depth + count_exprs (ops_of n)) stack
      → length stack ≡ length L.stack → (v : ℕ) → v ≡ last_type (half_at part 0) (half_at part 2) k (get_or stack depth 0) → LeavesN W.globals n X.around (set stack depth v) depth
  unfolding last_type names_by GoodS type_e pushed count_exprs measure_s
  simple-leaves (asserts e) r stack t s v g = tt
  simple-leaves (calls a es) r stack t s v g = tt
  simple-leaves (levels e f) r stack t s v g = tt
  simple-leaves (invokes a es) r stack t s v g =
      let d = head-N (expr (invoke a es)) r.table r.laid.stands in
      let m = meaning-of r.stood.sees r.stood.knows a (rw d.a at (half-small r.table)) _ _ r.good.1.2.1 in
      get_or-set_same stack depth v 0 (omega (arith, s, r.stood.stacked, r.few-values, need-E (invoke a es)))
      ∙ ((rw d.kind at g) ∙ (body-type m k (rw (d.kind, d.a) at known) ∙ rw r.good.1.2.1))
  simple-leaves (fields a e) r stack t s v g =
      let d = head-N (expr (field a e)) r.table r.laid.stands in
      let m = meaning-of r.stood.sees r.stood.knows a (rw d.a at (half-small r.table)) _ _ r.good.1.2.1 in
      get_or-set_same stack depth v 0 (omega (arith, s, r.stood.stacked, r.few-values, need-E (field a e)))
      ∙ ((rw d.kind at g) ∙ (field-type m k (rw (d.kind, d.a) at known) ∙ rw r.good.1.2.1))
  simple-leaves (makes c es) r stack t s v g =
      let d = head-N (expr (make c es)) r.table r.laid.stands in
      let m = meaning-of r.stood.sees r.stood.knows c (rw d.a at (half-small r.table)) _ _ r.good.1.1.1 in
      get_or-set_same stack depth v 0 (omega (arith, s, r.stood.stacked, r.few-values, need-E (make c es))) ∙ ((rw d.kind at g) ∙ class-type m k (rw (d.kind, d.a) at known))
  simple-leaves (computes o e) r stack t s v g =
      let d = head-N (expr (operate1 o e)) r.table r.laid.stands in
      let small : depth < length stack = omega (arith, s, r.stood.stacked, r.few-values, need-E (operate1 o e)) in
      let first = typed-top X.types (ty_e W.globals X.around e) depth stack t r.stood.deep small ∙ type-is W.globals X.around e r.good.1.0 r.good.1.2 in
      get_or-set_same stack depth v 0 small ∙ ((rw (d.kind, d.a, first) at g) ∙ (unary_type W.globals o r.good.1.0 r.good.1.1 k r.good.1.3 ∙ rw (r.good.1.2, r.good.1.3)))
  simple-leaves (faders e) r stack t s v g =
      let d = head-N (expr (fader e)) r.table r.laid.stands in
      get_or-set_same stack depth v 0 (omega (arith, s, r.stood.stacked, r.few-values, need-E (fader e))) ∙ (rw d.kind at g)

  module _ (n : Node) (hyp : IsSimple n) (r : Ready n W X l part nesting at sizes L top holds depth cursor) {M : Lent} {p : Cursor}
      (kept : Kept L M top depth) (d : DoneEs (ops_of n) W X (at + 1) L M depth cursor p) where
    simple-1 : Stage W l L top holds depth cursor at M (moved_to X (after (code_es W.globals (ops_of n) X.around X.types X.start) X.start))
        depth p (nil ▸ code_es W.globals (ops_of n) X.around X.types X.start) (op (last_op W.globals n) ▸ nil)
        ([] ++ ends_es W.globals (ops_of n) X.around X.types X.start)
    simple-1 =
        stage-part (code_es W.globals (ops_of n) X.around X.types X.start) (op (last_op W.globals n) ▸ nil)
        (ends_es W.globals (ops_of n) X.around X.types X.start) (stage-start at _ r.stood (simple-left n hyp r)) (at + 1) kept d.wrote
        d.ended (omega arith)

    pub simple-fits : Fits (moved p) (length M.out)
    simple-fits = stage-fits-op (last_op W.globals n) nil simple-1

    module _ {out : List ℕ} {q : Cursor} (j : (q ≡ moved p) × (out ≡ emit_last (half_at part 0) (half_at part 2) k p M.out)) where
      simple-2 : Finished L cursor at out M.ends q ((nil ▸ code_es W.globals (ops_of n) X.around X.types X.start)
          ▸ op (last_op W.globals n)) ([] ++ ends_es W.globals (ops_of n) X.around X.types X.start)
      unfolding cursor_after
      simple-2 =
          let w = simple-wrote (simple-of n hyp) r j in
          record { wrote = wrote_then simple-1.wrote w; ended = simple-1.ended; small = (fits-rest (op (last_op W.globals n)) nil w simple-1.fits).address-small }

      pub simple-small : q.address < 65536
      simple-small = simple-2.small

      pub simple-done : (v : ℕ) → v ≡ last_type (half_at part 0) (half_at part 2) k (get_or M.stack depth 0) → {ends : List ℕ} → ends ≡ set M.ends at q.address
          → Done n W X at L (lent M.env ends (set M.stack depth v) out) depth cursor q
      unfolding cursor_after emitted
      simple-done v t f =
          finished-done n X simple-2 r.stood.address (sym (simple-cursor W.globals X.around X.types X.start (simple-of n hyp) cursor))
          (sym (simple-emitted W.globals X.around X.types X.start (simple-of n hyp) cursor L.out))
          (simple-ends W.globals X.around X.types X.start (simple-of n hyp)) f M.env (set M.stack depth v)
          (simple-leaves (simple-of n hyp) r M.stack d.typed kept.same-stack v t)
