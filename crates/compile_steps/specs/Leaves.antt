-- Entries with nothing below them: expressions, labels, gotos.
use Rattle.std.specs.Prelude.{◌≡◌, Bool, true, false, List, [], ◌∷◌, ◌++◌, ℕ, zero, suc, ◌+◌, ◌*◌, ◌≤◌, ◌<◌, length, get_or, take, set}
use Rattle.std.proofs.Math.Path.{refl, ap, sym}
use Rattle.std.proofs.Common.{◌∙◌, subst, arith, get_or-set_same}
use Rattle.std.proofs.Math.Option.{none}
use Rattle.bytecode.specs.Words.{value_word}
use Rattle.language.specs.Measure.{measure_s}
use Rattle.language.specs.Program.{flag, flat_e}
use Rattle.logic.specs.Choice.{If◌then◌else◌}
use Rattle.words.specs.Numbers.{half_at, word_at, word_of}
use Rattle.words.specs.Laws.{four, number-below, word_back}
use Rattle.values.specs.Types.{Ty, ty_byte, reference}
use Rattle.values.specs.Values.{int, log, bit, ref}
use Rattle.bytecode.specs.Instructions.{Instr, push, go, let_hold}
use Rattle.language.specs.Tree.{goto, number, truth, pattern, null, variable, invoke}
use Rattle.language.specs.Tree.{field, make, operate1, operate2, conditional, fader, block_expr, Global}
use Rattle.language.specs.Table.{Entry}
use Rattle.language.specs.Faults.{type_e}
use Rattle.language.specs.Names.{is_variable, is_label, Scope, nowhere, found, lookup}
use Rattle.language.specs.Names as names
use Rattle.language_laws.specs.Claims.{entries_of}
use Rattle.table_scopes.specs.Environment.{Item, Found, Nothing, Def, env_of, find}
use Rattle.table_entries.specs.Entries.{half-part, word-part}
use Rattle.table_entries.specs.Stands.{Stands, fields}
use Rattle.table_scopes.specs.Defines.{name-small}
use Rattle.table_scopes.specs.Sees.{Agrees, Sees}
use Rattle.table_forms.specs.Walk.{Table}
use Rattle.compile_code.specs.Code.{Code, nil, op, mark, ◌▸◌, after}
use Rattle.compile_code.specs.Compile.{Around, inside, outermost, bound, global, held, labels, scopes_of, passing, the_labels, has_label, size_goto, label_at, code_goto, code_s}
use Rattle.compile_code.specs.Compile.{code_e, ty_e, ty_in, loading, cell_of, class_number}
use Rattle.compile_code.specs.Compile as compile
use Rattle.compile_code.specs.Encode.{rec, record_of}
use Rattle.compile_names.specs.Good.{VariableAt, GoodS, GoodE}
use Rattle.compile_names.specs.Known.{nothing}
use Rattle.compile_symbols.specs.Numbers.{first_in, second_in}
use Rattle.compile_symbols.specs.Meaning.{meaning_of, known_of}
use Rattle.compile_output.specs.declared.Cursor.{Cursor}
use Rattle.compile_output.specs.EmitRecord.{Fits, moved, cursor_shaped, emit_op, emit_shape}
use Rattle.compile_output.specs.EmitCode.{cursor_after, emitted, lets, emitted-op, grows}
use Rattle.compile_nodes.specs.Knows.{Walk, MeansLabel, passed_to, target_of}
use Rattle.compile_nodes.specs.Ends.{below_s, below_e}
use Rattle.compile_nodes.specs.Ready.{Node, stmt, expr, name, code_n, ends_n, LeavesN, Place, Lent, Wrote, Ready, Done}
use Rattle.compile_emit.specs.EmitEntry.{names as names_by, known_for, owner_by, emit_leaf, leaf_type, cursor_goto, emit_goto}
use Rattle.compile_steps.specs.Parts.{lent, head-N, wrote-length, kept_out, moved_to}
use Rattle.compile_steps.specs.Stages.{Stage, stage-start, stage-fits-mark, stage-op, stage-mark, stage-part, stage-done}
use Rattle.compile_steps.specs.Named.{meaning-of, variable-meaning, variable-type, variable-load, class-type, class-first}
use Rattle.compile_steps.specs.Views.{IsLeaf}

-- the numbers of an entry
pub half-small : {l part sizes : List ℕ} {at : ℕ} → Table l part sizes at → half_at part 2 < 65536
half-small {l} {part} {sizes} {at} t = rw (t.whole, half-part l (8 * at) 2) (name-small t.legible at)

pub word-here : {l part sizes : List ℕ} {at : ℕ} (e : Entry) (us : List Entry) → Table l part sizes at → Stands (entries_of l) at (e ∷ us) → word_at part 4 ≡ word_of e.b
word-here {l} {part} {sizes} {at} e us t s =
    let f = fields l at e us s in
    rw (t.whole, word-part l (8 * at) 4) (sym (word_back (word_at l (8 * at + 4)) (number-below l t.legible.bytes (8 * at + 4) four)) ∙ ap word_of f.b)

truth-word : (b : Bool) → value_word (log b) ≡ word_of (flag b)
truth-word true = refl
truth-word false = refl

variable-ty : (gs : List Global) (Γ : List Around) (a : ℕ) (t : Ty) → VariableAt a (scopes_of Γ) t → ty_byte (ty_e gs Γ (variable a)) ≡ ty_byte (ty_in gs t)
unfolding type_e
variable-ty gs Γ a t h = rw (h.2.1, h.1)

-- ── one instruction ──
module _ {W : Walk} {X : Place} {l part : List ℕ} {nesting at : ℕ} {sizes : List ℕ} {L : Lent} {top holds depth : ℕ} {cursor : Cursor} where
  leaf-step : (n : Node) (i : Instr) → Ready n W X l part nesting at sizes L top holds depth cursor → code_n W.globals n X.around X.types X.start ≡ op i
      → ends_n W.globals n X.around X.types X.start ≡ (after (code_n W.globals n X.around X.types X.start) X.start).address ∷ []
      → {out : List ℕ} {q : Cursor} (k a b : ℕ) → (q ≡ moved cursor) × (out ≡ emit_op cursor L.out k a b) → (W.dry ≡ false → record_of i ≡ rec k a b)
      → {ends : List ℕ} → ends ≡ set L.ends at q.address → (stack : List ℕ) → LeavesN W.globals n X.around stack depth → Done n W X at L (lent L.env ends stack out) depth cursor q
  unfolding cursor_after emitted
  leaf-step n i r c g k a b j same f stack leaves =
      let s = stage-op i nil (stage-start at (op i ▸ nil) r.stood (rw c at r.fits)) k a b j same in
      stage-done n X s r.stood.address (ap (λ (x : Code). cursor_after x cursor) (sym c)) (ap (λ (x : Code). emitted x cursor L.out) (sym c)) g f stack leaves

  pub leaf-fits : (n : Node) → IsLeaf n → Ready n W X l part nesting at sizes L top holds depth cursor → Fits (moved cursor) (length L.out)
  unfolding code_e cursor_after
  leaf-fits (expr (number z)) h r = r.fits
  leaf-fits (expr (truth b)) h r = r.fits
  leaf-fits (expr (pattern z)) h r = r.fits
  leaf-fits (expr (null c)) h r = r.fits
  leaf-fits (expr (variable a)) h r = r.fits
  leaf-fits (stmt s) h ready = absurd h
  leaf-fits (expr (invoke a es)) h ready = absurd h
  leaf-fits (expr (field a e)) h ready = absurd h
  leaf-fits (expr (make c es)) h ready = absurd h
  leaf-fits (expr (operate1 o e)) h ready = absurd h
  leaf-fits (expr (operate2 o e f)) h ready = absurd h
  leaf-fits (expr (conditional e f g)) h ready = absurd h
  leaf-fits (expr (fader e)) h ready = absurd h
  leaf-fits (expr (block_expr ds is e)) h ready = absurd h
  leaf-fits (name a) h ready = absurd h

  module _ {out : List ℕ} {q : Cursor} (k v : ℕ) (known : k ≡ known_for (half_at part 0) (half_at part 2) (env_of L.env top) W.known) (type : v ≡ leaf_type (half_at part 0) k)
      (j : (q ≡ moved cursor) × (out ≡ emit_leaf (half_at part 0) (word_at part 4) k cursor L.out)) {ends : List ℕ} (f : ends ≡ set L.ends at q.address) where
    put : (n : Node) → Ready n W X l part nesting at sizes L top holds depth cursor → (w : ℕ) → w ≡ v → depth < 32 → get_or (set L.stack depth v) depth 0 ≡ w
    put n r w e small = get_or-set_same L.stack depth v 0 (omega (arith, r.stood.stacked)) ∙ sym e

    pub leaf-done : (n : Node) → IsLeaf n → Ready n W X l part nesting at sizes L top holds depth cursor → Done n W X at L (lent L.env ends (set L.stack depth v) out) depth cursor q
    unfolding code_e below_e type_e record_of emit_leaf leaf_type names_by flat_e measure_s GoodE
    leaf-done (expr (number z)) h r =
        let d = head-N (expr (number z)) r.table r.laid.stands in
        leaf-step (expr (number z)) (push (int z)) r refl refl 1 0 (word_at part 4) (rw d.kind at j) (λ dry. ap (λ (n : ℕ). rec 1 0 n) (sym (word-here _ _ r.table r.laid.stands))) f _
        (put (expr (number z)) r 1 (sym (rw d.kind at type)) (omega (arith, r.few-values)))
    leaf-done (expr (truth b)) h r =
        let d = head-N (expr (truth b)) r.table r.laid.stands in
        leaf-step (expr (truth b)) (push (log b)) r refl refl 2 0 (word_at part 4) (rw d.kind at j)
        (λ dry. ap (λ (n : ℕ). rec 2 0 n) (truth-word b ∙ sym (word-here _ _ r.table r.laid.stands))) f _
        (put (expr (truth b)) r 2 (sym (rw d.kind at type)) (omega (arith, r.few-values)))
    leaf-done (expr (pattern z)) h r =
        let d = head-N (expr (pattern z)) r.table r.laid.stands in
        leaf-step (expr (pattern z)) (push (bit (word_of z))) r refl refl 3 0 (word_at part 4) (rw d.kind at j)
        (λ dry. ap (λ (n : ℕ). rec 3 0 n) (sym (word-here _ _ r.table r.laid.stands))) f _
        (put (expr (pattern z)) r 3 (sym (rw d.kind at type)) (omega (arith, r.few-values)))
    leaf-done (expr (null c)) h r =
        let d = head-N (expr (null c)) r.table r.laid.stands in
        let e : k ≡ meaning_of c (env_of L.env top) W.known = rw (d.kind, d.a) at known in
        let m = meaning-of r.stood.sees r.stood.knows c (rw d.a at (half-small r.table)) _ _ r.good.1.1 in
        leaf-step (expr (null c)) (push (ref (class_number W.globals c) none)) r refl refl 4 (first_in k) 0 (rw d.kind at j) (λ dry. ap (λ (n : ℕ). rec 4 n 0) (sym (class-first m k e))) f _
        (put (expr (null c)) r (ty_byte (ty_in W.globals (reference c))) (sym (class-type m k e) ∙ sym (rw d.kind at type)) (omega (arith, r.few-values)))
    leaf-done (expr (variable a)) h r =
        let d = head-N (expr (variable a)) r.table r.laid.stands in
        let e : k ≡ meaning_of a (env_of L.env top) W.known = rw (d.kind, d.a) at known in
        let m = variable-meaning r.good.1.0 r.good.0 r.good.1.1
        (meaning-of r.stood.sees r.stood.knows a (rw d.a at (half-small r.table)) _ _ r.good.1.2.1) in
        leaf-step (expr (variable a)) (loading (cell_of a X.around)) r refl refl 5 (owner_by cursor.inside k) (second_in k) (rw d.kind at j)
        (λ dry. variable-load m k e cursor.inside r.stood.inside) f _
        (put (expr (variable a)) r (ty_byte (ty_e W.globals X.around (variable a)))
        (variable-ty W.globals X.around a r.good.0 r.good.1
        ∙ (sym (variable-type m k e) ∙ sym (rw d.kind at type))) (omega (arith, r.few-values)))
    leaf-done (stmt s) h ready = absurd h
    leaf-done (expr (invoke a es)) h ready = absurd h
    leaf-done (expr (field a e)) h ready = absurd h
    leaf-done (expr (make c es)) h ready = absurd h
    leaf-done (expr (operate1 o e)) h ready = absurd h
    leaf-done (expr (operate2 o e f)) h ready = absurd h
    leaf-done (expr (conditional e f g)) h ready = absurd h
    leaf-done (expr (fader e)) h ready = absurd h
    leaf-done (expr (block_expr ds is e)) h ready = absurd h
    leaf-done (name a) h ready = absurd h

-- ── a label ──
module _ (a : ℕ) {W : Walk} {X : Place} {l part : List ℕ} {nesting at : ℕ} {sizes : List ℕ} {L : Lent} {top holds depth : ℕ} {cursor : Cursor}
    (r : Ready (name a) W X l part nesting at sizes L top holds depth cursor) where
  label-start : Stage W l L top holds depth cursor at L X depth cursor nil (mark (compile.found X.around X.types) ▸ nil) []
  unfolding cursor_after
  label-start = stage-start at _ r.stood r.fits

  pub label-fits : Fits (cursor_shaped depth cursor) (length L.out)
  label-fits = stage-fits-mark nil label-start

  module _ {out : List ℕ} {q : Cursor} (j : (q ≡ cursor_shaped depth cursor) × (out ≡ emit_shape cursor L.out holds depth (take depth L.stack))) where
    pub label_small : q.address < 65536
    unfolding cursor_after
    label_small = (stage-mark nil label-start j).fits.address-small

    pub label-done : {ends : List ℕ} → ends ≡ set L.ends at q.address → Done (name a) W X at L (lent L.env ends L.stack out) depth cursor q
    unfolding cursor_after emitted after
    label-done f = stage-done (name a) X (stage-mark nil label-start j) r.stood.address refl refl refl f L.stack tt

-- ── a goto: its releases, and the jump ──
size-one : (Θ : List compile.Passing) (a : ℕ) → 1 ≤ size_goto Θ a
unfolding size_goto
size-one [] a = omega arith
size-one (compile.a_hold ∷ Θ) a = omega arith
size-one (the_labels is ∷ Θ) a = by (has_label a is) (size-one Θ a)
  where
    by : (b : Bool) → 1 ≤ size_goto Θ a → 1 ≤ (If b then 1 else size_goto Θ a)
    by true h = omega arith
    by false h = h

goto-cursor : (Γ : List Around) (a n : ℕ) (p : Cursor) → suc n ≡ size_goto (passing Γ) a → cursor_after (code_goto Γ a) p ≡ moved (cursor_after (lets n) p)
unfolding cursor_after code_goto size_goto passing lets
goto-cursor [] a zero p h = refl
goto-cursor [] a (suc n) p h = absurd (omega arith)
goto-cursor (inside s ∷ Γ) a n p h = goto-cursor Γ a n p h
goto-cursor (outermost s ∷ Γ) a n p h = goto-cursor Γ a n p h
goto-cursor (bound b c ∷ Γ) a n p h = goto-cursor Γ a n p h
goto-cursor (global o b c ∷ Γ) a n p h = goto-cursor Γ a n p h
goto-cursor (held g ∷ Γ) a zero p h = absurd (omega (arith, size-one (passing Γ) a))
goto-cursor (held g ∷ Γ) a (suc n) p h = goto-cursor Γ a n (moved p) (omega arith)
goto-cursor (labels is x ∷ Γ) a n p h = by (has_label a is) n h (λ m k. goto-cursor Γ a m p k)
  where
    by : (b : Bool) (n : ℕ) → suc n ≡ (If b then 1 else size_goto (passing Γ) a) → ((m : ℕ) → suc m ≡ size_goto (passing Γ) a → cursor_after (code_goto Γ a) p ≡ moved (cursor_after (lets m) p))
        → cursor_after (If b then op (go (label_at is (scopes_of Γ) (the_labels is ∷ passing Γ) x a)) else code_goto Γ a) p ≡ moved (cursor_after (lets n) p)
    by true zero h f = refl
    by true (suc n) h f = absurd (omega arith)
    by false n h f = f n h

goto-emitted : (Γ : List Around) (a n : ℕ) (p : Cursor) (l : List ℕ) → suc n ≡ size_goto (passing Γ) a
    → emitted (code_goto Γ a) p l ≡ emitted (op (go (target_of Γ a))) (cursor_after (lets n) p) (emitted (lets n) p l)
unfolding cursor_after emitted code_goto size_goto passing lets target_of
goto-emitted [] a zero p l h = refl
goto-emitted [] a (suc n) p l h = absurd (omega arith)
goto-emitted (inside s ∷ Γ) a n p l h = goto-emitted Γ a n p l h
goto-emitted (outermost s ∷ Γ) a n p l h = goto-emitted Γ a n p l h
goto-emitted (bound b c ∷ Γ) a n p l h = goto-emitted Γ a n p l h
goto-emitted (global o b c ∷ Γ) a n p l h = goto-emitted Γ a n p l h
goto-emitted (held g ∷ Γ) a zero p l h = absurd (omega (arith, size-one (passing Γ) a))
goto-emitted (held g ∷ Γ) a (suc n) p l h = goto-emitted Γ a n (moved p) (emitted (op let_hold) p l) (omega arith)
goto-emitted (labels is x ∷ Γ) a n p l h = by (has_label a is) n h (λ m k. goto-emitted Γ a m p l k)
  where
    by : (b : Bool) (n : ℕ) → suc n ≡ (If b then 1 else size_goto (passing Γ) a)
        → ((m : ℕ) → suc m ≡ size_goto (passing Γ) a → emitted (code_goto Γ a) p l ≡ emitted (op (go (target_of Γ a))) (cursor_after (lets m) p) (emitted (lets m) p l))
        → emitted (If b then op (go (label_at is (scopes_of Γ) (the_labels is ∷ passing Γ) x a)) else code_goto Γ a) p l
        ≡ emitted (op (go (If b then label_at is (scopes_of Γ) (the_labels is ∷ passing Γ) x a else target_of Γ a))) (cursor_after (lets n) p) (emitted (lets n) p l)
    by true zero h f = refl
    by true (suc n) h f = absurd (omega arith)
    by false n h f = f n h

pub record LabelAt (v : List Item) (a : ℕ) : Type 0 where
  pub number : ℕ
  pub place : ℕ
  pub finds : find a v ≡ Def 5 number place false

label-at : {l : List ℕ} {v : List Item} {ss : List Scope} → Sees l v ss → (a : ℕ) → a < 65536 → lookup a ss ≡ found is_label false → LabelAt v a
label-at {l} {v} {ss} see a small e = by (find a v) refl (lookup a ss) e (see.sees a small)
  where
    by : (f : Found) → find a v ≡ f → (x : names.Found) → x ≡ found is_label false → Agrees l f x → LabelAt v a
    by Nothing h nowhere z g = nothing is_label false z
    by Nothing h (found t u) z g = absurd g
    by (Def t n q u) h nowhere z g = absurd g
    by (Def t n q u) h (found is_label r) z g = let y : r ≡ false = cc in record { number = n; place = q; finds = h ∙ rw (g.1, g.0, y) }
    by (Def t n q u) h (found (is_variable i) r) z g = let y : ◌≡◌ {A = ℕ} 0 1 = cc in absurd (omega arith)
    by (Def t n q u) h (found (names.is_class i) r) z g = let y : ◌≡◌ {A = ℕ} 0 1 = cc in absurd (omega arith)
    by (Def t n q u) h (found (names.is_field c i) r) z g = let y : ◌≡◌ {A = ℕ} 0 1 = cc in absurd (omega arith)
    by (Def t n q u) h (found (names.is_procedure i j) r) z g = let y : ◌≡◌ {A = ℕ} 0 1 = cc in absurd (omega arith)
    by (Def t n q u) h (found names.is_control r) z g = let y : ◌≡◌ {A = ℕ} 0 1 = cc in absurd (omega arith)

module _ (a : ℕ) {W : Walk} {X : Place} {l part : List ℕ} {nesting at : ℕ} {sizes : List ℕ} {L : Lent} {top holds depth : ℕ} {cursor : Cursor}
    (r : Ready (stmt (goto a)) W X l part nesting at sizes L top holds depth cursor) where
  goto-name : half_at part 2 ≡ a
  goto-name = (head-N (stmt (goto a)) r.table r.laid.stands).a

  goto-small : a < 65536
  goto-small = rw goto-name at (half-small r.table)

  goto-label : LabelAt (env_of L.env top) a
  unfolding GoodS
  goto-label = label-at r.stood.sees a goto-small r.good

  goto-means : MeansLabel W (env_of L.env top) X.around a goto-label.place
  goto-means = r.lands.lands a goto-label.number goto-label.place goto-small goto-label.finds

  goto-start : Stage W l L top holds depth cursor at L X depth cursor nil (code_goto X.around a ▸ (mark (compile.found X.around X.types) ▸ nil)) []
  unfolding code_s cursor_after
  goto-start = stage-start at _ r.stood r.fits

  pub goto-fits : Fits (cursor_goto (passed_to (half_at part 2) (env_of L.env top)) depth cursor) (length L.out)
  unfolding cursor_after
  goto-fits =
      let f : Fits (cursor_shaped depth (cursor_after (code_goto X.around a) cursor)) (length L.out) = rw r.stood.deep goto-start.fits in
      rw goto-name (subst (λ (t : Cursor). Fits (cursor_shaped depth t) (length L.out)) (goto-cursor X.around a (passed_to a (env_of L.env top)) cursor goto-means.passed) f)

  module _ {out : List ℕ} {q : Cursor} (j : (q ≡ cursor_goto (passed_to (half_at part 2) (env_of L.env top)) depth cursor)
      × (out ≡ emit_goto (passed_to (half_at part 2) (env_of L.env top)) (meaning_of (half_at part 2) (env_of L.env top) W.aims) holds L.stack depth cursor L.out)) where
    abbrev goto-n : ℕ
    goto-n = passed_to a (env_of L.env top)

    abbrev goto-out : List ℕ
    goto-out = emit_op (cursor_after (lets goto-n) cursor) (emitted (lets goto-n) cursor L.out) 8 0 (meaning_of a (env_of L.env top) W.aims)

    goto-target : W.dry ≡ false → record_of (go (target_of X.around a)) ≡ rec 8 0 (meaning_of a (env_of L.env top) W.aims)
    unfolding record_of
    goto-target dry = ap (λ (t : ℕ). rec 8 0 t) (sym (ap (known_of W.aims) goto-label.finds ∙ goto-means.aimed dry))

    goto-wrote : Wrote L.out goto-out cursor (moved (cursor_after (lets goto-n) cursor)) (code_goto X.around a)
    goto-wrote =
        record {
          advanced = sym (goto-cursor X.around a goto-n cursor goto-means.passed);
          written =
              emitted-op (go (target_of X.around a)) 8 0 (meaning_of a (env_of L.env top) W.aims) (cursor_after (lets goto-n) cursor)
              (λ dry. goto-target (sym r.stood.dryness ∙ (sym (grows (lets goto-n) cursor).same-dry ∙ dry))) (emitted (lets goto-n) cursor L.out)
              ∙ sym (goto-emitted X.around a goto-n cursor L.out goto-means.passed);
        }

    goto-1 : Stage W l L top holds depth cursor at (lent L.env L.ends L.stack goto-out)
        (moved_to X (after (code_goto X.around a) X.start)) depth (moved (cursor_after (lets goto-n) cursor)) (nil ▸ code_goto X.around a)
        (mark (compile.found X.around X.types) ▸ nil) ([] ++ [])
    goto-1 =
        stage-part (code_goto X.around a) (mark (compile.found X.around X.types) ▸ nil) [] goto-start (at + 1)
        (kept_out L goto-out (wrote-length goto-wrote)) goto-wrote refl (omega arith)

    goto-2 : Stage W l L top holds depth cursor at (lent L.env L.ends L.stack out)
        (moved_to X (after (code_goto X.around a) X.start)) depth q ((nil ▸ code_goto X.around a) ▸ mark (compile.found X.around X.types)) nil ([] ++ [])
    goto-2 = stage-mark nil goto-1 (rw goto-name at j)

    pub goto-end : q.address < 65536
    unfolding cursor_after
    goto-end = goto-2.fits.address-small

    pub goto-done : {ends : List ℕ} → ends ≡ set L.ends at q.address → Done (stmt (goto a)) W X at L (lent L.env ends L.stack out) depth cursor q
    unfolding code_s cursor_after emitted below_s
    goto-done f = stage-done (stmt (goto a)) X goto-2 r.stood.address refl refl refl f L.stack tt
