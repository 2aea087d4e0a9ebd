-- Expressions one after the other, and labels and statements one after the other: the loops' invariants and their steps.
use Rattle.std.specs.Prelude.{◌≡◌, refl, List, [], ◌∷◌, ◌++◌, ℕ, suc, ◌+◌, ◌-◌, ◌*◌, ◌≤◌, ◌<◌, pos, get_or}
use Rattle.std.proofs.Math.Path.{sym}
use Rattle.std.proofs.Common.{◌∙◌, add-zero, length-append}
use native.Mathlib.Omega.{arith}
use Rattle.std.proofs.Math.Nat.{sub-zero}
use Rattle.std.proofs.Math.ListN.{length}
use Rattle.std.proofs.lemmas.List.Edits.{sets}
use Rattle.language.specs.Measure.{measure_s}
use Rattle.language.specs.Program.{flat_s, flat_items, flat_e, flat_es}
use Rattle.values.specs.Types.{Ty}
use Rattle.language.specs.Tree.{Items, no_item, label, item, Expr, Exprs, no_expr, count_items, count_exprs}
use Rattle.language.specs.Tree.{expr as more}
use Rattle.language.specs.Table.{entry}
use Rattle.table_forms.specs.Part.{Passes, table-next}
use Rattle.table_scopes.specs.Defines.{bulk}
use Rattle.table_scopes.specs.Trees.{length-S}
use Rattle.compile_code.specs.Code.{mark, ◌▸◌, At, after}
use Rattle.compile_code.specs.Compile.{found, code_s, code_e, code_es, code_items, ty_e}
use Rattle.compile_names.specs.Good.{GoodEs, GoodItems}
use Rattle.words.specs.Laws.{sets-append}
use Rattle.compile_symbols.specs.Numbers.{cells_within}
use Rattle.compile_output.specs.declared.Cursor.{Cursor}
use Rattle.compile_output.specs.EmitCode.{cursor_after, emitted}
use Rattle.compile_nodes.specs.Knows.{Walk}
use Rattle.compile_nodes.specs.Ends.{ends_s, ends_e, ends_items, ends_es}
use Rattle.compile_nodes.specs.Ready.{Node, stmt, expr, name, flat_n, code_n, ends_n, Place, Lent, Kept, Ready, Done, Asks, Answers, pushed, ValuesEs, ReadyEs, DoneEs, AsksEs, AnswersEs, ReadyItems}
use Rattle.compile_nodes.specs.Ready.{DoneItems, AsksItems, AnswersItems}
use Rattle.compile_steps.specs.Parts.{below, laid-left, laid-right, size-N, passes-N, kept_self, kept_then, kept_less, wrote-later, wrote-address, fits-rest, fits-first, moved_to, held_on}
use Rattle.compile_steps.specs.Parts.{stood-next, stood-push, need-E, need-items}
use Rattle.compile_steps.specs.Cells.{cell-E, cell-S, length-ends_e, length-ends_s}
use Rattle.compile_steps.specs.Views.{IsExpr, IsStmt}

-- ── expressions one after the other ──
-- what is left after i of them: done with it, all is done
pub record Going (es : Exprs) (W : Walk) (X : Place) (l rest : List ℕ) (count nesting at : ℕ) (sizes : List ℕ) (L M : Lent) (top holds depth : ℕ) (cursor p : Cursor) (place i : ℕ) : Type 0 where
  pub left : Exprs
  pub types : List Ty
  pub start : At
  pub ready : ReadyEs left W (record { around = X.around; types = types; start = start }) l rest (count - i) nesting place sizes M top holds (depth + i) p
  pub cursors : cursor_after (code_es W.globals es X.around X.types X.start) cursor ≡ cursor_after (code_es W.globals left X.around types start) p
  pub emits : emitted (code_es W.globals es X.around X.types X.start) cursor L.out ≡ emitted (code_es W.globals left X.around types start) p M.out
  pub ends : sets L.ends at (ends_es W.globals es X.around X.types X.start) ≡ sets M.ends place (ends_es W.globals left X.around types start)
  pub stack : pushed W.globals X.around es X.types ≡ pushed W.globals X.around left types
  pub many : count_exprs es ≡ i + count_exprs left

pub record EsSoFar (known aims l part : List ℕ) (count nesting at : ℕ) (sizes : List ℕ) (L : Lent) (top holds depth : ℕ) (cursor : Cursor) (M : Lent)
    (rest : List ℕ) (place i : ℕ) (p : Cursor) : Type 0 where
  pub kept : Kept L M top depth
  pub most : i ≤ count
  pub goes : (es : Exprs) (W : Walk) (X : Place) → W.known ≡ known → W.aims ≡ aims
      → ReadyEs es W X l part count nesting at sizes L top holds depth cursor → Going es W X l rest count nesting at sizes L M top holds depth cursor p place i

pub es-start : (known aims l part : List ℕ) (count nesting at : ℕ) (sizes : List ℕ) (L : Lent) (top holds depth : ℕ) (cursor : Cursor)
    → EsSoFar known aims l part count nesting at sizes L top holds depth cursor L part at 0 cursor
es-start known aims l part count nesting at sizes L top holds depth cursor =
    record {
      kept = kept_self L;
      most = omega arith;
      goes =
          λ es W X sk sa r. record {
            left = es;
            types = X.types;
            start = X.start;
            ready = rw (sub-zero count, add-zero depth) r;
            cursors = refl;
            emits = refl;
            ends = refl;
            stack = refl;
            many = omega arith;
          };
    }

-- the next expression
pub record NextE (left : Exprs) (W : Walk) (Y : Place) (l rest : List ℕ) (nesting place : ℕ) (sizes : List ℕ) (M : Lent) (top holds d : ℕ) (p : Cursor) : Type 0 where
  pub this : Expr
  pub later : Exprs
  pub is : left ≡ more this later
  pub ready : Ready (expr this) W Y l rest nesting place sizes M top holds d p

next-e : (left : Exprs) {W : Walk} {Y : Place} {l rest : List ℕ} {n nesting place : ℕ} {sizes : List ℕ} {M : Lent} {top holds d : ℕ} {p : Cursor}
    → ReadyEs left W Y l rest n nesting place sizes M top holds d p → 0 < n
    → NextE left W Y l rest nesting place sizes M top holds d p
unfolding count_exprs flat_es ends_es code_es measure_s GoodEs ValuesEs
next-e no_expr r h = absurd (omega (arith, r.many))
next-e (more e es) {W} {Y} {M = M} {p = p} r h =
    record {
      this = e;
      later = es;
      is = refl;
      ready = record {
        table = r.table;
        laid = laid-left (flat_e e) (flat_es es) _ _ r.laid;
        stood = r.stood;
        room = omega (arith, r.room, length-append (flat_e e) (flat_es es));
        ending = omega (arith, r.ending, length-append (flat_e e) (flat_es es));
        fits = fits-first _ _ p (length M.out) r.fits;
        deep = omega (arith, r.deep);
        good = r.good.0;
        lands = tt;
        few-holds = omega (arith, r.few-holds);
        few-values = r.few-values.0;
      };
    }

es-moves : (e : Expr) (es : Exprs) {W : Walk} {Y : Place} {l rest : List ℕ} {n nesting place : ℕ} {sizes : List ℕ} {M N : Lent} {top holds d : ℕ}
    {p q : Cursor} → ReadyEs (more e es) W Y l rest n nesting place sizes M top holds d p
    → Kept M N top d → Done (expr e) W Y place M N d p q → (m : ℕ) → m ≡ length (flat_e e)
    → ReadyEs es W (held_on (ty_e W.globals Y.around e) Y (after (code_e W.globals e Y.around Y.types Y.start) Y.start)) l
    (below rest (8 * m)) (n - 1) nesting (place + m) sizes N top holds (d + 1) q
unfolding count_exprs flat_es ends_es code_es measure_s GoodEs ValuesEs
es-moves e es {W} {Y} {place = place} {M = M} {N} {d = d} {p} {q} r k h m size =
    let x = code_e W.globals e Y.around Y.types Y.start in
    let s = after x Y.start in
    let z : suc d ≡ d + 1 = omega arith in
    record {
      table = table-next r.table (8 * m) m refl;
      laid =
          rw size (laid-right (flat_e e) (flat_es es) (ends_e W.globals e Y.around Y.types Y.start) _ s
          (length-ends_e W.globals e Y.around Y.types Y.start) (cell-E W.globals e Y.around Y.types Y.start) r.laid);
      stood =
          stood-push r.stood k (wrote-later h.wrote) s (wrote-address Y.start h.wrote r.stood.address)
          (ty_e W.globals Y.around e) h.leaves (omega (arith, r.few-values.0, need-E e));
      room = omega (arith, r.room, k.same-env, length-append (flat_e e) (flat_es es));
      ending = omega (arith, r.ending, k.same_ends, length-append (flat_e e) (flat_es es));
      fits = fits-rest x _ h.wrote r.fits;
      deep = omega (arith, r.deep);
      good = r.good.1;
      few-holds = omega (arith, r.few-holds);
      few-values = rw z at r.few-values.1;
      many = omega (arith, r.many);
    }

module _ {known aims l part : List ℕ} {count nesting at : ℕ} {sizes : List ℕ} {L : Lent} {top holds depth : ℕ} {cursor : Cursor} {M : Lent} {rest : List ℕ} {place i : ℕ} {p : Cursor}
    (s : EsSoFar known aims l part count nesting at sizes L top holds depth cursor M rest place i p) (h : i < count) where
  this-e : (es : Exprs) (W : Walk) (X : Place) (sk : W.known ≡ known) (sa : W.aims ≡ aims) (r : ReadyEs es W X l part count nesting at sizes L top holds depth cursor)
      → NextE (s.goes es W X sk sa r).left W (record {
        around = X.around;
        types = (s.goes es W X sk sa r).types;
        start = (s.goes es W X sk sa r).start;
      }) l rest nesting place sizes M top holds (depth + i) p
  this-e es W X sk sa r = next-e (s.goes es W X sk sa r).left (s.goes es W X sk sa r).ready (omega arith)

  pub es-asks : AsksEs known aims l part count nesting at sizes L top holds depth cursor → Asks IsExpr known aims l rest nesting place sizes M top holds (depth + i) p
  es-asks q =
      let n = this-e q.exprs q.walk q.place q.same_known q.same-aims q.ready in
      record { node = expr n.this; walk = q.walk; place = _; such = tt; same_known = q.same_known; same-aims = q.same-aims; ready = n.ready }

  pub es-passes : AsksEs known aims l part count nesting at sizes L top holds depth cursor → (n : ℕ) → n ≡ get_or sizes place 0 → Passes rest sizes place n
  es-passes q n e = let x = this-e q.exprs q.walk q.place q.same_known q.same-aims q.ready in passes-N (expr x.this) x.ready.table x.ready.laid.stands n e

  module _ {N : Lent} {q : Cursor} (a : Answers IsExpr known aims l rest nesting place sizes M N top holds (depth + i) p q) (n : ℕ) (size : n ≡ get_or sizes place 0) where
    moved-e : (es : Exprs) (W : Walk) (X : Place) (sk : W.known ≡ known) (sa : W.aims ≡ aims) (r : ReadyEs es W X l part count nesting at sizes L top holds depth cursor)
        → Going es W X l (below rest (8 * n)) count nesting at sizes L N top holds depth cursor q (place + n) (i + 1)
    unfolding code_es cursor_after emitted ends_es pushed count_exprs
    moved-e es W X sk sa r =
        let g = s.goes es W X sk sa r in let x = this-e es W X sk sa r in
        let Y : Place = record { around = X.around; types = g.types; start = g.start } in
        let d = a.done (expr x.this) W Y tt sk sa x.ready in
        let e = code_e W.globals x.this X.around g.types g.start in
        let m : n ≡ length (flat_e x.this) = size ∙ size-N (expr x.this) x.ready.table x.ready.laid.stands in
        let y = es-moves x.this x.later (rw x.is at g.ready) a.kept d n m in
        let z : depth + i + 1 ≡ depth + (i + 1) = omega arith in
        let w : count - i - 1 ≡ count - (i + 1) = omega arith in
        let f = ends_e W.globals x.this X.around g.types g.start in
        let k : length f ≡ n = length-ends_e W.globals x.this X.around g.types g.start ∙ sym m in
        record {
          left = x.later;
          types = ty_e W.globals X.around x.this ∷ g.types;
          start = after e g.start;
          ready = rw (z, w) at y;
          cursors = g.cursors ∙ rw (x.is, d.wrote.advanced);
          emits = g.emits ∙ rw (x.is, d.wrote.written, d.wrote.advanced);
          ends = g.ends ∙ (rw (x.is, d.ended, ← k)
              (sym (sets-append M.ends place f (ends_es W.globals x.later X.around (ty_e W.globals X.around x.this ∷ g.types) (after e g.start)))));
          stack = g.stack ∙ rw x.is;
          many = g.many ∙ rw x.is (omega arith);
        }

    pub es-next : EsSoFar known aims l part count nesting at sizes L top holds depth cursor N (below rest (8 * n)) (place + n) (i + 1) q
    es-next = record { kept = kept_then s.kept (kept_less (omega arith) a.kept); most = omega arith; goes = moved-e }

no-exprs : (es : Exprs) → count_exprs es ≡ 0 → es ≡ no_expr
unfolding count_exprs
no-exprs no_expr e = refl
no-exprs (more e es) k = absurd (omega arith)

going_end : {es : Exprs} {W : Walk} {X : Place} {l rest : List ℕ} {count nesting at : ℕ} {sizes : List ℕ} {L M : Lent} {top holds depth : ℕ} {cursor p : Cursor} {place i : ℕ}
    → Going es W X l rest count nesting at sizes L M top holds depth cursor p place i → count ≤ i → DoneEs es W X at L M depth cursor p
unfolding code_es cursor_after emitted ends_es pushed count_exprs
going_end {i = i} g h =
    let z = no-exprs g.left (omega (arith, g.ready.many)) in
    record {
      wrote = record { advanced = sym (g.cursors ∙ rw z); written = sym (g.emits ∙ rw z) };
      ended = sym (g.ends ∙ rw z);
      typed = rw (g.stack, g.many, z, add-zero i) g.ready.stood.typed;
    }

pub es-end : {known aims l part : List ℕ} {count nesting at : ℕ} {sizes : List ℕ} {L : Lent} {top holds depth : ℕ} {cursor : Cursor} {M : Lent} {rest : List ℕ} {place i : ℕ} {p : Cursor}
    → EsSoFar known aims l part count nesting at sizes L top holds depth cursor M rest place i p → count ≤ i → AnswersEs known aims l part count nesting at sizes L M top holds depth cursor p
es-end s h = record { kept = s.kept; done = λ es W X sk sa r. going_end (s.goes es W X sk sa r) h }

-- ── labels and statements one after the other ──
pub record GoingItems (is : Items) (W : Walk) (X : Place) (l rest : List ℕ) (nesting at : ℕ) (sizes : List ℕ) (L M : Lent) (top holds depth : ℕ) (cursor p : Cursor) (place left : ℕ) : Type 0 where
  pub items : Items
  pub start : At
  pub ready : ReadyItems items W (moved_to X start) l rest left nesting place sizes M top holds depth p
  pub cursors : cursor_after (code_items W.globals is X.around X.types X.start) cursor ≡ cursor_after (code_items W.globals items X.around X.types start) p
  pub emits : emitted (code_items W.globals is X.around X.types X.start) cursor L.out ≡ emitted (code_items W.globals items X.around X.types start) p M.out
  pub ends : sets L.ends at (ends_items W.globals is X.around X.types X.start) ≡ sets M.ends place (ends_items W.globals items X.around X.types start)

pub record ItemsSoFar (known aims l part : List ℕ) (count nesting at : ℕ) (sizes : List ℕ) (L : Lent) (top holds depth : ℕ) (cursor : Cursor) (M : Lent)
    (rest : List ℕ) (place left : ℕ) (p : Cursor) : Type 0 where
  pub kept : Kept L M top depth
  pub goes : (is : Items) (W : Walk) (X : Place) → W.known ≡ known → W.aims ≡ aims
      → ReadyItems is W X l part count nesting at sizes L top holds depth cursor → GoingItems is W X l rest nesting at sizes L M top holds depth cursor p place left

pub items-start : (known aims l part : List ℕ) (count nesting at : ℕ) (sizes : List ℕ) (L : Lent) (top holds depth : ℕ) (cursor : Cursor)
    → ItemsSoFar known aims l part count nesting at sizes L top holds depth cursor L part at count cursor
items-start known aims l part count nesting at sizes L top holds depth cursor =
    record { kept = kept_self L; goes = λ is W X sk sa r. record { items = is; start = X.start; ready = r; cursors = refl; emits = refl; ends = refl } }

-- the next item: a label or a statement
pub record NextI (is : Items) (W : Walk) (Y : Place) (l rest : List ℕ) (left nesting place : ℕ) (sizes : List ℕ) (M : Lent) (top holds d : ℕ) (p : Cursor) : Type 0 where
  pub this : Node
  pub later : Items
  pub such : IsStmt this
  pub ready : Ready this W Y l rest nesting place sizes M top holds d p
  pub codes : code_items W.globals is Y.around Y.types Y.start
      ≡ code_n W.globals this Y.around Y.types Y.start ▸ code_items W.globals later Y.around Y.types (after (code_n W.globals this Y.around Y.types Y.start) Y.start)
  pub ends : ends_items W.globals is Y.around Y.types Y.start
      ≡ ends_n W.globals this Y.around Y.types Y.start ++ ends_items W.globals later Y.around Y.types (after (code_n W.globals this Y.around Y.types Y.start) Y.start)
  pub ended : length (ends_n W.globals this Y.around Y.types Y.start) ≡ length (flat_n this)
  pub next : {N : Lent} {q : Cursor} → Kept M N top d → Done this W Y place M N d p q → (m : ℕ) → m ≡ length (flat_n this)
      → ReadyItems later W (moved_to Y (after (code_n W.globals this Y.around Y.types Y.start) Y.start)) l (below rest (8 * m)) (left - 1) nesting (place + m) sizes N top holds d q

next-i : (is : Items) {W : Walk} {Y : Place} {l rest : List ℕ} {left nesting place : ℕ} {sizes : List ℕ} {M : Lent} {top holds d : ℕ} {p : Cursor}
    → ReadyItems is W Y l rest left nesting place sizes M top holds d p → 0 < left
    → NextI is W Y l rest left nesting place sizes M top holds d p
unfolding count_items flat_items ends_items code_items measure_s GoodItems bulk after cells_within
next-i no_item r h = absurd (omega (arith, r.many))
next-i (label a is) {W} {Y} {left = left} {place = place} {M = M} {d = d} {p = p} r h =
    record {
      this = name a;
      later = is;
      such = tt;
      ready = record {
        table = r.table;
        laid = laid-left (entry 20 a (pos 0) ∷ []) (flat_items is) (Y.start.address ∷ []) _ r.laid;
        stood = r.stood;
        room = omega (arith, r.room);
        ending = omega (arith, r.ending);
        fits = fits-first _ _ p (length M.out) r.fits;
        deep = omega (arith, r.deep);
        good = tt;
        lands = tt;
        few-holds = omega (arith, r.few-holds);
        few-values = omega (arith, r.few-values, need-items is);
      };
      codes = refl;
      ends = refl;
      ended = refl;
      next = λ {N} {q} k g m size.
          record {
            table = table-next r.table (8 * m) m refl;
            laid = rw size (laid-right (entry 20 a (pos 0) ∷ []) (flat_items is) (Y.start.address ∷ []) _ Y.start refl (omega arith) r.laid);
            stood = stood-next r.stood k (wrote-later g.wrote) Y.start (wrote-address Y.start g.wrote r.stood.address);
            room = omega (arith, r.room, k.same-env);
            ending = omega (arith, r.ending, k.same_ends);
            fits = fits-rest (mark (found Y.around Y.types)) _ g.wrote r.fits;
            deep = omega (arith, r.deep);
            good = r.good;
            lands = rw k.env r.lands;
            few-holds = omega (arith, r.few-holds);
            few-values = omega (arith, r.few-values);
            many = omega (arith, r.many);
          };
    }
next-i (item s is) {W} {Y} {left = left} {place = place} {M = M} {d = d} {p = p} r h =
    let x = code_s W.globals s Y.around Y.types Y.start in
    record {
      this = stmt s;
      later = is;
      such = tt;
      ready = record {
        table = r.table;
        laid = laid-left (flat_s s) (flat_items is) _ _ r.laid;
        stood = r.stood;
        room = omega (arith, r.room, length-S s);
        ending = omega (arith, r.ending, length-append (flat_s s) (flat_items is));
        fits = fits-first _ _ p (length M.out) r.fits;
        deep = omega (arith, r.deep);
        good = r.good.0;
        lands = r.lands;
        few-holds = omega (arith, r.few-holds);
        few-values = omega (arith, r.few-values);
      };
      codes = refl;
      ends = refl;
      ended = length-ends_s W.globals s Y.around Y.types Y.start;
      next = λ {N} {q} k g m size.
          record {
            table = table-next r.table (8 * m) m refl;
            laid =
                rw size (laid-right (flat_s s) (flat_items is) (ends_s W.globals s Y.around Y.types Y.start) _ (after x Y.start)
                (length-ends_s W.globals s Y.around Y.types Y.start) (cell-S W.globals s Y.around Y.types Y.start) r.laid);
            stood = stood-next r.stood k (wrote-later g.wrote) (after x Y.start) (wrote-address Y.start g.wrote r.stood.address);
            room = omega (arith, r.room, k.same-env);
            ending = omega (arith, r.ending, k.same_ends, length-append (flat_s s) (flat_items is));
            fits = fits-rest x _ g.wrote r.fits;
            deep = omega (arith, r.deep);
            good = r.good.1;
            lands = rw k.env r.lands;
            few-holds = omega (arith, r.few-holds);
            few-values = omega (arith, r.few-values);
            many = omega (arith, r.many);
          };
    }

module _ {known aims l part : List ℕ} {count nesting at : ℕ} {sizes : List ℕ} {L : Lent} {top holds depth : ℕ} {cursor : Cursor} {M : Lent} {rest : List ℕ} {place left : ℕ} {p : Cursor}
    (s : ItemsSoFar known aims l part count nesting at sizes L top holds depth cursor M rest place left p) (h : 0 < left) where
  this-i : (is : Items) (W : Walk) (X : Place) (sk : W.known ≡ known) (sa : W.aims ≡ aims) (r : ReadyItems is W X l part count nesting at sizes L top holds depth cursor)
      → NextI (s.goes is W X sk sa r).items W (moved_to X (s.goes is W X sk sa r).start) l rest left nesting place sizes M top holds depth p
  this-i is W X sk sa r = next-i (s.goes is W X sk sa r).items (s.goes is W X sk sa r).ready h

  pub items-asks : AsksItems known aims l part count nesting at sizes L top holds depth cursor → Asks IsStmt known aims l rest nesting place sizes M top holds depth p
  items-asks q =
      let n = this-i q.items q.walk q.place q.same_known q.same-aims q.ready in
      record { node = n.this; walk = q.walk; place = _; such = n.such; same_known = q.same_known; same-aims = q.same-aims; ready = n.ready }

  pub items-passes : AsksItems known aims l part count nesting at sizes L top holds depth cursor → (n : ℕ) → n ≡ get_or sizes place 0 → Passes rest sizes place n
  items-passes q n e = let x = this-i q.items q.walk q.place q.same_known q.same-aims q.ready in passes-N x.this x.ready.table x.ready.laid.stands n e

  module _ {N : Lent} {q : Cursor} (a : Answers IsStmt known aims l rest nesting place sizes M N top holds depth p q) (n : ℕ) (size : n ≡ get_or sizes place 0) where
    moved-i : (is : Items) (W : Walk) (X : Place) (sk : W.known ≡ known) (sa : W.aims ≡ aims) (r : ReadyItems is W X l part count nesting at sizes L top holds depth cursor)
        → GoingItems is W X l (below rest (8 * n)) nesting at sizes L N top holds depth cursor q (place + n) (left - 1)
    unfolding cursor_after emitted
    moved-i is W X sk sa r =
        let g = s.goes is W X sk sa r in let x = this-i is W X sk sa r in
        let d = a.done x.this W (moved_to X g.start) x.such sk sa x.ready in
        let e = code_n W.globals x.this X.around X.types g.start in
        let m : n ≡ length (flat_n x.this) = size ∙ size-N x.this x.ready.table x.ready.laid.stands in
        let f = ends_n W.globals x.this X.around X.types g.start in
        let k : length f ≡ n = x.ended ∙ sym m in
        record {
          items = x.later;
          start = after e g.start;
          ready = x.next a.kept d n m;
          cursors = g.cursors ∙ rw (x.codes, d.wrote.advanced);
          emits = g.emits ∙ rw (x.codes, d.wrote.written, d.wrote.advanced);
          ends = g.ends ∙ (rw (x.ends, d.ended, ← k) (sym (sets-append M.ends place f (ends_items W.globals x.later X.around X.types (after e g.start)))));
        }

    pub items-next : ItemsSoFar known aims l part count nesting at sizes L top holds depth cursor N (below rest (8 * n)) (place + n) (left - 1) q
    items-next = record { kept = kept_then s.kept a.kept; goes = moved-i }

no_items : (is : Items) → count_items is ≡ 0 → is ≡ no_item
unfolding count_items
no_items no_item e = refl
no_items (label a is) k = absurd (omega arith)
no_items (item s is) k = absurd (omega arith)

items-over : {is : Items} {W : Walk} {X : Place} {l rest : List ℕ} {nesting at : ℕ} {sizes : List ℕ} {L M : Lent} {top holds depth : ℕ} {cursor p : Cursor} {place left : ℕ}
    → GoingItems is W X l rest nesting at sizes L M top holds depth cursor p place left → left ≡ 0 → DoneItems is W X at L M depth cursor p
unfolding code_items cursor_after emitted ends_items
items-over g h =
    let z = no_items g.items (sym g.ready.many ∙ h) in
    record { wrote = record { advanced = sym (g.cursors ∙ rw z); written = sym (g.emits ∙ rw z) }; ended = sym (g.ends ∙ rw z) }

pub items-end : {known aims l part : List ℕ} {count nesting at : ℕ} {sizes : List ℕ} {L : Lent} {top holds depth : ℕ} {cursor : Cursor} {M : Lent} {rest : List ℕ} {place left : ℕ} {p : Cursor}
    → ItemsSoFar known aims l part count nesting at sizes L top holds depth cursor M rest place left p → left ≡ 0 → AnswersItems known aims l part count nesting at sizes L M top holds depth cursor p
items-end s h = record { kept = s.kept; done = λ is W X sk sa r. items-over (s.goes is W X sk sa r) h }
