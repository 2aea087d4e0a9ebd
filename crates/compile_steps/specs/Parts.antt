-- The parts of an entry: where they lie, what is lent as they are walked, the code that they come to one after the other.
use Rattle.std.specs.Prelude.{◌≡◌, refl, false, ℕ, suc, ◌+◌, ◌-◌, ◌*◌, ◌≤◌, ◌<◌, length, get_or, take, drop, set}
use Rattle.std.proofs.Math.Path.{ap}
use Rattle.std.proofs.Common.{sym, ◌∙◌, arith, length-set, length-drop, take-take, take-suc}
use mathlib.Core.List.{List, [], ◌∷◌, ◌++◌, map, reverse, reverse-cons, map-append}
use Rattle.std.proofs.lemmas.List.Edits.{sets}
use Rattle.std.proofs.lemmas.List.{take-set-le, set_comm}
use Rattle.language.specs.Measure.{measure_s}
use Rattle.values.specs.Types.{Ty, ty_byte}
use Rattle.bytecode.specs.Macro.{Shape}
use Rattle.bytecode.specs.Instructions.{Instr}
use Rattle.language.specs.Tree.{Stmt, block, assign, when, choose, while, goto, assert, call, set_level, select, for, Items, no_item, label, item, Expr, number, truth, pattern}
use Rattle.language.specs.Tree.{null, variable, invoke, field, make, operate1, operate2, conditional, fader, block_expr, Exprs, no_expr}
use Rattle.language.specs.Tree.{expr as more}
use Rattle.language.specs.Table.{Entry}
use Rattle.language.specs.Limits.{need_s, need_items, need_e, need_es}
use Rattle.language_laws.specs.Claims.{entries_of}
use Rattle.table_entries.specs.Arity.{parts}
use Rattle.table_entries.specs.Spans.{Spans, spans-one, spans-none}
use Rattle.table_entries.specs.Stands.{Stands, stands-left, stands-right, stands-tail}
use Rattle.table_forms.specs.Walk.{Table}
use Rattle.table_forms.specs.Forms.{head_f, flat_f, labelled, flat-S, flat-E}
use Rattle.table_forms.specs.Part.{Head, head_of, table-next, size-here, Passes, passes, spans-form, spans-stmt}
use Rattle.compile_code.specs.Code.{Code, nil, op, mark, cell, ◌▸◌, At, at, skip, after}
use Rattle.language.specs.Names.{Scope}
use Rattle.compile_code.specs.Compile.{scopes_of, found, code_e}
use Rattle.compile_emit.specs.EmitEntryLaws.{part-from}
use Rattle.compile_code.specs.Encode.{rec, record_of}
use Rattle.words.specs.Laws.{sets-append}
use Rattle.compile_symbols.specs.Entries.{cells-append}
use Rattle.compile_symbols.specs.Numbers.{numbers_from, cells_of, cells_within}
use Rattle.compile_output.specs.declared.Cursor.{Cursor}
use Rattle.compile_output.specs.EmitRecord.{Fits, moved, cursor_shaped, emit_op, emit_shape}
use Rattle.compile_output.specs.EmitCode.{cursor_after, emitted, Later, grows, fits-before, emitted-op, Stacked, cursor-mark, emitted-mark, address-after, length-emitted}
use Rattle.compile_nodes.specs.Knows.{Walk}
use Rattle.compile_nodes.specs.Ready.{Node, stmt, expr, name, flat_n, form_n, room_n, deep_n, holds_n, need_n, GoodN, code_n, ends_n, Place, Lent, Laid, Stood, Kept, Wrote, LandsN, Ready, Asks}
use Rattle.compile_scopes.specs.Sight.{classes_in}
use Rattle.compile_scopes.specs.Lies.{lies-left, lies-right, lies-next, lies-here}
use Rattle.compile_scopes.specs.Lengths.{numbers-append, length-numbers}

-- the part of a slice that begins at a place
abbrev pub below : List ℕ → ℕ → List ℕ
below part k = take (length part - k) (drop k part)

abbrev pub lent : List ℕ → List ℕ → List ℕ → List ℕ → Lent
lent e n s o = record { env = e; ends = n; stack = s; out = o }

-- ── where the parts lie ──
module _ {W : Walk} {l : List ℕ} {at : ℕ} {p : At} where
  pub laid-tail : (u : Entry) (us : List Entry) (e : ℕ) (es : List ℕ) (q : At) → q.cell ≡ p.cell + cells_of u → Laid W l at p (u ∷ us) (e ∷ es) → Laid W l (at + 1) q us es
  unfolding numbers_from cells_within
  laid-tail u us e es q c h =
      record { stands = stands-tail u us h.stands; cells = omega (arith, h.cells); numbered = rw c (lies-next _ _ h.numbered); aimed = λ d. lies-next _ _ (h.aimed d) }

  pub laid-left : (us vs : List Entry) (es fs : List ℕ) → Laid W l at p (us ++ vs) (es ++ fs) → Laid W l at p us es
  laid-left us vs es fs h =
      record {
        stands = stands-left us vs h.stands;
        cells = omega (arith, h.cells, cells-append us vs);
        numbered = lies-left _ _ (rw (numbers-append _ p.cell us vs) at h.numbered);
        aimed = λ d. lies-left es fs (h.aimed d);
      }

  pub laid-right : (us vs : List Entry) (es fs : List ℕ) (q : At) → length es ≡ length us → q.cell ≡ p.cell + cells_within us → Laid W l at p (us ++ vs) (es ++ fs) → Laid W l (at + length us) q vs fs
  laid-right us vs es fs q n c h =
      record {
        stands = stands-right us vs h.stands;
        cells = omega (arith, h.cells, cells-append us vs);
        numbered =
            rw (c, ← length-numbers (classes_in W) p.cell us) (lies-right (numbers_from (classes_in W) p.cell us)
            (numbers_from (classes_in W) (p.cell + cells_within us) vs) (rw (numbers-append (classes_in W) p.cell us vs) at h.numbered));
        aimed = λ d. rw (← n) (lies-right es fs (h.aimed d));
      }

  -- where the code of the first entry ends
  pub laid-aim : (us : List Entry) (e : ℕ) (es : List ℕ) → Laid W l at p us (e ∷ es) → W.dry ≡ false → get_or W.aims at 0 ≡ e
  laid-aim us e es h d = lies-here e es (h.aimed d)

pub laid-at : {W : Walk} {l : List ℕ} {at place : ℕ} {p : At} {us : List Entry} {es : List ℕ} → at ≡ place → Laid W l at p us es → Laid W l place p us es
laid-at e h = rw e at h

-- ── the entry of a node ──
pub flat-N : (n : Node) → flat_n n ≡ flat_f (form_n n)
flat-N (stmt s) = flat-S s
flat-N (expr e) = flat-E e
flat-N (name a) = refl

spans-N : (n : Node) → Spans 1 (flat_f (form_n n))
unfolding parts
spans-N (stmt s) = spans-stmt s
spans-N (expr e) = spans-form e
spans-N (name a) = spans-one (head_f (labelled a)) [] spans-none

module _ {l part sizes : List ℕ} {at : ℕ} (n : Node) (t : Table l part sizes at) (s : Stands (entries_of l) at (flat_n n)) where
  pub head-N : Head l part at (head_f (form_n n))
  head-N = head_of _ _ t (rw (flat-N n) at s)

  pub size-N : get_or sizes at 0 ≡ length (flat_n n)
  size-N = size-here _ _ t (spans-N n) (rw (flat-N n) at s) ∙ sym (ap length (flat-N n))

  pub passes-N : (k : ℕ) → k ≡ get_or sizes at 0 → Passes part sizes at k
  passes-N k e = passes _ _ t (spans-N n) (rw (flat-N n) at s) k e

pub flat-one : (n : Node) → 1 ≤ length (flat_n n)
flat-one n = omega (arith, ap length (flat-N n))

pub room-N : (n : Node) → room_n n ≤ length (flat_n n)
room-N (stmt s) = omega arith
room-N (expr e) = omega arith
room-N (name a) = omega arith

-- ── what is kept ──
module _ {top d : ℕ} where
  pub kept_self : (L : Lent) → Kept L L top d
  kept_self L = record { env = refl; same-env = refl; same_ends = refl; stack = refl; same-stack = refl; same_out = refl }

  pub kept_then : {L M N : Lent} → Kept L M top d → Kept M N top d → Kept L N top d
  kept_then h k =
      record {
        env = k.env ∙ h.env;
        same-env = k.same-env ∙ h.same-env;
        same_ends = k.same_ends ∙ h.same_ends;
        stack = k.stack ∙ h.stack;
        same-stack = k.same-stack ∙ h.same-stack;
        same_out = k.same_out ∙ h.same_out;
      }

  pub kept_out : (L : Lent) (out : List ℕ) → length out ≡ length L.out → Kept L (lent L.env L.ends L.stack out) top d
  kept_out L out e = record { env = refl; same-env = refl; same_ends = refl; stack = refl; same-stack = refl; same_out = e }

  pub kept-ends : (L : Lent) (ends : List ℕ) → length ends ≡ length L.ends → Kept L (lent L.env ends L.stack L.out) top d
  kept-ends L ends e = record { env = refl; same-env = refl; same_ends = e; stack = refl; same-stack = refl; same_out = refl }

  pub kept-stack : (L : Lent) (k v : ℕ) → d ≤ k → Kept L (lent L.env L.ends (set L.stack k v) L.out) top d
  kept-stack L k v h =
      record { env = refl; same-env = refl; same_ends = refl; stack = take-set-le d L.stack k v h; same-stack = length-set L.stack k v; same_out = refl }

pub kept_less : {top d e : ℕ} {L M : Lent} → d ≤ e → Kept L M top e → Kept L M top d
kept_less {top} {d} {e} {L} {M} h k =
    record {
      env = k.env;
      same-env = k.same-env;
      same_ends = k.same_ends;
      stack = sym (take-take d e M.stack h) ∙ (ap (take d) k.stack ∙ take-take d e L.stack h);
      same-stack = k.same-stack;
      same_out = k.same_out;
    }

-- ── code, one part after the other ──
module _ {a b c : List ℕ} {p q r : Cursor} where
  pub wrote_then : {x y : Code} → Wrote a b p q x → Wrote b c q r y → Wrote a c p r (x ▸ y)
  unfolding cursor_after emitted
  wrote_then {x} {y} h k = record { advanced = k.advanced ∙ ap (cursor_after y) h.advanced; written = k.written ∙ rw (h.written, h.advanced) }

module _ {a b : List ℕ} {p q : Cursor} where
  pub wrote-op : (i : Instr) (k x y : ℕ) → (q ≡ moved p) × (b ≡ emit_op p a k x y) → (p.dry ≡ false → record_of i ≡ rec k x y) → Wrote a b p q (op i)
  unfolding cursor_after
  wrote-op i k x y e h = record { advanced = e.0; written = e.1 ∙ emitted-op i k x y p h a }

  pub wrote-mark : (s : Shape) (h d : ℕ) (st : List ℕ) → Stacked s h st d → (q ≡ cursor_shaped d p) × (b ≡ emit_shape p a h d (take d st)) → Wrote a b p q (mark s)
  wrote-mark s h d st k e = record { advanced = e.0 ∙ cursor-mark s h d st k p; written = e.1 ∙ emitted-mark s h d st k p a }

  pub wrote-length : {x : Code} → Wrote a b p q x → length b ≡ length a
  wrote-length {x} h = ap (length {A = ℕ}) h.written ∙ length-emitted x p a

  pub wrote-later : {x : Code} → Wrote a b p q x → Later p q
  wrote-later {x} h = rw h.advanced (grows x p)

  pub wrote-address : {x : Code} (s : At) → Wrote a b p q x → p.address ≡ s.address → q.address ≡ (after x s).address
  wrote-address {x} s h e = ap (λ (t : Cursor). t.address) h.advanced ∙ address-after x p s e

  -- what is left of what fits
  pub fits-rest : (x y : Code) → Wrote a b p q x → Fits (cursor_after (x ▸ y) p) (length a) → Fits (cursor_after y q) (length b)
  unfolding cursor_after
  fits-rest x y h f = rw (h.advanced, wrote-length h) f

pub wrote-nil : (a : List ℕ) (p : Cursor) → Wrote a a p p nil
unfolding cursor_after emitted
wrote-nil a p = record { advanced = refl; written = refl }

pub wrote-cell : (t : Ty) (a : List ℕ) (p : Cursor) → Wrote a a p p (cell t)
unfolding cursor_after emitted
wrote-cell t a p = record { advanced = refl; written = refl }

pub fits-first : (x y : Code) (p : Cursor) (n : ℕ) → Fits (cursor_after (x ▸ y) p) n → Fits (cursor_after x p) n
unfolding cursor_after
fits-first x y p n f = fits-before n (grows y (cursor_after x p)) f

pub fits-start : (x : Code) (p : Cursor) (n : ℕ) → Fits (cursor_after x p) n → Fits p n
fits-start x p n f = fits-before n (grows x p) f

-- the blocks around
abbrev pub Scopes : Place → List Scope
Scopes X = scopes_of X.around

-- ── what is lent agrees with a place further on ──
abbrev pub moved_to : Place → At → Place
moved_to X q = record { around = X.around; types = X.types; start = q }

abbrev pub held_on : Ty → Place → At → Place
held_on t X q = record { around = X.around; types = t ∷ X.types; start = q }

pub typed-more : (st : List Ty) (t : Ty) (d : ℕ) (stack : List ℕ) → map ty_byte (reverse st) ≡ take d stack → get_or stack d 0 ≡ ty_byte t
    → d < length stack → map ty_byte (reverse (t ∷ st)) ≡ take (d + 1) stack
typed-more st t d stack h g k =
    let z : suc d ≡ d + 1 = omega arith in
    ap (map ty_byte) (reverse-cons t st) ∙ (map-append ty_byte (reverse st) (t ∷ []) ∙ (rw (h, ← g) (sym (take-suc stack d 0 k)) ∙ ap (λ (n : ℕ). take n stack) z))

module _ {W : Walk} {X : Place} {l : List ℕ} {L M : Lent} {top holds depth : ℕ} {cursor p : Cursor} (h : Stood W X l L top holds depth cursor)
    (k : Kept L M top depth) (later : Later cursor p) (q : At) (a : p.address ≡ q.address) where
  pub stood-next : Stood W (moved_to X q) l M top holds depth p
  stood-next =
      record {
        sees = rw k.env h.sees;
        knows = rw k.env h.knows;
        held = h.held;
        deep = h.deep;
        typed = h.typed ∙ sym k.stack;
        stacked = rw k.same-stack h.stacked;
        address = a;
        dryness = later.same-dry ∙ h.dryness;
        inside = later.same-inside ∙ h.inside;
      }

  pub stood-push : (t : Ty) → get_or M.stack depth 0 ≡ ty_byte t → depth < 32 → Stood W (held_on t X q) l M top holds (depth + 1) p
  stood-push t g small =
      record {
        sees = rw k.env h.sees;
        knows = rw k.env h.knows;
        held = h.held;
        deep = omega (arith, h.deep);
        typed = typed-more X.types t depth M.stack (h.typed ∙ sym k.stack) g (omega (arith, h.stacked, k.same-stack));
        stacked = rw k.same-stack h.stacked;
        address = a;
        dryness = later.same-dry ∙ h.dryness;
        inside = later.same-inside ∙ h.inside;
      }

-- the shape that is found at a place
pub stood-shape : {W : Walk} {X : Place} {l : List ℕ} {L : Lent} {top holds depth : ℕ} {cursor : Cursor} → Stood W X l L top holds depth cursor
    → Stacked (found X.around X.types) holds L.stack depth
stood-shape h = record { same-holds = sym h.held; same-depth = sym h.deep; same-types = h.typed }

-- ── a part is ready ──
module _ {n : Node} {W : Walk} {X : Place} {l part : List ℕ} {nesting at : ℕ} {sizes : List ℕ} {L : Lent} {top holds depth : ℕ} {cursor : Cursor}
    (r : Ready n W X l part nesting at sizes L top holds depth cursor) where
  pub ready-part : (m : Node) (k place : ℕ) (Y : Place) {M : Lent} {d : ℕ} {p : Cursor} → place ≡ at + k → k + length (flat_n m) ≤ length (flat_n n) → 1 ≤ k → room_n n ≡ length (flat_n n)
      → Laid W l place Y.start (flat_n m) (ends_n W.globals m Y.around Y.types Y.start) → Kept L M top depth → Stood W Y l M top holds d p
      → Fits (cursor_after (code_n W.globals m Y.around Y.types Y.start) p) (length M.out) → deep_n m ≤ nesting - 1 → GoodN (Scopes Y) m → LandsN W M.env top Y.around m
      → holds + holds_n m ≤ 16 → d + need_n m ≤ 32 → Ready m W Y l (below part (8 * k)) (nesting - 1) place sizes M top holds d p
  ready-part m k place Y {M} e in-it one room laid kept stood fits deep good lands few values =
      record {
        table = rw e (table-next r.table (8 * k) k refl);
        laid = laid;
        stood = stood;
        room = omega (arith, r.room, kept.same-env, room-N m, in-it, room);
        ending = omega (arith, r.ending, kept.same_ends, in-it, e);
        fits = fits;
        deep = deep;
        good = good;
        lands = lands;
        few-holds = few;
        few-values = values;
      }

-- ── ends, one part after the other ──
set_past : (xs l : List ℕ) (i j v : ℕ) → i < j → set (sets l j xs) i v ≡ sets (set l i v) j xs
set_past [] l i j v h = refl
set_past (x ∷ xs) l i j v h = set_past xs (set l j x) i (suc j) v (omega arith) ∙ ap (λ (m : List ℕ). sets m (suc j) xs) (set_comm l j i x v (λ e. omega arith))

-- an entry's own end is noted last
pub ended-own : (l m n : List ℕ) (i v : ℕ) (es : List ℕ) → m ≡ sets l (i + 1) es → n ≡ set m i v → n ≡ sets l i (v ∷ es)
ended-own l m n i v es h k =
    let z : i + 1 ≡ suc i = omega arith in
    k ∙ (ap (λ (x : List ℕ). set x i v) h ∙ (set_past es l i (i + 1) v (omega arith) ∙ ap (λ (j : ℕ). sets (set l i v) j es) z))

pub ended-then : (l m n : List ℕ) (i j : ℕ) (es fs : List ℕ) → m ≡ sets l i es → n ≡ sets m j fs → j ≡ i + length es → n ≡ sets l i (es ++ fs)
ended-then l m n i j es fs h k e = k ∙ (rw (h, e) (sets-append l i es fs))

-- ── what every walker is asked with ──
pub record Asked (part : List ℕ) (nesting at : ℕ) (L : Lent) (top holds depth : ℕ) (cursor : Cursor) : Type 0 where
  pub long : 8 ≤ length part
  pub nested : 1 ≤ nesting
  pub small : at + 1 ≤ 2048
  pub room : 4 * top ≤ length L.env
  pub held : holds ≤ 16
  pub deep : depth < 32
  pub stacked : 32 ≤ length L.stack
  pub ending : at < length L.ends
  pub address : cursor.address < 65536

deep_one : (n : Node) → 1 ≤ deep_n n
unfolding measure_s
deep_one (stmt (block ds is)) = omega arith
deep_one (stmt (assign x e)) = omega arith
deep_one (stmt (when e s)) = omega arith
deep_one (stmt (choose e s t)) = omega arith
deep_one (stmt (while e s)) = omega arith
deep_one (stmt (goto a)) = omega arith
deep_one (stmt (assert e)) = omega arith
deep_one (stmt (call a es)) = omega arith
deep_one (stmt (set_level e f)) = omega arith
deep_one (stmt (select e r)) = omega arith
deep_one (stmt (for a e f g s)) = omega arith
deep_one (expr (number z)) = omega arith
deep_one (expr (truth b)) = omega arith
deep_one (expr (pattern z)) = omega arith
deep_one (expr (null c)) = omega arith
deep_one (expr (variable a)) = omega arith
deep_one (expr (invoke a es)) = omega arith
deep_one (expr (field a e)) = omega arith
deep_one (expr (make c es)) = omega arith
deep_one (expr (operate1 o e)) = omega arith
deep_one (expr (operate2 o e f)) = omega arith
deep_one (expr (conditional e f g)) = omega arith
deep_one (expr (fader e)) = omega arith
deep_one (expr (block_expr ds is e)) = omega arith
deep_one (name a) = omega arith

mutual
  unfolding measure_s

  pub need-S : (s : Stmt) → 1 ≤ need_s s
  need-S (block ds is) = need-items is
  need-S (assign x e) = omega arith
  need-S (when e s) = omega (arith, need-S s)
  need-S (choose e s t) = omega (arith, need-S s)
  need-S (while e s) = omega (arith, need-S s)
  need-S (goto a) = omega arith
  need-S (assert e) = need-E e
  need-S (call a es) = need-Es 0 es
  need-S (set_level e f) = omega arith
  need-S (select e r) = omega arith
  need-S (for a e f g s) = omega (arith, need-S s)

  pub need-items : (is : Items) → 1 ≤ need_items is
  need-items no_item = omega arith
  need-items (label a is) = need-items is
  need-items (item s is) = omega (arith, need-items is)

  pub need-E : (e : Expr) → 1 ≤ need_e e
  need-E (number z) = omega arith
  need-E (truth b) = omega arith
  need-E (pattern z) = omega arith
  need-E (null c) = omega arith
  need-E (variable a) = omega arith
  need-E (invoke a es) = need-Es 0 es
  need-E (field a e) = need-E e
  need-E (make c es) = need-Es 0 es
  need-E (operate1 o e) = need-E e
  need-E (operate2 o e f) = omega arith
  need-E (conditional e f g) = omega arith
  need-E (fader e) = need-E e
  need-E (block_expr ds is e) = omega (arith, need-items is)

  need-Es : (i : ℕ) (es : Exprs) → 1 ≤ need_es i es
  need-Es i no_expr = omega arith
  need-Es i (more e es) = omega (arith, need-E e)

need-N : (n : Node) → 1 ≤ need_n n
need-N (stmt s) = need-S s
need-N (expr e) = need-E e
need-N (name a) = omega arith

pub asked : {P : Node → Type 0} {known aims l part : List ℕ} {nesting at : ℕ} {sizes : List ℕ} {L : Lent} {top holds depth : ℕ} {cursor : Cursor}
    → Asks P known aims l part nesting at sizes L top holds depth cursor → Asked part nesting at L top holds depth cursor
asked {cursor = cursor} q =
    let r = q.ready in let h = head-N q.node r.table r.laid.stands in
    let f = fits-start (code_n q.walk.globals q.node q.place.around q.place.types q.place.start) cursor _ r.fits in
    record {
      long = omega (arith, h.long, h.within);
      nested = omega (arith, deep_one q.node, r.deep);
      small = omega (arith, h.within, r.table.legible.short);
      room = omega (arith, r.room);
      held = omega (arith, r.few-holds);
      deep = omega (arith, r.few-values, need-N q.node);
      stacked = r.stood.stacked;
      ending = omega (arith, r.ending, flat-one q.node);
      address = f.address-small;
    }

-- ── where the parts begin ──
length-below : (part : List ℕ) (k : ℕ) → length (below part k) ≡ length part - k
length-below part k = ap (length {A = ℕ}) (part-from part k) ∙ length-drop k part

-- where the part behind a part begins, it is within
pub second-within : (part : List ℕ) (at n : ℕ) {sizes : List ℕ} → 8 ≤ length part → Passes (below part 8) sizes (at + 1) n → 8 * (at + 1 + n - at) ≤ length part
second-within part at n h p = omega (arith, p.fits, length-below part 8)

pub third-within : (part : List ℕ) (at place n : ℕ) {sizes : List ℕ} → at ≤ place → 8 * (place - at) ≤ length part
    → Passes (below part (8 * (place - at))) sizes place n → 8 * (place + n - at) ≤ length part
third-within part at place n g h p = omega (arith, p.fits, length-below part (8 * (place - at)))

-- the size of what is ready
module _ {n : Node} {W : Walk} {X : Place} {l part : List ℕ} {nesting at : ℕ} {sizes : List ℕ} {L : Lent} {top holds depth : ℕ} {cursor : Cursor}
    (r : Ready n W X l part nesting at sizes L top holds depth cursor) (k : ℕ) (e : k ≡ get_or sizes at 0) where
  pub ready-passes : Passes part sizes at k
  ready-passes = passes-N n r.table r.laid.stands k e

  pub ready-size : k ≡ length (flat_n n)
  ready-size = e ∙ size-N n r.table r.laid.stands

-- where the code behind a test begins, and behind what follows it
abbrev pub behind_test : Walk → Place → Expr → At
behind_test W X e = skip 1 (after (code_e W.globals e X.around X.types X.start) X.start)
