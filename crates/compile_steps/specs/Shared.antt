-- What is left of an entry while its parts are walked one after the other: their entries, where they end, their code.
use Rattle.std.specs.Prelude.{◌≡◌, refl, List, ◌∷◌, ◌++◌, ℕ, ◌+◌, ◌-◌, ◌*◌, ◌≤◌, ◌<◌, length, get_or, set, take}
use Rattle.std.proofs.Common.{ap, sym, ◌∙◌, arith, length-append}
use Rattle.std.proofs.lemmas.List.Edits.{sets}
use Rattle.std.proofs.Math.Seq.{length-sets}
use Rattle.language.specs.Program.{flat_e}
use Rattle.values.specs.Types.{ty_byte}
use Rattle.bytecode.specs.Instructions.{Instr}
use Rattle.language.specs.Tree.{Expr}
use Rattle.language.specs.Table.{Entry}
use Rattle.table_scopes.specs.Trees.{length-S, length-E}
use Rattle.table_scopes.specs.Environment.{env_of}
use Rattle.table_forms.specs.Walk.{Table}
use Rattle.table_forms.specs.Part.{table-next}
use Rattle.compile_code.specs.Code.{Code, op, mark, ◌▸◌, At, after}
use Rattle.compile_code.specs.Compile.{Around, scopes_of, found, code_e, ty_e}
use Rattle.compile_symbols.specs.Numbers.{cells_of, cells_within}
use Rattle.compile_output.specs.declared.Cursor.{Cursor}
use Rattle.compile_output.specs.EmitRecord.{Fits, moved, cursor_shaped, emit_shape}
use Rattle.compile_output.specs.EmitCode.{cursor_after, cursor-mark, cursor-op, later-self}
use Rattle.compile_nodes.specs.Ends.{ends_e}
use Rattle.compile_nodes.specs.Knows.{Walk, Lands}
use Rattle.compile_nodes.specs.Ready.{Node, stmt, expr, name, flat_n, deep_n, holds_n, need_n, GoodN, code_n, ends_n, Place, Lent, Laid, Stood, Kept, Wrote, LandsN, Ready, Done}
use Rattle.compile_scopes.specs.Lengths.{length-below, length-below_e}
use Rattle.compile_steps.specs.Cells.{cell-S, cell-E}
use Rattle.compile_steps.specs.Parts.{moved_to, held_on, below, laid-tail, laid-left, laid-right, laid-at, room-N, stood-next, stood-push, stood-shape, wrote-later, wrote-length, wrote-address}
use Rattle.compile_steps.specs.Parts.{wrote-mark, fits-first, fits-rest, ended-then, ended-own}

pub record Rest (W : Walk) (X : Place) (l : List ℕ) (at : ℕ) (L : Lent) (top holds depth : ℕ) (cursor : Cursor) (us : List Entry) (es : List ℕ) (x : Code) : Type 0 where
  pub laid : Laid W l at X.start us es
  pub stood : Stood W X l L top holds depth cursor
  pub room : 4 * (top + length us) ≤ length L.env
  pub ending : at + length us ≤ length L.ends
  pub fits : Fits (cursor_after x cursor) (length L.out)

-- ── ends ──
pub cell-N : (n : Node) (W : Walk) (X : Place) → (after (code_n W.globals n X.around X.types X.start) X.start).cell ≡ X.start.cell + cells_within (flat_n n)
unfolding after cells_within
cell-N (stmt s) W X = cell-S W.globals s X.around X.types X.start
cell-N (expr e) W X = cell-E W.globals e X.around X.types X.start
cell-N (name a) W X = omega arith

pub ends-N : (n : Node) (W : Walk) (X : Place) → length (ends_n W.globals n X.around X.types X.start) ≡ length (flat_n n)
ends-N (stmt s) W X = length-below W.globals s X.around X.types X.start ∙ sym (length-S s)
ends-N (expr e) W X = length-below_e W.globals e X.around X.types X.start ∙ sym (length-E e)
ends-N (name a) W X = refl

-- parts one after the other, and the entry's own end after them
pub ends-then : (a : List ℕ) {b c : List ℕ} (i n : ℕ) (es fs : List ℕ) → n ≡ length es → b ≡ sets a i es → c ≡ sets b (i + n) fs → c ≡ sets a i (es ++ fs)
ends-then a {b} {c} i n es fs e h k = ended-then a b c i (i + n) es fs h k (ap (λ (m : ℕ). i + m) e)

pub ends-own : (a : List ℕ) {b c : List ℕ} (i v e : ℕ) (es : List ℕ) → b ≡ sets a (i + 1) es → c ≡ set b i v → v ≡ e → c ≡ sets a i (e ∷ es)
ends-own a {b} {c} i v e es h k s = ended-own a b c i v es h k ∙ ap (λ (u : ℕ). sets a i (u ∷ es)) s

-- the part of a table at a later place
pub table-from : {l part sizes : List ℕ} {at : ℕ} (place : ℕ) → at ≤ place → Table l part sizes at → Table l (below part (8 * (place - at))) sizes place
table-from {l} {part} {sizes} {at} place h t =
    let m : at + (place - at) ≡ place = omega arith in
    move m (table-next t (8 * (place - at)) (place - at) refl)
  where
    move : {k : ℕ} {u : List ℕ} → k ≡ place → Table l u sizes k → Table l u sizes place
    move e q = rw e at q

-- ── steps ──
module _ {W : Walk} {X : Place} {l : List ℕ} {at : ℕ} {L : Lent} {top holds depth : ℕ} {cursor : Cursor} where
  -- below an entry
  pub rest-enter : (u : Entry) (us : List Entry) (e : ℕ) (es : List ℕ) (x : Code) (q : At) → q.cell ≡ X.start.cell + cells_of u → q.address ≡ X.start.address
      → Rest W X l at L top holds depth cursor (u ∷ us) (e ∷ es) x → Rest W (moved_to X q) l (at + 1) L top holds depth cursor us es x
  rest-enter u us e es x q c a h =
      record {
        laid = laid-tail u us e es q c h.laid;
        stood =
            record {
              sees = h.stood.sees;
              knows = h.stood.knows;
              held = h.stood.held;
              deep = h.stood.deep;
              typed = h.stood.typed;
              stacked = h.stood.stacked;
              address = h.stood.address ∙ sym a;
              dryness = h.stood.dryness;
              inside = h.stood.inside;
            };
        room = omega (arith, h.room);
        ending = omega (arith, h.ending);
        fits = h.fits;
      }

  -- where one stands, and what fits, after a part of the code
  module _ {M : Lent} {r : Cursor} {x y : Code} (q : At) (e : q.address ≡ (after x X.start).address) (k : Kept L M top depth) (w : Wrote L.out M.out cursor r x) where
    pub rest-stood : {us : List Entry} {es : List ℕ} → Rest W X l at L top holds depth cursor us es (x ▸ y) → Stood W (moved_to X q) l M top holds depth r
    rest-stood h = stood-next h.stood k (wrote-later w) q (wrote-address X.start w h.stood.address ∙ sym e)

    pub rest-fits : {us : List Entry} {es : List ℕ} → Rest W X l at L top holds depth cursor us es (x ▸ y) → Fits (cursor_after y r) (length M.out)
    rest-fits h = fits-rest x y w h.fits

    -- its own code: no entry is passed
    pub rest-own : (us : List Entry) (es : List ℕ) → q.cell ≡ X.start.cell → Rest W X l at L top holds depth cursor us es (x ▸ y) → Rest W (moved_to X q) l at M top holds depth r us es y
    rest-own us es c h =
        record {
          laid = record { stands = h.laid.stands; cells = rw c h.laid.cells; numbered = rw c h.laid.numbered; aimed = h.laid.aimed };
          stood = rest-stood h;
          room = rw k.same-env h.room;
          ending = rw k.same_ends h.ending;
          fits = rest-fits h;
        }

  -- a node before others
  pub rest-left : (us vs : List Entry) (es fs : List ℕ) {x : Code} → Rest W X l at L top holds depth cursor (us ++ vs) (es ++ fs) x → Rest W X l at L top holds depth cursor us es x
  rest-left us vs es fs h =
      record {
        laid = laid-left us vs es fs h.laid;
        stood = h.stood;
        room = omega (arith, h.room, length-append us vs);
        ending = omega (arith, h.ending, length-append us vs);
        fits = h.fits;
      }

  -- … is walked
  pub rest-node : (n : Node) (us : List Entry) (es : List ℕ) {y : Code} {M : Lent} {r : Cursor} (k : ℕ) → k ≡ length (flat_n n) → Kept L M top depth
      → Wrote L.out M.out cursor r (code_n W.globals n X.around X.types X.start)
      → Rest W X l at L top holds depth cursor (flat_n n ++ us) (ends_n W.globals n X.around X.types X.start ++ es) (code_n W.globals n X.around X.types X.start ▸ y)
      → Rest W (moved_to X (after (code_n W.globals n X.around X.types X.start) X.start)) l (at + k) M top holds depth r us es y
  rest-node n us es k e kept w h =
      let x = code_n W.globals n X.around X.types X.start in
      let q = after x X.start in
      record {
        laid = laid-at (ap (λ (i : ℕ). at + i) (sym e)) (laid-right (flat_n n) us (ends_n W.globals n X.around X.types X.start) es q (ends-N n W X) (cell-N n W X) h.laid);
        stood = rest-stood q refl kept w h;
        room = omega (arith, h.room, length-append (flat_n n) us, kept.same-env);
        ending = omega (arith, h.ending, length-append (flat_n n) us, kept.same_ends, e);
        fits = rest-fits q refl kept w h;
      }

  -- … leaves its type on the stack
  pub rest-push : (e : Expr) (us : List Entry) (es : List ℕ) {y : Code} {M : Lent} {r : Cursor} (k : ℕ) → k ≡ length (flat_e e) → Kept L M top depth
      → Wrote L.out M.out cursor r (code_e W.globals e X.around X.types X.start) → get_or M.stack depth 0 ≡ ty_byte (ty_e W.globals X.around e) → depth < 32
      → Rest W X l at L top holds depth cursor (flat_e e ++ us) (ends_e W.globals e X.around X.types X.start ++ es) (code_e W.globals e X.around X.types X.start ▸ y)
      → Rest W (held_on (ty_e W.globals X.around e) X (after (code_e W.globals e X.around X.types X.start) X.start)) l (at + k) M top holds (depth + 1) r us es y
  rest-push e us es k z kept w leaves small h =
      let f = rest-node (expr e) us es k z kept w h in
      record {
        laid = f.laid;
        stood = stood-push h.stood kept (wrote-later w) _ (wrote-address X.start w h.stood.address) (ty_e W.globals X.around e) leaves small;
        room = f.room;
        ending = f.ending;
        fits = f.fits;
      }

  -- the same place, other things lent
  pub rest-lent : {M : Lent} {p : Cursor} (us : List Entry) (es : List ℕ) {x : Code} → Kept L M top depth → p ≡ cursor
      → Rest W X l at L top holds depth cursor us es x → Rest W X l at M top holds depth p us es x
  rest-lent us es {x} k e h =
      record {
        laid = h.laid;
        stood = rw e (stood-next h.stood k (later-self cursor) X.start h.stood.address);
        room = rw k.same-env h.room;
        ending = rw k.same_ends h.ending;
        fits = rw (e, k.same_out) h.fits;
      }

  pub rest_at : {place : ℕ} {us : List Entry} {es : List ℕ} {x : Code} → at ≡ place → Rest W X l at L top holds depth cursor us es x → Rest W X l place L top holds depth cursor us es x
  rest_at e h = rw e at h

  -- … is ready
  pub rest-ready : (n : Node) {y : Code} {part : List ℕ} {nesting : ℕ} {sizes : List ℕ} → Table l part sizes at → deep_n n ≤ nesting
      → GoodN (scopes_of X.around) n → LandsN W L.env top X.around n
      → holds + holds_n n ≤ 16 → depth + need_n n ≤ 32
      → Rest W X l at L top holds depth cursor (flat_n n) (ends_n W.globals n X.around X.types X.start) (code_n W.globals n X.around X.types X.start ▸ y)
      → Ready n W X l part nesting at sizes L top holds depth cursor
  rest-ready n {y} table deep good lands few more h =
      record {
        table = table;
        laid = h.laid;
        stood = h.stood;
        room = omega (arith, h.room, room-N n);
        ending = h.ending;
        fits = fits-first (code_n W.globals n X.around X.types X.start) y cursor (length L.out) h.fits;
        deep = deep;
        good = good;
        lands = lands;
        few-holds = few;
        few-values = more;
      }

pub lands-kept : {W : Walk} {L M : Lent} {top d : ℕ} {Γ : List Around} → Kept L M top d → Lands W (env_of L.env top) Γ → Lands W (env_of M.env top) Γ
lands-kept k h = rw k.env h

-- ── what a shape asks ──
abbrev pub Shaping : List ℕ → List ℕ → ℕ → ℕ → Cursor → Type 0
Shaping stack out holds depth p = (depth ≤ length stack) × (depth < 256) × (holds < 256) × Fits (cursor_shaped depth p) (length out)

module _ {W : Walk} {X : Place} {l : List ℕ} {L : Lent} {top holds depth : ℕ} {cursor : Cursor} (s : Stood W X l L top holds depth cursor) (few : holds ≤ 16) (more : depth ≤ 32) where
  pub shaping-last : Fits (cursor_after (mark (found X.around X.types)) cursor) (length L.out) → Shaping L.stack L.out holds depth cursor
  shaping-last f = (omega (arith, s.stacked), omega arith, omega arith, rw (cursor-mark _ holds depth L.stack (stood-shape s) cursor) f)

  pub shaping : (y : Code) → Fits (cursor_after (mark (found X.around X.types) ▸ y) cursor) (length L.out) → Shaping L.stack L.out holds depth cursor
  shaping y f = shaping-last (fits-first (mark (found X.around X.types)) y cursor (length L.out) f)

  pub shaped-wrote : {q : Cursor} {o : List ℕ} → (q ≡ cursor_shaped depth cursor) × (o ≡ emit_shape cursor L.out holds depth (take depth L.stack))
      → Wrote L.out o cursor q (mark (found X.around X.types))
  shaped-wrote e = wrote-mark (found X.around X.types) holds depth L.stack (stood-shape s) e

pub fits-op : (i : Instr) (y : Code) (p : Cursor) (n : ℕ) → Fits (cursor_after (op i ▸ y) p) n → Fits (moved p) n
fits-op i y p n f = rw (cursor-op i p) (fits-first (op i) y p n f)

-- what the end of an entry asks
pub finishing : {p q : Cursor} {at m n a b : ℕ} → at + n ≤ a → 1 ≤ n → b ≡ a → q ≡ p → Fits p m → (at < b) × (q.address < 65536)
finishing h one same e f = (omega arith, rw e f.address-small)

-- ── a node by another name ──
pub ready-as : {n m : Node} {W : Walk} {X : Place} {l part : List ℕ} {nesting at : ℕ} {sizes : List ℕ} {L : Lent} {top holds depth : ℕ} {cursor : Cursor} → n ≡ m
    → Ready n W X l part nesting at sizes L top holds depth cursor → Ready m W X l part nesting at sizes L top holds depth cursor
ready-as e h = rw e at h

pub done-as : {n m : Node} {W : Walk} {X : Place} {at : ℕ} {L M : Lent} {depth : ℕ} {cursor r : Cursor} → n ≡ m → Done m W X at L M depth cursor r → Done n W X at L M depth cursor r
done-as e h = rw e h

pub aim-as : {us vs : List ℕ} {b : ℕ} (i : ℕ) → vs ≡ us → b ≡ get_or us i 0 → b ≡ get_or vs i 0
aim-as i e h = rw e h

-- what is kept where it is done: the names and the stack are what is left to say
pub kept-done : {n : Node} {W : Walk} {X : Place} {at : ℕ} {L M : Lent} {depth : ℕ} {cursor r : Cursor} (top d : ℕ) → Done n W X at L M depth cursor r
    → env_of M.env top ≡ env_of L.env top → length M.env ≡ length L.env → take d M.stack ≡ take d L.stack → length M.stack ≡ length L.stack → Kept L M top d
kept-done {n} {W} {X} {at} {L} top d h e f g k =
    let all = ends_n W.globals n X.around X.types X.start in
    record { env = e; same-env = f; same_ends = ap (length {A = ℕ}) h.ended ∙ length-sets L.ends at all; stack = g; same-stack = k; same_out = wrote-length h.wrote }
