-- The entry at the start of a part of a table, parts that start inside it, and what every walker is asked with.
use Rattle.std.specs.Prelude.{◌≡◌, List, [], ◌∷◌, ℕ, ◌+◌, ◌-◌, ◌*◌, ◌/◌, ◌≤◌, ◌<◌, pos, length, drop, take, get_or, Ok, Err}
use Rattle.std.proofs.Common.{ap, ◌∙◌, arith, add-zero, length-drop, take_all, drop-drop}
use Rattle.std.proofs.Math.Option.{Option}
use Rattle.words.specs.Numbers.{half_at, word_at}
use Rattle.values.specs.Types.{Ty}
use Rattle.language.specs.Tree.{Stmt, Expr}
use Rattle.language.specs.Table.{Entry, entry}
use Rattle.language.specs.Faults.{size_e}
use Rattle.logic.specs.Tests.{clash}
use Rattle.language_laws.specs.Claims.{entries_of}
use Rattle.table_entries.specs.Arity.{parts}
use Rattle.table_entries.specs.Spans.{Spans, spans-one, spans-none}
use Rattle.table_entries.specs.Entries.{half-part, word-part, length-entries}
use Rattle.table_entries.specs.Stands.{Stands, stands-within, fields}
use Rattle.table_scopes.specs.Flaws.{Verdict}
use Rattle.table_scopes.specs.Trees.{length-E, spans-S, spans-E}
use Rattle.table_scopes.specs.Defines.{number-here, span-here}
use Rattle.table_types.specs.Types.{ty_num}
use Rattle.table_types.specs.Settles.{Types}
use Rattle.table_forms.specs.Forms.{Form, simple, guard, counted, blocked, bodied, labelled, flat_f, form_s, form_e, ExprForm, flat-S, flat-E, deep_f}
use Rattle.table_forms.specs.Walk.{Table, room_f, Asks, Holds}

pub record Head (l part : List ℕ) (at : ℕ) (e : Entry) : Type 0 where
  pub kind : half_at part 0 ≡ e.kind
  pub a : half_at part 2 ≡ e.a
  pub b : (n : ℕ) → e.b ≡ pos n → word_at part 4 ≡ n
  pub within : 8 * (at + 1) ≤ length l
  pub long : length part ≡ length l - 8 * at

pub head_of : {l part sizes : List ℕ} {at : ℕ} (e : Entry) (us : List Entry) → Table l part sizes at → Stands (entries_of l) at (e ∷ us) → Head l part at e
head_of {l} {part} {sizes} {at} e us t s =
    let f = fields l at e us s in
    record {
      kind = rw t.whole (half-part l (8 * at) 0 ∙ rw (add-zero (8 * at)) f.kind);
      a = rw t.whole (half-part l (8 * at) 2 ∙ f.a);
      b = λ n z. rw t.whole (word-part l (8 * at) 4 ∙ number-here t.legible n f z);
      within = f.within;
      long = rw t.whole (length-drop (8 * at) l);
    }

-- a part that starts inside a part
pub table-next : {l part sizes : List ℕ} {at : ℕ} → Table l part sizes at → (k n : ℕ) → k ≡ 8 * n → Table l (take (length part - k) (drop k part)) sizes (at + n)
table-next {l} {part} {sizes} {at} t k n e =
    let z : 8 * at + k ≡ 8 * (at + n) = omega arith in
    record { whole = take_all (length part - k) (drop k part) (omega (arith, length-drop k part)) ∙ rw (t.whole, drop-drop k (8 * at) l, z); legible = t.legible; known = t.known }

-- the size that is known where a part begins
pub size-here : {l part sizes : List ℕ} {at : ℕ} (e : Entry) (us : List Entry) → Table l part sizes at → Spans 1 (e ∷ us) → Stands (entries_of l) at (e ∷ us) → get_or sizes at 0 ≡ length (e ∷ us)
size-here {l} {at = at} e us t s h =
    let w = stands-within e us h in
    t.known.sized at (omega (arith, length-entries (length l / 8) l)) ∙ span-here l (e ∷ us) s h

pub room-le : (f : Form) → room_f f ≤ length (flat_f f)
room-le (simple o es) = omega arith
room-le (guard g e is) = omega arith
room-le (counted a e f g s) = omega arith
room-le (blocked ds is) = omega arith
room-le (bodied ds is e) = omega arith
room-le (labelled a) = omega arith

-- the part at a place is passed by its size
pub record Passes (part sizes : List ℕ) (at n : ℕ) : Type 0 where
  pub known : at < length sizes
  pub fits : 8 * n ≤ length part
  pub small : at + n ≤ 2048

pub passes : {l part sizes : List ℕ} {at : ℕ} (e : Entry) (us : List Entry) → Table l part sizes at → Spans 1 (e ∷ us)
    → Stands (entries_of l) at (e ∷ us) → (n : ℕ) → n ≡ get_or sizes at 0 → Passes part sizes at n
passes {l} {part} {sizes} {at} e us t s h n k =
    let w = stands-within e us h in
    let z = size-here e us t s h in
    record {
      known = omega (arith, length-entries (length l / 8) l, t.known.wide);
      fits = omega (arith, length-entries (length l / 8) l, (head_of e us t h).long);
      small = omega (arith, length-entries (length l / 8) l, t.legible.short);
    }

pub size-one : (e : Expr) → 1 ≤ size_e e
size-one e = omega (arith, length-E e, ap length (flat-E e))

pub expr-room : (f : Form) → ExprForm f → (top n : ℕ) → 4 * (top + room_f f) ≤ n → 4 * (top + 1) ≤ n
expr-room (simple o es) h top n r = omega arith
expr-room (guard g e is) h top n r = absurd h
expr-room (counted a e f g s) h top n r = absurd h
expr-room (blocked ds is) h top n r = absurd h
expr-room (bodied ds is e) h top n r = omega arith
expr-room (labelled a) h top n r = absurd h

pub spans-form : (e : Expr) → Spans 1 (flat_f (form_e e))
spans-form e = rw (flat-E e) at (spans-E e)

pub spans-stmt : (s : Stmt) → Spans 1 (flat_f (form_s s))
spans-stmt s = rw (flat-S s) at (spans-S s)

pub fine-type : (r : Verdict) (t : ℕ) (o : Option Ty) → r ≡ Ok t → Types r o → t ≡ ty_num o
fine-type (Ok u) t o e h = let z : u ≡ t = cc in rw z at h
fine-type (Err f) t o e h = clash (cc)

pub spans-label : (a : ℕ) → Spans 1 (flat_f (labelled a))
unfolding parts
spans-label a = spans-one (entry 20 a (pos 0)) [] spans-none

pub fine-held : (r : Verdict) (t : ℕ) {xs ys : List ℕ} → r ≡ Ok t → Holds r (xs ≡ ys) → xs ≡ ys
fine-held (Ok u) t e h = h
fine-held (Err f) t e h = clash (cc)

abbrev pub below : List ℕ → ℕ → List ℕ
below part k = take (length part - k) (drop k part)

deep_one : (f : Form) → 1 ≤ deep_f f
deep_one (simple o es) = omega arith
deep_one (guard g e is) = omega arith
deep_one (counted a e f g s) = omega arith
deep_one (blocked ds is) = omega arith
deep_one (bodied ds is e) = omega arith
deep_one (labelled a) = omega arith

-- what every walker is asked with
pub record Asked (l part : List ℕ) (nesting at : ℕ) (env : List ℕ) (top : ℕ) : Type 0 where
  pub long : 8 ≤ length part
  pub nested : 1 ≤ nesting
  pub small : at + 1 ≤ 2048
  pub room : 4 * top ≤ length env

pub asked : {P : Form → Type 0} {l part : List ℕ} {nesting at : ℕ} {sizes env : List ℕ} {top : ℕ} → Asks P l part nesting at sizes env top → Asked l part nesting at env top
asked q = let d = head_of _ _ q.ready.table q.ready.stands in
    record {
      long = omega (arith, d.long, d.within);
      nested = omega (arith, deep_one q.form, q.ready.deep);
      small = omega (arith, d.within, q.ready.table.legible.short);
      room = omega (arith, q.ready.room);
    }
