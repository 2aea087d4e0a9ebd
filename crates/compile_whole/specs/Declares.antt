-- The loops over the root's declarations: their instructions, and how many of them are holds.
use Rattle.std.specs.Prelude.{◌≡◌, refl, ℕ, ◌+◌, ◌-◌, ◌*◌, ◌≤◌, ◌<◌, length, drop, get_or}
use Rattle.std.proofs.Math.Path.{ap}
use Rattle.std.proofs.Common.{sym, ◌∙◌, add-zero, add-one, length-drop, take_all, le-ltb}
use mathlib.Core.List.{List, [], ◌∷◌}
use native.Mathlib.Omega.{arith}
use Rattle.language.specs.Program.{flat_typed, flat_decl, flat_global}
use Rattle.words.specs.Numbers.{half_at}
use Rattle.values.specs.Types.{Ty, integer, logical, bits, reference, ty_byte}
use Rattle.values.specs.Values.{initial}
use Rattle.language.specs.Tree.{Typed, declare, holding, Global, local, class, procedure, Tree, locals}
use Rattle.language.specs.Limits.{head_cells, head_holds}
use Rattle.language_laws.specs.Claims.{entries_of}
use Rattle.table_scopes.specs.Trees.{length-Global}
use Rattle.table_entries.specs.Stands.{Stands}
use Rattle.table_forms.specs.Walk.{Table}
use Rattle.table_forms.specs.Part.{head_of, below}
use Rattle.bytecode.specs.Instructions.{own, push, store, take_hold}
use Rattle.compile_code.specs.Code.{Code, nil, op, ◌▸◌}
use Rattle.compile_code.specs.Compile.{classes_of, class_names, ty_in}
use Rattle.compile_code.specs.Encode.{record_of}
use Rattle.compile_output.specs.declared.Cursor.{Cursor}
use Rattle.compile_output.specs.EmitRecord.{moved, emit_op, Fits}
use Rattle.compile_output.specs.EmitCode.{cursor_after, emitted, grows, fits-before, length-emitted}
use Rattle.compile_symbols.specs.Numbers.{packed, type_in, second_in, number_of}
use Rattle.compile_symbols.specs.Packed.{type-packed, second-packed}
use Rattle.compile_symbols.specs.Whole.{kind_of, kind-here}
use Rattle.compile_symbols.specs.Tabled.{Tabled, the_tree, Headed, Left, left-start, Next, next-global, Within}
use Rattle.compile_emit.specs.EmitEntry.{emit_initial, cursor_declared, emit_declared, holds_by}
use Rattle.compile_emit.specs.EmitEntryLaws.{holds-one}
use Rattle.compile_code.specs.Counts.{length-class-names, length-classes}
use Rattle.compile_symbols.specs.Classes.{none_left}
use Rattle.compile_scopes.specs.Means.{byte_small}
use Rattle.compile_scopes.specs.Heads.{number-typed}
use Rattle.compile_scopes.specs.HeadOps.{head_ops}
use Rattle.compile_whole.specs.Heads.{root_head}
use Rattle.compile_whole.specs.Numbers.{cells_global, cells-next, classes_by, items_by, Numbers, numbers-next, numbers-local, numbers-all}
use Rattle.compile_whole.specs.Stage.{Prepared}

-- ── the instructions of one declaration, before which the root has n cells ──
module _ (gs : List Global) where
  abbrev pub decl_ops : Global → ℕ → Code
  decl_ops (local (declare x)) n = op (push (initial (ty_in gs x.type))) ▸ op (store own n)
  decl_ops (local (holding g)) n = op (take_hold g)
  decl_ops (class c xs) n = nil
  decl_ops (procedure a xs b) n = nil

  decl-cursor : (g : Global) (hs : List Global) (n : ℕ) (p : Cursor)
      → cursor_after (head_ops gs (locals (g ∷ hs)) n) p ≡ cursor_after (head_ops gs (locals hs) (n + cells_global g)) (cursor_after (decl_ops g n) p)
  unfolding cursor_after head_ops locals flat_decl flat_typed
  decl-cursor (local (declare x)) hs n p = rw (add-one n)
  decl-cursor (local (holding g)) hs n p = rw (add-zero n)
  decl-cursor (class c xs) hs n p = rw (add-zero n)
  decl-cursor (procedure a xs b) hs n p = rw (add-zero n)

  decl-emitted : (g : Global) (hs : List Global) (n : ℕ) (p : Cursor) (l : List ℕ)
      → emitted (head_ops gs (locals (g ∷ hs)) n) p l ≡ emitted (head_ops gs (locals hs) (n + cells_global g)) (cursor_after (decl_ops g n) p) (emitted (decl_ops g n) p l)
  unfolding cursor_after emitted head_ops locals flat_decl flat_typed
  decl-emitted (local (declare x)) hs n p l = rw (add-one n)
  decl-emitted (local (holding g)) hs n p l = rw (add-zero n)
  decl-emitted (class c xs) hs n p l = rw (add-zero n)
  decl-emitted (procedure a xs b) hs n p l = rw (add-zero n)

-- ── as the code emits them ──
initial-emitted : (t : Ty) (p : Cursor) (l : List ℕ) → emit_initial (ty_byte t) p l ≡ emitted (op (push (initial t))) p l
unfolding emitted record_of
initial-emitted integer p l = refl
initial-emitted logical p l = refl
initial-emitted bits p l = refl
initial-emitted (reference c) p l = rw (le-ltb (16 + c) 16 (omega arith), let z : 16 + c - 16 ≡ c = omega arith in z)

-- what is known of a declaration of variables
abbrev KnownIn : List Global → Global → ℕ → ℕ → Type 0
KnownIn gs (local d) n k = k ≡ number_of (class_names (classes_of gs)) 1 n (flat_decl d)
KnownIn gs (class c xs) n k = Unit {0}
KnownIn gs (procedure a xs b) n k = Unit {0}

module _ {l part sizes : List ℕ} {place : ℕ} (here : Table l part sizes place) (gs : List Global) where
  declared-cursor : (g : Global) (n : ℕ) (p : Cursor) → Stands (entries_of l) place (flat_global g) → cursor_declared (half_at part 0) p ≡ cursor_after (decl_ops gs g n) p
  unfolding cursor_after cursor_declared flat_global flat_decl flat_typed
  declared-cursor (local (declare x)) n p h = rw (head_of _ _ here h).kind
  declared-cursor (local (holding g)) n p h = rw (head_of _ _ here h).kind
  declared-cursor (class c xs) n p h = rw (head_of _ _ here h).kind
  declared-cursor (procedure a xs b) n p h = rw (head_of _ _ here h).kind

  -- a variable of the root
  variable-emitted : (x : Typed) (n k : ℕ) (p : Cursor) (out : List ℕ) → k ≡ number_of (class_names (classes_of gs)) 1 n (flat_typed x) → n < 256 → ty_byte (ty_in gs x.type) < 256
      → emit_op (moved p) (emit_initial (type_in k) p out) 6 0 (second_in k) ≡ emitted (decl_ops gs (local (declare x)) n) p out
  unfolding cursor_after emitted record_of
  variable-emitted x n k p out e small bytes =
      let t = ty_byte (ty_in gs x.type) in
      let f : k ≡ packed t 1 n = e ∙ number-typed (class_names (classes_of gs)) 1 n x in
      let u : type_in k ≡ t = ap type_in f ∙ type-packed t 1 n bytes (omega arith) small in
      let v : second_in k ≡ n = ap second_in f ∙ second-packed t 1 n bytes (omega arith) small in
      rw (u, v) (ap (λ (m : List ℕ). emit_op (moved p) m 6 0 n) (initial-emitted (ty_in gs x.type) p out))

  declared-emitted : (g : Global) (n k : ℕ) (p : Cursor) (out : List ℕ) → Stands (entries_of l) place (flat_global g) → KnownIn gs g n k → n + cells_global g ≤ 32 → length (classes_of gs) ≤ 16
      → emit_declared (half_at part 0) (half_at part 2) k p out ≡ emitted (decl_ops gs g n) p out
  unfolding emitted emit_declared flat_global flat_decl flat_typed record_of
  declared-emitted (local (declare x)) n k p out h e few classes = rw (head_of _ _ here h).kind
      (variable-emitted x n k p out e (omega arith) (byte_small (class_names (classes_of gs)) x.type (omega (arith, length-class-names (classes_of gs)))))
  declared-emitted (local (holding g)) n k p out h e few classes = let d = head_of _ _ here h in rw (d.kind, d.a)
  declared-emitted (class c xs) n k p out h e few classes = rw (head_of _ _ here h).kind
  declared-emitted (procedure a xs b) n k p out h e few classes = rw (head_of _ _ here h).kind

-- ── the loop that emits them: whatever finishes the rest finishes the whole ──
pub record HeadSoFar (l known old : List ℕ) (cursor : Cursor) (out : List ℕ) (place left : ℕ) (p : Cursor) : Type 0 where
  pub globals : List Global
  pub cells : ℕ
  pub remain : Left l place left globals
  pub numbers : Numbers (classes_by (the_tree l)) (items_by (the_tree l)) known place cells globals
  pub few : cells + head_cells (locals globals) ≤ 32
  pub advanced : cursor_after (head_ops (the_tree l).head (locals globals) cells) p ≡ cursor_after (root_head (the_tree l)) cursor
  pub written : emitted (head_ops (the_tree l).head (locals globals) cells) p out ≡ emitted (root_head (the_tree l)) cursor old

pub head-start : {l sizes known : List ℕ} {count : ℕ} (old : List ℕ) (cursor : Cursor) → Prepared (the_tree l) l sizes known
    → count ≡ length (the_tree l).head → HeadSoFar l known old cursor old 1 count cursor
head-start {l} old cursor h c =
    record {
      globals = (the_tree l).head;
      cells = 0;
      remain = left-start (record { tabled = h.tabled; counted = c });
      numbers = numbers-all (the_tree l) h.numbered;
      few = omega (arith, h.limited.root.cells);
      advanced = refl;
      written = refl;
    }

-- the next declaration
record NextHead (l sizes known old : List ℕ) (cursor : Cursor) (out : List ℕ) (place left : ℕ) (p : Cursor) : Type 0 where
  pub this : Global
  pub later : List Global
  pub cells : ℕ
  pub next : Next l sizes place left this later
  pub numbers : Numbers (classes_by (the_tree l)) (items_by (the_tree l)) known place cells (this ∷ later)
  pub few : cells + cells_global this + head_cells (locals later) ≤ 32
  pub advanced : cursor_after (head_ops (the_tree l).head (locals (this ∷ later)) cells) p ≡ cursor_after (root_head (the_tree l)) cursor
  pub written : emitted (head_ops (the_tree l).head (locals (this ∷ later)) cells) p out ≡ emitted (root_head (the_tree l)) cursor old

known-here : (t : Tree) {known : List ℕ} {place n : ℕ} (g : Global) (gs : List Global) → Numbers (classes_by t) (items_by t) known place n (g ∷ gs) → KnownIn t.head g n (get_or known place 0)
known-here t (local d) gs h = numbers-local (classes_by t) (items_by t) d gs h
known-here t (class c xs) gs h = tt
known-here t (procedure a xs b) gs h = tt

next-in : (gs : List Global) (n : ℕ) {l sizes known old : List ℕ} {cursor : Cursor} {out : List ℕ} {place left : ℕ} {p : Cursor} → Tabled l sizes (the_tree l) → 0 < left → Left l place left gs
    → Numbers (classes_by (the_tree l)) (items_by (the_tree l)) known place n gs → n + head_cells (locals gs) ≤ 32
    → cursor_after (head_ops (the_tree l).head (locals gs) n) p ≡ cursor_after (root_head (the_tree l)) cursor
    → emitted (head_ops (the_tree l).head (locals gs) n) p out ≡ emitted (root_head (the_tree l)) cursor old
    → NextHead l sizes known old cursor out place left p
next-in [] n t h k m few e f = absurd (omega (arith, k.many))
next-in (g ∷ gs) n {l} t h k m few e f =
    record { this = g; later = gs; cells = n; next = next-global g gs t k; numbers = m; few = omega (arith, cells-next (classes_by (the_tree l)) (items_by (the_tree l)) g gs); advanced = e; written = f }

module _ {l sizes known old : List ℕ} {cursor : Cursor} {out : List ℕ} {place left : ℕ} {p : Cursor} (h : Prepared (the_tree l) l sizes known) (s : HeadSoFar l known old cursor out place left p) where
  pub same_out : length out ≡ length old
  same_out = sym (length-emitted (head_ops (the_tree l).head (locals s.globals) s.cells) p out) ∙ (ap (length {A = ℕ}) s.written ∙ length-emitted (root_head (the_tree l)) cursor old)

  module _ (m : 0 < left) where
    head-next-in : NextHead l sizes known old cursor out place left p
    head-next-in = next-in s.globals s.cells h.tabled m s.remain s.numbers s.few s.advanced s.written

    pub head-within : Within l sizes place
    head-within = head-next-in.next.within

    table_here : Table l (below l (8 * place)) sizes place
    table_here = record { whole = take_all (length l - 8 * place) (drop (8 * place) l) (omega (arith, length-drop (8 * place) l)); legible = h.tabled.legible; known = h.tabled.known }

    pub head-part : 8 ≤ length (below l (8 * place))
    head-part =
        let w = head-within in
        rw (take_all (length l - 8 * place) (drop (8 * place) l) (omega (arith, length-drop (8 * place) l)), length-drop (8 * place) l) (omega (arith, w.some, w.within))

    pub head-fits : Fits (cursor_after (root_head (the_tree l)) cursor) (length old) → Fits (cursor_declared (half_at (below l (8 * place)) 0) p) (length out)
    head-fits f =
        let x = head-next-in in let t = the_tree l in
        let e : cursor_after (head_ops t.head (locals x.later) (x.cells + cells_global x.this)) (cursor_after (decl_ops t.head x.this x.cells) p) ≡ cursor_after (root_head t) cursor
        = sym (decl-cursor t.head x.this x.later x.cells p) ∙ x.advanced in
        rw (declared-cursor table_here t.head x.this x.cells p x.next.stands, same_out)
        (fits-before (length old) (grows (head_ops t.head (locals x.later) (x.cells + cells_global x.this)) (cursor_after (decl_ops t.head x.this x.cells) p)) (rw e f))

    pub head-again : (k n : ℕ) (q : Cursor) (new : List ℕ) → k ≡ get_or known place 0 → n ≡ get_or sizes place 0
        → (q ≡ cursor_declared (half_at (below l (8 * place)) 0) p) × (new ≡ emit_declared (half_at (below l (8 * place)) 0) (half_at (below l (8 * place)) 2) k p out)
        → HeadSoFar l known old cursor new (place + n) (left - 1) q
    head-again k n q new e z w =
        let x = head-next-in in let t = the_tree l in
        let ph : q ≡ cursor_after (decl_ops t.head x.this x.cells) p = w.0 ∙ declared-cursor table_here t.head x.this x.cells p x.next.stands in
        let ih : new ≡ emitted (decl_ops t.head x.this x.cells) p out
        = w.1 ∙ declared-emitted table_here t.head x.this x.cells k p out x.next.stands (rw e (known-here t x.this x.later x.numbers)) (omega (arith, x.few))
        (omega (arith, length-classes t.head, h.tabled.readable.classes)) in
        record {
          globals = x.later;
          cells = x.cells + cells_global x.this;
          remain = rw z x.next.next;
          numbers = rw (z ∙ x.next.size ∙ length-Global x.this) (numbers-next (classes_by t) (items_by t) x.this x.later x.numbers);
          few = x.few;
          advanced = rw ph (sym (decl-cursor t.head x.this x.later x.cells p) ∙ x.advanced);
          written = rw (ph, ih) (sym (decl-emitted t.head x.this x.later x.cells p out) ∙ x.written);
        }

  pub head-end : left ≡ 0 → (p ≡ cursor_after (root_head (the_tree l)) cursor) × (out ≡ emitted (root_head (the_tree l)) cursor old)
  unfolding cursor_after emitted head_ops locals
  head-end m = let e = none_left s.globals s.remain m in (rw e at s.advanced, rw e at s.written)

-- ── the loop that counts holds ──
open_next : (g : Global) (gs : List Global) → head_holds (locals (g ∷ gs)) ≡ holds_by (kind_of g) + head_holds (locals gs)
unfolding head_holds locals kind_of
open_next (local (declare x)) gs = omega arith
open_next (local (holding g)) gs = omega arith
open_next (class c xs) gs = omega arith
open_next (procedure a xs b) gs = omega arith

pub record HoldsSoFar (l : List ℕ) (place left n : ℕ) : Type 0 where
  pub globals : List Global
  pub remain : Left l place left globals
  pub same : n + head_holds (locals globals) ≡ head_holds (locals (the_tree l).head)
  pub few : n < place

pub holds-start : {l sizes : List ℕ} {count : ℕ} → Headed l sizes count → HoldsSoFar l 1 count 0
holds-start {l} h = record { globals = (the_tree l).head; remain = left-start h; same = omega arith; few = omega arith }

record NextHold (l sizes : List ℕ) (place left n : ℕ) : Type 0 where
  pub this : Global
  pub later : List Global
  pub next : Next l sizes place left this later
  pub same : n + head_holds (locals (this ∷ later)) ≡ head_holds (locals (the_tree l).head)

next-hold : (gs : List Global) {l sizes : List ℕ} {place left n : ℕ} → Tabled l sizes (the_tree l) → 0 < left → Left l place left gs → n + head_holds (locals gs) ≡ head_holds (locals (the_tree l).head)
    → NextHold l sizes place left n
next-hold [] t h k e = absurd (omega (arith, k.many))
next-hold (g ∷ gs) t h k e = record { this = g; later = gs; next = next-global g gs t k; same = e }

module _ {l sizes : List ℕ} {place left n : ℕ} (t : Tabled l sizes (the_tree l)) (s : HoldsSoFar l place left n) where
  pub holds-within : 0 < left → Within l sizes place
  holds-within m = (next-hold s.globals t m s.remain s.same).next.within

  pub holds-next : (k size : ℕ) → 0 < left → k ≡ holds_by (half_at l (8 * place)) → size ≡ get_or sizes place 0 → HoldsSoFar l (place + size) (left - 1) (n + k)
  holds-next k size m e z =
      let x = next-hold s.globals t m s.remain s.same in
      let f : k ≡ holds_by (kind_of x.this) = e ∙ ap holds_by (kind-here l place x.this x.later x.next) in
      record {
        globals = x.later;
        remain = rw z x.next.next;
        same = omega (arith, x.same, open_next x.this x.later);
        few = omega (arith, s.few, x.next.within.some, holds-one (kind_of x.this));
      }

  pub holds-few : (k size : ℕ) → 0 < left → k ≡ holds_by (half_at l (8 * place)) → size ≡ get_or sizes place 0 → n + k < place + size
  holds-few k size m e z = (holds-next k size m e z).few

  pub holds-end : left ≡ 0 → n ≡ head_holds (locals (the_tree l).head)
  unfolding head_holds locals
  holds-end m = let e = rw (none_left s.globals s.remain m) at s.same in omega arith
