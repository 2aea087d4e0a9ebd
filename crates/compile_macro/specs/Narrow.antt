-- Code that keeps the loading rules has shapes within the limits and numbers within their bytes.
use Rattle.std.specs.Prelude.{Bool, ◌≡◌, ℕ, zero, suc, ◌+◌, ◌≤◌, ◌<◌, length}
use Rattle.std.proofs.Math.Bool.{true, false}
use Rattle.std.proofs.Math.Path.{refl}
use mathlib.Core.List.{List, [], ◌∷◌}
use Rattle.std.proofs.Math.Option.{Option, none, some}
use native.Mathlib.Omega.{arith}
use Rattle.std.proofs.Math.Dec.{ltb}
use Rattle.std.proofs.Math.ListN.{get_elem?}
use borrow.Author.Tests.{leb-true, ltb-true}
use Rattle.logic.specs.Options.{keep}
use Rattle.logic.specs.Choice.{If◌then◌else◌}
use Rattle.words.specs.Laws.{word_below}
use Rattle.values.specs.Types.{Ty, logical, reference}
use Rattle.values.specs.Operators.{Operator, unary, binary, negate, absolute, complement, plus, minus, times, divide, remainder, less, at_most, greater, at_least, equal}
use Rattle.values.specs.Operators.{unequal, both, either, shift_left, shift_right}
use Rattle.values.specs.Values.{int, log, bit, ref}
use Rattle.values.specs.Conditions.{condition-byte}
use Rattle.bytecode.specs.Macro.{Body, Shape, shape, Placed, Macro, shape_in}
use Rattle.bytecode.specs.Instructions.{Owner, own, root, Instr, end, push, load, store, operate, go, go_unless, return, get_field, put_field, read_fader, take_hold, let_hold}
use Rattle.bytecode.specs.Instructions.{stop, body_at, in_body, procedure_at, cell_ty, cells_of, field_ty}
use Rattle.bytecode.specs.Instructions.{call as call_op, make as make_op, set_level as set_op, assert as assert_op}
use Rattle.bytecode.specs.Rules.{plain, wrong, fork, strip, stripped, flow, effect, giving, taking, calling, making, roomy, equal_shape}
use Rattle.logic.specs.Lists.{Each}
use Rattle.logic.specs.ListLaws.{each_at, index_below}
use Rattle.logic.specs.OptionLaws.{never-some}
use Rattle.logic.specs.Tests.{halves}
use Rattle.bytecode_laws.specs.Terms.{Ascends, OfBytes, WellFormed, ReadClass}
use Rattle.bytecode_laws.specs.Bodies.{inside-code}
use Rattle.bytecode_laws.specs.Ops.{stop-condition}
use Rattle.compile_code.specs.Code.{Code, nil, op, mark, cell, ◌▸◌, At, after, Line, first, lay, placed, placed_at}
use Rattle.compile_code.specs.Encode.{record_of, records_of, operator_code}
use Rattle.compile_rules.specs.Flows.{Goes, Comes, Seg, Marks}
use Rattle.compile_rules.specs.Faultless.{Aimed}
use Rattle.compile_macro.specs.Laid.{Ops}
use Rattle.compile_macro.specs.Fields.{Holdable}

-- ── shapes ──
comes-roomy : (f : Option Shape) (s : Shape) → Comes f s → roomy s ≡ true
comes-roomy none s h = h
comes-roomy (some t) s h = h.1

pub roomy-marks : (m : Macro) (k : ℕ) (Aim : ℕ → Shape → Type 0) (x : Code) (p : At) (f g : Option Shape) → Seg m k Aim x f g → Marks m k (λ a s. roomy s ≡ true) x p
unfolding Seg Marks
roomy-marks m k Aim nil p f g h = tt
roomy-marks m k Aim (op i) p f g h = tt
roomy-marks m k Aim (mark s) p f g h = comes-roomy f s h.0
roomy-marks m k Aim (cell t) p f g h = tt
roomy-marks m k Aim (x ▸ y) p f g h = (roomy-marks m k Aim x p f h.0 h.1, roomy-marks m k Aim y (after x p) h.0 g h.2)

abbrev pub IfSome : (Shape → Type 0) → Option Shape → Type 0
IfSome Q none = Unit {0}
IfSome Q (some s) = Q s

abbrev pub ShapeLines : (Shape → Type 0) → List Line → Type 0
ShapeLines Q ls = Each (λ (l : Line). IfSome Q l.shape) ls

either_first : (Q : Shape → Type 0) (o : Option Shape) (s : Shape) → IfSome Q o → Q s → IfSome Q (first o s)
either_first Q none s h g = g
either_first Q (some t) s h g = h

pub shape-lines : (m : Macro) (k : ℕ) (Q : Shape → Type 0) (x : Code) (p : At) (o : Option Shape) (f : Option Shape → List Line)
    → Marks m k (λ a s. Q s) x p → IfSome Q o → ((q : Option Shape) → IfSome Q q → ShapeLines Q (f q)) → ShapeLines Q (lay x o f)
unfolding lay Marks
shape-lines m k Q nil p o f h g z = z o g
shape-lines m k Q (op i) p o f h g z = (g, z none tt)
shape-lines m k Q (mark s) p o f h g z = z (first o s) (either_first Q o s g h)
shape-lines m k Q (cell t) p o f h g z = z o g
shape-lines m k Q (x ▸ y) p o f h g z = shape-lines m k Q x p o (λ q. lay y q f) h.0 g (λ q u. shape-lines m k Q y (after x p) q f h.1 u z)

pub both-marks : (m : Macro) (k : ℕ) (P Q : Shape → Type 0) (x : Code) (p : At) → Marks m k (λ a s. P s) x p → Marks m k (λ a s. Q s) x p → Marks m k (λ a s. P s × Q s) x p
unfolding Marks
both-marks m k P Q nil p h g = tt
both-marks m k P Q (op i) p h g = tt
both-marks m k P Q (mark s) p h g = (h, g)
both-marks m k P Q (cell t) p h g = tt
both-marks m k P Q (x ▸ y) p h g = (both-marks m k P Q x p h.0 g.0, both-marks m k P Q y (after x p) h.1 g.1)

-- from address i on, n lines
abbrev Spread : (Shape → Type 0) → ℕ → ℕ → Placed → Type 0
Spread Q i e p = (i ≤ p.address) × (p.address < e) × Q p.found

pub each_more : {A : Type 0} (P Q : A → Type 0) → ((x : A) → P x → Q x) → (xs : List A) → Each P xs → Each Q xs
each_more P Q f [] h = tt
each_more P Q f (x ∷ xs) h = (f x h.0, each_more P Q f xs h.1)

pub placed-each : (Q : Shape → Type 0) (ls : List Line) (i e : ℕ) → i + length ls ≤ e → ShapeLines Q ls → Each (Spread Q i e) (placed i ls)
unfolding placed
placed-each Q [] i e l h = tt
placed-each Q (x ∷ ls) i e l h =
    pick x.shape h.0 (each_more (Spread Q (suc i) e) (Spread Q i e) (λ p q. (let z = q.0 in omega arith, q.1, q.2)) (placed (suc i) ls)
    (placed-each Q ls (suc i) e (omega arith) h.1))
  where
    pick : (o : Option Shape) → IfSome Q o → Each (Spread Q i e) (placed (suc i) ls) → Each (Spread Q i e) (placed_at o i (placed (suc i) ls))
    pick none g u = u
    pick (some s) g u = ((omega arith, omega arith, g), u)

pub placed-ascends : (ls : List Line) (i a : ℕ) → a ≤ i → Ascends a (placed i ls)
unfolding placed
placed-ascends [] i a h = tt
placed-ascends (x ∷ ls) i a h = pick x.shape (λ b g. placed-ascends ls (suc i) b g)
  where
    pick : (o : Option Shape) → ((b : ℕ) → b ≤ suc i → Ascends b (placed (suc i) ls)) → Ascends a (placed_at o i (placed (suc i) ls))
    pick none u = u a (omega arith)
    pick (some s) u = (h, u (suc i) (omega arith))

pub placed-few : (ls : List Line) (i : ℕ) → length (placed i ls) ≤ length ls
unfolding placed
placed-few [] i = omega arith
placed-few (x ∷ ls) i = pick x.shape (placed-few ls (suc i))
  where
    pick : (o : Option Shape) → length (placed (suc i) ls) ≤ length ls → length (placed_at o i (placed (suc i) ls)) ≤ suc (length ls)
    pick none u = omega arith
    pick (some s) u = omega arith

-- ── ops ──
-- an op that does not break the flow
abbrev pub Flowing : Macro → ℕ → Instr → Type 0
Flowing m k i = (s : Shape) × (g : Option Shape) × Goes (Aimed m k) (flow (effect m k i s) s) g

pub flowing : (m : Macro) (k : ℕ) (x : Code) (f g : Option Shape) → Seg m k (Aimed m k) x f g → Ops (Flowing m k) x
unfolding Seg Ops
flowing m k nil f g h = tt
flowing m k (op i) f g h = (h.0, g, h.2)
flowing m k (mark s) f g h = tt
flowing m k (cell t) f g h = tt
flowing m k (x ▸ y) f g h = (flowing m k x f h.0 h.1, flowing m k y h.0 g h.2)

pub two-ops : (P Q R : Instr → Type 0) → ((i : Instr) → P i → Q i → R i) → (x : Code) → Ops P x → Ops Q x → Ops R x
unfolding Ops
two-ops P Q R f nil h g = tt
two-ops P Q R f (op i) h g = f i h g
two-ops P Q R f (mark s) h g = tt
two-ops P Q R f (cell t) h g = tt
two-ops P Q R f (x ▸ y) h g = (two-ops P Q R f x h.0 g.0, two-ops P Q R f y h.1 g.1)

operator-byte : (o : Operator) → operator_code o < 256
operator-byte (unary negate) = omega arith
operator-byte (unary absolute) = omega arith
operator-byte (unary complement) = omega arith
operator-byte (binary plus) = omega arith
operator-byte (binary minus) = omega arith
operator-byte (binary times) = omega arith
operator-byte (binary divide) = omega arith
operator-byte (binary remainder) = omega arith
operator-byte (binary less) = omega arith
operator-byte (binary at_most) = omega arith
operator-byte (binary greater) = omega arith
operator-byte (binary at_least) = omega arith
operator-byte (binary equal) = omega arith
operator-byte (binary unequal) = omega arith
operator-byte (binary both) = omega arith
operator-byte (binary either) = omega arith
operator-byte (binary shift_left) = omega arith
operator-byte (binary shift_right) = omega arith

module _ (m : Macro) (k : ℕ) (w : WellFormed m) (short : length m.code < 65536) (few : (j : ℕ) (b : Body) → body_at m j ≡ some b → length b.cells ≤ 32) where
  -- what must be there for the effect not to be wrong
  from-giving : (o : Option Ty) (ins : List Ty) (s : Shape) (g : Option Shape) → Goes (Aimed m k) (flow (giving o ins) s) g → (t : Ty) × (o ≡ some t)
  unfolding flow
  from-giving none ins s g h = absurd h
  from-giving (some t) ins s g h = (t, refl)

  from-taking : (o : Option Ty) (ins : List Ty) (s : Shape) (g : Option Shape) → Goes (Aimed m k) (flow (taking o ins) s) g → (t : Ty) × (o ≡ some t)
  unfolding flow
  from-taking none ins s g h = absurd h
  from-taking (some t) ins s g h = (t, refl)

  from-calling : (o : Option Body) (s : Shape) (g : Option Shape) → Goes (Aimed m k) (flow (calling o) s) g → (b : Body) × (o ≡ some b)
  unfolding flow
  from-calling none s g h = absurd h
  from-calling (some b) s g h = (b, refl)

  from-making : (o : Option (List Ty)) (c : ℕ) (s : Shape) (g : Option Shape) → Goes (Aimed m k) (flow (making o c) s) g → (ts : List Ty) × (o ≡ some ts)
  unfolding flow
  from-making none c s g h = absurd h
  from-making (some ts) c s g h = (ts, refl)

  from-fork : (o : Option (List Ty)) (t : ℕ) (s : Shape) (g : Option Shape) → Goes (Aimed m k) (stripped o (λ ts. fork (shape s.holds ts) t)) g → (r : Shape) × Aimed m k t r
  from-fork none t s g h = absurd h
  from-fork (some ts) t s g h = (shape s.holds ts, h.1)

  cell-of : (o : Option Body) (c : ℕ) (t : Ty) → ((b : Body) → o ≡ some b → length b.cells ≤ 32) → get_elem? (cells_of o) c ≡ some t → c < 32
  cell-of none c t f h = never-some h
  cell-of (some b) c t f h = let z = index_below b.cells c t h in let y = f b refl in omega arith

  small-cell : (o : Owner) (c : ℕ) (t : Ty) → cell_ty m k o c ≡ some t → c < 32
  small-cell own c t h = cell-of (body_at m k) c t (few k) h
  small-cell root c t h = cell-of (body_at m 0) c t (few 0) h

  small-field : (o : Option (List Ty)) (x : ℕ) (t : Ty) → keep o (λ ts. get_elem? ts x) ≡ some t → (ts : List Ty) × (o ≡ some ts) × (x < length ts)
  small-field none x t h = never-some h
  small-field (some ts) x t h = (ts, refl, index_below ts x t h)

  small-body : (b : ℕ) (B : Body) → procedure_at m b ≡ some B → b < 64
  small-body zero B h = never-some h
  small-body (suc b) B h = let z = index_below m.bodies (suc b) B h in let y = w.few-bodies in omega arith

  small-class : (c : ℕ) (ts : List Ty) → get_elem? m.classes c ≡ some ts → (c < 16) × (length ts ≤ 8)
  small-class c ts h = let z = index_below m.classes c ts h in let y = w.few-classes in (omega arith, (each_at (ReadClass (length m.classes)) m.classes c ts w.classes-read h).few-fields)

  small-target : (t : ℕ) (s : Shape) → Aimed m k t s → t < 65536
  small-target t s h = let z = inside-code m w k t (halves (in_body m k t) (equal_shape (shape_in m.shapes t) s) h).0 in omega arith

  from-push : (c : ℕ) (s : Shape) (g : Option Shape) → Goes (Aimed m k) (flow (If ltb c (length m.classes) then plain [] (reference c ∷ []) else wrong) s) g → c < 16
  unfolding flow
  from-push c s g h = go (ltb c (length m.classes)) refl h
    where
      go : (b : Bool) → ltb c (length m.classes) ≡ b → Goes (Aimed m k) (flow (If b then plain [] (reference c ∷ []) else wrong) s) g → c < 16
      go true e h = let z = ltb-true c (length m.classes) e in let y = w.few-classes in omega arith
      go false e h = absurd h

  abbrev rec : (i : Instr) → (record_of i).op < 256 → (record_of i).a < 256 → (record_of i).b < 4294967296 → OfBytes (record_of i)
  rec i x y z = record { op-byte = x; a_byte = y; b-word = z }

  owner-byte : (o : Owner) → (x : ℕ) → (record_of (load o x)).a < 256
  unfolding record_of
  owner-byte own x = omega arith
  owner-byte root x = omega arith

  owner-byte' : (o : Owner) → (x : ℕ) → (record_of (store o x)).a < 256
  unfolding record_of
  owner-byte' own x = omega arith
  owner-byte' root x = omega arith

  pub narrow-op : (i : Instr) → Holdable i → Flowing m k i → OfBytes (record_of i)
  unfolding record_of effect flow
  narrow-op end h f = rec end (omega arith) (omega arith) (omega arith)
  narrow-op (push (int z)) h f = rec (push (int z)) (omega arith) (omega arith) (word_below z h)
  narrow-op (push (log true)) h f = rec (push (log true)) (omega arith) (omega arith) (omega arith)
  narrow-op (push (log false)) h f = rec (push (log false)) (omega arith) (omega arith) (omega arith)
  narrow-op (push (bit n)) h f = rec (push (bit n)) (omega arith) (omega arith) h
  narrow-op (push (ref c none)) h f = let z = from-push c f.0 f.1 f.2 in rec (push (ref c none)) (omega arith) (omega arith) (omega arith)
  narrow-op (push (ref c (some n))) h f = absurd h
  narrow-op (load o x) h f = let q = from-giving (cell_ty m k o x) [] f.0 f.1 f.2 in let z = small-cell o x q.0 q.1 in rec (load o x) (omega arith) (owner-byte o x) (omega arith)
  narrow-op (store o x) h f = let q = from-taking (cell_ty m k o x) [] f.0 f.1 f.2 in let z = small-cell o x q.0 q.1 in rec (store o x) (omega arith) (owner-byte' o x) (omega arith)
  narrow-op (operate o) h f = rec (operate o) (omega arith) (operator-byte o) (omega arith)
  narrow-op (go t) h f = let z = small-target t f.0 f.2.1 in rec (go t) (omega arith) (omega arith) (omega arith)
  narrow-op (go_unless t) h f =
      let q = from-fork (strip (logical ∷ []) f.0.operands) t f.0 f.1 f.2 in let z = small-target t q.0 q.1 in
      rec (go_unless t) (omega arith) (omega arith) (omega arith)
  narrow-op (call_op b) h f = let q = from-calling (procedure_at m b) f.0 f.1 f.2 in let z = small-body b q.0 q.1 in rec (call_op b) (omega arith) (omega arith) (omega arith)
  narrow-op return h f = rec return (omega arith) (omega arith) (omega arith)
  narrow-op (make_op c) h f = let q = from-making (get_elem? m.classes c) c f.0 f.1 f.2 in let z = (small-class c q.0 q.1).0 in rec (make_op c) (omega arith) (omega arith) (omega arith)
  narrow-op (get_field c x) h f =
      let q = from-giving (field_ty m c x) (reference c ∷ []) f.0 f.1 f.2 in let r = small-field (get_elem? m.classes c) x q.0 q.1 in let z = small-class c r.0 r.1 in
      let z0 = z.0 in let z1 = z.1 in let z2 = r.2 in rec (get_field c x) (omega arith) (omega arith) (omega arith)
  narrow-op (put_field c x) h f =
      let q = from-taking (field_ty m c x) (reference c ∷ []) f.0 f.1 f.2 in let r = small-field (get_elem? m.classes c) x q.0 q.1 in let z = small-class c r.0 r.1 in
      let z0 = z.0 in let z1 = z.1 in let z2 = r.2 in rec (put_field c x) (omega arith) (omega arith) (omega arith)
  narrow-op set_op h f = rec set_op (omega arith) (omega arith) (omega arith)
  narrow-op read_fader h f = rec read_fader (omega arith) (omega arith) (omega arith)
  narrow-op (take_hold g) h f = let z = leb-true g 63 h in rec (take_hold g) (omega arith) (omega arith) (omega arith)
  narrow-op let_hold h f = rec let_hold (omega arith) (omega arith) (omega arith)
  narrow-op assert_op h f = rec assert_op (omega arith) (omega arith) (omega arith)
  narrow-op (stop c) h f = rec (stop c) (omega arith) (condition-byte c (stop-condition c h)) (omega arith)

-- each record of lines whose ops are so
pub narrow-lines : (ls : List Line) → Each (λ (l : Line). OfBytes (record_of l.instr)) ls → Each OfBytes (records_of ls)
unfolding records_of
narrow-lines [] h = tt
narrow-lines (l ∷ ls) h = (h.0, narrow-lines ls h.1)
