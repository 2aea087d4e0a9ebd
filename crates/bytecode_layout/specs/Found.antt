-- The types found at an address name classes that are there, where those written in the macro do; so Sized asks nothing more of a macro
-- than what is read of it and the limits of the states found.
use Rattle.std.specs.Prelude.{◌≡◌, refl, Bool, length}
use Rattle.std.proofs.Math.Bool.{true, false}
use mathlib.Core.List.{List, [], ◌∷◌, ◌++◌}
use Rattle.std.proofs.Math.Option.{Option, none, some}
use Prim.Native.Nat.{ℕ, zero, suc, ◌≤◌, ◌<◌}
use Rattle.std.proofs.Math.ListN.{get_elem?}
use Rattle.logic.specs.Options.{keep, or_else}
use Rattle.logic.specs.Choice.{If◌then◌else◌}
use Rattle.values.specs.Types.{Ty, integer, logical, bits, reference, sames, fits}
use Rattle.values.specs.Operators.{negate, absolute, complement, plus, minus, times, divide, remainder, less, at_most, greater, at_least, equal, unequal, both, either}
use Rattle.values.specs.Operators.{shift_left, shift_right, Operator, unary, binary, any_one, op_type}
use Rattle.values.specs.Operators.{takes as asks}
use Rattle.values.specs.Values.{Value, ty_of}
use Rattle.bytecode.specs.Macro.{Body, Shape, shape, Macro, shape_in}
use Rattle.bytecode.specs.Instructions.{Owner, own, root, Instr, end, push, load, store, operate, go, go_unless, call, return, make, get_field, put_field, set_level}
use Rattle.bytecode.specs.Instructions.{read_fader, take_hold, let_hold, assert, stop, body_at, in_body, instr_at, cells_of, cell_ty, field_ty, known, procedure_at}
use Rattle.bytecode.specs.Rules.{Effect, plain, takes, lets, jumps, forks, leaves, stops, wrong, Flow, on, halt, strip, stripped, on_if, one_less, roomy, flow, flow_of}
use Rattle.bytecode.specs.Rules.{flow_at, passed, at_first, into, found_at, is_first, body_of, effect, giving, taking, operating, pushing, calling, making, ending_in}
use Rattle.bytecode.specs.Rules.{returning, same_shape}
use Rattle.bytecode_laws.specs.Ops.{known-named}
use Rattle.logic.specs.OptionLaws.{never-some, chosen, kept, same_some}
use Rattle.logic.specs.ListLaws.{each_both, index_below, each_at}
use Rattle.bytecode_laws.specs.Terms.{Named}
use Rattle.bytecode_layout.specs.Sized.{AllNamed, Sized}

-- a type that is no reference
abbrev Plain : Ty → Type 0
Plain t = (n : ℕ) → Named n t

-- ── operators give integers, logicals and bits ──
asked-plain : (us : List Ty) (g : Ty) → Plain g → (ts : List Ty) (t : Ty) → asks us g ts ≡ some t → Plain t
asked-plain us g p ts t e = go (sames ts us) e
  where
    go : (b : Bool) → (If b then some g else none) ≡ some t → Plain t
    go true e = rw (← same_some e) p
    go false e = never-some e

else-plain : (o p : Option Ty) → ((t : Ty) → o ≡ some t → Plain t) → ((t : Ty) → p ≡ some t → Plain t) → (t : Ty) → or_else o p ≡ some t → Plain t
else-plain none p f g t e = g t e
else-plain (some x) p f g t e = f t e

any-plain : (ts : List Ty) (t : Ty) → any_one ts ≡ some t → Plain t
any-plain [] t e = never-some e
any-plain (u ∷ ts) t e = asked-plain (u ∷ u ∷ []) logical (λ n. tt) (u ∷ ts) t e

either-plain : (a b : List Ty) (ts : List Ty) (t : Ty) → or_else (asks a logical ts) (asks b bits ts) ≡ some t → Plain t
either-plain a b ts t e = else-plain (asks a logical ts) (asks b bits ts) (asked-plain a logical (λ n. tt) ts) (asked-plain b bits (λ n. tt) ts) t e

operator-plain : (o : Operator) (ts : List Ty) (t : Ty) → op_type o ts ≡ some t → Plain t
unfolding op_type
operator-plain (unary negate) ts t e = asked-plain _ integer (λ n. tt) ts t e
operator-plain (unary absolute) ts t e = asked-plain _ integer (λ n. tt) ts t e
operator-plain (unary complement) ts t e = either-plain _ _ ts t e
operator-plain (binary plus) ts t e = asked-plain _ integer (λ n. tt) ts t e
operator-plain (binary minus) ts t e = asked-plain _ integer (λ n. tt) ts t e
operator-plain (binary times) ts t e = asked-plain _ integer (λ n. tt) ts t e
operator-plain (binary divide) ts t e = asked-plain _ integer (λ n. tt) ts t e
operator-plain (binary remainder) ts t e = asked-plain _ integer (λ n. tt) ts t e
operator-plain (binary less) ts t e = asked-plain _ logical (λ n. tt) ts t e
operator-plain (binary at_most) ts t e = asked-plain _ logical (λ n. tt) ts t e
operator-plain (binary greater) ts t e = asked-plain _ logical (λ n. tt) ts t e
operator-plain (binary at_least) ts t e = asked-plain _ logical (λ n. tt) ts t e
operator-plain (binary equal) ts t e = any-plain ts t e
operator-plain (binary unequal) ts t e = any-plain ts t e
operator-plain (binary both) ts t e = either-plain _ _ ts t e
operator-plain (binary either) ts t e = either-plain _ _ ts t e
operator-plain (binary shift_left) ts t e = asked-plain _ bits (λ n. tt) ts t e
operator-plain (binary shift_right) ts t e = asked-plain _ bits (λ n. tt) ts t e

-- ── what an op gives ──
abbrev Gives : Macro → Effect → Type 0
Gives m (plain ins outs) = AllNamed m outs
Gives m takes = Unit {0}
Gives m lets = Unit {0}
Gives m (jumps t) = Unit {0}
Gives m (forks t) = Unit {0}
Gives m (leaves ts) = Unit {0}
Gives m stops = Unit {0}
Gives m wrong = Unit {0}

module _ (m : Macro) (classes : (c : ℕ) (ts : List Ty) → get_elem? m.classes c ≡ some ts → AllNamed m ts)
    (bodies : (k : ℕ) (b : Body) → body_at m k ≡ some b → AllNamed m b.cells × AllNamed m b.results)
    (shapes : (i : ℕ) (s : Shape) → shape_in m.shapes i ≡ some s → AllNamed m s.operands) where
  abbrev N : Ty → Type 0
  N t = Named (length m.classes) t

  giving-named : (o : Option Ty) (ins : List Ty) → ((t : Ty) → o ≡ some t → N t) → Gives m (giving o ins)
  giving-named none ins f = tt
  giving-named (some t) ins f = (f t refl, tt)

  taking-named : (o : Option Ty) (ins : List Ty) → Gives m (taking o ins)
  taking-named none ins = tt
  taking-named (some t) ins = tt

  operating-named : (o : Operator) (ts : List Ty) → Gives m (operating o ts)
  operating-named (unary o) [] = tt
  operating-named (unary o) (t ∷ ts) = giving-named (op_type (unary o) (t ∷ [])) (t ∷ []) (λ u e. operator-plain (unary o) (t ∷ []) u e (length m.classes))
  operating-named (binary o) [] = tt
  operating-named (binary o) (t ∷ []) = tt
  operating-named (binary o) (t ∷ (u ∷ ts)) = giving-named (op_type (binary o) (u ∷ t ∷ [])) (t ∷ u ∷ []) (λ v e. operator-plain (binary o) (u ∷ t ∷ []) v e (length m.classes))

  pushing-named : (v : Value) → Gives m (pushing m v)
  pushing-named v = go (known m (ty_of v)) refl
    where
      go : (b : Bool) → known m (ty_of v) ≡ b → Gives m (If b then plain [] (ty_of v ∷ []) else wrong)
      go true e = (known-named m (ty_of v) e, tt)
      go false e = tt

  cells-named : (o : Option Body) → ((b : Body) → o ≡ some b → AllNamed m b.cells) → (x : ℕ) (t : Ty) → get_elem? (cells_of o) x ≡ some t → N t
  cells-named none f x t e = never-some e
  cells-named (some b) f x t e = each_at N b.cells x t (f b refl) e

  cell-named : (k : ℕ) (o : Owner) (x : ℕ) (t : Ty) → cell_ty m k o x ≡ some t → N t
  cell-named k own x t e = cells-named (body_at m k) (λ b i. (bodies k b i).0) x t e
  cell-named k root x t e = cells-named (body_at m 0) (λ b i. (bodies 0 b i).0) x t e

  calling-named : (k : ℕ) → Gives m (calling (procedure_at m k))
  calling-named zero = tt
  calling-named (suc k) = go (body_at m (suc k)) refl
    where
      go : (o : Option Body) → body_at m (suc k) ≡ o → Gives m (calling o)
      go none e = tt
      go (some b) e = (bodies (suc k) b e).1

  making-named : (c : ℕ) → Gives m (making (get_elem? m.classes c) c)
  making-named c = go (get_elem? m.classes c) refl
    where
      go : (o : Option (List Ty)) → get_elem? m.classes c ≡ o → Gives m (making o c)
      go none e = tt
      go (some ts) e = (index_below m.classes c ts e, tt)

  field-named : (c x : ℕ) (t : Ty) → field_ty m c x ≡ some t → N t
  field-named c x t e = let k = kept (get_elem? m.classes c) _ t e in each_at N k.0 x t (classes c k.0 k.1) k.2

  ending-named : (k : ℕ) → Gives m (ending_in k)
  ending-named zero = tt
  ending-named (suc k) = tt

  returning-named : (o : Option Body) → Gives m (returning o)
  returning-named none = tt
  returning-named (some b) = tt

  effect-named : (k : ℕ) (x : Instr) (s : Shape) → Gives m (effect m k x s)
  unfolding effect
  effect-named k end s = ending-named k
  effect-named k (push v) s = pushing-named v
  effect-named k (load o x) s = giving-named (cell_ty m k o x) [] (cell-named k o x)
  effect-named k (store o x) s = taking-named (cell_ty m k o x) []
  effect-named k (operate o) s = operating-named o s.operands
  effect-named k (go t) s = tt
  effect-named k (go_unless t) s = tt
  effect-named k (call b) s = calling-named b
  effect-named k return s = returning-named (procedure_at m k)
  effect-named k (make c) s = making-named c
  effect-named k (get_field c x) s = giving-named (field_ty m c x) (reference c ∷ []) (field-named c x)
  effect-named k (put_field c x) s = taking-named (field_ty m c x) (reference c ∷ [])
  effect-named k set_level s = tt
  effect-named k read_fader s = (tt, tt)
  effect-named k (take_hold g) s = tt
  effect-named k let_hold s = tt
  effect-named k assert s = tt
  effect-named k (stop c) s = tt

  -- ── what flows on ──
  strip-named : (us ts rest : List Ty) → AllNamed m ts → strip us ts ≡ some rest → AllNamed m rest
  unfolding strip
  strip-named [] ts rest h e = rw (← same_some e) h
  strip-named (u ∷ us) [] rest h e = never-some e
  strip-named (u ∷ us) (t ∷ ts) rest h e = strip-named us ts rest h.1 (chosen (fits t u) (strip us ts) rest e).1

  -- a state is named if its operands are
  abbrev Fine : Option Shape → Type 0
  Fine o = (s : Shape) → o ≡ some s → AllNamed m s.operands

  fine : (h : ℕ) (ts : List Ty) → AllNamed m ts → Fine (some (shape h ts))
  fine h ts n s e = rw (← same_some e) n

  fine-if : (b : Bool) (f : Flow) → Fine (passed f) → Fine (passed (on_if b f))
  fine-if true f n = n
  fine-if false f n = λ s e. never-some e

  fine-stripped : (o : Option (List Ty)) (f : List Ty → Flow) → ((ts : List Ty) → o ≡ some ts → Fine (passed (f ts))) → Fine (passed (stripped o f))
  fine-stripped none f n = λ s e. never-some e
  fine-stripped (some ts) f n = n ts refl

  fine-less : (h : ℕ) (ts : List Ty) → AllNamed m ts → Fine (passed (one_less h ts))
  fine-less zero ts n = λ s e. never-some e
  fine-less (suc h) ts n = fine h ts n

  flow-named : (e : Effect) → Gives m e → (s : Shape) → AllNamed m s.operands → Fine (passed (flow e s))
  unfolding flow
  flow-named (plain ins outs) g s n =
      fine-stripped (strip ins s.operands) _ (λ ts e. fine-if (roomy (shape s.holds (outs ++ ts))) (on (shape s.holds (outs ++ ts)))
      (fine s.holds (outs ++ ts) (each_both N outs ts g (strip-named ins s.operands ts n e))))
  flow-named takes g s n = fine-if (roomy (shape (suc s.holds) s.operands)) (on (shape (suc s.holds) s.operands)) (fine (suc s.holds) s.operands n)
  flow-named lets g s n = fine-less s.holds s.operands n
  flow-named (jumps t) g s n = λ r e. never-some e
  flow-named (forks t) g s n = fine-stripped (strip (logical ∷ []) s.operands) _ (λ ts e. fine s.holds ts (strip-named (logical ∷ []) s.operands ts n e))
  flow-named (leaves ts) g s n = fine-if (same_shape s (shape 0 ts)) halt (λ r e. never-some e)
  flow-named stops g s n = λ r e. never-some e
  flow-named wrong g s n = λ r e. never-some e

  flow-at-named : (o : Option Instr) (k : ℕ) (s : Shape) → AllNamed m s.operands → Fine (passed (flow_of o m k s))
  flow-at-named none k s n = λ r e. never-some e
  flow-at-named (some x) k s n = flow-named (effect m k x s) (effect-named k x s) s n

  -- ── what is found ──
  or-named : (o p : Option Shape) → Fine o → Fine p → Fine (or_else o p)
  or-named none p f g = g
  or-named (some s) p f g = f

  into-named : (i : ℕ) → Fine (into m i)
  unfolding into
  into-named zero = fine 0 [] tt
  into-named (suc i) = go (is_first m.bodies (suc i)) (or-named (shape_in m.shapes i) (into m i) (shapes i) (into-named i))
    where
      go : (b : Bool) → Fine (or_else (shape_in m.shapes i) (into m i))
          → Fine (If b then at_first else keep (or_else (shape_in m.shapes i) (into m i)) (λ s. passed (flow_at m i s)))
      go true f = fine 0 [] tt
      go false f = λ s e.
          let k = kept (or_else (shape_in m.shapes i) (into m i)) _ s e in
          flow-at-named (instr_at m i) (body_of m.bodies 0 i) k.0 (f k.0 k.1) s k.2

  pub found-named : (i : ℕ) (s : Shape) → found_at m i ≡ some s → AllNamed m s.operands
  unfolding found_at
  found-named i s e = or-named (shape_in m.shapes i) (into m i) (shapes i) (into-named i) s e

-- a macro is Sized by its counts, by the types that are written in it, and by the limits of the states found
pub sized-by : (m : Macro) → length m.classes ≤ 16 → length m.bodies ≤ 64 → length m.code < 65536 → ((k i : ℕ) → in_body m k i ≡ true → i < length m.code)
    → ((c : ℕ) (ts : List Ty) → get_elem? m.classes c ≡ some ts → (length ts ≤ 8) × AllNamed m ts)
    → ((k : ℕ) (b : Body) → body_at m k ≡ some b → (length b.cells ≤ 32) × AllNamed m b.cells × AllNamed m b.results)
    → ((i : ℕ) (s : Shape) → shape_in m.shapes i ≡ some s → AllNamed m s.operands)
    → ((k i : ℕ) (s : Shape) → in_body m k i ≡ true → found_at m i ≡ some s → (s.holds ≤ 16) × (length s.operands ≤ 32)) → Sized m
sized-by m nc nb ni ic cs bs ss lim = record {
  few-classes = nc;
  few-bodies = nb;
  few-instructions = ni;
  in_code = ic;
  classes = cs;
  cells = λ k b e. ((bs k b e).0, (bs k b e).1);
  found = λ k i s e f. ((lim k i s e f).0, (lim k i s e f).1, found-named m (λ c ts h. (cs c ts h).1) (λ k b h. ((bs k b h).1, (bs k b h).2)) ss i s f);
}
