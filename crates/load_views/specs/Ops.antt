-- One op: what it sends on over places is what its effect sends on over the view.
use Rattle.std.specs.Prelude.{◌≡◌, true, false, not, ◌&&◌, eqb, leb, ltb, length}
use Rattle.std.proofs.Math.Path.{refl}
use Rattle.std.proofs.Common.{sym, ap, ◌∙◌, zero-add, sub-one, add-one, arith}
use mathlib.Core.List.{List, [], ◌∷◌}
use Rattle.std.proofs.Math.Option.{Option, none, some}
use Prim.Native.Nat.{ℕ, zero, suc, ◌+◌, ◌-◌, ◌<◌}
use Rattle.std.proofs.Math.Dec.{leb-suc-suc, eqb-suc-zero}
use Rattle.std.proofs.Math.ListN.{get_elem?}
use borrow.Author.Tests.{ne_eqb, lt-ltb, le-ltb, ltb-true}
use Rattle.logic.specs.Options.{keep}
use Rattle.words.specs.Numbers.{byte_at, integer_of}
use Rattle.values.specs.Types.{Ty, integer, logical, bits, reference, ty_byte, sames}
use Rattle.values.specs.Values.{int, log, bit, ref}
use Rattle.bytecode.specs.Macro.{shape}
use Rattle.bytecode.specs.Instructions.{Owner, own, root, Instr, end, load, store, operate, go, go_unless, call, return, make, get_field, put_field, set_level, read_fader}
use Rattle.bytecode.specs.Instructions.{take_hold, let_hold, assert, stop, push as pushes, exactly, stops_by, owner_of, operator_of, instruction, body_at, cells_of, field_ty, procedure_at}
use Rattle.bytecode.specs.Rules.{Effect, plain, leaves, ending_in, returning, calling, on_stack, one_less, giving, taking, effect as effect_in, strip, roomy, flow, flow_of}
use Rattle.load_places.specs.Search.{tops}
use Rattle.load_places.specs.Records.{classes, bodies, class_place, body_place}
use Rattle.load_places.specs.Rules.{Flow, goes, ends, need, push, pop, chain, takes, trade1, owner_body, lands, handed, justs, op_end, op_integer, op_logical, op_bits, op_null}
use Rattle.load_places.specs.Rules.{op_load, op_store, op_operator, op_go, op_unless, op_call, op_return, op_make, op_get_field, op_put_field, op_set, op_fader, op_hold, op_release}
use Rattle.load_places.specs.Rules.{op_assert, op_stop, effect}
use Rattle.load_places.specs.Index.{Well}
use Rattle.load_views.specs.Lists.{span-at, span-length, span-take, reverse-span}
use Rattle.logic.specs.Tests.{by-test, halves}
use Rattle.logic.specs.OptionLaws.{by-option}
use Rattle.load_views.specs.View.{ty_on, types_on, stack_on, result_on, class_on, view, below, bytes, params_at, result_at, cells_at, cell_at, fields_at, field_at}
use Rattle.load_views.specs.Known.{some-body, known-class, known-body, known-result}
use Rattle.load_views.specs.Stack.{same_byte, stack-bytes, draws, draws-strip, takes-draws, pop-draws}
use Rattle.load_views.specs.Bodies.{body_here, body-at}
use Rattle.load_views.specs.Shapes.{lands-same}
use Rattle.load_views.specs.Flows.{send, sends, exact, exact2, gives_one, gives_none, giving-one, taking-one}
use Rattle.load_views.specs.Operating.{operates-same}

-- ── the view's classes and cells ──
pub class-at : (l : List ℕ) (c : ℕ) → get_elem? (view l).classes c ≡ below c (classes l) (class_on l (class_place l c))
unfolding view
class-at l c = rw (span-at (λ k. class_on l (class_place l k)) (classes l) 0 c, zero-add c)

pub class-count : (l : List ℕ) → length (view l).classes ≡ classes l
unfolding view
class-count l = span-length (λ k. class_on l (class_place l k)) (classes l) 0

types-one : (l : List ℕ) (q n x : ℕ) → get_elem? (types_on l q n) x ≡ below x n (ty_on (byte_at l (q + x)))
types-one l q n x = rw (span-at (λ k. ty_on (byte_at l (q + k))) n 0 x, zero-add x)

cell-at : (l : List ℕ) (k x : ℕ) → k < bodies l → get_elem? (cells_of (body_at (view l) k)) x ≡ below x (cells_at l k) (ty_on (cell_at l k x))
cell-at l k x h = rw (body-at l k, lt-ltb k (bodies l) h) (types-one l (body_place l k + 7) (cells_at l k) x)

pop-pop : (t u h : ℕ) (s : List ℕ) → chain (pop t h s) (λ g r. pop u g r) ≡ draws (t ∷ u ∷ []) h s goes
unfolding draws pop
pop-pop t u h [] = refl
pop-pop t u h (x ∷ s) = by-test (eqb x t) (λ e. rw e (pop-draws u h s)) (λ e. rw e)

-- ── nothing left, or just the result ──
empty-same : (ts : List Ty) → eqb (length (bytes ts)) 0 ≡ sames ts []
unfolding sames
empty-same [] = refl
empty-same (t ∷ ts) = eqb-suc-zero (length (bytes ts))

justs-same : (r h : ℕ) (ts : List Ty) → (eqb r 0 ≡ false → ty_byte (ty_on r) ≡ r) → justs r h (bytes ts) ≡ need (sames ts (result_on r)) ends
unfolding justs result_on pop sames
justs-same r h [] e = by-test (eqb r 0) (λ q. rw q) (λ q. rw q)
justs-same r h (t ∷ ts) e =
    by-test (eqb r 0) (λ q. rw (q, eqb-suc-zero (length (bytes ts))))
    (λ q. rw (q, same_byte t (ty_on r), e q) (by-test (eqb (ty_byte t) r) (λ p. rw (p, empty-same ts)) (λ p. rw p)))

module _ (l : List ℕ) (w : Well l) (k : ℕ) (within : k < bodies l) (h : ℕ) (ts : List Ty) (room : roomy (shape h ts) ≡ true) where
  -- what is sent on by an effect, and by an instruction that there may be
  abbrev pub sent : Effect → Flow
  sent e = sends (view l) k h ts room e

  abbrev pub does : Option Instr → Flow
  does o = send (view l) k (flow_of o (view l) k (shape h ts))

  leaving : (rs : List Ty) → need (eqb h 0) (need (sames ts rs) ends) ≡ sent (leaves rs)
  unfolding flow
  leaving rs = by-test (eqb h 0) (λ e. rw e (by-test (sames ts rs) (λ e. rw e) (λ e. rw e))) (λ e. rw e)

  pub at-end : (a b : ℕ) → op_end k a b h (bytes ts) ≡ does (exactly (eqb a 0 && eqb b 0) end)
  unfolding op_end effect_in
  at-end a b = exact2 does refl (eqb a 0) (eqb b 0) _ end (rw (empty-same ts) (ending k))
    where
      ending : (j : ℕ) → need (eqb j 0) (need (eqb h 0) (need (sames ts []) ends)) ≡ send (view l) k (flow (ending_in j) (shape h ts))
      ending zero = leaving []
      ending (suc j) = (unfold flow in rw (eqb-suc-zero j))

  one : (t : Ty) → push (ty_byte t) h (bytes ts) ≡ sent (plain [] (t ∷ []))
  one t = (unfold draws in gives_one (view l) k h ts room [] t)

  pub at-integer : (a b : ℕ) → op_integer a h (bytes ts) ≡ does (exactly (eqb a 0) (pushes (int (integer_of b))))
  unfolding op_integer effect_in
  at-integer a b = exact does refl (eqb a 0) _ _ (one integer)

  pub at-logical : (a b : ℕ) → op_logical a b h (bytes ts) ≡ does (exactly (eqb a 0 && ltb b 2) (pushes (log (eqb b 1))))
  unfolding op_logical effect_in
  at-logical a b = exact2 does refl (eqb a 0) (ltb b 2) _ _ (one logical)

  pub at_bits : (a b : ℕ) → op_bits a h (bytes ts) ≡ does (exactly (eqb a 0) (pushes (bit b)))
  unfolding op_bits effect_in
  at_bits a b = exact does refl (eqb a 0) _ _ (one bits)

  pub at_null : (a b : ℕ) → op_null l a b h (bytes ts) ≡ does (exactly (eqb b 0) (pushes (ref a none)))
  unfolding op_null effect_in
  at_null a b = exact does refl (eqb b 0) _ _
      (rw (class-count l) (by-test (ltb a (classes l)) (λ e. rw e (one (reference a))) (λ e. rw e (unfold flow in refl))))

  -- ── cells ──
  owners : (X : ℕ → Flow) (f : Owner → Instr) → X k ≡ does (some (f own)) → X 0 ≡ does (some (f root))
      → (a : ℕ) → need (ltb a 2) (X (owner_body k a)) ≡ does (keep (owner_of a) (λ o. some (f o)))
  owners X f p q zero = p
  owners X f p q (suc zero) = q
  owners X f p q (suc (suc a)) =
      rw (le-ltb (suc (suc a)) 2 (omega arith), ne_eqb (suc (suc a)) 0 (omega arith), ne_eqb (suc (suc a)) 1 (omega arith))

  cell-given : (j b : ℕ) → j < bodies l
      → need (ltb b (cells_at l j)) (push (cell_at l j b) h (bytes ts)) ≡ sent (giving (get_elem? (cells_of (body_at (view l) j)) b) [])
  unfolding draws
  cell-given j b r =
      rw (cell-at l j b r) (giving-one (view l) k h ts room (ltb b (cells_at l j)) (cell_at l j b) []
      (λ q. (known-body l w j r).cells b (ltb-true _ _ q)))

  cell-taken : (j b : ℕ) → j < bodies l
      → need (ltb b (cells_at l j)) (pop (cell_at l j b) h (bytes ts)) ≡ sent (taking (get_elem? (cells_of (body_at (view l) j)) b) [])
  cell-taken j b r =
      rw (cell-at l j b r, pop-draws) (taking-one (view l) k h ts room (ltb b (cells_at l j)) (cell_at l j b) []
      (λ q. (known-body l w j r).cells b (ltb-true _ _ q)))

  pub at_load : (a b : ℕ) → op_load l k a b h (bytes ts) ≡ does (keep (owner_of a) (λ o. some (load o b)))
  unfolding op_load effect_in
  at_load a b =
      owners (λ j. need (ltb b (cells_at l j)) (push (cell_at l j b) h (bytes ts))) (λ o. load o b)
      (cell-given k b within) (cell-given 0 b (some-body l w)) a

  pub at_store : (a b : ℕ) → op_store l k a b h (bytes ts) ≡ does (keep (owner_of a) (λ o. some (store o b)))
  unfolding op_store effect_in
  at_store a b =
      owners (λ j. need (ltb b (cells_at l j)) (pop (cell_at l j b) h (bytes ts))) (λ o. store o b)
      (cell-taken k b within) (cell-taken 0 b (some-body l w)) a

  -- ── operators ──
  pub at-operator : (a b : ℕ) → op_operator a b h (bytes ts) ≡ does (keep (operator_of a) (λ o. exactly (eqb b 0) (operate o)))
  unfolding op_operator effect_in
  at-operator a b =
      rw (operates-same (view l) k h ts room a)
      (by-option (operator_of a) (λ e. rw e (by-test (eqb b 0) (λ q. rw q) (λ q. rw q)))
      (λ o e. rw e (by-test (eqb b 0) (λ q. rw q) (λ q. rw q))))

  -- ── jumps ──
  pub at-go : (a b : ℕ) → op_go l k a b h (bytes ts) ≡ does (exactly (eqb a 0) (go b))
  unfolding op_go effect_in flow
  at-go a b = exact does refl (eqb a 0) _ _ (rw (lands-same l w k b (shape h ts) within))

  pub at-unless : (a b : ℕ) → op_unless l k a b h (bytes ts) ≡ does (exactly (eqb a 0) (go_unless b))
  unfolding op_unless effect_in flow draws
  at-unless a b = exact does refl (eqb a 0) _ _
      (draws-strip (logical ∷ []) ts h (λ g r. need (lands l k b g r) (goes g r))
      ∙ by-option (strip (logical ∷ []) ts) (λ e. rw e) (λ r e. rw (e, lands-same l w k b (shape h r) within)))

  -- ── calls ──
  handing : (ins : List Ty) (t : ℕ) → (eqb t 0 ≡ false → ty_byte (ty_on t) ≡ t)
      → draws (bytes ins) h (bytes ts) (λ g r. handed t g r) ≡ sent (plain ins (result_on t))
  unfolding handed result_on
  handing ins t e =
      by-test (eqb t 0) (λ q. rw q (gives_none (view l) k h ts room ins))
      (λ q. rw q (ap (λ x. draws (bytes ins) h (bytes ts) (λ g r. push x g r)) (sym (e q)) ∙ gives_one (view l) k h ts room ins (ty_on t)))

  pub at_call : (a b : ℕ) → op_call l a b h (bytes ts) ≡ does (exactly (eqb a 0) (call b))
  unfolding op_call effect_in
  at_call a b = exact does refl (eqb a 0) _ _ (called b)
    where
      fully : (b : ℕ) → b < bodies l
          → draws (tops l (body_place l b + 7) (params_at l b)) h (bytes ts) (λ g r. handed (result_at l b) g r)
          ≡ sent (calling (some (body_here l b)))
      fully b r =
          let y = known-body l w b r in
          rw (
            span-take _ (params_at l b) (cells_at l b) 0 y.fewer,
            reverse-span,
            ← stack-bytes l (body_place l b + 7) (params_at l b) (λ x g. y.cells x (omega (arith, y.fewer))),
          )
          (handing (stack_on l (body_place l b + 7) (params_at l b)) (result_at l b) (known-result l w b r))

      called : (b : ℕ)
          → need (not (eqb b 0)) (need (ltb b (bodies l))
          (chain (takes l (body_place l b + 7) (params_at l b) h (bytes ts)) (λ g r. handed (result_at l b) g r)))
          ≡ sent (calling (procedure_at (view l) b))
      called zero = (unfold flow in refl)
      called (suc b) =
          rw (eqb-suc-zero b, body-at l (suc b), takes-draws)
          (by-test (ltb (suc b) (bodies l)) (λ e. rw e (fully (suc b) (ltb-true _ _ e))) (λ e. rw e (unfold flow in refl)))

  pub at_return : (a b : ℕ) → op_return l k a b h (bytes ts) ≡ does (exactly (eqb a 0 && eqb b 0) return)
  unfolding op_return effect_in
  at_return a b = exact2 does refl (eqb a 0) (eqb b 0) _ _ (returned k within)
    where
      returned : (j : ℕ) → j < bodies l
          → need (not (eqb j 0)) (need (eqb h 0) (justs (result_at l j) h (bytes ts))) ≡ sent (returning (procedure_at (view l) j))
      returned zero r = (unfold flow in refl)
      returned (suc j) r =
          rw (eqb-suc-zero j, body-at l (suc j), lt-ltb (suc j) (bodies l) r, justs-same (result_at l (suc j)) h ts (known-result l w (suc j) r))
          (leaving (result_on (result_at l (suc j))))

  -- ── records ──
  pub at-make : (a b : ℕ) → op_make l a b h (bytes ts) ≡ does (exactly (eqb b 0) (make a))
  unfolding op_make effect_in
  at-make a b = exact does refl (eqb b 0) _ _
      (rw (class-at l a, takes-draws) (by-test (ltb a (classes l)) (λ e. rw e (made (ltb-true _ _ e))) (λ e. rw e (unfold flow in refl))))
    where
      made : a < classes l
          → draws (tops l (class_place l a + 3) (fields_at l a)) h (bytes ts) (λ g r. push (16 + a) g r)
          ≡ sent (plain (on_stack (class_on l (class_place l a))) (reference a ∷ []))
      made r =
          rw (reverse-span, ← stack-bytes l (class_place l a + 3) (fields_at l a) (known-class l w a r))
          (gives_one (view l) k h ts room (stack_on l (class_place l a + 3) (fields_at l a)) (reference a))

  field-at : (a b : ℕ) → a < classes l → field_ty (view l) a b ≡ below b (fields_at l a) (ty_on (field_at l a b))
  field-at a b r = rw (class-at l a, lt-ltb a (classes l) r) (types-one l (class_place l a + 3) (fields_at l a) b)

  no_field : (a b : ℕ) → ltb a (classes l) ≡ false → field_ty (view l) a b ≡ none
  no_field a b e = rw (class-at l a, e)

  pub at-get_field : (a b : ℕ) → op_get_field l a b h (bytes ts) ≡ does (some (get_field a b))
  unfolding op_get_field effect_in trade1 draws
  at-get_field a b =
      by-test (ltb a (classes l))
      (λ e. rw (e, field-at a b (ltb-true _ _ e))
      (giving-one (view l) k h ts room (ltb b (fields_at l a)) (field_at l a b) (reference a ∷ [])
      (λ q. known-class l w a (ltb-true _ _ e) b (ltb-true _ _ q))))
      (λ e. rw (e, no_field a b e) (unfold flow in refl))

  pub at-put_field : (a b : ℕ) → op_put_field l a b h (bytes ts) ≡ does (some (put_field a b))
  unfolding op_put_field effect_in
  at-put_field a b =
      by-test (ltb a (classes l))
      (λ e. rw (e, field-at a b (ltb-true _ _ e), pop-pop (field_at l a b) (16 + a) h (bytes ts))
      (taking-one (view l) k h ts room (ltb b (fields_at l a)) (field_at l a b) (reference a ∷ [])
      (λ q. known-class l w a (ltb-true _ _ e) b (ltb-true _ _ q))))
      (λ e. rw (e, no_field a b e) (unfold flow in refl))

  -- ── faders, holds, assert, stop ──
  pub at_set : (a b : ℕ) → op_set a b h (bytes ts) ≡ does (exactly (eqb a 0 && eqb b 0) set_level)
  unfolding op_set effect_in
  at_set a b = exact2 does refl (eqb a 0) (eqb b 0) _ _ (pop-pop 1 1 h (bytes ts) ∙ gives_none (view l) k h ts room (integer ∷ integer ∷ []))

  pub at-fader : (a b : ℕ) → op_fader a b h (bytes ts) ≡ does (exactly (eqb a 0 && eqb b 0) read_fader)
  unfolding op_fader effect_in trade1 draws
  at-fader a b = exact2 does refl (eqb a 0) (eqb b 0) _ _ (gives_one (view l) k h ts room (integer ∷ []) integer)

  pub at-hold : (a b : ℕ) → op_hold a b h (bytes ts) ≡ does (exactly (eqb a 0 && leb b 63) (take_hold b))
  unfolding op_hold effect_in flow
  at-hold a b = rw (leb-suc-suc b 63) (exact2 does refl (eqb a 0) (leb b 63) _ _
      (rw (add-one h, (halves (leb h 16) (leb (length ts) 32) room).1) (by-test (ltb h 16) (λ e. rw e) (λ e. rw e))))

  pub at-release : (a b : ℕ) → op_release a b h (bytes ts) ≡ does (exactly (eqb a 0 && eqb b 0) let_hold)
  unfolding op_release effect_in flow
  at-release a b = exact2 does refl (eqb a 0) (eqb b 0) _ _ (less h)
    where
      less : (g : ℕ) → need (not (eqb g 0)) (goes (g - 1) (bytes ts)) ≡ send (view l) k (one_less g ts)
      less zero = refl
      less (suc g) = rw (eqb-suc-zero g, sub-one)

  pub at-assert : (a b : ℕ) → op_assert a b h (bytes ts) ≡ does (exactly (eqb a 0 && eqb b 0) assert)
  unfolding op_assert effect_in
  at-assert a b = exact2 does refl (eqb a 0) (eqb b 0) _ _ (pop-draws 2 h (bytes ts) ∙ gives_none (view l) k h ts room (logical ∷ []))

  pub at-stop : (a b : ℕ) → op_stop a b ≡ does (exactly (stops_by a && eqb b 0) (stop a))
  unfolding op_stop effect_in flow
  at-stop a b = exact2 does refl (stops_by a) (eqb b 0) _ _ refl
