-- What leaves an address and what enters a body, over places and over the view.
use Rattle.std.specs.Prelude.{◌≡◌, true, not, ◌&&◌, cond, List, [], ◌∷◌, ◌++◌, eqb, leb, ltb, length}
use Rattle.std.proofs.Math.Path.{refl}
use Rattle.std.proofs.Math.Bool.{and-false}
use Rattle.std.proofs.Math.Option.{Option, none, some}
use Prim.Native.Nat.{ℕ, zero, suc, ◌+◌, ◌≤◌, ◌<◌}
use Rattle.std.proofs.Common.{add-one, arith, leb-true, le-leb, lt-ltb, le-ltb}
use Rattle.std.proofs.Math.Dec.{eqb-suc-zero}
use Rattle.logic.specs.Options.{is_some}
use Rattle.logic.specs.Choice.{If◌then◌else◌}
use Rattle.values.specs.Types.{Ty, logical, sames}
use Rattle.bytecode.specs.Macro.{Shape, shape, shape_in}
use Rattle.bytecode.specs.Instructions.{in_body}
use Rattle.bytecode.specs.Rules.{Effect, plain, takes as takes_hold, lets, jumps, forks, leaves, stops, wrong, Flow as FlowIn, on, fork, jump, halt, broken, strip, roomy}
use Rattle.bytecode.specs.Rules.{on_if, same_shape, one_less, flow, passed, is_first, at_first, head_fault, body_fault, lands as lands_in, flow_fault}
use Rattle.load_places.specs.Records.{count, first_of}
use Rattle.load_places.specs.Rules.{Flow, goes, bad, need, shape_at, end_of, leave, plain as plain_head, opens}
use Rattle.load_places.specs.Index.{Well}
use Rattle.load_views.specs.Lists.{span-length}
use Rattle.logic.specs.Tests.{tests, by-test, together, halves}
use Rattle.logic.specs.OptionLaws.{by-option}
use Rattle.load_views.specs.View.{result_on, view, params_at, result_at, cells_at}
use Rattle.load_views.specs.Stack.{strip-length}
use Rattle.load_views.specs.Bodies.{body_here, Stands, before-end, in-body, first-in, fault-in}
use Rattle.load_views.specs.Shapes.{state, shape-at}
use Rattle.load_views.specs.Flows.{send}

no_result : (t : ℕ) → sames (result_on t) [] ≡ eqb t 0
unfolding sames result_on
no_result t = by-test (eqb t 0) (λ e. rw e) (λ e. rw e)

no-sum : (x y : ℕ) → eqb (x + y) 0 ≡ eqb x 0 && eqb y 0
no-sum x y =
    by-test (eqb x 0) (λ e. rw e (together (eqb (x + y) 0) (eqb y 0) (λ q. omega tests) (λ q. omega tests)))
    (λ e. rw e (omega tests))

module _ (l : List ℕ) (w : Well l) (k i : ℕ) (s : Stands l k i) where
  -- ── leaving an address ──
  next-in : i < count l → in_body (view l) k (suc i) ≡ not (eqb (i + 1) (end_of l k))
  next-in h =
      let b : i < end_of l k = before-end l w k i s h in
      rw (in-body l k (suc i) s.within, le-leb (first_of l k) (suc i) (omega (arith, s.begun)), add-one i)
      (by-test (eqb (suc i) (end_of l k))
      (λ e. rw (e, le-ltb (suc i) (end_of l k) (omega tests))) (λ e. rw (e, lt-ltb (suc i) (end_of l k) (omega tests))))

  next-shape : is_some (shape_in (view l).shapes (suc i)) ≡ not (eqb (shape_at l (i + 1)) 0)
  next-shape = rw (shape-at l w (suc i), add-one i) (by-test (eqb (shape_at l (suc i)) 0) (λ e. rw e) (λ e. rw e))

  pub leaves-same : i < count l → (f : FlowIn) → leave l k i (send (view l) k f) ≡ cond (flow_fault (view l) k i f) bad (state (passed f))
  unfolding leave
  leaves-same h (on t) = rw (next-in h) (by-test (eqb (i + 1) (end_of l k)) (λ e. rw e) (λ e. rw e))
  leaves-same h (fork t b) =
      rw (next-in h) (by-test (lands_in (view l) k b t)
      (λ q. rw q (by-test (eqb (i + 1) (end_of l k)) (λ e. rw e) (λ e. rw e)))
      (λ q. rw (q, and-false)))
  leaves-same h (jump t b) =
      rw (next-in h, next-shape) (by-test (lands_in (view l) k b t)
      (λ q. rw q (by-test (eqb (i + 1) (end_of l k)) (λ e. rw e) (λ e. rw e (by-test (eqb (shape_at l (i + 1)) 0) (λ e. rw e) (λ e. rw e)))))
      (λ q. rw (q, and-false)))
  leaves-same h halt =
      rw (next-in h, next-shape)
      (by-test (eqb (i + 1) (end_of l k)) (λ e. rw e) (λ e. rw e (by-test (eqb (shape_at l (i + 1)) 0) (λ e. rw e) (λ e. rw e))))
  leaves-same h broken = refl

  -- ── entering a body ──
  head-same : (j : ℕ) (c : Flow)
      → cond (ltb 32 (cells_at l j)) bad (need (plain_head j (params_at l j) (result_at l j)) c) ≡ cond (head_fault j (body_here l j)) bad c
  unfolding plain_head
  head-same zero c =
      rw (no_result (result_at l 0), ← no-sum (params_at l 0) (result_at l 0), span-length)
      (by-test (eqb (params_at l 0 + result_at l 0) 0) (λ e. rw e) (λ e. rw e (by-test (ltb 32 (cells_at l 0)) (λ e. rw e) (λ e. rw e))))
  head-same (suc j) c = rw (eqb-suc-zero j, span-length)

  pub opens-same : (x : Option Shape)
      → opens l k i (state x) ≡ cond (body_fault (view l).bodies 0 i) bad (state (If is_first (view l).bodies i then at_first else x))
  unfolding opens
  opens-same x =
      rw (fault-in l w k i s, first-in l w k i s)
      (by-test (eqb (first_of l k) i) (λ e. rw e (head-same k (goes 0 []))) (λ e. rw e))

-- ── a state within the limits stays so ──
abbrev pub Room : Option Shape → Type 0
Room none = Unit {0}
Room (some s) = roomy s ≡ true

room-if : (s : Shape) → Room (passed (on_if (roomy s) (on s)))
room-if s = by-test (roomy s) (λ e. rw e e) (λ e. rw e tt)

room-less : (h g : ℕ) (ts us : List Ty) → g ≤ h → length us ≤ length ts → roomy (shape h ts) ≡ true → roomy (shape g us) ≡ true
room-less h g ts us a b e =
    let r = halves (leb h 16) (leb (length ts) 32) e in
    let p = leb-true h 16 r.0 in let q = leb-true (length ts) 32 r.1 in
    rw (le-leb g 16 (omega arith), le-leb (length us) 32 (omega arith))

pub flow-room : (e : Effect) (s : Shape) → roomy s ≡ true → Room (passed (flow e s))
unfolding flow
flow-room (plain ins outs) s r = by-option (strip ins s.operands) (λ e. rw e tt) (λ ts e. rw e (room-if (shape s.holds (outs ++ ts))))
flow-room takes_hold s r = room-if (shape (suc s.holds) s.operands)
flow-room lets s r = less s.holds r
  where
    less : (h : ℕ) → roomy (shape h s.operands) ≡ true → Room (passed (one_less h s.operands))
    less zero r = tt
    less (suc h) r = room-less (suc h) h s.operands s.operands (omega arith) (omega arith) r
flow-room (jumps x) s r = tt
flow-room (forks x) s r =
    by-option (strip (logical ∷ []) s.operands) (λ e. rw e tt)
    (λ ts e. rw e (room-less s.holds s.holds s.operands ts (omega arith) (strip-length (logical ∷ []) s.operands ts e) r))
flow-room (leaves ts) s r = by-test (same_shape s (shape 0 ts)) (λ e. rw e tt) (λ e. rw e tt)
flow-room stops s r = tt
flow-room wrong s r = tt
