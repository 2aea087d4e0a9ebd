-- Refusal 9: as long as no lower address has a fault, what flows into an address is the same, and so are its faults.
use Rattle.std.specs.Prelude.{◌≡◌, Bool, true, ◌&&◌, ◌||◌, cond, List, ℕ, zero, suc, ◌+◌, ◌<◌, ltb, length}
use Rattle.std.proofs.Math.Path.{refl}
use Rattle.std.proofs.Common.{sym, ◌∙◌, true≢false, zero-add, arith}
use Rattle.std.proofs.Math.Bool.{false}
use Rattle.std.proofs.lemmas.Bool.{false≢true}
use Rattle.std.proofs.Math.Option.{Option, none, some}
use Rattle.std.proofs.Math.Dec.{eqb}
use Rattle.std.proofs.Math.ListN.{get_elem?}
use borrow.Author.Tests.{lt-ltb, le-leb, not-false}
use Rattle.logic.specs.Options.{keep, is_some, or_else}
use Rattle.logic.specs.Choice.{If◌then◌else◌}
use Rattle.words.specs.Numbers.{byte_at}
use Rattle.bytecode.specs.Macro.{Shape, shape_in}
use Rattle.bytecode.specs.Instructions.{instruction, instr_at, in_body}
use Rattle.bytecode.specs.Rules.{roomy, body_of as body_in, is_first, at_first, Flow as FlowIn, on, fork, jump, halt, passed, flow_of, flow_at, into as into_in, found_at}
use Rattle.bytecode.specs.Rules.{body_fault, shape_fault, closes, flow_fault, op_fault, fault_at, effect as effect_in}
use Rattle.load_places.specs.Search.{Clean}
use Rattle.load_places.specs.Records.{bodies, count, first_of, code_place}
use Rattle.load_places.specs.Rules.{bad, shape_at, body_of, effect, meet, leave, opens, found, step, into, is_bad, broken}
use Rattle.load_places.specs.Index.{Well}
use Rattle.load_views.specs.Lists.{span-at, span-length}
use Rattle.logic.specs.Tests.{by-test, halves, neither}
use Rattle.logic.specs.OptionLaws.{by-option}
use Rattle.load_views.specs.View.{op_at, a_at, b_at, code_on, view, below, bytes}
use Rattle.load_views.specs.Known.{first-zero}
use Rattle.load_views.specs.Bodies.{Stands, stands, before-end, in-body, body-in, first-in}
use Rattle.load_views.specs.Shapes.{state, meets}
use Rattle.load_views.proofs.EachOp.{op_same}
use Rattle.load_views.specs.Leaving.{Room, flow-room, leaves-same, opens-same}

pub code_at : (l : List ℕ) (i : ℕ) → get_elem? (view l).code i ≡ below i (count l) (code_on l (code_place l i))
unfolding view
code_at l i = rw (span-at (λ i. code_on l (code_place l i)) (count l) 0 i, zero-add i)

pub code-count : (l : List ℕ) → length (view l).code ≡ count l
unfolding view
code-count l = span-length (λ i. code_on l (code_place l i)) (count l) 0

-- what flows into address i is the same
pub record Agrees (l : List ℕ) (i : ℕ) : Type 0 where
  pub opened : opens l (body_of l i) i (into l i) ≡ cond (body_fault (view l).bodies 0 i) bad (state (into_in (view l) i))
  pub room : Room (into_in (view l) i)
  pub reached : is_some (found_at (view l) i) ≡ true

meet-bad : (l : List ℕ) (p : ℕ) → meet l p bad ≡ bad
unfolding meet
meet-bad l p =
    by-test (eqb p 0) (λ e. rw e)
    (λ e. rw e (by-test (ltb 16 (byte_at l (p + 4))) (λ e. rw e) (λ e. rw e (by-test (ltb 32 (byte_at l (p + 5))) (λ e. rw e) (λ e. rw e)))))

bad-if : (t : Bool) (o : Option Shape) → is_bad (cond t bad (state o)) ≡ t
bad-if true o = refl
bad-if false none = refl
bad-if false (some s) = refl

-- what goes on from an address
abbrev on_from : List ℕ → ℕ → Option Shape
on_from l i = keep (found_at (view l) i) (λ s. passed (flow_at (view l) i s))

module _ (l : List ℕ) (w : Well l) (i : ℕ) (h : i < count l) (g : Agrees l i) where
  found-same : found l i (into l i)
      ≡ cond (body_fault (view l).bodies 0 i || shape_fault (shape_in (view l).shapes i) (into_in (view l) i)) bad (state (found_at (view l) i))
  unfolding found_at
  found-same =
      rw g.opened (by-test (body_fault (view l).bodies 0 i) (λ e. rw e (meet-bad l (shape_at l i))) (λ e. rw e (meets l w i (into_in (view l) i))))

  found-room : shape_fault (shape_in (view l).shapes i) (into_in (view l) i) ≡ false → Room (found_at (view l) i)
  unfolding found_at
  found-room = go (shape_in (view l).shapes i) (into_in (view l) i) g.room
    where
      go : (o f : Option Shape) → Room f → shape_fault o f ≡ false → Room (or_else o f)
      go none f r e = r
      go (some s) none r e = not-false _ e
      go (some s) (some t) r e = (halves _ _ (not-false _ e)).0

  op-leaves : (s : Shape) → roomy s ≡ true
      → leave l (body_of l i) i (effect l (body_of l i) (op_at l i) (a_at l i) (b_at l i) s.holds (bytes s.operands))
      ≡ cond (op_fault (view l) i (some s)) bad (state (passed (flow_at (view l) i s)))
  op-leaves s r =
      rw (
        op_same l w (body_of l i) (stands l w i).within s.holds s.operands r (op_at l i) (a_at l i) (b_at l i),
        code_at l i,
        lt-ltb i (count l) h,
        body-in l w (body_of l i) i (stands l w i),
      )
      (leaves-same l w (body_of l i) i (stands l w i) h (flow_of (instruction (code_on l (code_place l i))) (view l) (body_of l i) s))

  step_same : step l i (into l i) ≡ cond (fault_at (view l) i) bad (state (on_from l i))
  unfolding step fault_at
  step_same =
      rw found-same
      (by-test (body_fault (view l).bodies 0 i) (λ e. rw e (unfold leave in refl))
      (λ e. rw e (by-test (shape_fault (shape_in (view l).shapes i) (into_in (view l) i)) (λ e. rw e (unfold leave in refl))
      (λ e. rw e (by-option (found_at (view l) i) (λ q. absurd (false≢true ((rw q at g.reached))))
      (λ s q. rw q (op-leaves s (rw q at (found-room e)))))))))

  pub fault-same : fault_at (view l) i ≡ broken l i
  unfolding broken
  fault-same = rw step_same (sym (bad-if (fault_at (view l) i) (on_from l i)))

  pub found-clear : broken l i ≡ false → found l i (into l i) ≡ state (found_at (view l) i)
  unfolding fault_at
  found-clear e =
      let b = neither (body_fault (view l).bodies 0 i) _ (fault-same ∙ e) in
      let c = neither (shape_fault (shape_in (view l).shapes i) (into_in (view l) i)) _ b.1 in
      found-same ∙ rw (b.0, c.0)

-- ── the first address ──
agrees-zero : (l : List ℕ) → Well l → Agrees l 0
unfolding into into_in body_of found_at
agrees-zero l w = record {
  opened = opens-same l w 0 0 (stands l w 0) none ∙ rw (first-in l w 0 0 (stands l w 0), first-zero l w);
  room = refl;
  reached = by-option (shape_in (view l).shapes 0) (λ e. rw e) (λ s e. rw e);
}

-- ── the next address ──
module _ (l : List ℕ) (w : Well l) (i : ℕ) (h : suc i < count l) (g : Agrees l i) (clear : fault_at (view l) i ≡ false) where
  into_next : into_in (view l) (suc i) ≡ (If is_first (view l).bodies (suc i) then at_first else on_from l i)
  unfolding into_in found_at
  into_next = refl

  step-next : into l (suc i) ≡ state (on_from l i)
  unfolding into
  step-next = step_same l w i (omega arith) g ∙ rw clear

  -- each kind of fault
  no-fault : (shape_fault (shape_in (view l).shapes i) (into_in (view l) i) ≡ false) × (op_fault (view l) i (found_at (view l) i) ≡ false)
  unfolding fault_at
  no-fault = let b = neither (body_fault (view l).bodies 0 i) _ clear in neither _ _ b.1

  room_next : Room (on_from l i)
  room_next =
      by-option (found_at (view l) i) (λ e. rw e tt)
      (λ s e. rw e (by-option (instr_at (view l) i) (λ q. rw q tt)
      (λ x q. rw q (flow-room (effect_in (view l) _ x s) s (rw e at (found-room l w i (omega arith) g no-fault.0))))))

  -- the address after it, if no body begins there
  module _ (inner : is_first (view l).bodies (suc i) ≡ false) where
    same_body : body_of l (suc i) ≡ body_of l i
    unfolding body_of
    same_body =
        let k = body_of l i in
        by-test (ltb (suc k) (bodies l) && eqb (first_of l (suc k)) (suc i))
        (λ e. let f = rw e at (first-in l w (body_of l (suc i)) (suc i) (stands l w (suc i))) in
        absurd (false≢true (sym inner ∙ f ∙ (halves (ltb (suc k) (bodies l)) _ e).1)))
        (λ e. rw e)

    next-within : in_body (view l) (body_of l i) (suc i) ≡ true
    next-within =
        let s : Stands l (body_of l i) (suc i) = rw same_body at (stands l w (suc i)) in
        rw (in-body l (body_of l i) (suc i) s.within, le-leb _ _ s.begun, lt-ltb _ _ (before-end l w (body_of l i) (suc i) s h))

    module _ (bare : shape_in (view l).shapes (suc i) ≡ none) where
      not-closed : closes (view l) (body_of l i) i ≡ false
      not-closed = rw (next-within, bare)

      goes-on : (f : FlowIn) → flow_fault (view l) (body_in (view l).bodies 0 i) i f ≡ false → is_some (passed f) ≡ true
      goes-on (on s) q = refl
      goes-on (fork s t) q = refl
      goes-on (jump s t) q = absurd (true≢false (rw (body-in l w (body_of l i) i (stands l w i), not-closed) at q))
      goes-on halt q = absurd (true≢false (rw (body-in l w (body_of l i) i (stands l w i), not-closed) at q))
      goes-on FlowIn.broken q = absurd (true≢false q)

  reached-next : is_some (found_at (view l) (suc i)) ≡ true
  unfolding found_at
  reached-next =
      by-option (shape_in (view l).shapes (suc i))
      (λ e. rw (e, into_next) (by-test (is_first (view l).bodies (suc i)) (λ f. rw f)
      (λ f. rw f (by-option (found_at (view l) i) (λ q. absurd (false≢true ((rw q at g.reached))))
      (λ s q. rw q (goes-on f e (flow_at (view l) i s) (rw q at no-fault.1)))))))
      (λ s e. rw e)

  agrees-next : Agrees l (suc i)
  agrees-next = record {
    opened = rw (step-next, into_next) (opens-same l w (body_of l (suc i)) (suc i) (stands l w (suc i)) (on_from l i));
    room = rw into_next (by-test (is_first (view l).bodies (suc i)) (λ e. rw e) (λ e. rw e room_next));
    reached = reached-next;
  }

pub agrees : (l : List ℕ) → Well l → (i : ℕ) → i < count l → Clean (broken l) i → Agrees l i
agrees l w zero h c = agrees-zero l w
agrees l w (suc i) h c =
    let g = agrees l w i (omega arith) (λ k b. c k (omega arith)) in
    agrees-next l w i h g (fault-same l w i (omega arith) g ∙ c i (omega arith))
