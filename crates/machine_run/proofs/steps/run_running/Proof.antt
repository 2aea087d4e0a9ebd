-- `machine_run::steps::run_running` meets its contract. The invariant, and that each op's arm keeps it, are in `LoopInvariant`.
use borrow.Author.Rules.{rules}
use native.Mathlib.Omega.{arith}
use Prim.Native.Nat.{ℕ, ◌+◌, ◌*◌, ◌-◌, ◌≤◌, ◌<◌}
use mathlib.Core.Path.{◌≡◌, refl, sym, ◌∙◌, subst}
use mathlib.Core.List.{List}
use lib.ListN.{length}
use Rattle.words.specs.Numbers.{byte_at}
use Rattle.load_check.specs.Lookups.{code_of}
use Rattle.machine_run.specs.Held.{Held, since, Reaches}
use Rattle.machine_run.proofs.OpAsks.{room}
use Rattle.machine_run.proofs.ByteSteps.{held-long, top_of}
use Rattle.machine_run.proofs.RunLoop.{begin, spent}
use Rattle.machine_run.proofs.LoopInvariant.{Loop, Ready, Acted, ready_of, low-place, in_code, small, poise, still, further, there, left-off, lower, still-long}
use Rattle.machine_run.specs.declared.aside.Begun.{Begun}
use Rattle.machine_run.specs.declared.aside.Landing.{Landing}
use Rattle.std.specs.Prelude.{Option, Result, Ok}
use Rattle.machine_run.specs.Aside.{Begin, Begins, Lands, Grows}
use Rattle.machine_frames.specs.Bytes.{went_to, pushed}
use Rattle.machine_run.proofs.AsideSteps.{room_whole}
use Rattle.machine_run.proofs.AsideBegins.{Set, coded, begin-asks, begun, one-step, grows, landed, broken}
use Rattle.machine_run.proofs.LoopInvariant.{recount, again, again-below, again-to, again-unless, again-next, again-read, runs-on, happened, done}
use Rattle.machine_run.proofs.steps.run_running.Statement.{statement}
use Rattle.machine_run.proofs.steps.run_running.Tie as tie

abbrev invariant-loop : tie.invariant-loop-left
invariant-loop code bodies classes base state₀ readings allowance frame₀ address₀ left₀ read₀ state frame address left read =
    Loop code readings allowance (since state₀ read) state frame address (allowance - left) × (left ≤ allowance)

abbrev decreases-loop : tie.decreases-loop-left
decreases-loop code bodies classes base state₀ readings allowance frame₀ address₀ left₀ read₀ state frame address left read = left

-- ── the points that most answers go back to: the loop's head, the op read, the op done ──
abbrev start_of : tie.At-loop-left invariant-loop decreases-loop → tie.Start invariant-loop decreases-loop
start_of p = p.before.before.before.before.before.before.before

abbrev loop-of : tie.After-word_at-b invariant-loop decreases-loop → tie.At-loop-left invariant-loop decreases-loop
loop-of p = p.before.before.before.before.before.before

abbrev read_of : tie.In-None invariant-loop decreases-loop → tie.After-word_at-b invariant-loop decreases-loop
read_of p = p.before.before.before.before.before

abbrev read_set : tie.In-Some invariant-loop decreases-loop → tie.After-word_at-b invariant-loop decreases-loop
read_set p = p.before.before.before.before.before

abbrev loop-told : tie.In-Goes invariant-loop decreases-loop → tie.At-loop-left invariant-loop decreases-loop
loop-told p = p.before.before.before.before.before.before.before.before.before.before.before.before.before.before.before.before

ready : (p : tie.After-word_at-b invariant-loop decreases-loop) →
    let l = (loop-of p).loop-left in
    let s = (start_of (loop-of p)).args in
    let place = s.base + 8 * l.address in
    Ready s.code.now s.readings.now s.allowance (since s.state.now l.read) l.state l.frame l.address (s.allowance - l.left)
    p.before.before.before.wide-depth.result (byte_at s.code.now (place + 2)) (byte_at s.code.now (place + 3)) p.word_at-b.result
ready p =
    let l = loop-of p in
    ready_of l.loop-left.invariant.0 (λ k. omega (arith, l.before.before.shared_slice_known-4-1.given k)) _ _ _ _ _ (start_of l).requires.0.based
    p.before.before.before.wide-depth.ensures.0 refl refl p.word_at-b.ensures

-- nothing is set aside: the bytes are as they were
other : (p : tie.In-None invariant-loop decreases-loop) →
    let q = read_of p in
    let l = (loop-of q).loop-left in
    let s = (start_of (loop-of q)).args in
    let place = s.base + 8 * l.address in
    (p.before.before.before.begin.new.state ≡ l.state) × (byte_at s.code.now (place + 2) ≡ 7 → 20 ≤ byte_at s.code.now (place + 3))
other p =
    let q = read_of p in
    let l = (loop-of q).loop-left in
    let s = (start_of (loop-of q)).args in
    let place = s.base + 8 * l.address in
    subst
    (λ (z : Option Begun). Begins l.state l.frame q.before.before.before.wide-depth.result (byte_at s.code.now (place + 2)) (byte_at s.code.now (place + 3)) q.word_at-b.result
    p.before.before.before.begin.new.state z)
    p.in-None.is p.before.before.before.begin.ensures

ready_on : (p : tie.In-None invariant-loop decreases-loop) →
    let q = read_of p in
    let l = (loop-of q).loop-left in
    let s = (start_of (loop-of q)).args in
    let place = s.base + 8 * l.address in
    Ready s.code.now s.readings.now s.allowance (since s.state.now l.read) p.before.before.before.begin.new.state l.frame l.address (s.allowance - l.left)
    q.before.before.before.wide-depth.result (byte_at s.code.now (place + 2)) (byte_at s.code.now (place + 3)) q.word_at-b.result
ready_on p =
    let q = read_of p in
    let l = (loop-of q).loop-left in
    let s = (start_of (loop-of q)).args in
    let place = s.base + 8 * l.address in
    subst
    (λ (z : List ℕ). Ready s.code.now s.readings.now s.allowance (since s.state.now l.read) z l.frame l.address (s.allowance - l.left)
    q.before.before.before.wide-depth.result
    (byte_at s.code.now (place + 2)) (byte_at s.code.now (place + 3)) q.word_at-b.result)
    (sym (other p).0) (ready q)

acted : (p : tie.After-dispatch invariant-loop decreases-loop) → Acted (ready_on p.before.before) p.dispatch.new.state p.dispatch.result
acted p =
    let q = read_of p.before.before in
    record { acts = p.dispatch.ensures; more = omega (arith, q.before.before.before.before.before.loop-left-test, (loop-of q).loop-left.invariant.1); same = p.dispatch.auto.state }

-- where it gave nothing
went : (p : tie.In-Goes invariant-loop decreases-loop) → let d = p.before.before.before in Acted (ready_on d.before.before) d.dispatch.new.state d.dispatch.result
went p = acted p.before.before.before

kept-held : (p : tie.In-Goes invariant-loop decreases-loop) → Held (start_of (loop-told p)).args.code.now p.before.before.before.dispatch.new.state
kept-held p = still (went p)

-- a running state has not ended
alive : (p : tie.At-loop-left invariant-loop decreases-loop) → byte_at (start_of p).args.state.now 0 ≡ 2 → ⊥
alive p q = omega (arith, (start_of p).requires.3)

-- the instruction at hand stands in the macro
stands : (p : tie.At-loop-left invariant-loop decreases-loop) → let s = (start_of p).args in (s.base + 8 * p.loop-left.address + 8 ≤ length s.code.now) × (p.loop-left.address < 65536) × (s.base < 65536)
stands p =
    let found = (start_of p).requires.0 in
    (omega (arith, found.based, code_of _ found.bodied.well _ (in_code p.loop-left.invariant.0)), small p.loop-left.invariant.0, found.small)

-- ── an operand set aside ──
value : (p : tie.In-Some invariant-loop decreases-loop) →
    let q = read_set p in
    let l = (loop-of q).loop-left in
    let s = (start_of (loop-of q)).args in
    let place = s.base + 8 * l.address in
    let v = p.in-Some in
    Begin l.state l.frame q.before.before.before.wide-depth.result (byte_at s.code.now (place + 2)) (byte_at s.code.now (place + 3)) q.word_at-b.result
    p.before.before.before.begin.new.state v.begun.word v.begun.ty v.begun.depth v.begun.steps
value p =
    let q = read_set p in
    let l = (loop-of q).loop-left in
    let s = (start_of (loop-of q)).args in
    let place = s.base + 8 * l.address in
    subst
    (λ (z : Option Begun). Begins l.state l.frame q.before.before.before.wide-depth.result (byte_at s.code.now (place + 2)) (byte_at s.code.now (place + 3)) q.word_at-b.result
    p.before.before.before.begin.new.state z)
    p.in-Some.is p.before.before.before.begin.ensures

more-at : (p : tie.In-Some invariant-loop decreases-loop) → let l = loop-of (read_set p) in (start_of l).args.allowance - l.loop-left.left < (start_of l).args.allowance
more-at p = omega (arith, (loop-of (read_set p)).loop-left.invariant.1)

set : (p : tie.In-Some invariant-loop decreases-loop) → let v = p.in-Some in Set (ready (read_set p)) p.before.before.before.begin.new.state v.begun.word v.begun.ty v.begun.depth v.begun.steps
set p = begun (ready (read_set p)) (omega (arith, (read_set p).word_at-b.type_inv)) (more-at p) (value p)

-- where the steps with it lead
leads-to : (p : tie.After-run_aside invariant-loop decreases-loop) (r : Result Landing ℕ) → p.run_aside.result ≡ r →
    let w = p.before.before.before.before in
    let q = read_set w in
    let l = (loop-of q).loop-left in
    let s = (start_of (loop-of q)).args in
    let v = w.in-Some in
    (Lands s.code.now s.readings.now s.allowance l.frame
    (went_to (pushed w.before.before.before.begin.new.state l.frame v.begun.depth v.begun.word v.begun.ty) l.frame (l.address + v.begun.steps)) (s.allowance - l.left + v.begun.steps)
    p.run_aside.new.state r)
    × (Grows s.code.now (s.base + 8 * (l.address + v.begun.steps)) (s.allowance - l.left + v.begun.steps) s.allowance r)
leads-to p r e =
    let w = p.before.before.before.before in
    let q = read_set w in
    let l = (loop-of q).loop-left in
    let s = (start_of (loop-of q)).args in
    let v = w.in-Some in
    subst
    (λ (z : Result Landing ℕ). (Lands s.code.now s.readings.now s.allowance l.frame
    (went_to (pushed w.before.before.before.begin.new.state l.frame v.begun.depth v.begun.word v.begun.ty) l.frame (l.address + v.begun.steps)) (s.allowance - l.left + v.begun.steps)
    p.run_aside.new.state z)
    × (Grows s.code.now (s.base + 8 * (l.address + v.begun.steps)) (s.allowance - l.left + v.begun.steps) s.allowance z))
    e p.run_aside.ensures

top-of-requires : tie.Need-top_of-t-requires invariant-loop decreases-loop
top-of-requires c κs =
    let T = top_of _ _ c.before.before.before.before.before.requires.1 c.before.before.before.before.before.requires.3 in
    (held-long c.before.before.before.before.before.requires.1, T.low, T.high)

loop-holds : tie.Need-loop-left-init invariant-loop decreases-loop
loop-holds c =
    let at-start = c.before.before.before.before.before.before in
    let none : 0 ≡ at-start.args.allowance - at-start.args.allowance = omega arith in (
      recount none
          (record {
            upto = omega arith;
            few = omega arith;
            held = at-start.requires.1;
            long = refl;
            reached = begin at-start.args.code.now at-start.args.readings.now _ _;
            kept = record { phase = at-start.requires.3; place = c.top_of-t.ensures.0; address = c.top_of-t.ensures.1 };
          }),
      omega arith,
    )

add_wide : tie.Need-overflow_add-frame invariant-loop decreases-loop
add_wide c = omega (arith, low-place c.before.loop-left.invariant.0)

slice-read-wide : tie.Need-bounds-state-frame invariant-loop decreases-loop
slice-read-wide c = omega (arith, held-long c.before.before.loop-left.invariant.0.held, low-place c.before.before.loop-left.invariant.0)

cast-p : tie.Need-overflow_cast-p invariant-loop decreases-loop
cast-p c = omega (arith, stands c.before.before.before)

mul-p : tie.Need-overflow_mul-p invariant-loop decreases-loop
mul-p c = omega (arith, stands c.before.before.before)

add-p : tie.Need-overflow_add-p invariant-loop decreases-loop
add-p c = omega (arith, stands c.before.before.before)

add-op : tie.Need-overflow_add-op invariant-loop decreases-loop
add-op c = omega (arith, stands c.before.before.before)

shared-slice-read-op : tie.Need-bounds-code-p invariant-loop decreases-loop
shared-slice-read-op c = omega (arith, stands c.before.before.before.before)

add_a : tie.Need-overflow_add-a invariant-loop decreases-loop
add_a c = omega (arith, stands c.before.before.before.before)

shared-slice-read-a : tie.Need-bounds-code-p-in-loop-left invariant-loop decreases-loop
shared-slice-read-a c = omega (arith, stands c.before.before.before.before.before)

add-word-at : tie.Need-overflow_add-p-in-loop-left invariant-loop decreases-loop
add-word-at c = omega (arith, stands c.before.before.before.before.before)

word-at-requires : tie.Need-word_at-b-requires invariant-loop decreases-loop
word-at-requires c κs = omega (arith, stands c.before.before.before.before.before)

begin-requires : tie.Need-begin-requires invariant-loop decreases-loop
begin-requires c κs = begin-asks (ready c.before)

add-run-aside : tie.Need-overflow_add-address invariant-loop decreases-loop
add-run-aside c = omega (arith, (room_whole (set c.before.before).0.aside).address)

sub-run-aside : tie.Need-overflow_sub-allowance invariant-loop decreases-loop
sub-run-aside c = (loop-of (read_set c.before.before)).loop-left.invariant.1

add-run-aside-2 : tie.Need-overflow_add-allowance invariant-loop decreases-loop
add-run-aside-2 c =
    let p = c.before.before.before in
    omega (arith, more-at p, one-step (ready (read_set p)) (value p), (start_of (loop-of (read_set p))).ranges.allowance.fits)

run-aside-requires : tie.Need-run_aside-requires invariant-loop decreases-loop
run-aside-requires c κs =
    let p = c.before.before.before in
    (coded (start_of (loop-of (read_set p))).requires.0, (set p).0, omega (arith, more-at p, one-step (ready (read_set p)) (value p)))

-- the steps taken at its end
came-to : (p : tie.After-run_aside invariant-loop decreases-loop) (r : Landing) → p.run_aside.result ≡ Ok r → r.taken ≤ (start_of (loop-of (read_set p.before.before.before.before))).args.allowance
came-to p r e = (leads-to p _ e).0.0.upto

sub-left : tie.Need-overflow_sub-left invariant-loop decreases-loop
sub-left c = came-to c.before.before.before.before _ c.in-Ok.is

loop-less : tie.Need-loop-left-smaller-in-Ok invariant-loop decreases-loop
loop-less c =
    let p = c.before.before.before.before in
    let w = p.before.before.before.before in
    let v = c.in-Ok in
    let g = grows (ready (read_set w)) (start_of (loop-of (read_set w))).args.base refl refl (more-at w) v.landing (value w) (leads-to p _ v.is).1 in
    omega (arith, g, came-to p _ v.is, (loop-of (read_set w)).loop-left.invariant.1)

loop-again : tie.Need-loop-left-preserved-in-Ok invariant-loop decreases-loop
loop-again c =
    let p = c.before.before.before.before in
    let w = p.before.before.before.before in (
      recount (omega (arith, came-to p _ c.in-Ok.is))
          (landed (ready (read_set w)) _ (set w) (leads-to p _ c.in-Ok.is).0 (p.run_aside.auto.state ∙ w.before.before.before.begin.auto.state)
          (omega (arith, (leads-to p _ c.in-Ok.is).1.0))),
      omega arith,
    )

release-requires : tie.Need-release-answer-requires invariant-loop decreases-loop
release-requires c κs =
    let p = c.before.before.before.before in
    let w = p.before.before.before.before in
    let B = broken (ready (read_set w)) _ (set w) (leads-to p _ c.before.in-Err.is).0 in
    (B.0, B.1, (start_of (loop-of (read_set w))).requires.2, B.2)

same_length : tie.Need-shape_of-state-in-Err invariant-loop decreases-loop
same_length c =
    c.release-answer.auto.state ∙ c.run_aside.auto.state ∙ c.begin.auto.state ∙ c.loop-left.invariant.0.long

returns : tie.Need-returns-in-Err invariant-loop decreases-loop
returns c =
    let p = c.before.before.before.before.before.before.before in
    let w = p.before.before.before.before in
    let B = broken (ready (read_set w)) _ (set w) (leads-to p _ c.before.before.before.before.in-Err.is).0 in
    c.before.before.release-answer.ensures _ (alive (loop-of (read_set w))) B.3

dispatch-requires : tie.Need-dispatch-requires invariant-loop decreases-loop
dispatch-requires c κs =
    let p = c.before in
    let P = poise (ready_on p) in
    let s = start_of (loop-of (read_of p)) in
    (room P.at-hand, s.requires.0.bodied, s.requires.0.classed, s.requires.2, P, (other p).1)

sub-left-2 : tie.Need-overflow_sub-left-in-Goes invariant-loop decreases-loop
sub-left-2 c = omega (arith, (went c).more)

sub-t80 : tie.Need-overflow_sub-result invariant-loop decreases-loop
sub-t80 c = (loop-of (read_of c.before.before.before.before.before)).loop-left.invariant.1

add-t81 : tie.Need-overflow_add-result invariant-loop decreases-loop
add-t81 c = let p = c.before.before.before in omega (arith, (acted p).more, (start_of (loop-of (read_of p.before.before))).ranges.allowance.fits)

sub-t83 : tie.Need-overflow_sub-result-in-Ends invariant-loop decreases-loop
sub-t83 c = (loop-of (read_of c.before.before.before.before.before)).loop-left.invariant.1

add-t84 : tie.Need-overflow_add-result-in-Ends invariant-loop decreases-loop
add-t84 c = let p = c.before.before.before in omega (arith, (acted p).more, (start_of (loop-of (read_of p.before.before))).ranges.allowance.fits)

-- one step less is left: one more is taken
fewer : (p : tie.In-Goes invariant-loop decreases-loop) →
    let l = loop-told p in
    let k = (start_of l).args.allowance in
    (k - l.loop-left.left + 1 ≡ k - (l.loop-left.left - 1)) × (l.loop-left.left - 1 ≤ k)
fewer p = let few = (loop-told p).loop-left.invariant.1 in (omega (arith, few, (went p).more), omega (arith, few))

reached : (p : tie.In-Goes invariant-loop decreases-loop) →
    let l = loop-told p in
    let s = (start_of l).args in
    Reaches s.code.now s.readings.now s.allowance (since s.state.now l.loop-left.read) p.before.before.before.dispatch.new.state
    (s.allowance - (l.loop-left.left - 1))
reached p =
    let s = (start_of (loop-told p)).args in
    subst (λ (z : ℕ). Reaches s.code.now s.readings.now s.allowance (since s.state.now (loop-told p).loop-left.read) p.before.before.before.dispatch.new.state z)
    (fewer p).0 (further (went p) p.in-Goes.is)

loop-less-2 : tie.Need-loop-left-smaller-in-8 invariant-loop decreases-loop
loop-less-2 c = omega (arith, (went c.before.before).more)

loop-less-3 : tie.Need-loop-left-smaller-in-9 invariant-loop decreases-loop
loop-less-3 c = omega (arith, (went c.before.before).more)

loop-less-4 : tie.Need-loop-left-smaller-in-10 invariant-loop decreases-loop
loop-less-4 c = omega (arith, (went c.before.before.before.before).more)

loop-less-5 : tie.Need-loop-left-smaller-in-11 invariant-loop decreases-loop
loop-less-5 c = omega (arith, (went c.before.before).more)

loop-less-6 : tie.Need-loop-left-smaller-in_default invariant-loop decreases-loop
loop-less-6 c = omega (arith, (went c.before.before.before).more)

-- ── ops 8 and 9 ──
add-half-at : tie.Need-overflow_add-frame-in-8 invariant-loop decreases-loop
add-half-at c =
    let at-loop = c.before.before.before.before.before.before.before.before.before.before.before.before.before.before.before.before.before in
    omega (arith, low-place at-loop.loop-left.invariant.0)

half-at-requires : tie.Need-half_at-address-requires invariant-loop decreases-loop
half-at-requires c κs =
    let p = c.before in
    let at-loop = p.before.before.before.before.before.before.before.before.before.before.before.before.before.before.before.before in
    omega (arith, held-long (kept-held p), low-place at-loop.loop-left.invariant.0)

loop-again-2 : tie.Need-loop-left-preserved-in-8 invariant-loop decreases-loop
loop-again-2 c = let p = c.before.before in (recount (fewer p).0 (again-to (went p) p.in-Goes.is c.before.in-8.is _ c.half_at-address.ensures), (fewer p).1)

add-half-at-2 : tie.Need-overflow_add-frame-in-9 invariant-loop decreases-loop
add-half-at-2 c =
    let at-loop = c.before.before.before.before.before.before.before.before.before.before.before.before.before.before.before.before.before in
    omega (arith, low-place at-loop.loop-left.invariant.0)

half-at-requires-2 : tie.Need-half_at-address-requires-in-9 invariant-loop decreases-loop
half-at-requires-2 c κs =
    let p = c.before in
    let at-loop = p.before.before.before.before.before.before.before.before.before.before.before.before.before.before.before.before in
    omega (arith, held-long (kept-held p), low-place at-loop.loop-left.invariant.0)

loop-again-3 : tie.Need-loop-left-preserved-in-9 invariant-loop decreases-loop
loop-again-3 c = let p = c.before.before in (recount (fewer p).0 (again-unless (went p) p.in-Goes.is c.before.in-9.is _ c.half_at-address-in-9.ensures), (fewer p).1)

-- ── op 10 ──
slice-read-if1 : tie.Need-bounds-state-0 invariant-loop decreases-loop
slice-read-if1 c = omega (arith, held-long (kept-held c.before.before))

sub-release : tie.Need-overflow_sub-allowance-then-state-ne-RUNNING invariant-loop decreases-loop
sub-release c = (fewer c.before.before.before.before).1

release-requires-2 : tie.Need-release-answer-requires-then-state-ne-RUNNING invariant-loop decreases-loop
release-requires-2 c κs =
    let p = c.before.before.before.before in
    (kept-held p, left-off (went p) p.in-Goes.is c.before.if-state-ne-RUNNING.true, (start_of (loop-told p)).requires.2, omega (arith, (went p).more))

same-length-2 : tie.Need-shape_of-state-then-state-ne-RUNNING invariant-loop decreases-loop
same-length-2 c = c.before.before.release-answer-then-state-ne-RUNNING.auto.state ∙ still-long (went c.before.before.before.before.before.before.before)

returns-2 : tie.Need-returns-then-state-ne-RUNNING invariant-loop decreases-loop
returns-2 c = let p = c.before.before.before.before.before.before.before in c.before.before.release-answer-then-state-ne-RUNNING.ensures _ (alive (loop-told p)) (reached p)

top-of-requires-2 : tie.Need-top_of-t-requires-in-10 invariant-loop decreases-loop
top-of-requires-2 c κs =
    let p = c.before.before.before in
    let T = there (went p) c.if-state-ne-RUNNING.false in
    (held-long (kept-held p), T.low, T.high)

loop-again-4 : tie.Need-loop-left-preserved-in-10 invariant-loop decreases-loop
loop-again-4 c =
    let p = c.before.before.before.before in
    (recount (fewer p).0 (again (went p) p.in-Goes.is _ _ c.before.if-state-ne-RUNNING.false c.top_of-t-in-10.ensures.0 c.top_of-t-in-10.ensures.1), (fewer p).1)

-- ── op 11 ──
-- the activation below
lower-at : (p : tie.In-Goes invariant-loop decreases-loop) → byte_at (start_of (loop-told p)).args.code.now ((start_of (loop-told p)).args.base + 8 * (loop-told p).loop-left.address + 2) ≡ 11 →
    (360 ≤ (loop-told p).loop-left.frame) × ((loop-told p).loop-left.frame ≤ 10200)
lower-at p e = (omega (arith, (lower (went p) p.in-Goes.is e).0), low-place (loop-told p).loop-left.invariant.0)

sub-frame : tie.Need-overflow_sub-frame invariant-loop decreases-loop
sub-frame c = omega (arith, lower-at c.before c.in-11.is)

add-half-at-3 : tie.Need-overflow_add-frame-in-11 invariant-loop decreases-loop
add-half-at-3 c = omega (arith, lower-at c.before c.in-11.is)

half-at-requires-3 : tie.Need-half_at-address-requires-in-11 invariant-loop decreases-loop
half-at-requires-3 c κs = let p = c.before in omega (arith, held-long (kept-held p), lower-at p c.in-11.is)

loop-again-5 : tie.Need-loop-left-preserved-in-11 invariant-loop decreases-loop
loop-again-5 c =
    let p = c.before.before in
    (recount (fewer p).0 (again-below (went p) p.in-Goes.is c.before.in-11.is _ c.half_at-address-in-11.ensures), (fewer p).1)

-- ── the other ops ──
slice-read-if2 : tie.Need-bounds-state-0-in_default invariant-loop decreases-loop
slice-read-if2 c = omega (arith, held-long (kept-held c.before.before))

sub-release-2 : tie.Need-overflow_sub-allowance-then-state-ne-RUNNING-2 invariant-loop decreases-loop
sub-release-2 c = (fewer c.before.before.before.before).1

release-requires-3 : tie.Need-release-answer-requires-then-state-ne-RUNNING-2 invariant-loop decreases-loop
release-requires-3 c κs =
    let p = c.before.before.before.before in
    (kept-held p, left-off (went p) p.in-Goes.is c.before.if-state-ne-RUNNING-2.true, (start_of (loop-told p)).requires.2, omega (arith, (went p).more))

same-length-3 : tie.Need-shape_of-state-then-state-ne-RUNNING-2 invariant-loop decreases-loop
same-length-3 c = c.before.before.release-answer-then-state-ne-RUNNING-2.auto.state ∙ still-long (went c.before.before.before.before.before.before.before)

returns-3 : tie.Need-returns-then-state-ne-RUNNING-2 invariant-loop decreases-loop
returns-3 c = let p = c.before.before.before.before.before.before.before in c.before.before.release-answer-then-state-ne-RUNNING-2.ensures _ (alive (loop-told p)) (reached p)

add-address : tie.Need-overflow_add-address-in_default invariant-loop decreases-loop
add-address c = omega (arith, (room (poise (ready_on c.before.before.before.before.before.before.before.before)).at-hand).address)

loop-again-6 : tie.Need-loop-left-preserved-in_default invariant-loop decreases-loop
loop-again-6 c =
    let p = c.before.before.before in
    let others = c.before.before.in_default.in_default-own.rest in
    (recount (fewer p).0 (again-next (went p) p.in-Goes.is others.0.0.0.1 others.0.0.1 others.0.1 others.1 c.if-state-ne-RUNNING-2.false), (fewer p).1)

-- ── a reading ──
took : (p : tie.In-Reads invariant-loop decreases-loop) → let d = p.before.before.before in Acted (ready_on d.before.before) d.dispatch.new.state d.dispatch.result
took p = acted p.before.before.before

abbrev loop-took : tie.In-Reads invariant-loop decreases-loop → tie.At-loop-left invariant-loop decreases-loop
loop-took p = p.before.before.before.before.before.before.before.before.before.before.before.before.before.before.before.before

sub-left-3 : tie.Need-overflow_sub-left-in-Reads invariant-loop decreases-loop
sub-left-3 c = omega (arith, (took c).more)

add_read : tie.Need-overflow_add-read invariant-loop decreases-loop
add_read c = omega (arith, (took c).more, (loop-took c).loop-left.invariant.0.few, (start_of (loop-took c)).ranges.allowance.fits)

top-of-requires-3 : tie.Need-top_of-t-requires-in-Reads invariant-loop decreases-loop
top-of-requires-3 c κs =
    let p = c in
    let T = there (took p) (runs-on (took p) p.in-Reads.is) in
    (held-long (still (took p)), T.low, T.high)

loop-less-7 : tie.Need-loop-left-smaller invariant-loop decreases-loop
loop-less-7 c = omega (arith, (took c.before).more)

loop-again-7 : tie.Need-loop-left-preserved invariant-loop decreases-loop
loop-again-7 c =
    let p = c.before in
    let l = loop-took p in (
      recount (omega (arith, l.loop-left.invariant.1, (took p).more)) (again-read (took p) p.in-Reads.is _ _ c.top_of-t-in-Reads.ensures.0 c.top_of-t-in-Reads.ensures.1),
      omega (arith, l.loop-left.invariant.1),
    )

-- ── an event, an end, the allowance used ──
same-length-4 : tie.Need-shape_of-state-in-Gives invariant-loop decreases-loop
same-length-4 c = still-long (acted c.before.before.before)

returns-4 : tie.Need-returns-in-Gives invariant-loop decreases-loop
returns-4 c =
    let p = c.before.before.before in
    let l = loop-of (read_of p.before.before) in
    happened (acted p) (start_of l).requires.2 (alive l) _ c.in-Gives.is

same-length-5 : tie.Need-shape_of-state-in-Ends invariant-loop decreases-loop
same-length-5 c = still-long (acted c.before.before.before)

returns-5 : tie.Need-returns-in-Ends invariant-loop decreases-loop
returns-5 c =
    let p = c.before.before.before in
    let l = loop-of (read_of p.before.before) in
    done (acted p) (start_of l).requires.2 (alive l) _ c.in-Ends.is

same-length-6 : tie.Need-shape_of-state invariant-loop decreases-loop
same-length-6 c = c.before.loop-left.invariant.0.long

returns-6 : tie.Need-returns invariant-loop decreases-loop
returns-6 c =
    let l = c.before in
    let s = start_of l in
    let all = recount {j = s.args.allowance} (omega arith) l.loop-left.invariant.0 in
    spent s.args.code.now s.args.readings.now _ (since s.args.state.now l.loop-left.read) _ _ s.requires.2 (alive l) refl all.reached

pub run_running_spec : {M : Type 1} → statement M
run_running_spec =
    tie.close
    (tie.spec
    invariant-loop
    decreases-loop
    top-of-requires
    loop-holds
    add_wide
    slice-read-wide
    (λ c κs. search rules)
    cast-p
    mul-p
    add-p
    add-op
    shared-slice-read-op
    add_a
    shared-slice-read-a
    add-word-at
    word-at-requires
    begin-requires
    (λ c. search rules)
    add-run-aside
    sub-run-aside
    add-run-aside-2
    run-aside-requires
    (λ c. search rules)
    sub-left
    loop-less
    loop-again
    (λ c. search rules)
    release-requires
    same_length
    returns
    (λ c. search rules)
    dispatch-requires
    (λ c. search rules)
    sub-left-2
    add-half-at
    half-at-requires
    loop-less-2
    loop-again-2
    add-half-at-2
    half-at-requires-2
    loop-less-3
    loop-again-3
    slice-read-if1
    sub-release
    release-requires-2
    same-length-2
    returns-2
    top-of-requires-2
    loop-less-4
    loop-again-4
    sub-frame
    add-half-at-3
    half-at-requires-3
    loop-less-5
    loop-again-5
    slice-read-if2
    sub-release-2
    release-requires-3
    same-length-3
    returns-3
    add-address
    loop-less-6
    loop-again-6
    (λ c. search rules)
    sub-left-3
    add_read
    top-of-requires-3
    loop-less-7
    loop-again-7
    (λ c. search rules)
    sub-t80
    add-t81
    same-length-4
    returns-4
    (λ c. search rules)
    sub-t83
    add-t84
    same-length-5
    returns-5
    same-length-6
    returns-6)
