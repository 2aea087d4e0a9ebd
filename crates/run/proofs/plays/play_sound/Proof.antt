-- `run::plays::play_sound` meets its contract.
use mathlib.Core.Path.{◌≡◌, refl, sym, ◌∙◌}
use mathlib.Core.Bool.{true}
use Prim.Native.Nat.{◌-◌}
use borrow.Author.Rules.{rules}
use native.Mathlib.Omega.{arith}
use Rattle.words.specs.Laws.{Bytes}
use Rattle.logic.specs.Tests.{never}
use Rattle.run.proofs.Playing.{Plays, plays-first, plays-full, plays-on, plays-spent, plays-ended, Ran-on, ran_on, held, taken-upto, spent-upto, ended-upto, read-upto}
use Rattle.run.proofs.Playing.{First, first-happens, first-spends, first-finishes}
use Rattle.run.proofs.plays.play_sound.Statement.{statement}
use Rattle.run.proofs.plays.play_sound.Tie as tie

abbrev invariant-loop : tie.invariant-loop-events
invariant-loop code bodies classes base state₀ readings allowance once answers₀ room taken₀ events₀ read₀ state answers taken events read =
    Plays code readings allowance room state₀ answers₀ state answers taken events read × (once ≡ true → First state₀ state taken events read)

abbrev decreases-loop : tie.decreases-loop-events
decreases-loop code bodies classes base state₀ readings allowance once answers₀ room taken₀ events₀ read₀ state answers taken events read = room - events

-- ── the points that most answers go back to: the function's entry, the loop's head, the run made ──
abbrev start_of : tie.At-loop-events invariant-loop decreases-loop → tie.Start invariant-loop decreases-loop
start_of l = l.before.before.before.before.before.before.before

abbrev loop-of : tie.After-run_sound-r invariant-loop decreases-loop → tie.At-loop-events invariant-loop decreases-loop
loop-of p = p.before.before.before

-- the loop's head where the run gave an event, before and after it is written
abbrev loop-writing : tie.After-put_answer-arg-1 invariant-loop decreases-loop → tie.At-loop-events invariant-loop decreases-loop
loop-writing c = c.before.before.before.before.before.before.before.before.before.before

abbrev run-written : tie.After-slice_known-in-Happens-1 invariant-loop decreases-loop → tie.After-run_sound-r invariant-loop decreases-loop
run-written c = c.before.before.before.before.before.before.before.before.before.before

code-bytes : (l : tie.At-loop-events invariant-loop decreases-loop) → Bytes (start_of l).args.code.now
code-bytes l k = (l.before.before.before.before.before.before.shared_slice_known-1.given k).fits

reading-bytes : (l : tie.At-loop-events invariant-loop decreases-loop) → Bytes (start_of l).args.readings.now
reading-bytes l k = (l.before.before.shared_slice_known-4-1.given k).fits

-- what the run came to
ran : (p : tie.After-run_sound-r invariant-loop decreases-loop) →
    let l = loop-of p in
    let s = (start_of l).args in
    Ran-on s.code.now s.readings.now l.loop-events.state (s.allowance - l.loop-events.taken) p.run_sound-r.new.state p.run_sound-r.result
ran p =
    let l = loop-of p in
    ran_on _ _ (code-bytes l) (reading-bytes l) (start_of l).requires.2 _ l.loop-events.invariant.0.standing _ _ p.run_sound-r.result p.run_sound-r.ensures

loop-holds : tie.Need-loop-events-init invariant-loop decreases-loop
loop-holds c =
    let at-start = c.before.before.before.before.before.before in
    (plays-first _ _ _ _ _ _ at-start.requires.1, λ t. record { same = refl; no-step = refl; no-event = refl; none_read = refl })

cast-loop : tie.Need-overflow_cast-events invariant-loop decreases-loop
cast-loop c = record { fits = omega (arith, c.loop-events.invariant.0.few, c.loop-events.invariant.0.upto) }

sub-left : tie.Need-overflow_sub-left invariant-loop decreases-loop
sub-left c = c.before.loop-events.invariant.0.upto

run-sound-requires : tie.Need-run_sound-r-requires invariant-loop decreases-loop
run-sound-requires c κs =
    let l = c.before.before in
    let s = start_of l in
    (s.requires.0, held _ _ (code-bytes l) l.loop-events.invariant.0.standing, s.requires.2)

add_read : tie.Need-overflow_add-read invariant-loop decreases-loop
add_read c =
    let p = c.before.before.before in
    let l = loop-of p in
    record { fits = omega (arith, (start_of l).ranges.allowance, read-upto (ran p), l.loop-events.invariant.0.upto, l.loop-events.invariant.0.few-read) }

-- ── an event ──
cast-put-answer : tie.Need-overflow_cast-events-in-Happens invariant-loop decreases-loop
cast-put-answer c = let l = (loop-writing c).loop-events in record { fits = omega (arith, l.invariant.0.few, l.invariant.0.upto) }

mul-put-answer : tie.Need-overflow_mul-events invariant-loop decreases-loop
mul-put-answer c = let l = (loop-writing c).loop-events in record { fits = omega (arith, l.invariant.0.few, l.invariant.0.upto) }

put-answer-requires : tie.Need-put_answer-requires invariant-loop decreases-loop
put-answer-requires c κs =
    let at-loop-test = c.before.before.before.before.before.before.before.before.before in
    omega (arith, at-loop-test.before.loop-events.invariant.0.long, at-loop-test.loop-events-test)

add-taken : tie.Need-overflow_add-taken invariant-loop decreases-loop
add-taken c =
    let at-e = c.before.before.before.before.before.before in
    let p = at-e.before.before.before.before in
    let s = start_of (loop-of p) in
    record { fits = omega (arith, s.ranges.allowance, taken-upto (ran p) _ _ at-e.in-Happens.is, (loop-of p).loop-events.invariant.0.upto) }

add-events : tie.Need-overflow_add-events invariant-loop decreases-loop
add-events c =
    let at-e = c.before.before.before.before.before.before in
    let p = at-e.before.before.before.before in
    let s = start_of (loop-of p) in
    record { fits = omega (arith, s.ranges.allowance, taken-upto (ran p) _ _ at-e.in-Happens.is, (loop-of p).loop-events.invariant.0.upto, (loop-of p).loop-events.invariant.0.few) }

loop-less : tie.Need-loop-events-smaller invariant-loop decreases-loop
loop-less c = let at-loop-test = (run-written c).before.before in omega (arith, at-loop-test.loop-events-test)

loop-again : tie.Need-loop-events-preserved invariant-loop decreases-loop
loop-again c =
    let at-put-answer = c.before.before in
    let at-pack-event = at-put-answer.before.before in
    let at-if1 = at-pack-event.before in
    let at-e = at-if1.before in
    let p = run-written c in (
      plays-on _ _ _ (loop-of p).loop-events.invariant.0 p.before.before.loop-events-test.true _ _ (ran p) _ _ at-e.in-Happens.is _ at-pack-event.pack_event-packed.ensures _
          at-put-answer.put_answer.ensures at-put-answer.put_answer.auto.out p.run_sound-r.auto.state,
      λ t. never (sym at-if1.if-once.false ∙ t),
    )

-- ── the one event that was asked for ──
same_length : tie.Need-shape_of-state-then-once invariant-loop decreases-loop
same_length c = let p = c.before.before.before.before.before in p.run_sound-r.auto.state ∙ (loop-of p).loop-events.invariant.0.state-long

same-length-2 : tie.Need-shape_of-answers-then-once invariant-loop decreases-loop
same-length-2 c = (loop-of c.before.before.before.before.before).loop-events.invariant.0.long

returns : tie.Need-returns-then-once invariant-loop decreases-loop
returns c =
    let p = c.before.before.before.before.before in
    (λ t. first-happens _ (ran p) ((loop-of p).loop-events.invariant.1 t) _ _ c.before.in-Happens.is, λ f. never (sym f ∙ c.if-once.true))

-- ── the allowance used, an end, no room ──
add-t35 : tie.Need-overflow_add-result invariant-loop decreases-loop
add-t35 c =
    let p = c.before.before.before.before in
    record { fits = omega (arith, spent-upto (ran p) _ c.in-Spends.is, (loop-of p).loop-events.invariant.0.upto) }

same-length-3 : tie.Need-shape_of-state-in-Spends invariant-loop decreases-loop
same-length-3 c = let p = c.before.before.before.before in p.run_sound-r.auto.state ∙ (loop-of p).loop-events.invariant.0.state-long

same-length-4 : tie.Need-shape_of-answers-in-Spends invariant-loop decreases-loop
same-length-4 c = (loop-of c.before.before.before.before).loop-events.invariant.0.long

returns-2 : tie.Need-returns-in-Spends invariant-loop decreases-loop
returns-2 c =
    let p = c.before.before.before.before in
    let l = (loop-of p).loop-events in
    let e = c.in-Spends.is in
    (λ t. first-spends _ (ran p) (l.invariant.1 t) _ e, λ f. plays-spent _ _ _ l.invariant.0 p.before.before.loop-events-test.true _ _ (ran p) _ e)

add-t38 : tie.Need-overflow_add-result-in-Finishes invariant-loop decreases-loop
add-t38 c =
    let p = c.before.before.before.before in
    record { fits = omega (arith, ended-upto (ran p) _ _ c.in-Finishes.is, (loop-of p).loop-events.invariant.0.upto) }

same-length-5 : tie.Need-shape_of-state-in-Finishes invariant-loop decreases-loop
same-length-5 c = let p = c.before.before.before.before in p.run_sound-r.auto.state ∙ (loop-of p).loop-events.invariant.0.state-long

same-length-6 : tie.Need-shape_of-answers-in-Finishes invariant-loop decreases-loop
same-length-6 c = (loop-of c.before.before.before.before).loop-events.invariant.0.long

returns-3 : tie.Need-returns-in-Finishes invariant-loop decreases-loop
returns-3 c =
    let p = c.before.before.before.before in
    let l = (loop-of p).loop-events in
    let e = c.in-Finishes.is in
    (λ t. first-finishes _ (ran p) (l.invariant.1 t) _ _ e, λ f. plays-ended _ _ _ l.invariant.0 p.before.before.loop-events-test.true _ _ (ran p) _ _ e)

same-length-7 : tie.Need-shape_of-state invariant-loop decreases-loop
same-length-7 c = c.before.loop-events.invariant.0.state-long

same-length-8 : tie.Need-shape_of-answers invariant-loop decreases-loop
same-length-8 c = c.before.loop-events.invariant.0.long

returns-4 : tie.Need-returns invariant-loop decreases-loop
returns-4 c =
    let l = c.before in
    (λ t. absurd (omega (arith, (l.loop-events.invariant.1 t).no-event, c.loop-events-test.false, (start_of l).requires.3)), λ f. plays-full _ _ _ l.loop-events.invariant.0 c.loop-events-test.false)

pub play_sound_spec : {M : Type 1} → statement M
play_sound_spec =
    tie.close
    (tie.spec
    invariant-loop
    decreases-loop
    loop-holds
    cast-loop
    sub-left
    run-sound-requires
    add_read
    (λ c. search rules)
    same_length
    same-length-2
    returns
    (λ c κs. tt)
    cast-put-answer
    mul-put-answer
    put-answer-requires
    add-taken
    add-events
    loop-less
    loop-again
    (λ c. search rules)
    add-t35
    same-length-3
    same-length-4
    returns-2
    (λ c. search rules)
    add-t38
    same-length-5
    same-length-6
    returns-3
    same-length-7
    same-length-8
    returns-4)
