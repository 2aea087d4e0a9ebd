-- `machine_run::aside::run_aside` meets its contract. The invariant, and what each op makes of it, are in `AsideLoop`.
use borrow.Author.Rules.{rules}
use native.Mathlib.Omega.{arith}
use Prim.Native.Nat.{ℕ, ◌+◌, ◌*◌, ◌-◌, ◌≤◌}
use mathlib.Core.Path.{◌≡◌, refl, sym, ap, ◌∙◌, subst}
use mathlib.Core.List.{List}
use lib.ListN.{length}
use Rattle.words.specs.Numbers.{byte_at}
use Rattle.machine_frames.specs.Bytes.{went_to, pushed, conditioned}
use Rattle.machine_run.specs.Aside.{Pairs, Paired, Leaves, Lands, Grows, landed}
use Rattle.std.specs.Prelude.{Option, Result, Ok, Err}
use Rattle.machine_run.specs.declared.aside.Pair.{Pair}
use Rattle.machine_run.specs.declared.aside.Landing.{Landing}
use Rattle.machine_run.proofs.AsideLoop.{Going, Ready, Two, start, recount, put, gives, breaks, break-room, stands, pair-asks, paired}
use Rattle.machine_run.proofs.AsideLoop.{leave-asks, left, left-grows, put-grows, put-asks, two-room, some-steps}
use Rattle.machine_run.proofs.aside.run_aside.Statement.{statement}
use Rattle.machine_run.proofs.aside.run_aside.Tie as tie

abbrev invariant-loop : tie.invariant-loop-left
invariant-loop code base state₀ readings frame depth address taken allowance w t k₀ i₀ left₀ x₀ u₀ state k i left x u =
    Going code readings allowance (went_to (pushed state₀ frame depth w t) frame address) address taken state₀ state frame k i (allowance - left) x u × (left ≤ allowance)

abbrev decreases-loop : tie.decreases-loop-left
decreases-loop code base state₀ readings frame depth address taken allowance w t k₀ i₀ left₀ x₀ u₀ state k i left x u = left

-- ── the points that most answers go back to: the loop's head, the op read, a pair found ──
abbrev start_of : tie.At-loop-left invariant-loop decreases-loop → tie.Start invariant-loop decreases-loop
start_of p = p.before.before.before.before

abbrev loop-of : tie.After-word_at-b invariant-loop decreases-loop → tie.At-loop-left invariant-loop decreases-loop
loop-of p = p.before.before.before.before

ready : (p : tie.After-word_at-b invariant-loop decreases-loop) →
    let l = (loop-of p).loop-left in
    let s = (start_of (loop-of p)).args in
    let place = s.base + 8 * l.i in
    Ready s.code.now s.readings.now s.allowance (went_to (pushed s.state.now s.frame s.depth s.w s.t) s.frame s.address)
    s.address s.taken s.state.now l.state s.frame
    l.k l.i (s.allowance - l.left) l.x l.u s.base (byte_at s.code.now (place + 2)) (byte_at s.code.now (place + 3)) p.word_at-b.result
ready p =
    let l = loop-of p in
    record {
      going = l.loop-left.invariant.0;
      low = λ k. omega (arith, l.before.shared_slice_known-2-1.given k);
      coded = (start_of l).requires.0;
      more = omega (arith, l.loop-left.invariant.1);
      op-is = refl;
      a-is = refl;
      b-is = p.word_at-b.ensures;
      b-low = omega (arith, p.word_at-b.type_inv);
    }

-- ── a pair found ──
abbrev found_at : tie.In-Some invariant-loop decreases-loop → tie.After-word_at-b invariant-loop decreases-loop
found_at p = p.before.before.before.before.before

pairs : (p : tie.In-Some invariant-loop decreases-loop) →
    let q = found_at p in
    let l = (loop-of q).loop-left in
    let s = (start_of (loop-of q)).args in
    let place = s.base + 8 * l.i in
    let v = p.in-Some in
    Paired s.code.now place l.state s.frame l.k (byte_at s.code.now (place + 2)) (byte_at s.code.now (place + 3))
    q.word_at-b.result l.x l.u l.left
    p.before.before.before.pair_up.new.state v.pair.operator v.pair.ty v.pair.left v.pair.right v.pair.depth v.pair.steps
pairs p =
    let q = found_at p in
    let l = (loop-of q).loop-left in
    let s = (start_of (loop-of q)).args in
    let place = s.base + 8 * l.i in
    subst
    (λ (z : Option Pair). Pairs s.code.now place l.state s.frame l.k (byte_at s.code.now (place + 2)) (byte_at s.code.now (place + 3))
    q.word_at-b.result l.x l.u l.left
    p.before.before.before.pair_up.new.state z)
    p.in-Some.is p.before.before.before.pair_up.ensures

two : (p : tie.In-Some invariant-loop decreases-loop) →
    let q = found_at p in
    let l = (loop-of q).loop-left in
    let s = (start_of (loop-of q)).args in
    let v = p.in-Some in
    Two s.code.now s.readings.now s.allowance (went_to (pushed s.state.now s.frame s.depth s.w s.t) s.frame s.address) s.taken s.state.now
    p.before.before.before.pair_up.new.state s.frame v.pair.depth (l.i + v.pair.steps)
    (s.allowance - l.left + v.pair.steps) v.pair.operator v.pair.ty v.pair.left v.pair.right
two p = let l = loop-of (found_at p) in paired (ready (found_at p)) (omega (arith, l.loop-left.invariant.1)) (pairs p)

-- ── no pair found: the bytes are as they were ──
abbrev left_at : tie.In-None invariant-loop decreases-loop → tie.After-word_at-b invariant-loop decreases-loop
left_at p = p.before.before.before.before.before

same : (p : tie.In-None invariant-loop decreases-loop) →
    let q = left_at p in
    let l = (loop-of q).loop-left in
    let s = (start_of (loop-of q)).args in
    let place = s.base + 8 * l.i in
    (p.before.before.before.pair_up.new.state ≡ l.state) × (byte_at s.code.now (place + 2) ≡ 7 → 20 ≤ byte_at s.code.now (place + 3))
same p =
    let q = left_at p in
    let l = (loop-of q).loop-left in
    let s = (start_of (loop-of q)).args in
    let place = s.base + 8 * l.i in
    subst
    (λ (z : Option Pair). Pairs s.code.now place l.state s.frame l.k (byte_at s.code.now (place + 2)) (byte_at s.code.now (place + 3))
    q.word_at-b.result l.x l.u l.left
    p.before.before.before.pair_up.new.state z)
    p.in-None.is p.before.before.before.pair_up.ensures

sub-left : tie.Need-overflow_sub-left invariant-loop decreases-loop
sub-left c = omega (arith, c.before.before.before.requires.2)

loop-holds : tie.Need-loop-left-init invariant-loop decreases-loop
loop-holds c =
    let at-start = c.before.before.before in
    (recount (omega (arith, at-start.requires.2)) (start at-start.requires.1 at-start.requires.2), omega arith)

cast-p : tie.Need-overflow_cast-p invariant-loop decreases-loop
cast-p c = omega (arith, stands c.before.loop-left.invariant.0 _ c.before.before.before.before.before.requires.0)

mul-p : tie.Need-overflow_mul-p invariant-loop decreases-loop
mul-p c = omega (arith, stands c.before.loop-left.invariant.0 _ c.before.before.before.before.before.requires.0)

add-p : tie.Need-overflow_add-p invariant-loop decreases-loop
add-p c = omega (arith, stands c.before.loop-left.invariant.0 _ c.before.before.before.before.before.requires.0)

add-op : tie.Need-overflow_add-op invariant-loop decreases-loop
add-op c = omega (arith, stands c.before.loop-left.invariant.0 _ c.before.before.before.before.before.requires.0)

shared-slice-read-op : tie.Need-bounds-code-p invariant-loop decreases-loop
shared-slice-read-op c = omega (arith, stands c.before.before.loop-left.invariant.0 _ c.before.before.before.before.before.before.requires.0)

add_a : tie.Need-overflow_add-a invariant-loop decreases-loop
add_a c = omega (arith, stands c.before.before.loop-left.invariant.0 _ c.before.before.before.before.before.before.requires.0)

shared-slice-read-a : tie.Need-bounds-code-p-in-loop-left invariant-loop decreases-loop
shared-slice-read-a c = omega (arith, stands c.before.before.before.loop-left.invariant.0 _ c.before.before.before.before.before.before.before.requires.0)

add-word-at : tie.Need-overflow_add-p-in-loop-left invariant-loop decreases-loop
add-word-at c = omega (arith, stands c.before.before.before.loop-left.invariant.0 _ c.before.before.before.before.before.before.before.requires.0)

word-at-requires : tie.Need-word_at-b-requires invariant-loop decreases-loop
word-at-requires c κs = omega (arith, stands c.before.before.before.loop-left.invariant.0 _ c.before.before.before.before.before.before.before.requires.0)

pair-up-requires : tie.Need-pair_up-requires invariant-loop decreases-loop
pair-up-requires c κs = pair-asks (ready c.before)

enum-known-c : tie.Need-enum_known-pair invariant-loop decreases-loop
enum-known-c c = search rules

binary-requires : tie.Need-binary-requires invariant-loop decreases-loop
binary-requires c κs = search rules

enum-known-y : tie.Need-enum_known-v invariant-loop decreases-loop
enum-known-y c = search rules

add-i : tie.Need-overflow_add-i invariant-loop decreases-loop
add-i c = omega (arith, two-room (two c.before.before.before))

sub-left-2 : tie.Need-overflow_sub-left-in-Ok invariant-loop decreases-loop
sub-left-2 c =
    let p = c.before.before.before.before in
    omega (arith, two-room (two p), (loop-of (found_at p)).loop-left.invariant.1)

loop-less : tie.Need-loop-left-smaller invariant-loop decreases-loop
loop-less c = omega (arith, some-steps (pairs c.before.before.before.before), sub-left-2 c)

loop-again : tie.Need-loop-left-preserved invariant-loop decreases-loop
loop-again c =
    let p = c.before.before.before.before in
    let few = (loop-of (found_at p)).loop-left.invariant.1 in (
      recount (omega (arith, sub-left-2 c, few)) (gives (ready (found_at p)).low (two p) _ c.binary.ensures _ _ c.in-Ok.is),
      omega (arith, few),
    )

enum-known-e : tie.Need-enum_known-e invariant-loop decreases-loop
enum-known-e c = search rules

number-requires : tie.Need-number-requires invariant-loop decreases-loop
number-requires c κs = search rules

condition-requires : tie.Need-condition-requires invariant-loop decreases-loop
condition-requires c κs = let p = c.before.before.before.before in break-room (ready (found_at p)).low (two p) _ c.binary.ensures

sub-t43 : tie.Need-overflow_sub-result invariant-loop decreases-loop
sub-t43 c = (loop-of (found_at c.before.before.before.before.before.before.before)).loop-left.invariant.1

add-t44 : tie.Need-overflow_add-result invariant-loop decreases-loop
add-t44 c =
    let p = c.before.before.before.before.before.before.before.before in
    let at-start = p.before.before.before.before.before.before.before.before.before.before.before.before.before in
    omega (arith, two-room (two p), at-start.ranges.allowance.fits)

same_length : tie.Need-shape_of-state-in-Err invariant-loop decreases-loop
same_length c = c.condition.auto.state ∙ (two c.before.before.before.before.before.before.before.before).long

returns : tie.Need-returns-in-Err invariant-loop decreases-loop
returns c =
    let p = c.before.before.before.before.before.before.before.before in
    let q = found_at p in
    let s = (start_of (loop-of q)).args in
    let B = breaks (ready q).low (two p) _ c.binary.ensures _ c.in-Err.is in (
      subst
          (λ (z : List ℕ). Lands s.code.now s.readings.now s.allowance s.frame
          (went_to (pushed s.state.now s.frame s.depth s.w s.t) s.frame s.address) s.taken z
          (Err (s.allowance - (loop-of q).loop-left.left + p.in-Some.pair.steps)))
          (sym (c.condition.ensures ∙ ap (λ (z : ℕ). conditioned c.pair_up.new.state z) c.number.ensures)) B,
      tt,
    )

enum_told : tie.Need-enum_told-1 invariant-loop decreases-loop
enum_told c = search rules

sub-leave : tie.Need-overflow_sub-allowance invariant-loop decreases-loop
sub-leave c = (loop-of (left_at c.before)).loop-left.invariant.1

leave-requires : tie.Need-leave-requires invariant-loop decreases-loop
leave-requires c κs =
    let p = c.before in
    let s = start_of (loop-of (left_at p)) in
    let a = leave-asks (ready (left_at p)) (omega (arith, s.ranges.allowance.fits)) in
    (ap length (same p).0 ∙ a.0, a.1, a.2, a.3, a.4, a.5, a.6)

same-length-2 : tie.Need-shape_of-state-in-None invariant-loop decreases-loop
same-length-2 c =
    let p = c.before.before.before.before in
    c.before.before.leave.auto.state ∙ ap length (same p).0 ∙ (loop-of (left_at p)).loop-left.invariant.0.long

returns-2 : tie.Need-returns-in-None invariant-loop decreases-loop
returns-2 c =
    let p = c.before.before.before.before in
    let q = left_at p in
    let l = (loop-of q).loop-left in
    let s = (start_of (loop-of q)).args in
    let place = s.base + 8 * l.i in
    let L =
    subst
    (λ (z : List ℕ). Leaves z s.frame l.k l.i (s.allowance - l.left) (byte_at s.code.now (place + 2)) (byte_at s.code.now (place + 3)) q.word_at-b.result l.x l.u
    c.before.before.leave.new.state c.before.before.leave.result)
    (same p).0 c.before.before.leave.ensures in
    (left (ready q) L, left-grows (ready q) (same p).1 L)

put-back-requires : tie.Need-put_back-requires invariant-loop decreases-loop
put-back-requires c κs = put-asks c.before.before.loop-left.invariant.0

same-length-3 : tie.Need-shape_of-state invariant-loop decreases-loop
same-length-3 c = c.before.before.put_back.auto.state ∙ c.before.before.before.before.before.loop-left.invariant.0.long

returns-3 : tie.Need-returns invariant-loop decreases-loop
returns-3 c =
    let l = c.before.before.before.before.before in
    let s = (start_of l).args in
    let s₀ = went_to (pushed s.state.now s.frame s.depth s.w s.t) s.frame s.address in
    let r : Result Landing ℕ = Ok (landed l.loop-left.i s.allowance) in
    let all = recount {m = s.allowance} (omega arith) l.loop-left.invariant.0 in
    subst
    (λ (z : Landing). (Lands s.code.now s.readings.now s.allowance s.frame s₀ s.taken c.before.before.put_back.new.state (Ok z))
    × (Grows s.code.now (s.base + 8 * s.address) s.taken s.allowance (Ok z)))
    (sym c.before.before.put_back.ensures.1) (
      subst (λ (z : List ℕ). Lands s.code.now s.readings.now s.allowance s.frame s₀ s.taken z r) (sym c.before.before.put_back.ensures.0) (put all),
      put-grows _ all (omega arith),
    )

pub run_aside_spec : {M : Type 1} → statement M
run_aside_spec =
    tie.close
    (tie.spec
    invariant-loop
    decreases-loop
    sub-left
    loop-holds
    cast-p
    mul-p
    add-p
    add-op
    shared-slice-read-op
    add_a
    shared-slice-read-a
    add-word-at
    word-at-requires
    pair-up-requires
    enum-known-c
    binary-requires
    enum-known-y
    add-i
    sub-left-2
    loop-less
    loop-again
    enum-known-e
    number-requires
    condition-requires
    sub-t43
    add-t44
    same_length
    returns
    enum_told
    sub-leave
    leave-requires
    same-length-2
    returns-2
    put-back-requires
    same-length-3
    returns-3)
