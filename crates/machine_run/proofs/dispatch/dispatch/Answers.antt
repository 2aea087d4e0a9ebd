-- `machine_run::dispatch::dispatch` meets its contract. What each op asks is in `OpAsks`, that what it does is what the number stands for in `OpDecode`.
use Rattle.machine_run.proofs.OpAsks.{asks-integer, asks-logical, asks-bits, asks-null, asks-load, asks-store, asks-operate, asks-go, asks-unless, asks-return}
use Rattle.machine_run.proofs.OpAsks.{asks_get, asks-put, asks_set, asks-fader, asks-hold, asks-release, asks-assert}
use native.Mathlib.Omega.{arith}
use Rattle.machine_run.proofs.OpDecode.{as_number, by_end, by-integer, by-logical, by_bits, by-null, by-load, by-store, by-operate, by-go, by-unless, by_call, by-return}
use Rattle.machine_run.proofs.OpDecode.{by-make, by-get, by-put, by-set, by-fader, by-hold, by-release, by-assert, by-stop, other}
use Rattle.machine_run.proofs.dispatch.dispatch.Goals as goal

-- ── what the ops ask ──
pub op_push-requires : goal.op_push-requires
op_push-requires c = let s = c.requires in (s.0, asks-integer s.4 c.in-1.is)

pub op_push-requires-in-2 : goal.op_push-requires-in-2
op_push-requires-in-2 c = let s = c.requires in (s.0, asks-logical s.4 c.in-2.is)

pub op_push-requires-in-3 : goal.op_push-requires-in-3
op_push-requires-in-3 c = let s = c.requires in (s.0, asks-bits s.4 c.in-3.is)

pub overflow_add-a : goal.overflow_add-a
overflow_add-a c = let s = c.requires in omega (arith, (asks-null s.4 c.in-4.is).1)

pub op_push-requires-in-4 : goal.op_push-requires-in-4
op_push-requires-in-4 c = let s = c.requires in (s.0, (asks-null s.4 c.in-4.is).0)

pub op_load-requires : goal.op_load-requires
op_load-requires c = let s = c.requires in let a = asks-load s.4 c.in-5.is in (s.0, a.0, a.1)

pub op_store-requires : goal.op_store-requires
op_store-requires c = let s = c.requires in let a = asks-store s.4 c.in-6.is in (s.0, a.0, a.1)

pub op_operate-requires : goal.op_operate-requires
op_operate-requires c = let s = c.requires in (s.0, (asks-operate s.4 c.in-7.is).0, s.5 c.in-7.is)

pub overflow_cast-b-in-8 : goal.overflow_cast-b-in-8
overflow_cast-b-in-8 c = let s = c.requires in omega (arith, asks-go s.4 c.in-8.is)

pub overflow_cast-b-in-9 : goal.overflow_cast-b-in-9
overflow_cast-b-in-9 c = let s = c.requires in omega (arith, (asks-unless s.4 c.in-9.is).1)

pub op_unless-requires : goal.op_unless-requires
op_unless-requires c = let s = c.requires in (s.0, (asks-unless s.4 c.in-9.is).0)

pub call-requires : goal.call-requires
call-requires c = let s = c.requires in (s.0, s.1, as_number s.4 c.in-10.is)

pub op_return-requires : goal.op_return-requires
op_return-requires c = let s = c.requires in (s.0, asks-return s.4 c.in-11.is)

pub make-requires : goal.make-requires
make-requires c = let s = c.requires in (s.0, s.2, as_number s.4 c.in-12.is)

pub op_get_field-requires : goal.op_get_field-requires
op_get_field-requires c = let s = c.requires in let a = asks_get s.4 c.in-13.is in (s.0, a.0, a.1)

pub op_put_field-requires : goal.op_put_field-requires
op_put_field-requires c = let s = c.requires in let a = asks-put s.4 c.in-14.is in (s.0, a.0, a.1)

pub op_set-requires : goal.op_set-requires
op_set-requires c = let s = c.requires in (s.0, asks_set s.4 c.in-15.is)

pub op_fader-requires : goal.op_fader-requires
op_fader-requires c = let s = c.requires in (s.0, asks-fader s.4 c.in-16.is, s.3)

pub overflow_cast-b-in-17 : goal.overflow_cast-b-in-17
overflow_cast-b-in-17 c = let s = c.requires in omega (arith, (asks-hold s.4 c.in-17.is).0)

pub op_hold-requires : goal.op_hold-requires
op_hold-requires c = let s = c.requires in (s.0, (asks-hold s.4 c.in-17.is).1)

pub op_release-requires : goal.op_release-requires
op_release-requires c = let s = c.requires in let a = asks-release s.4 c.in-18.is in (s.0, a.0, a.1, a.2)

pub op_assert-requires : goal.op_assert-requires
op_assert-requires c = let s = c.requires in (s.0, asks-assert s.4 c.in-19.is)

-- ── what they do ──
pub returns-in-1 : goal.returns-in-1
returns-in-1 c =
    by-integer c.requires.4 c.in-1.is c.ranges.b.fits c.op_push.ensures

pub returns-in_default : goal.returns-in_default
returns-in_default c =
    let r = c.in_default.in_default-own.rest in
    let r15 = r.0.0.0.0.0 in
    let r10 = r15.0.0.0.0.0 in
    let r5 = r10.0.0.0.0.0 in
    by-stop c.requires.4 (other r5.0.0.0.0.1 r5.0.0.0.1 r5.0.0.1 r5.0.1 r5.1 r10.0.0.0.0.1
    r10.0.0.0.1 r10.0.0.1 r10.0.1 r10.1 r15.0.0.0.0.1 r15.0.0.0.1 r15.0.0.1 r15.0.1 r15.1
    r.0.0.0.0.1 r.0.0.0.1 r.0.0.1 r.0.1 r.1) c.op_condition.ensures

pub returns-in-0 : goal.returns-in-0
returns-in-0 c = by_end c.requires.4 c.in-0.is c.op_end.ensures

pub returns-in-2 : goal.returns-in-2
returns-in-2 c = by-logical c.requires.4 c.in-2.is c.op_push-in-2.ensures

pub returns-in-3 : goal.returns-in-3
returns-in-3 c = by_bits c.requires.4 c.in-3.is c.op_push-in-3.ensures

pub returns-in-4 : goal.returns-in-4
returns-in-4 c = by-null c.requires.4 c.in-4.is c.op_push-in-4.ensures

pub returns-in-5 : goal.returns-in-5
returns-in-5 c = by-load c.requires.4 c.in-5.is c.op_load.ensures

pub returns-in-6 : goal.returns-in-6
returns-in-6 c = by-store c.requires.4 c.in-6.is c.op_store.ensures

pub returns-in-7 : goal.returns-in-7
returns-in-7 c = by-operate c.requires.4 c.in-7.is c.op_operate.ensures

pub returns-in-8 : goal.returns-in-8
returns-in-8 c = by-go c.requires.4 c.in-8.is c.op_go.ensures

pub returns-in-9 : goal.returns-in-9
returns-in-9 c = by-unless c.requires.4 c.in-9.is c.op_unless.ensures

pub returns-in-10 : goal.returns-in-10
returns-in-10 c = by_call c.requires.4 c.in-10.is c.call.ensures

pub returns-in-11 : goal.returns-in-11
returns-in-11 c = by-return c.requires.4 c.in-11.is c.op_return.ensures

pub returns-in-12 : goal.returns-in-12
returns-in-12 c = by-make c.requires.4 c.in-12.is c.make.ensures

pub returns-in-13 : goal.returns-in-13
returns-in-13 c = by-get c.requires.4 c.in-13.is c.op_get_field.ensures

pub returns-in-14 : goal.returns-in-14
returns-in-14 c = by-put c.requires.4 c.in-14.is c.op_put_field.ensures

pub returns-in-15 : goal.returns-in-15
returns-in-15 c = by-set c.requires.4 c.in-15.is c.op_set.ensures

pub returns-in-16 : goal.returns-in-16
returns-in-16 c = by-fader c.requires.4 c.in-16.is c.op_fader.ensures

pub returns-in-17 : goal.returns-in-17
returns-in-17 c = by-hold c.requires.4 c.in-17.is c.op_hold.ensures

pub returns-in-18 : goal.returns-in-18
returns-in-18 c = by-release c.requires.4 c.in-18.is c.op_release.ensures

pub returns-in-19 : goal.returns-in-19
returns-in-19 c = by-assert c.requires.4 c.in-19.is c.op_assert.ensures
