-- `desk::compiler::cue_compile` meets its contract.
use native.Mathlib.Omega.{arith}
use Rattle.desk.proofs.Laws as law
use Rattle.desk.proofs.compiler.cue_compile.Goals as goal

pub pack-requires : goal.pack-requires
pack-requires c =
    let few = law.macro-short _ _ _ c.compile.result c.compile.ensures (λ k. (c.type_inv.table k).fits) _ c.in-Ok.is in
    (omega arith, omega arith, omega arith, omega (arith, few))

pub pack_refusal-requires : goal.pack_refusal-requires
pack_refusal-requires c =
    law.compiled-small _ _ _ c.compile.result c.compile.ensures (λ k. (c.type_inv.table k).fits) _ c.in-Err.is

pub returns-in-Ok : goal.returns-in-Ok
returns-in-Ok c = law.compiled _ _ _ c.compile.result c.compile.ensures _ c.in-Ok.is _ c.pack.ensures

pub returns-in-Err : goal.returns-in-Err
returns-in-Err c = law.compiled _ _ _ c.compile.result c.compile.ensures _ c.in-Err.is _ c.pack_refusal.ensures
