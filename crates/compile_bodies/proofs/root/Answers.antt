-- `root`: its parts one after the other (crates/compile_whole/specs/Walks).
use native.Mathlib.Omega.{arith}
use Rattle.compile_whole.specs.Walks.{root-long, root-place, root-headed, head-fits, root-asks, releases-fit, end_fits, ends_some, root-done}
use Rattle.compile_bodies.proofs.root.Goals as goal

pub b_at-items-requires : goal.b_at-items-requires
b_at-items-requires c =
    omega (arith, (root-long c.requires).0)

pub root_holds-held-requires : goal.root_holds-held-requires
root_holds-held-requires c =
    root-headed c.requires

pub declare_globals-p-requires : goal.declare_globals-p-requires
declare_globals-p-requires c =
    (c.requires.stage.prepared, c.requires.counted, head-fits c.requires)

pub overflow_mul-from : goal.overflow_mul-from
overflow_mul-from c =
    omega (arith, root-place c.requires)

pub slice_bounds-items-count : goal.slice_bounds-items-count
slice_bounds-items-count c =
    (root-place c.requires).0

pub slice_bounds-items-start : goal.slice_bounds-items-start
slice_bounds-items-start c =
    (root-place c.requires).0

pub items-q-requires : goal.items-q-requires
items-q-requires c =
    root-asks c.requires c.b_at-items.result c.root_holds-held.result c.b_at-items.ensures
    c.root_holds-held.ensures c.declare_globals-p.ensures

pub releases-r-requires : goal.releases-r-requires
releases-r-requires c =
    releases-fit c.requires c.b_at-items.result c.root_holds-held.result c.b_at-items.ensures
    c.root_holds-held.ensures c.declare_globals-p.ensures c.items-q.ensures.answers

pub emit-s-requires : goal.emit-s-requires
emit-s-requires c =
    end_fits c.requires c.b_at-items.result c.root_holds-held.result c.b_at-items.ensures
    c.root_holds-held.ensures c.declare_globals-p.ensures c.items-q.ensures.answers c.releases-r.ensures

pub finish-requires : goal.finish-requires
finish-requires c = (
  ends_some c.requires c.b_at-items.result c.root_holds-held.result c.b_at-items.ensures
      c.root_holds-held.ensures c.declare_globals-p.ensures c.items-q.ensures.answers
      c.releases-r.ensures,
  rw c.emit-s.ensures.0
      (end_fits c.requires c.b_at-items.result c.root_holds-held.result c.b_at-items.ensures
      c.root_holds-held.ensures c.declare_globals-p.ensures c.items-q.ensures.answers c.releases-r.ensures).address-small,
)

pub returns-clause-answers : goal.returns-clause-answers
returns-clause-answers c =
    root-done c.requires c.b_at-items.result c.root_holds-held.result c.b_at-items.ensures
    c.root_holds-held.ensures c.declare_globals-p.ensures c.items-q.ensures.answers
    c.releases-r.ensures c.emit-s.ensures c.finish.ensures
