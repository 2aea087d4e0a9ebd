-- `table_types::fitting` meets its contract.
use native.Mathlib.Omega.{arith}
use mathlib.Core.Path.{refl, sym, ◌∙◌}
use Prim.Native.Nat.{◌+◌}
use Rattle.table_scopes.specs.Environment.{env_of}
use Rattle.table_types.specs.Settle.{values, types_at, length-values, length_types, type_at, unequal-lengths, same_next, same-stops, same_ends}
use Rattle.table_types.proofs.fitting.Goals as goal

pub returns-then-declared-count : goal.returns-then-declared-count
returns-then-declared-count c =
    sym (unequal-lengths (values c.args.count (env_of c.args.env.now (c.args.top + c.args.count)))
    (types_at c.args.table.now c.args.from c.args.declared)
    (λ z. c.if-declared-count.true (omega (
      arith,
      length-values c.args.env.now c.args.top c.args.count,
      length_types c.args.table.now c.args.from c.args.declared,
    ))))

pub loop-i-init : goal.loop-i-init
loop-i-init c = refl

pub returns-then-t-u : goal.returns-then-t-u
returns-then-t-u c =
    sym (c.loop-i.invariant ∙ same-stops (values c.args.count
    (env_of c.args.env.now (c.args.top + c.args.count)))
    (types_at c.args.table.now c.args.from c.args.declared) c.loop-i.i
    (omega (
      arith,
      length-values c.args.env.now c.args.top c.args.count,
      length_types c.args.table.now c.args.from c.args.declared,
    ))
    (omega (
      arith,
      c.if-declared-count.false,
      length-values c.args.env.now c.args.top c.args.count,
      length_types c.args.table.now c.args.from c.args.declared,
    ))
    (λ z. c.if-t-u.true (c.operand-t.ensures ∙ z ∙ type_at c.args.table.now c.args.from
    c.args.declared c.loop-i.i (omega (arith, c.if-declared-count.false)) ∙ sym c.b_at-u.ensures)))

pub loop-i-preserved : goal.loop-i-preserved
loop-i-preserved c =
    c.loop-i.invariant ∙ same_next (values
    c.args.count
    (env_of c.args.env.now
    (c.args.top + c.args.count)))
    (types_at c.args.table.now
    c.args.from
    c.args.declared) c.loop-i.i
    (omega (
      arith,
      length-values c.args.env.now
          c.args.top
          c.args.count,
      length_types c.args.table.now
          c.args.from
          c.args.declared,
    ))
    (omega (
      arith,
      c.if-declared-count.false,
      length-values c.args.env.now
          c.args.top
          c.args.count,
      length_types c.args.table.now
          c.args.from
          c.args.declared,
    ))
    (sym c.operand-t.ensures ∙ c.if-t-u.false ∙ c.b_at-u.ensures
    ∙ sym (type_at c.args.table.now
    c.args.from
    c.args.declared c.loop-i.i
    (omega (arith, c.if-declared-count.false))))

pub returns : goal.returns
returns c =
    sym (c.loop-i.invariant ∙ same_ends (values c.args.count
    (env_of c.args.env.now (c.args.top + c.args.count)))
    (types_at c.args.table.now c.args.from c.args.declared) c.loop-i.i
    (omega (
      arith,
      c.if-declared-count.false,
      length-values c.args.env.now c.args.top c.args.count,
      length_types c.args.table.now c.args.from c.args.declared,
    ))
    (omega (
      arith,
      length-values c.args.env.now c.args.top c.args.count,
      length_types c.args.table.now c.args.from c.args.declared,
    )))
