-- A measure of a tree: a number of every part, made up of the numbers of its parts. Size, nesting, cells, holds and working need are five of them.
use Rattle.std.specs.Prelude.{Bool, List, ℕ, suc, ◌+◌}
use Rattle.logic.specs.Choice.{If◌then◌else◌}
use Rattle.language.specs.Tree.{Decl, Stmt, block, assign, when, choose, while, goto, assert, call, set_level, select, for, Items, no_item, label, item, Arms, last_arm}
use Rattle.language.specs.Tree.{arm, Target, to_variable, to_field, Expr, number, truth, pattern, null, variable, invoke, field, make, operate1, operate2}
use Rattle.language.specs.Tree.{conditional, fader, block_expr, Exprs, no_expr, expr}

-- how a measure is made up
pub record Measure : Type 0 where
  pub of_none : ℕ  -- where there is no part
  pub of_parts : ℕ → ℕ → ℕ  -- a part and those after it
  pub of_entry : ℕ → ℕ  -- an entry, over its operands
  pub of_label : ℕ → ℕ  -- a label, over the items after it
  pub of_case : ℕ → ℕ  -- a case, over its operands
  pub of_loop : ℕ → ℕ  -- a for, over its operands
  pub of_block : List Decl → ℕ → ℕ  -- a block or block expression, over the parts after its declarations
  pub stacked : Bool  -- whether an operand counts those before it, "i − 1 plus the need of its i-th operand"

-- an operand with i before it; "an operand that is a statement counts its own need alone"
abbrev operand : Measure → ℕ → ℕ → ℕ
operand m i n = If m.stacked then i + n else n

-- how many stand before the next: counted only where it matters, so that else a list's number is the same wherever it stands
abbrev next : Measure → ℕ → ℕ
next m i = If m.stacked then suc i else i

unfoldable mutual
  pub measure_s : Measure → Stmt → ℕ
  measure_s m (block ds is) = m.of_block ds (measure_items m is)
  measure_s m (assign x e) = m.of_entry (m.of_parts (measure_target m x) (operand m 1 (measure_e m e)))
  measure_s m (when e s) = m.of_entry (m.of_parts (measure_e m e) (measure_s m s))
  measure_s m (choose e s t) = m.of_entry (m.of_parts (measure_e m e) (m.of_parts (measure_s m s) (measure_s m t)))
  measure_s m (while e s) = m.of_entry (m.of_parts (measure_e m e) (measure_s m s))
  measure_s m (goto a) = m.of_entry m.of_none
  measure_s m (assert e) = m.of_entry (measure_e m e)
  measure_s m (call a es) = m.of_entry (measure_es m 0 es)
  measure_s m (set_level e f) = m.of_entry (m.of_parts (measure_e m e) (operand m 1 (measure_e m f)))
  measure_s m (select e r) = m.of_case (m.of_parts (measure_e m e) (measure_arms m r))
  measure_s m (for a e f g s) =
      m.of_loop (m.of_parts (measure_e m e) (m.of_parts (operand m 1 (measure_e m f)) (m.of_parts (operand m 2 (measure_e m g)) (measure_s m s))))

  pub measure_items : Measure → Items → ℕ
  measure_items m no_item = m.of_none
  measure_items m (label a is) = m.of_label (measure_items m is)
  measure_items m (item s is) = m.of_parts (measure_s m s) (measure_items m is)

  pub measure_arms : Measure → Arms → ℕ
  measure_arms m (last_arm s) = measure_s m s
  measure_arms m (arm s r) = m.of_parts (measure_s m s) (measure_arms m r)

  pub measure_target : Measure → Target → ℕ
  measure_target m (to_variable a) = m.of_entry m.of_none
  measure_target m (to_field a e) = m.of_entry (measure_e m e)

  pub measure_e : Measure → Expr → ℕ
  measure_e m (number z) = m.of_entry m.of_none
  measure_e m (truth b) = m.of_entry m.of_none
  measure_e m (pattern z) = m.of_entry m.of_none
  measure_e m (null c) = m.of_entry m.of_none
  measure_e m (variable a) = m.of_entry m.of_none
  measure_e m (invoke a es) = m.of_entry (measure_es m 0 es)
  measure_e m (field a e) = m.of_entry (measure_e m e)
  measure_e m (make c es) = m.of_entry (measure_es m 0 es)
  measure_e m (operate1 o e) = m.of_entry (measure_e m e)
  measure_e m (operate2 o e f) = m.of_entry (m.of_parts (measure_e m e) (operand m 1 (measure_e m f)))
  measure_e m (conditional e f g) =
      m.of_entry (m.of_parts (measure_e m e) (m.of_parts (operand m 1 (measure_e m f)) (operand m 2 (measure_e m g))))
  measure_e m (fader e) = m.of_entry (measure_e m e)
  measure_e m (block_expr ds is e) = m.of_block ds (m.of_parts (measure_items m is) (measure_e m e))

  -- operands with i before them
  pub measure_es : Measure → ℕ → Exprs → ℕ
  measure_es m i no_expr = m.of_none
  measure_es m i (expr e es) = m.of_parts (operand m i (measure_e m e)) (measure_es m (next m i) es)
