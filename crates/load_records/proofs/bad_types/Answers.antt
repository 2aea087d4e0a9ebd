-- `load_records::bad_types` meets its contract. Going down, `bad` is the first of the bytes passed that is no type, or their number.
use native.Mathlib.Omega.{arith}
use mathlib.Core.Path.{◌∙◌}
use Rattle.load_records.proofs.Search.{seek-start, seek-down, seek-whole}
use Rattle.load_records.proofs.Tests as law
use Rattle.load_records.proofs.bad_types.Goals as goal

pub loop-i-init : goal.loop-i-init
loop-i-init c = seek-start _ _

pub loop-i-preserved : goal.loop-i-preserved
loop-i-preserved c =
    c.pick-bad.ensures ∙ rw (c.no_type.ensures, c.byte_at.ensures.0) (seek-down _ _ _ _ (omega arith) (omega arith) c.loop-i.invariant)

pub returns : goal.returns
returns c = law.types-passed _ _ _ _ _ c.args.of.now.of_classes (seek-whole _ _ _ _ (omega arith) c.loop-i.invariant)
