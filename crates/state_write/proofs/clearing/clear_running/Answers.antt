-- `state_write::clearing::clear_running` meets its contract.
use native.Mathlib.Omega.{arith}
use mathlib.Core.Path.{ap, ◌∙◌}
use mathlib.Core.List.{List, [], ◌∷◌}
use Prim.Native.Nat.{ℕ, ◌+◌, ◌*◌}
use Rattle.bytecode_layout.specs.Cleared.{◌⋯◌, wipes}
use Rattle.state_write.proofs.ClearingLaws as law
use Rattle.state_write.proofs.clearing.clear_running.Goals as goal

pub clear_activations-requires : goal.clear_activations-requires
clear_activations-requires c = (
  c.requires.0,
  omega arith,
  omega (arith, c.requires.3.few),
  law.bodies_kept _ _ _ _ c.byte_at-n.ensures.0
      c.requires.3
      c.clear_header.ensures,
)

pub clear_records-requires : goal.clear_records-requires
clear_records-requires c = (
  c.requires.1,
  omega arith,
  omega (arith, c.requires.3.some-records),
  law.classes-kept _ _
      _ _ c.byte_at-n.result
      c.half_at-r.result
      c.half_at-h.result
      (omega (arith, c.requires.3.few))
      c.half_at-r.ensures.0
      c.requires.3
      c.clear_header.ensures
      (c.clear_room.ensures ∙ ap (λ (x : List ℕ).
      wipes x 0 ((32 + 328 * c.byte_at-n.result
      ⋯ 10528) ∷ (10528 + c.half_at-h.result ⋯
      11040) ∷ [])) c.clear_activations.ensures),
)

pub returns : goal.returns
returns c =
    law.running-cleared _ _ c.byte_at-n.ensures.0 c.half_at-r.ensures.0 c.half_at-h.ensures.0
    c.clear_header.ensures c.clear_activations.ensures c.clear_room.ensures
    c.clear_records.ensures c.wipe.ensures
