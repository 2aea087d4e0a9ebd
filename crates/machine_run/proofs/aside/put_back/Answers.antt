-- `machine_run::aside::put_back` meets its contract.
use mathlib.Core.Path.{refl, ap, ◌∙◌}
use mathlib.Core.List.{List}
use Prim.Native.Nat.{ℕ}
use Rattle.machine_frames.specs.Bytes.{went_to}
use Rattle.machine_run.proofs.aside.put_back.Goals as goal

pub returns : goal.returns
returns c =
    (c.go_to.ensures ∙ ap (λ (x : List ℕ). went_to x c.args.frame c.args.address) c.push.ensures, refl)
