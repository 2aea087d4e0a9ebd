-- A class's number is at most the count of entries, so that the sum fits (specs/Classes).
use mathlib.Core.Path.{sym, ◌∙◌, ap}
use Prim.Native.Nat.{ℕ, ◌+◌, ◌-◌}
use native.Mathlib.Omega.{arith}
use Rattle.compile_symbols.specs.Entries.{byte-below, byte-class}
use Rattle.compile_symbols.specs.Classes.{class-few}
use Rattle.compile_symbols.proofs.type_byte.Goals as goal

pub overflow_cast-result : goal.overflow_cast-result
overflow_cast-result c =
    omega (arith, class-few c.requires (c.args.ty - 65536))

pub overflow_add-result : goal.overflow_add-result
overflow_add-result c =
    omega (arith, class-few c.requires (c.args.ty - 65536))

pub returns-then-ty-lt65536 : goal.returns-then-ty-lt65536
returns-then-ty-lt65536 c = sym (byte-below _ _ c.if-ty-lt65536.true)

pub returns-else-ty-lt65536 : goal.returns-else-ty-lt65536
returns-else-ty-lt65536 c = ap (λ (n : ℕ). 16 + n) c.class_number.ensures ∙ sym (byte-class _ _ (omega arith))
