-- Laws of one number of three: what was put in is taken out again.
use Rattle.std.specs.Prelude.{◌≡◌, ℕ, ◌<◌}
use Rattle.std.proofs.Common.{arith}
use Rattle.compile_symbols.specs.Numbers.{packed, type_in, first_in, second_in}

module _ (t a b : ℕ) (small-type : t < 256) (small-first : a < 256) (small-second : b < 256) where
  pub type-packed : type_in (packed t a b) ≡ t
  type-packed = omega arith

  pub first-packed : first_in (packed t a b) ≡ a
  first-packed = omega arith

  pub second-packed : second_in (packed t a b) ≡ b
  second-packed = omega arith
