-- What an operator gives on operands of the types that it asks: a value of its type within 32 bits, or a condition.
use Rattle.std.specs.Prelude.{◌≡◌, refl, ◌||◌, ◌&&◌, Bool, true, false, not, List, [], ◌∷◌, ◌⊎◌, ℕ, zero, suc, ◌*◌, ◌/◌, ◌%◌, ◌^◌, ◌<◌, min, max, eqb, ltb, ℤ, pos, negsuc}
use Rattle.std.proofs.Common.{subst, inl, inr, mod-lt, div-le_self, arith, ltb-true, lt-ltb, eq-eqb}
use Rattle.std.specs.Bool.{beq}
use Rattle.std.proofs.Math.Option.{Option, none, some}
use Rattle.std.specs.Int.Signed.{mag, lt_z, le_z}
use Rattle.logic.specs.Lists.{among}
use Rattle.logic.specs.Options.{or_else}
use Rattle.logic.specs.Choice.{If◌then◌else◌}
use Rattle.values.specs.Types.{Ty, integer, logical, bits, reference, sames}
use Rattle.values.specs.Ends.{overflow, zero_divisor}
use Rattle.values.specs.Operators.{Unary, negate, absolute, complement, Binary, plus, minus, times, divide, remainder, less, at_most, greater, at_least, equal, unequal}
use Rattle.values.specs.Operators.{both, either, shift_left, shift_right, unary, binary, takes, logical_or_bits, any_one, op_type}
use Rattle.values.specs.Arithmetic.{Outcome, gives, ends, settle, is_zero, unless_zero, sum, difference, product, quotient, rest, each_bit, and_bits, or_bits, not_bits, left_by}
use Rattle.values.specs.Arithmetic.{right_by, shifted_left, shifted_right}
use Rattle.values.specs.Values.{Value, int, log, bit, ref, ty_of, map_outcome, arithmetic, ordering, shift, junction, equality, same_integer, same_ref, apply1, apply2}
use Rattle.bytecode.specs.Machine.{Made}
use Rattle.bytecode.specs.Sound.{sound_value}
use Rattle.logic.specs.OptionLaws.{never-some, same_some}
use Rattle.logic.specs.Tests.{clash}
use Rattle.values.specs.Identical.{sames→≡}
use Rattle.bytecode_safety.specs.Terms.{Fine}

-- ── values by their types ──

pub on-integer : (P : Value → Type 0) (v : Value) → ty_of v ≡ integer → ((z : ℤ) → P (int z)) → P v
on-integer P (int z) h f = f z
on-integer P (log b) h f = clash (cc h)
on-integer P (bit n) h f = clash (cc h)
on-integer P (ref c r) h f = clash (cc h)

pub on-logical : (P : Value → Type 0) (v : Value) → ty_of v ≡ logical → ((b : Bool) → P (log b)) → P v
on-logical P (int z) h f = clash (cc h)
on-logical P (log b) h f = f b
on-logical P (bit n) h f = clash (cc h)
on-logical P (ref c r) h f = clash (cc h)

pub on-bits : (P : Value → Type 0) (v : Value) → ty_of v ≡ bits → ((n : ℕ) → P (bit n)) → P v
on-bits P (int z) h f = clash (cc h)
on-bits P (log b) h f = clash (cc h)
on-bits P (bit n) h f = f n
on-bits P (ref c r) h f = clash (cc h)

pub on-reference : (P : Value → Type 0) (v : Value) (c : ℕ) → ty_of v ≡ reference c → ((r : Option ℕ) → P (ref c r)) → P v
on-reference P (int z) c h f = clash (cc h)
on-reference P (log b) c h f = clash (cc h)
on-reference P (bit n) c h f = clash (cc h)
on-reference P (ref d r) c h f = let e : c ≡ d = cc in subst (λ x. P (ref x r)) e (f r)

-- ── results ──
-- "20 exact result outside 32 bits"
settled : (z : ℤ) → Fine integer (map_outcome int (settle z))
unfolding settle sound_value among
settled z = go (ltb (mag z) 2147483648) refl
  where
    go : (b : Bool) → ltb (mag z) 2147483648 ≡ b → Fine integer (map_outcome int (If b then gives z else ends overflow))
    go true e = (refl, λ rs. e)
    go false e = refl

divided : (d z : ℤ) → Fine integer (map_outcome int (unless_zero d (settle z)))
unfolding among
divided d z = go (is_zero d)
  where
    go : (b : Bool) → Fine integer (map_outcome int (If b then ends zero_divisor else settle z))
    go true = refl
    go false = settled z

a-truth : (b : Bool) → Fine logical (gives (log b))
unfolding sound_value
a-truth b = (refl, λ rs. refl)

within : (n : ℕ) → n < 4294967296 → Fine bits (gives (bit n))
unfolding sound_value
within n h = (refl, λ rs. lt-ltb n 4294967296 h)

-- bits
each-bit : (f : ℕ → ℕ → ℕ) → ((a b : ℕ) → a < 2 → b < 2 → f a b < 2) → (n x y : ℕ) → each_bit f n x y < 2 ^ n
unfolding each_bit
each-bit f h zero x y = omega arith
each-bit f h (suc n) x y =
    omega (arith, each-bit f h n (x / 2) (y / 2), h (x % 2) (y % 2) (mod-lt x {m = 2} (omega arith)) (mod-lt y {m = 2} (omega arith)))

and_below : (x y : ℕ) → and_bits x y < 4294967296
and_below x y = each-bit min (λ a b p q. omega arith) 32 x y

or-below : (x y : ℕ) → or_bits x y < 4294967296
or-below x y = each-bit max (λ a b p q. omega arith) 32 x y

left_below : (n x : ℕ) → left_by n x < 4294967296
unfolding left_by
left_below n x = go (ltb n 32)
  where
    go : (b : Bool) → (If b then (x * 2 ^ n) % 4294967296 else 0) < 4294967296
    go true = mod-lt (x * 2 ^ n) (omega arith)
    go false = omega arith

right-below : (n x : ℕ) → x < 4294967296 → right_by n x < 4294967296
unfolding right_by
right-below n x h = go (ltb n 32)
  where
    go : (b : Bool) → (If b then x / 2 ^ n else 0) < 4294967296
    go true = omega (arith, div-le_self x (2 ^ n))
    go false = omega arith

shift-left-below : (x : ℕ) (z : ℤ) → x < 4294967296 → shifted_left x z < 4294967296
unfolding shifted_left
shift-left-below x (pos n) h = left_below n x
shift-left-below x (negsuc n) h = right-below (suc n) x h

shift-right-below : (x : ℕ) (z : ℤ) → x < 4294967296 → shifted_right x z < 4294967296
unfolding shifted_right
shift-right-below x (pos n) h = right-below n x h
shift-right-below x (negsuc n) h = left_below (suc n) x

sound-bits : (rs : List Made) (n : ℕ) → sound_value rs (bit n) ≡ true → n < 4294967296
unfolding sound_value
sound-bits rs n h = ltb-true n 4294967296 h

-- ── typing ──
took : (asked : List Ty) (given : Ty) (ts : List Ty) (t : Ty) → takes asked given ts ≡ some t → (ts ≡ asked) × (given ≡ t)
took asked given ts t h = go (sames ts asked) refl h
  where
    go : (b : Bool) → sames ts asked ≡ b → (If b then some given else none) ≡ some t → (ts ≡ asked) × (given ≡ t)
    go true e h = (sames→≡ ts asked e, same_some h)
    go false e h = never-some h

one_of : {A : Type 0} (x y : Option A) (a : A) → or_else x y ≡ some a → (x ≡ some a) ⊎ (y ≡ some a)
one_of none y a h = inr h
one_of (some x) y a h = inl h

-- ── operators by their shape ──
module _ (v w : Value) (t : Ty) where
  by-arithmetic : (f : ℤ → ℤ → Outcome ℤ) → ((x y : ℤ) → Fine integer (map_outcome int (f x y)))
      → takes (integer ∷ integer ∷ []) integer (ty_of v ∷ ty_of w ∷ []) ≡ some t → Fine t (arithmetic f v w)
  by-arithmetic f g h =
      let p = took (integer ∷ integer ∷ []) integer (ty_of v ∷ ty_of w ∷ []) t h in
      subst (λ u. Fine u (arithmetic f v w)) p.1
      (on-integer (λ v. Fine integer (arithmetic f v w)) v (cc p.0) (λ x.
      on-integer (λ w. Fine integer (arithmetic f (int x) w)) w (cc p.0) (λ y. g x y)))

  by_ordering : (f : ℤ → ℤ → Bool) → takes (integer ∷ integer ∷ []) logical (ty_of v ∷ ty_of w ∷ []) ≡ some t → Fine t (ordering f v w)
  by_ordering f h =
      let p = took (integer ∷ integer ∷ []) logical (ty_of v ∷ ty_of w ∷ []) t h in
      subst (λ u. Fine u (ordering f v w)) p.1
      (on-integer (λ v. Fine logical (ordering f v w)) v (cc p.0) (λ x.
      on-integer (λ w. Fine logical (ordering f (int x) w)) w (cc p.0) (λ y. a-truth (f x y))))

  by-shift : (f : ℕ → ℤ → ℕ) → ((x : ℕ) (n : ℤ) → x < 4294967296 → f x n < 4294967296) → (rs : List Made) → sound_value rs v ≡ true
      → takes (bits ∷ integer ∷ []) bits (ty_of v ∷ ty_of w ∷ []) ≡ some t → Fine t (shift f v w)
  by-shift f g rs s h =
      let p = took (bits ∷ integer ∷ []) bits (ty_of v ∷ ty_of w ∷ []) t h in
      subst (λ u. Fine u (shift f v w)) p.1
      (on-bits (λ v. sound_value rs v ≡ true → Fine bits (shift f v w)) v (cc p.0) (λ x q.
      on-integer (λ w. Fine bits (shift f (bit x) w)) w (cc p.0) (λ y. within (f x y) (g x y (sound-bits rs x q)))) s)

  by-junction : (f : Bool → Bool → Bool) (g : ℕ → ℕ → ℕ) → ((x y : ℕ) → g x y < 4294967296)
      → logical_or_bits (λ t. t ∷ t ∷ []) (ty_of v ∷ ty_of w ∷ []) ≡ some t → Fine t (junction f g v w)
  by-junction f g b h = go
      (one_of (takes (logical ∷ logical ∷ []) logical (ty_of v ∷ ty_of w ∷ [])) (takes (bits ∷ bits ∷ []) bits (ty_of v ∷ ty_of w ∷ [])) t h)
    where
      go : (takes (logical ∷ logical ∷ []) logical (ty_of v ∷ ty_of w ∷ []) ≡ some t) ⊎ (takes (bits ∷ bits ∷ []) bits (ty_of v ∷ ty_of w ∷ []) ≡ some t)
          → Fine t (junction f g v w)
      go (inl h) =
          let p = took (logical ∷ logical ∷ []) logical (ty_of v ∷ ty_of w ∷ []) t h in
          subst (λ u. Fine u (junction f g v w)) p.1
          (on-logical (λ v. Fine logical (junction f g v w)) v (cc p.0) (λ x.
          on-logical (λ w. Fine logical (junction f g (log x) w)) w (cc p.0) (λ y. a-truth (f x y))))
      go (inr h) =
          let p = took (bits ∷ bits ∷ []) bits (ty_of v ∷ ty_of w ∷ []) t h in
          subst (λ u. Fine u (junction f g v w)) p.1
          (on-bits (λ v. Fine bits (junction f g v w)) v (cc p.0) (λ x.
          on-bits (λ w. Fine bits (junction f g (bit x) w)) w (cc p.0) (λ y. within (g x y) (b x y))))

same-type : (f : Bool → Bool) (v w : Value) → ty_of w ≡ ty_of v → Fine logical (equality f v w)
same-type f (int x) w h = on-integer (λ w. Fine logical (equality f (int x) w)) w h (λ y. a-truth (f (same_integer x y)))
same-type f (log a) w h = on-logical (λ w. Fine logical (equality f (log a) w)) w h (λ b. a-truth (f (beq a b)))
same-type f (bit m) w h = on-bits (λ w. Fine logical (equality f (bit m) w)) w h (λ n. a-truth (f (eqb m n)))
same-type f (ref c r) w h =
    on-reference (λ w. Fine logical (equality f (ref c r) w)) w c h (λ q. rw (eq-eqb c c refl) (a-truth (f (same_ref r q))))

by-equality : (f : Bool → Bool) (v w : Value) (t : Ty) → any_one (ty_of v ∷ ty_of w ∷ []) ≡ some t → Fine t (equality f v w)
by-equality f v w t h =
    let p = took (ty_of v ∷ ty_of v ∷ []) logical (ty_of v ∷ ty_of w ∷ []) t h in
    subst (λ u. Fine u (equality f v w)) p.1 (same-type f v w (cc p.0))

-- ── every operator ──
pub unary-fine : (o : Unary) (v : Value) (t : Ty) → op_type (unary o) (ty_of v ∷ []) ≡ some t → Fine t (apply1 o v)
unfolding op_type apply1
unary-fine negate v t h =
    let p = took (integer ∷ []) integer (ty_of v ∷ []) t h in
    subst (λ u. Fine u (apply1 negate v)) p.1 (on-integer (λ v. Fine integer (apply1 negate v)) v (cc p.0) (λ x. settled _))
unary-fine absolute v t h =
    let p = took (integer ∷ []) integer (ty_of v ∷ []) t h in
    subst (λ u. Fine u (apply1 absolute v)) p.1 (on-integer (λ v. Fine integer (apply1 absolute v)) v (cc p.0) (λ x. settled _))
unary-fine complement v t h = go (one_of (takes (logical ∷ []) logical (ty_of v ∷ [])) (takes (bits ∷ []) bits (ty_of v ∷ [])) t h)
  where
    go : (takes (logical ∷ []) logical (ty_of v ∷ []) ≡ some t) ⊎ (takes (bits ∷ []) bits (ty_of v ∷ []) ≡ some t) → Fine t (apply1 complement v)
    go (inl h) =
        let p = took (logical ∷ []) logical (ty_of v ∷ []) t h in
        subst (λ u. Fine u (apply1 complement v)) p.1 (on-logical (λ v. Fine logical (apply1 complement v)) v (cc p.0) (λ x. a-truth (not x)))
    go (inr h) =
        let p = took (bits ∷ []) bits (ty_of v ∷ []) t h in
        subst (λ u. Fine u (apply1 complement v)) p.1
        (on-bits (λ v. Fine bits (apply1 complement v)) v (cc p.0) (λ x. within (not_bits x) (omega arith)))

pub binary-fine : (o : Binary) (v w : Value) (t : Ty) (rs : List Made) → sound_value rs v ≡ true
    → op_type (binary o) (ty_of v ∷ ty_of w ∷ []) ≡ some t → Fine t (apply2 o v w)
unfolding op_type apply2
binary-fine plus v w t rs s h = by-arithmetic v w t sum (λ x y. settled _) h
binary-fine minus v w t rs s h = by-arithmetic v w t difference (λ x y. settled _) h
binary-fine times v w t rs s h = by-arithmetic v w t product (λ x y. settled _) h
binary-fine divide v w t rs s h = by-arithmetic v w t quotient (λ x y. divided y _) h
binary-fine remainder v w t rs s h = by-arithmetic v w t rest (λ x y. divided y _) h
binary-fine less v w t rs s h = by_ordering v w t lt_z h
binary-fine at_most v w t rs s h = by_ordering v w t le_z h
binary-fine greater v w t rs s h = by_ordering v w t (λ x y. lt_z y x) h
binary-fine at_least v w t rs s h = by_ordering v w t (λ x y. le_z y x) h
binary-fine equal v w t rs s h = by-equality (λ b. b) v w t h
binary-fine unequal v w t rs s h = by-equality not v w t h
binary-fine both v w t rs s h = by-junction v w t ◌&&◌ and_bits and_below h
binary-fine either v w t rs s h = by-junction v w t ◌||◌ or_bits or-below h
binary-fine shift_left v w t rs s h = by-shift v w t shifted_left shift-left-below rs s h
binary-fine shift_right v w t rs s h = by-shift v w t shifted_right shift-right-below rs s h
