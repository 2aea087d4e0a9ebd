-- Operators on what the tree sees are the machine's, where the machine's has a result.
use Rattle.std.proofs.Math.Bool.{◌||◌, ◌&&◌, not}
use Rattle.std.specs.Prelude.{Bool, true, false, ◌≡◌, refl, List, ℕ, T, eqb, ℤ}
use Rattle.std.specs.Bool.{beq}
use Rattle.std.proofs.Math.Path.{ap}
use Rattle.std.proofs.Common.{sym, subst, eqb→eq}
use Rattle.std.proofs.Math.Option.{Option, none, some}
use Rattle.std.proofs.Math.Dec.{eqb_refl}
use Rattle.std.specs.Int.Signed.{lt_z, le_z}
use Rattle.logic.specs.Choice.{If◌then◌else◌}
use Rattle.logic.specs.Options.{keep, if_some}
use Rattle.values.specs.Operators.{Unary, negate, absolute, complement, Binary, plus, minus, times, divide, remainder, less, at_most, greater, at_least, equal, unequal}
use Rattle.values.specs.Operators.{both, either, shift_left, shift_right}
use Rattle.values.specs.Arithmetic.{Outcome, gives, ends, mistyped, negation, magnitude, sum, difference, product, quotient, rest, and_bits, or_bits, shifted_left, shifted_right}
use Rattle.values.specs.Values.{Value, int, log, bit, ref, as_integer, as_logical, as_bits, Reference, as_reference, asked, apply1, apply2, map_outcome, arithmetic, ordering}
use Rattle.values.specs.Values.{shift, junction, equality, same_ref}
use Rattle.language.specs.Tree.{Global}
use Rattle.language.specs.Execute.{deciding, decides}
use Rattle.compile_code.specs.Compile.{classes_of}
use Rattle.compile_simulation.specs.View.{seen_v, class_of}
use Rattle.compile_simulation.specs.Projections.{named, seen-integer, seen-logical, seen-bits, seen-reference}

module _ (gs : List Global) where
  -- the machine's outcome, and the tree's
  abbrev pub Agrees : Outcome Value → Outcome Value → Type 0
  Agrees (gives v) y = y ≡ gives (seen_v gs v)
  Agrees (ends c) y = y ≡ ends c
  Agrees mistyped y = Unit {0}

  integers : (x : Outcome ℤ) → Agrees (map_outcome int x) (map_outcome int x)
  integers (gives z) = refl
  integers (ends c) = refl
  integers mistyped = tt

  asks : {A : Type 0} (o : Option A) (f g : A → Outcome Value) → ((x : A) → Agrees (f x) (g x)) → Agrees (asked o f) (asked o g)
  asks none f g h = tt
  asks (some x) f g h = h x

  else-asks : {A : Type 0} (o : Option A) (f g : A → Outcome Value) (x y : Outcome Value) → ((z : A) → Agrees (f z) (g z)) → Agrees x y → Agrees (if_some o f x) (if_some o g y)
  else-asks none f g x y h k = k
  else-asks (some z) f g x y h k = h z

  arithmetics : (f : ℤ → ℤ → Outcome ℤ) (v w : Value) → Agrees (arithmetic f v w) (arithmetic f (seen_v gs v) (seen_v gs w))
  arithmetics f v w = rw (seen-integer gs v, seen-integer gs w) (asks (as_integer v) _ _ (λ x. asks (as_integer w) _ _ (λ y. integers (f x y))))

  orderings : (f : ℤ → ℤ → Bool) (v w : Value) → Agrees (ordering f v w) (ordering f (seen_v gs v) (seen_v gs w))
  orderings f v w = rw (seen-integer gs v, seen-integer gs w) (asks (as_integer v) _ _ (λ x. asks (as_integer w) _ _ (λ y. refl)))

  shifts : (f : ℕ → ℤ → ℕ) (v w : Value) → Agrees (shift f v w) (shift f (seen_v gs v) (seen_v gs w))
  shifts f v w = rw (seen-bits gs v, seen-integer gs w) (asks (as_bits v) _ _ (λ x. asks (as_integer w) _ _ (λ y. refl)))

  junctions : (f : Bool → Bool → Bool) (g : ℕ → ℕ → ℕ) (v w : Value) → Agrees (junction f g v w) (junction f g (seen_v gs v) (seen_v gs w))
  junctions f g v w = rw (seen-logical gs v, seen-bits gs v, seen-logical gs w, seen-bits gs w)
      (else-asks (as_logical v) _ _ _ _ (λ x. asks (as_logical w) _ _ (λ y. refl)) (asks (as_bits v) _ _ (λ x. asks (as_bits w) _ _ (λ y. refl))))

  equalities : (f : Bool → Bool) (v w : Value) → Agrees (equality f v w) (equality f (seen_v gs v) (seen_v gs w))
  equalities f (int x) w = rw (seen-integer gs w) (asks (as_integer w) _ _ (λ y. refl))
  equalities f (log x) w = rw (seen-logical gs w) (asks (as_logical w) _ _ (λ y. refl))
  equalities f (bit x) w = rw (seen-bits gs w) (asks (as_bits w) _ _ (λ y. refl))
  equalities f (ref c r) w = rw (seen-reference gs w) (refs (as_reference w))
    where
      same : (x y : ℕ) → x ≡ y → eqb x y ≡ true
      same x y e = rw e (yes (eqb y y) (eqb_refl y))
        where
          yes : (b : Bool) → T b → b ≡ true
          yes true h = refl
          yes false h = absurd h

      go : (d : ℕ) (s : Option ℕ) (t : Bool) → eqb c d ≡ t → Agrees (If t then gives (log (f (same_ref r s))) else mistyped)
          (If eqb (class_of (classes_of gs) c).name (class_of (classes_of gs) d).name then gives (log (f (same_ref r s))) else mistyped)
      go d s true e = rw (same (class_of (classes_of gs) c).name (class_of (classes_of gs) d).name (ap (λ k. (class_of (classes_of gs) k).name) (eqb→eq c d (subst T (sym e) tt)))) refl
      go d s false e = tt

      refs : (o : Option Reference)
          → Agrees (asked o (λ s. If eqb c s.class then gives (log (f (same_ref r s.target))) else mistyped))
          (asked (keep o (λ s. some (named gs s))) (λ s. If eqb (class_of (classes_of gs) c).name s.class then gives (log (f (same_ref r s.target))) else mistyped))
      refs none = tt
      refs (some s) = go s.class s.target (eqb c s.class) refl

  pub seen-1 : (o : Unary) (v : Value) → Agrees (apply1 o v) (apply1 o (seen_v gs v))
  unfolding apply1
  seen-1 negate v = rw (seen-integer gs v) (asks (as_integer v) _ _ (λ x. integers (negation x)))
  seen-1 absolute v = rw (seen-integer gs v) (asks (as_integer v) _ _ (λ x. integers (magnitude x)))
  seen-1 complement v = rw (seen-logical gs v, seen-bits gs v) (else-asks (as_logical v) _ _ _ _ (λ a. refl) (asks (as_bits v) _ _ (λ n. refl)))

  pub seen-2 : (o : Binary) (v w : Value) → Agrees (apply2 o v w) (apply2 o (seen_v gs v) (seen_v gs w))
  unfolding apply2
  seen-2 plus v w = arithmetics sum v w
  seen-2 minus v w = arithmetics difference v w
  seen-2 times v w = arithmetics product v w
  seen-2 divide v w = arithmetics quotient v w
  seen-2 remainder v w = arithmetics rest v w
  seen-2 less v w = orderings lt_z v w
  seen-2 at_most v w = orderings le_z v w
  seen-2 greater v w = orderings (λ x y. lt_z y x) v w
  seen-2 at_least v w = orderings (λ x y. le_z y x) v w
  seen-2 equal v w = equalities (λ b. b) v w
  seen-2 unequal v w = equalities not v w
  seen-2 both v w = junctions ◌&&◌ and_bits v w
  seen-2 either v w = junctions ◌||◌ or_bits v w
  seen-2 shift_left v w = shifts shifted_left v w
  seen-2 shift_right v w = shifts shifted_right v w

  pub seen-decides : (o : Binary) (v : Value) → decides o (seen_v gs v) ≡ decides o v
  unfolding decides
  seen-decides o v = ap (λ x. if_some (deciding o) (λ d. if_some x (beq d) false) false) (seen-logical gs v)
