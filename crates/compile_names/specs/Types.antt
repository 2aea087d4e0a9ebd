-- Types in the tree and in the macro: classes by name, classes by number.
use Rattle.std.specs.Prelude.{Bool, List, [], ◌∷◌, map, ℕ}
use Rattle.std.proofs.Math.Bool.{true, false}
use Rattle.std.proofs.Math.Path.{◌≡◌, refl, ap, sym}
use Rattle.std.proofs.Common.{◌∙◌, arith}
use Rattle.std.proofs.Math.Option.{Option, none, some}
use Rattle.logic.specs.Options.{or_else}
use Rattle.logic.specs.Choice.{If◌then◌else◌}
use Rattle.values.specs.Types.{Ty, integer, logical, bits, reference, sames}
use Rattle.values.specs.Operators.{unary, binary, Unary, negate, absolute, complement, Binary, plus, minus, times, divide, remainder, less, at_most, greater, at_least}
use Rattle.values.specs.Operators.{equal, unequal, both, either, shift_left, shift_right, takes, logical_or_bits, any_one, op_type}
use Rattle.values.specs.Identical.{sames→≡, sames-refl}
use Rattle.bytecode.specs.Macro.{Macro}
use Rattle.language.specs.Tree.{Global}
use Rattle.compile_code.specs.Compile.{ty_in, way_of}
use Rattle.compile_rules.specs.Pass.{WayOk}
use Rattle.compile_simulation.specs.Projections.{nothing}

-- what is taken is what is asked
pub took : (asked ts : List Ty) (given r : Ty) → takes asked given ts ≡ some r → (ts ≡ asked) × (r ≡ given)
took asked ts given r h = pick (sames ts asked) refl h
  where
    pick : (b : Bool) → sames ts asked ≡ b → (If b then some given else none) ≡ some r → (ts ≡ asked) × (r ≡ given)
    pick true e k = let z : given ≡ r = cc k in (sames→≡ ts asked e, sym z)
    pick false e k = nothing r k

gives : (asked : List Ty) (given : Ty) → takes asked given asked ≡ some given
gives asked given = rw (sames-refl asked) refl

module _ (gs : List Global) where
  takes-in : (asked ts : List Ty) (given r : Ty) → takes asked given ts ≡ some r → takes (map (ty_in gs) asked) (ty_in gs given) (map (ty_in gs) ts) ≡ some (ty_in gs r)
  takes-in asked ts given r h = let q = took asked ts given r h in rw (q.0, q.1) (gives (map (ty_in gs) asked) (ty_in gs given))

  -- logical or bits, of one operand or two
  one_in : (t r : Ty) → logical_or_bits (λ u. u ∷ []) (t ∷ []) ≡ some r → logical_or_bits (λ u. u ∷ []) (ty_in gs t ∷ []) ≡ some (ty_in gs r)
  unfolding sames
  one_in integer r h = nothing r h
  one_in logical r h = let z : logical ≡ r = cc h in ap (λ u. some (ty_in gs u)) z
  one_in bits r h = let z : bits ≡ r = cc h in ap (λ u. some (ty_in gs u)) z
  one_in (reference c) r h = pick (takes (logical ∷ []) logical (reference c ∷ [])) refl h
    where
      pick : (x : Option Ty) → takes (logical ∷ []) logical (reference c ∷ []) ≡ x → or_else x (takes (bits ∷ []) bits (reference c ∷ [])) ≡ some r
          → logical_or_bits (λ u. u ∷ []) (ty_in gs (reference c) ∷ []) ≡ some (ty_in gs r)
      pick none e k = let q = took (bits ∷ []) (reference c ∷ []) bits r k in let z : reference c ≡ bits = cc q.0 in let y : ◌≡◌ {A = ℕ} 0 1 = cc z in absurd (omega arith)
      pick (some u) e k = let q = took (logical ∷ []) (reference c ∷ []) logical u e in let z : reference c ≡ logical = cc q.0 in let y : ◌≡◌ {A = ℕ} 0 1 = cc z in absurd (omega arith)

  -- both operands are logical, or both bits
  both-are : (t u r : Ty) → logical_or_bits (λ v. v ∷ v ∷ []) (t ∷ u ∷ []) ≡ some r → (v : Ty) × (t ≡ v) × (u ≡ v) × (r ≡ v) × (logical_or_bits (λ w. w ∷ w ∷ []) (v ∷ v ∷ []) ≡ some v) × (ty_in gs v ≡ v)
  unfolding sames
  both-are t u r h = pick (takes (logical ∷ logical ∷ []) logical (t ∷ u ∷ [])) refl h
    where
      pick : (x : Option Ty) → takes (logical ∷ logical ∷ []) logical (t ∷ u ∷ []) ≡ x → or_else x (takes (bits ∷ bits ∷ []) bits (t ∷ u ∷ [])) ≡ some r
          → (v : Ty) × (t ≡ v) × (u ≡ v) × (r ≡ v) × (logical_or_bits (λ w. w ∷ w ∷ []) (v ∷ v ∷ []) ≡ some v) × (ty_in gs v ≡ v)
      pick none e k = let q = took (bits ∷ bits ∷ []) (t ∷ u ∷ []) bits r k in let y : t ≡ bits = cc q.0 in let z : u ≡ bits = cc q.0 in (bits, y, z, q.1, refl, refl)
      pick (some w) e k =
          let q = took (logical ∷ logical ∷ []) (t ∷ u ∷ []) logical w e in let y : t ≡ logical = cc q.0 in let z : u ≡ logical = cc q.0 in
          let x : w ≡ r = cc k in (logical, y, z, sym x ∙ q.1, refl, refl)

  both-in : (t u r : Ty) → logical_or_bits (λ v. v ∷ v ∷ []) (t ∷ u ∷ []) ≡ some r → logical_or_bits (λ v. v ∷ v ∷ []) (ty_in gs t ∷ ty_in gs u ∷ []) ≡ some (ty_in gs r)
  both-in t u r h = let q = both-are t u r h in joined q.0 t u r q.1 q.2 q.3 q.4 q.5
    where
      joined : (v t u r : Ty) → t ≡ v → u ≡ v → r ≡ v → logical_or_bits (λ w. w ∷ w ∷ []) (v ∷ v ∷ []) ≡ some v → ty_in gs v ≡ v
          → logical_or_bits (λ w. w ∷ w ∷ []) (ty_in gs t ∷ ty_in gs u ∷ []) ≡ some (ty_in gs r)
      joined v t u r a b c d e = rw (a, b, c, e) d

  any-in : (t u r : Ty) → any_one (t ∷ u ∷ []) ≡ some r → any_one (ty_in gs t ∷ ty_in gs u ∷ []) ≡ some (ty_in gs r)
  any-in t u r h = takes-in (t ∷ t ∷ []) (t ∷ u ∷ []) logical r h

  -- an operator takes numbered types as it takes named ones
  pub unary-in : (o : Unary) (t r : Ty) → op_type (unary o) (t ∷ []) ≡ some r → op_type (unary o) (ty_in gs t ∷ []) ≡ some (ty_in gs r)
  unfolding op_type
  unary-in negate t r h = takes-in (integer ∷ []) (t ∷ []) integer r h
  unary-in absolute t r h = takes-in (integer ∷ []) (t ∷ []) integer r h
  unary-in complement t r h = one_in t r h

  pub binary-in : (o : Binary) (t u r : Ty) → op_type (binary o) (t ∷ u ∷ []) ≡ some r → op_type (binary o) (ty_in gs t ∷ ty_in gs u ∷ []) ≡ some (ty_in gs r)
  unfolding op_type
  binary-in plus t u r h = takes-in (integer ∷ integer ∷ []) (t ∷ u ∷ []) integer r h
  binary-in minus t u r h = takes-in (integer ∷ integer ∷ []) (t ∷ u ∷ []) integer r h
  binary-in times t u r h = takes-in (integer ∷ integer ∷ []) (t ∷ u ∷ []) integer r h
  binary-in divide t u r h = takes-in (integer ∷ integer ∷ []) (t ∷ u ∷ []) integer r h
  binary-in remainder t u r h = takes-in (integer ∷ integer ∷ []) (t ∷ u ∷ []) integer r h
  binary-in less t u r h = takes-in (integer ∷ integer ∷ []) (t ∷ u ∷ []) logical r h
  binary-in at_most t u r h = takes-in (integer ∷ integer ∷ []) (t ∷ u ∷ []) logical r h
  binary-in greater t u r h = takes-in (integer ∷ integer ∷ []) (t ∷ u ∷ []) logical r h
  binary-in at_least t u r h = takes-in (integer ∷ integer ∷ []) (t ∷ u ∷ []) logical r h
  binary-in equal t u r h = any-in t u r h
  binary-in unequal t u r h = any-in t u r h
  binary-in both t u r h = both-in t u r h
  binary-in either t u r h = both-in t u r h
  binary-in shift_left t u r h = takes-in (bits ∷ integer ∷ []) (t ∷ u ∷ []) bits r h
  binary-in shift_right t u r h = takes-in (bits ∷ integer ∷ []) (t ∷ u ∷ []) bits r h

  logical-in : (t u r : Ty) → t ≡ logical → logical_or_bits (λ v. v ∷ v ∷ []) (t ∷ u ∷ []) ≡ some r → (ty_in gs t ≡ logical) × (ty_in gs u ≡ logical) × (ty_in gs r ≡ logical)
  logical-in t u r e h =
      let q = both-are t u r h in let f : q.0 ≡ logical = sym q.1 ∙ e in
      (ap (ty_in gs) e, ap (ty_in gs) (q.2 ∙ f), ap (ty_in gs) (q.3 ∙ f))

  pub ways-in : (m : Macro) (k : ℕ) (o : Binary) (t u r : Ty) (b : Bool) → (b ≡ true → t ≡ logical) → op_type (binary o) (t ∷ u ∷ []) ≡ some r
      → WayOk m k gs (way_of o b) o (ty_in gs t) (ty_in gs u) (ty_in gs r)
  unfolding op_type
  ways-in m k plus t u r b f h = binary-in plus t u r h
  ways-in m k minus t u r b f h = binary-in minus t u r h
  ways-in m k times t u r b f h = binary-in times t u r h
  ways-in m k divide t u r b f h = binary-in divide t u r h
  ways-in m k remainder t u r b f h = binary-in remainder t u r h
  ways-in m k less t u r b f h = binary-in less t u r h
  ways-in m k at_most t u r b f h = binary-in at_most t u r h
  ways-in m k greater t u r b f h = binary-in greater t u r h
  ways-in m k at_least t u r b f h = binary-in at_least t u r h
  ways-in m k equal t u r b f h = binary-in equal t u r h
  ways-in m k unequal t u r b f h = binary-in unequal t u r h
  ways-in m k both t u r true f h = logical-in t u r (f refl) h
  ways-in m k both t u r false f h = binary-in both t u r h
  ways-in m k either t u r true f h = logical-in t u r (f refl) h
  ways-in m k either t u r false f h = binary-in either t u r h
  ways-in m k shift_left t u r b f h = binary-in shift_left t u r h
  ways-in m k shift_right t u r b f h = binary-in shift_right t u r h
