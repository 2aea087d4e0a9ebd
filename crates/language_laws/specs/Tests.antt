-- What the tests that Faults makes at one entry say of it, both ways: the list of faults is empty, and what a rule of Formed asks.
use Rattle.std.specs.Prelude.{◌≡◌, refl, Bool, true, false, List, [], ◌∷◌, ◌++◌, ℕ, eqb, length}
use Rattle.std.proofs.Common.{ap, subst, arith, eqb-true}
use Rattle.std.proofs.Math.Option.{Option, none, some}
use Rattle.logic.specs.Options.{is_some}
use Rattle.values.specs.Types.{Ty, integer, logical, bits, reference, fits, all_fit}
use Rattle.values.specs.Identical.{same_refl, same→≡}
use Rattle.language.specs.Names.{Sort, is_variable, is_label, is_class, is_field, is_procedure, is_control, Found, nowhere, found, lookup}
use Rattle.language.specs.Faults.{with_ty, variable_ty, is_ty, same_ty, fits_ty, fit_tys, cons_ty, fault_if, mistyped_unless, named, assignable_sort, class_sort, class_from, field_of, call_of}
use Rattle.language.specs.Faults.{aimed, type_faults}
use Rattle.language.specs.Tree.{variable}
use Rattle.language.specs.Formed.{Blocks, Denotes, Reachable, IsType, integer-type, logical-type, bits-type, reference-type, HasType, t-variable, t-control}
use Rattle.logic.specs.Tests.{clash, both_left, both_right}

-- ── lists of faults ──
pub none_left : {A : Type 0} (xs ys : List A) → xs ++ ys ≡ [] → xs ≡ []
none_left [] ys e = refl
none_left (x ∷ xs) ys e = clash (cc)

pub none_right : {A : Type 0} (xs ys : List A) → xs ++ ys ≡ [] → ys ≡ []
none_right [] ys e = e
none_right (x ∷ xs) ys e = clash (cc)

pub none_both : {A : Type 0} {xs ys : List A} → xs ≡ [] → ys ≡ [] → xs ++ ys ≡ []
none_both p q = rw (p, q) refl

pub fault-if : (b : Bool) (n p : ℕ) → fault_if b n p ≡ [] → b ≡ false
fault-if true n p h = clash (cc)
fault-if false n p h = refl

pub no-fault-if : {b : Bool} (n p : ℕ) → b ≡ false → fault_if b n p ≡ []
no-fault-if n p h = rw h refl

pub unless : (b : Bool) (p : ℕ) → mistyped_unless b p ≡ [] → b ≡ true
unless true p h = refl
unless false p h = clash (cc)

pub typed-so : {b : Bool} (p : ℕ) → b ≡ true → mistyped_unless b p ≡ []
typed-so p h = rw h refl

-- ── types ──
pub is-ty : (u : Ty) (o : Option Ty) → is_ty u o ≡ true → o ≡ some u
is-ty u none h = clash (cc)
is-ty u (some t) h = ap some (same→≡ t u h)

-- and as the fault that is not there
pub told : (u : Ty) (o : Option Ty) (p : ℕ) → mistyped_unless (is_ty u o) p ≡ [] → o ≡ some u
told u o p h = is-ty u o (unless (is_ty u o) p h)

pub ty-is : {u : Ty} {o : Option Ty} → o ≡ some u → is_ty u o ≡ true
ty-is {u} h = rw h (same_refl u)

pub same-ty : (x y : Option Ty) → same_ty x y ≡ true → (t : Ty) × (x ≡ some t) × (y ≡ some t)
same-ty none y h = clash (cc)
same-ty (some t) y h = (t, refl, is-ty t y h)

pub ty_same : {t : Ty} {x y : Option Ty} → x ≡ some t → y ≡ some t → same_ty x y ≡ true
ty_same p q = rw p (ty-is q)

pub fits-ty : (x y : Option Ty) → fits_ty x y ≡ true → (t : Ty) × (u : Ty) × (x ≡ some t) × (y ≡ some u) × (fits t u ≡ true)
fits-ty none y h = clash (cc)
fits-ty (some t) none h = clash (cc)
fits-ty (some t) (some u) h = (t, u, refl, refl, h)

pub ty-fits : {t u : Ty} {x y : Option Ty} → x ≡ some t → y ≡ some u → fits t u ≡ true → fits_ty x y ≡ true
ty-fits p q h = rw (p, q) h

-- the first of some values beside the first of some places
pub fit_none : (x : Option Ty) (y : Option (List Ty)) → fit_tys (cons_ty x y) [] ≡ true → ⊥
unfolding all_fit
fit_none none y h = clash (cc)
fit_none (some t) none h = clash (cc)
fit_none (some t) (some ts) h = clash (cc)

pub fit-more : (x : Option Ty) (y : Option (List Ty)) (u : Ty) (us : List Ty) → fit_tys (cons_ty x y) (u ∷ us) ≡ true
    → (t : Ty) × (x ≡ some t) × (fits t u ≡ true) × (fit_tys y us ≡ true)
unfolding all_fit
fit-more none y u us h = clash (cc)
fit-more (some t) none u us h = clash (cc)
fit-more (some t) (some ts) u us h = (t, refl, both_left (fits t u) (all_fit ts us) h, both_right (fits t u) (all_fit ts us) h)

pub more-fit : {t : Ty} {x : Option Ty} (y : Option (List Ty)) (u : Ty) (us : List Ty) → x ≡ some t → fits t u ≡ true → fit_tys y us ≡ true
    → fit_tys (cons_ty x y) (u ∷ us) ≡ true
unfolding all_fit
more-fit none u us p q h = clash (cc)
more-fit (some ts) u us p q h = rw (p, q) h

-- operands' types, and what the operator makes of them
pub has_1 : (x : Option Ty) (f : Ty → Option Ty) (r : Ty) → with_ty x f ≡ some r → (t : Ty) × (x ≡ some t) × (f t ≡ some r)
has_1 none f r h = clash (cc)
has_1 (some t) f r h = (t, refl, h)

pub has-ty : {t : Ty} {x : Option Ty} → x ≡ some t → is_some x ≡ true
has-ty h = rw h refl

-- ── names ──
pub named-so : (ss : Blocks) (a : ℕ) (g : Sort → Bool) (p : ℕ) → named (lookup a ss) g p ≡ [] → (s : Sort) × Denotes ss a s × (g s ≡ true)
named-so ss a g p h = go (lookup a ss) refl h
  where
    go : (f : Found) → lookup a ss ≡ f → named f g p ≡ [] → (s : Sort) × Denotes ss a s × (g s ≡ true)
    go nowhere e k = clash (cc)
    go (found s w) e k = (s, record { across = w; is_found = e }, unless (g s) p k)

pub so-named : {ss : Blocks} {a : ℕ} {s : Sort} (g : Sort → Bool) (p : ℕ) → Denotes ss a s → g s ≡ true → named (lookup a ss) g p ≡ []
so-named g p d h = rw d.is_found (typed-so p h)

-- what a name that passes each test stands for
module _ (ss : Blocks) (a : ℕ) where
  pub class-named : (p : ℕ) → named (lookup a ss) class_sort p ≡ [] → (ts : List Ty) × Denotes ss a (is_class ts)
  class-named p h = let q = named-so ss a class_sort p h in go q.0 q.1 q.2
    where
      go : (s : Sort) → Denotes ss a s → class_sort s ≡ true → (ts : List Ty) × Denotes ss a (is_class ts)
      go (is_variable t) d k = clash (cc)
      go is_label d k = clash (cc)
      go (is_class ts) d k = (ts, d)
      go (is_field c t) d k = clash (cc)
      go (is_procedure ts us) d k = clash (cc)
      go is_control d k = clash (cc)

  pub record-named : (vs : Option (List Ty)) (p : ℕ) → named (lookup a ss) (class_from vs) p ≡ [] → (ts : List Ty) × Denotes ss a (is_class ts) × (fit_tys vs ts ≡ true)
  record-named vs p h = let q = named-so ss a (class_from vs) p h in go q.0 q.1 q.2
    where
      go : (s : Sort) → Denotes ss a s → class_from vs s ≡ true → (ts : List Ty) × Denotes ss a (is_class ts) × (fit_tys vs ts ≡ true)
      go (is_variable t) d k = clash (cc)
      go is_label d k = clash (cc)
      go (is_class ts) d k = (ts, d, k)
      go (is_field c t) d k = clash (cc)
      go (is_procedure ts us) d k = clash (cc)
      go is_control d k = clash (cc)

  pub field-named : (r : Option Ty) (p : ℕ) → named (lookup a ss) (field_of r) p ≡ [] → (c : ℕ) × (t : Ty) × Denotes ss a (is_field c t) × (r ≡ some (reference c))
  field-named r p h = let q = named-so ss a (field_of r) p h in go q.0 q.1 q.2
    where
      go : (s : Sort) → Denotes ss a s → field_of r s ≡ true → (c : ℕ) × (t : Ty) × Denotes ss a (is_field c t) × (r ≡ some (reference c))
      go (is_variable t) d k = clash (cc)
      go is_label d k = clash (cc)
      go (is_class ts) d k = clash (cc)
      go (is_field c t) d k = (c, t, d, is-ty (reference c) r k)
      go (is_procedure ts us) d k = clash (cc)
      go is_control d k = clash (cc)

  procedure-named : (n : ℕ) (vs : Option (List Ty)) (p : ℕ) → named (lookup a ss) (call_of n vs) p ≡ []
      → (ts : List Ty) × (us : List Ty) × Denotes ss a (is_procedure ts us) × (fit_tys vs ts ≡ true) × (length us ≡ n)
  procedure-named n vs p h = let q = named-so ss a (call_of n vs) p h in go q.0 q.1 q.2
    where
      go : (s : Sort) → Denotes ss a s → call_of n vs s ≡ true
          → (ts : List Ty) × (us : List Ty) × Denotes ss a (is_procedure ts us) × (fit_tys vs ts ≡ true) × (length us ≡ n)
      go (is_variable t) d k = clash (cc)
      go is_label d k = clash (cc)
      go (is_class ts) d k = clash (cc)
      go (is_field c t) d k = clash (cc)
      go (is_procedure ts us) d k = (ts, us, d, both_right (eqb (length us) n) (fit_tys vs ts) k, eqb-true (length us) n (both_left (eqb (length us) n) (fit_tys vs ts) k))
      go is_control d k = clash (cc)

  pub no_result : (vs : Option (List Ty)) (p : ℕ) → named (lookup a ss) (call_of 0 vs) p ≡ [] → (ts : List Ty) × Denotes ss a (is_procedure ts []) × (fit_tys vs ts ≡ true)
  no_result vs p h = let q = procedure-named 0 vs p h in (q.0, go q.1 q.2 q.4, q.3)
    where
      go : {ts : List Ty} (us : List Ty) → Denotes ss a (is_procedure ts us) → length us ≡ 0 → Denotes ss a (is_procedure ts [])
      go [] d n = d
      go (u ∷ us) d n = absurd (omega arith)

  pub one-result : (vs : Option (List Ty)) (p : ℕ) → named (lookup a ss) (call_of 1 vs) p ≡ []
      → (ts : List Ty) × (t : Ty) × Denotes ss a (is_procedure ts (t ∷ [])) × (fit_tys vs ts ≡ true)
  one-result vs p h = let q = procedure-named 1 vs p h in let r = go q.1 q.2 q.4 in (q.0, r.0, r.1, q.3)
    where
      go : {ts : List Ty} (us : List Ty) → Denotes ss a (is_procedure ts us) → length us ≡ 1 → (t : Ty) × Denotes ss a (is_procedure ts (t ∷ []))
      go [] d n = absurd (omega arith)
      go (u ∷ []) d n = (u, d)
      go (u ∷ (v ∷ us)) d n = absurd (omega arith)

  -- a variable by its type
  -- a variable or a parameter, or a control name
  pub variable-named : (t : Ty) → variable_ty (lookup a ss) ≡ some t → HasType ss (variable a) t
  variable-named t h = go (lookup a ss) refl h
    where
      go : (f : Found) → lookup a ss ≡ f → variable_ty f ≡ some t → HasType ss (variable a) t
      go nowhere e k = clash (cc)
      go (found (is_variable u) w) e k = let d : Denotes ss a (is_variable t) = record { across = w; is_found = cc } in t-variable d
      go (found is_label w) e k = clash (cc)
      go (found (is_class ts) w) e k = clash (cc)
      go (found (is_field c u) w) e k = clash (cc)
      go (found (is_procedure ts us) w) e k = clash (cc)
      go (found is_control w) e k = let q : integer ≡ t = cc in subst (HasType ss (variable a)) q (t-control (record { across = w; is_found = e }))

  -- of these a control name is not assigned to
  pub target-named : (t : Ty) (p : ℕ) → named (lookup a ss) assignable_sort p ≡ [] → variable_ty (lookup a ss) ≡ some t → Denotes ss a (is_variable t)
  target-named t p h k = go (lookup a ss) refl h k
    where
      go : (f : Found) → lookup a ss ≡ f → named f assignable_sort p ≡ [] → variable_ty f ≡ some t → Denotes ss a (is_variable t)
      go nowhere e h k = clash (cc)
      go (found (is_variable u) w) e h k = record { across = w; is_found = cc }
      go (found is_label w) e h k = clash (cc)
      go (found (is_class ts) w) e h k = clash (cc)
      go (found (is_field c u) w) e h k = clash (cc)
      go (found (is_procedure ts us) w) e h k = clash (cc)
      go (found is_control w) e h k = clash (cc)

  pub label-aimed : (p : ℕ) → aimed (lookup a ss) p ≡ [] → Reachable ss a
  label-aimed p h = go (lookup a ss) refl h
    where
      go : (f : Found) → lookup a ss ≡ f → aimed f p ≡ [] → Reachable ss a
      go nowhere e k = clash (cc)
      go (found (is_variable t) w) e k = clash (cc)
      go (found is_label w) e k = rw (fault-if w 5 p k) at e
      go (found (is_class ts) w) e k = clash (cc)
      go (found (is_field c t) w) e k = clash (cc)
      go (found (is_procedure ts us) w) e k = clash (cc)
      go (found is_control w) e k = clash (cc)

-- a declared type
pub type-so : (ss : Blocks) (t : Ty) (p : ℕ) → type_faults ss t p ≡ [] → IsType ss t
type-so ss integer p h = integer-type
type-so ss logical p h = logical-type
type-so ss bits p h = bits-type
type-so ss (reference c) p h = reference-type (class-named ss c p h).1

pub so-type : {ss : Blocks} {t : Ty} (p : ℕ) → IsType ss t → type_faults ss t p ≡ []
so-type p integer-type = refl
so-type p logical-type = refl
so-type p bits-type = refl
so-type p (reference-type d) = so-named class_sort p d refl
