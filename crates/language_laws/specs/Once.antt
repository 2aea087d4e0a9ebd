-- Names that a block defines once. Faults goes through a block with the names that it has seen, Formed says it of the list of definitions.
use Rattle.std.specs.Prelude.{◌≡◌, refl, Bool, true, false, ◌||◌, ℕ, suc, eqb}
use Rattle.std.proofs.Common.{sym, ◌∙◌, ap, eqb-true, eq-eqb, ne_eqb}
use mathlib.Core.List.{List, [], ◌∷◌, ◌++◌}
use Rattle.std.proofs.lemmas.Bool.{eqb-false}
use Rattle.logic.specs.Lists.{among}
use Rattle.values.specs.Types.{Ty}
use Rattle.language.specs.Tree.{Typed, Decl, declare, holding}
use Rattle.language.specs.Names.{Sort, is_variable, is_field, Definition, define, defines_typed, defines_head, defines_fields, nowhere, found, first_of}
use Rattle.language.specs.Faults.{twice, type_faults, faults_typed, faults_head, names_head, names_typed}
use Rattle.language.specs.Formed.{Blocks, IsType, Declared, Defines, d-none, d-more}
use Rattle.logic.specs.Tests.{clash}
use Rattle.language_laws.specs.Tests.{none_left, none_right, none_both, fault-if, no-fault-if, type-so, so-type}

-- definitions that a block adds to names it has defined before: each once, and none of those
pub record Adds (ss : Blocks) (seen : List ℕ) (ds : List Definition) : Type 0 where
  pub defines : Defines ss ds
  pub others : (a : ℕ) → among a seen ≡ true → first_of a ds ≡ nowhere

pub adds-all : {ss : Blocks} {ds : List Definition} → Defines ss ds → Adds ss [] ds
unfolding among
adds-all h = record { defines = h; others = λ a m. clash (cc) }

pub adds_none : {ss : Blocks} (seen : List ℕ) → Adds ss seen []
unfolding first_of
adds_none seen = record { defines = d-none; others = λ a m. refl }

-- only which names were seen counts
pub adds-seen : {ss : Blocks} {ds : List Definition} {seen seen' : List ℕ} → ((a : ℕ) → among a seen' ≡ true → among a seen ≡ true) → Adds ss seen ds → Adds ss seen' ds
adds-seen f h = record { defines = h.defines; others = λ a m. h.others a (f a m) }

among-here : (a : ℕ) (seen : List ℕ) → among a (a ∷ seen) ≡ true
unfolding among
among-here a seen = rw (eq-eqb a a refl) refl

among_there : (a b : ℕ) (seen : List ℕ) → among a seen ≡ true → among a (b ∷ seen) ≡ true
unfolding among
among_there a b seen m = go (eqb a b)
  where
    go : (c : Bool) → (c || among a seen) ≡ true
    go true = refl
    go false = m

-- a name is the one just seen, or one seen before
seen_by : {A : Type 0} (a b : ℕ) (seen : List ℕ) → among a (b ∷ seen) ≡ true → (a ≡ b → A) → ((b ≡ a → ⊥) → among a seen ≡ true → A) → A
unfolding among
seen_by {A} a b seen m here there = go (eqb a b) refl m
  where
    go : (c : Bool) → eqb a b ≡ c → (c || among a seen) ≡ true → A
    go true e k = here (eqb-true a b e)
    go false e k = there (λ z. eqb-false a b e (sym z)) k

first-here : (d : Definition) (ds : List Definition) → first_of d.name (d ∷ ds) ≡ found d.sort false
unfolding first_of
first-here d ds = rw (eq-eqb d.name d.name refl) refl

first-there : (a : ℕ) (d : Definition) (ds : List Definition) → (d.name ≡ a → ⊥) → first_of a (d ∷ ds) ≡ first_of a ds
unfolding first_of
first-there a d ds n = rw (ne_eqb d.name a n) refl

-- ── one definition ──
pub adds-more : {ss : Blocks} {seen : List ℕ} {ds : List Definition} (d : Definition) → among d.name seen ≡ false → Declared ss d.sort
    → Adds ss (d.name ∷ seen) ds → Adds ss seen (d ∷ ds)
adds-more {ss} {seen} {ds} d n k h = record {
  defines = d-more (h.others d.name (among-here d.name seen)) k h.defines;
  others = λ a m.
      let ne : d.name ≡ a → ⊥ = λ z. clash (cc) in
      first-there a d ds ne ∙ h.others a (among_there a d.name seen m);
}

pub adds-first : {ss : Blocks} {seen : List ℕ} {ds : List Definition} (d : Definition) → Adds ss seen (d ∷ ds)
    → (among d.name seen ≡ false) × Declared ss d.sort × Adds ss (d.name ∷ seen) ds
adds-first {ss} {seen} {ds} d h = let i = inner h.defines in (new (among d.name seen) refl, i.1, record { defines = i.2; others = others i })
  where
    inner : Defines ss (d ∷ ds) → (first_of d.name ds ≡ nowhere) × Declared ss d.sort × Defines ss ds
    inner (d-more f k r) = (f, k, r)

    new : (b : Bool) → among d.name seen ≡ b → b ≡ false
    new true e = clash (cc (h.others d.name e, first-here d ds))
    new false e = refl

    others : (first_of d.name ds ≡ nowhere) × Declared ss d.sort × Defines ss ds → (a : ℕ) → among a (d.name ∷ seen) ≡ true → first_of a ds ≡ nowhere
    others i a m = seen_by a d.name seen m (λ e. cc i.0) (λ ne k. sym (first-there a d ds ne) ∙ h.others a k)

-- ── fields and parameters ──
-- the names of some kinds 10, each of a sort with its type
unfoldable pub defined : (Ty → Sort) → List Typed → List Definition
defined s [] = []
defined s (x ∷ xs) = define x.name (s x.type) ∷ defined s xs

pub fields-defined : (c : ℕ) (xs : List Typed) → defines_fields c xs ≡ defined (is_field c) xs
unfolding defines_fields defined
fields-defined c [] = refl
fields-defined c (x ∷ xs) = ap (λ ds. define x.name (is_field c x.type) ∷ ds) (fields-defined c xs)

pub parameters-defined : (xs : List Typed) → defines_typed xs ≡ defined is_variable xs
unfolding defines_typed defined
parameters-defined [] = refl
parameters-defined (x ∷ xs) = ap (λ ds. define x.name (is_variable x.type) ∷ ds) (parameters-defined xs)

module _ {ss : Blocks} (rest : List Definition) where
  pub typed-adds : (s : Ty → Sort) → ((t : Ty) → IsType ss t → Declared ss (s t)) → (seen : List ℕ) (p : ℕ) (xs : List Typed) → faults_typed ss seen p xs ≡ []
      → Adds ss (names_typed xs seen) rest → Adds ss seen (defined s xs ++ rest)
  unfolding faults_typed names_typed defined
  typed-adds s k seen p [] h r = r
  typed-adds s k seen p (x ∷ xs) h r =
      let f = none_right (twice x.name seen p) _ h in
      adds-more (define x.name (s x.type)) (fault-if (among x.name seen) 3 p (none_left _ _ h)) (k x.type (type-so ss x.type p (none_left _ _ f)))
      (typed-adds s k (x.name ∷ seen) (suc p) xs (none_right (type_faults ss x.type p) _ f) r)

  pub adds-typed : (s : Ty → Sort) → ((t : Ty) → Declared ss (s t) → IsType ss t) → (seen : List ℕ) (p : ℕ) (xs : List Typed) → Adds ss seen (defined s xs ++ rest)
      → (faults_typed ss seen p xs ≡ []) × Adds ss (names_typed xs seen) rest
  unfolding faults_typed names_typed defined
  adds-typed s k seen p [] h = (refl, h)
  adds-typed s k seen p (x ∷ xs) h =
      let f = adds-first (define x.name (s x.type)) h in
      let r = adds-typed s k (x.name ∷ seen) (suc p) xs f.2 in
      (none_both (no-fault-if 3 p f.0) (none_both (so-type p (k x.type f.1)) r.0), r.1)

-- ── heads ──
-- a name seen after others or before them
middle : (b : ℕ) (xs seen : List ℕ) (a : ℕ) → among a (xs ++ (b ∷ seen)) ≡ true → among a (b ∷ (xs ++ seen)) ≡ true
middle b [] seen a m = m
middle b (x ∷ xs) seen a m =
    seen_by a x (xs ++ (b ∷ seen)) m (λ e. among_there a b _ (rw e (among-here x _)))
    (λ ne k. seen_by a b (xs ++ seen) (middle b xs seen a k) (λ e. rw e (among-here b _)) (λ n j. among_there a b _ (among_there a x _ j)))

middle-back : (b : ℕ) (xs seen : List ℕ) (a : ℕ) → among a (b ∷ (xs ++ seen)) ≡ true → among a (xs ++ (b ∷ seen)) ≡ true
middle-back b [] seen a m = m
middle-back b (x ∷ xs) seen a m =
    seen_by a b (x ∷ (xs ++ seen)) m (λ e. among_there a x _ (middle-back b xs seen a (rw e (among-here b _))))
    (λ ne k. seen_by a x (xs ++ seen) k (λ e. rw e (among-here x _)) (λ n j. among_there a x _ (middle-back b xs seen a (among_there a b _ j))))

module _ {ss : Blocks} (rest : List Definition) where
  pub head-adds : (seen : List ℕ) (p : ℕ) (ds : List Decl) → faults_head ss seen p ds ≡ [] → Adds ss (names_head ds ++ seen) rest → Adds ss seen (defines_head ds ++ rest)
  unfolding faults_head faults_typed names_head defines_head
  head-adds seen p [] h r = r
  head-adds seen p (declare x ∷ ds) h r =
      let f = none_left (faults_typed ss seen p (x ∷ [])) _ h in
      let t = none_left (type_faults ss x.type p) _ (none_right (twice x.name seen p) _ f) in
      adds-more (define x.name (is_variable x.type)) (fault-if (among x.name seen) 3 p (none_left _ _ f)) (type-so ss x.type p t)
      (head-adds (x.name ∷ seen) (suc p) ds (none_right (faults_typed ss seen p (x ∷ [])) _ h) (adds-seen (middle x.name (names_head ds) seen) r))
  head-adds seen p (holding g ∷ ds) h r = head-adds seen (suc p) ds h r

  pub adds-head : (seen : List ℕ) (p : ℕ) (ds : List Decl) → Adds ss seen (defines_head ds ++ rest) → (faults_head ss seen p ds ≡ []) × Adds ss (names_head ds ++ seen) rest
  unfolding faults_head faults_typed names_head defines_head
  adds-head seen p [] h = (refl, h)
  adds-head seen p (declare x ∷ ds) h =
      let f = adds-first (define x.name (is_variable x.type)) h in
      let r = adds-head (x.name ∷ seen) (suc p) ds f.2 in
      (none_both (none_both (no-fault-if 3 p f.0) (none_both (so-type p f.1) refl)) r.0, adds-seen (middle-back x.name (names_head ds) seen) r.1)
  adds-head seen p (holding g ∷ ds) h = adds-head seen (suc p) ds h
