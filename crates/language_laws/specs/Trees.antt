-- Whole trees: no fault exactly if well formed by the rules, nothing over the limits exactly if its bodies keep them.
use Rattle.std.specs.Prelude.{◌≡◌, true, not, ℕ, zero, suc, ◌+◌, leb}
use Rattle.std.proofs.Math.Path.{refl}
use Rattle.std.proofs.Common.{ap, subst, leb-true, le-leb}
use mathlib.Core.List.{List, [], ◌∷◌, ◌++◌, append-nil, append_assoc}
use Rattle.std.proofs.Math.ListN.{length}
use Rattle.std.proofs.lemmas.Bool.{not-false}
use Rattle.logic.specs.Lists.{among}
use Rattle.values.specs.Ends.{Refusal}
use Rattle.language.specs.Tree.{Typed, Decl, declare, holding, Body, proper, function, Global, local, class, procedure, Tree}
use Rattle.language.specs.Names.{is_variable, is_class, is_field, is_procedure, Definition, define, types, results, defines_typed, defines_head, defines_fields, defines_items}
use Rattle.language.specs.Names.{defines_globals, procedure_of, root_of}
use Rattle.language.specs.Faults.{twice, faults_typed, faults_head, names_head, names_typed, faults_body, body_fits, size_global, names_global, faults_global, faults_globals, faults_items, faults, type_e}
use Rattle.language.specs.Limits.{Usage, keeps_limits, body_usage, root_usage, over_limits, procedure_limits, limits}
use Rattle.language.specs.Formed.{Blocks, Defines, BodyFormed, b-proper, b-function, EveryProcedure, ProcedureFormed, WellFormed, InLimits, KeepsLimits}
use Rattle.logic.specs.Tests.{clash, both_left, both_right, both}
use Rattle.language_laws.specs.Tests.{none_left, none_right, none_both, fault-if, no-fault-if, unless, typed-so, is-ty, ty-is}
use Rattle.language_laws.specs.Once.{Adds, adds-all, adds_none, adds-more, adds-first, head-adds, adds-head, defined, fields-defined, parameters-defined, typed-adds, adds-typed}
use Rattle.language_laws.specs.Typing.{labels-add, typed-E, formed-S, formed-items, no-fault-E, no-fault-S, no-fault-items, type-of}

-- ── one procedure ──
body-formed : (ss : Blocks) (p : ℕ) (b : Body) → faults_body ss p b ≡ [] → body_fits ss b ≡ true → BodyFormed ss b
body-formed ss p (proper s) h k = b-proper (formed-S ss p s h)
body-formed ss p (function t e) h k = b-function (typed-E ss p e h t (is-ty t (type_e ss e) k))

no-fault-body : {ss : Blocks} {b : Body} → BodyFormed ss b → (p : ℕ) → (faults_body ss p b ≡ []) × (body_fits ss b ≡ true)
no-fault-body (b-proper h) p = (no-fault-S h p, refl)
no-fault-body (b-function h) p = (no-fault-E h p, ty-is (type-of h))

-- ── every procedure of a head ──
module _ (P : List Typed → Body → Type 0) (gs : List Global) where
  every-local : (d : Decl) → EveryProcedure gs P → EveryProcedure (local d ∷ gs) P
  every-local d h zero a xs b e = clash (cc)
  every-local d h (suc i) a xs b e = h i a xs b e

  every-class : (c : ℕ) (ys : List Typed) → EveryProcedure gs P → EveryProcedure (class c ys ∷ gs) P
  every-class c ys h zero a xs b e = clash (cc)
  every-class c ys h (suc i) a xs b e = h i a xs b e

  every-procedure : (c : ℕ) (ys : List Typed) (d : Body) → P ys d → EveryProcedure gs P → EveryProcedure (procedure c ys d ∷ gs) P
  every-procedure c ys d k h zero a xs b e = subst (P xs) (cc e) (subst (λ z. P z d) (cc e) k)
  every-procedure c ys d k h (suc i) a xs b e = h i a xs b e

-- ── the root's head ──
parameters-open : (ss : Blocks) (p : ℕ) (xs : List Typed) → faults_typed ss [] p xs ≡ [] → Defines ss (defines_typed xs)
parameters-open ss p xs h =
    rw (parameters-defined xs, ← (append-nil (defined is_variable xs))) (typed-adds [] is_variable (λ t k. k) [] p xs h (adds_none (names_typed xs []))).defines

no-fault-parameters : (ss : Blocks) (p : ℕ) (xs : List Typed) → Defines ss (defines_typed xs) → faults_typed ss [] p xs ≡ []
no-fault-parameters ss p xs h =
    (adds-typed [] is_variable (λ t k. k) [] p xs (adds-all (rw (parameters-defined xs, ← (append-nil (defined is_variable xs))) at h))).0

module _ (ss : Blocks) (k : List ℕ → ℕ → List Refusal) where
  -- the faults of a procedure, one by one
  procedure-parts : (seen : List ℕ) (p a : ℕ) (xs : List Typed) (b : Body) → faults_global ss seen p (procedure a xs b) ≡ []
      → (faults_typed (procedure_of xs ∷ ss) [] (suc p) xs ≡ []) × (faults_body (procedure_of xs ∷ ss) (suc p + length xs) b ≡ [])
      × (twice a seen p ≡ []) × (body_fits (procedure_of xs ∷ ss) b ≡ true)
  procedure-parts seen p a xs b h =
      let inner = procedure_of xs ∷ ss in
      let r = none_right (faults_typed inner [] (suc p) xs) _ h in
      let l = none_right (faults_body inner (suc p + length xs) b) _ r in
      (none_left _ _ h, none_left _ _ r, none_left _ _ l, unless (body_fits inner b) p (none_right (twice a seen p) _ l))

  head-opens : (rest : List Definition) → ((seen : List ℕ) (p : ℕ) → k seen p ≡ [] → Adds ss seen rest) → (seen : List ℕ) (p : ℕ) (gs : List Global)
      → faults_globals ss seen p gs k ≡ [] → Adds ss seen (defines_globals gs ++ rest)
  unfolding faults_globals defines_globals defines_head
  head-opens rest r seen p [] h = r seen p h
  head-opens rest r seen p (local (declare x) ∷ gs) h =
      head-adds (defines_globals gs ++ rest) seen p (declare x ∷ []) (none_left _ _ h)
      (head-opens rest r (names_head (declare x ∷ []) ++ seen) (p + 1) gs (none_right (faults_head ss seen p (declare x ∷ [])) _ h))
  head-opens rest r seen p (local (holding g) ∷ gs) h =
      head-adds (defines_globals gs ++ rest) seen p (holding g ∷ []) (none_left _ _ h)
      (head-opens rest r (names_head (holding g ∷ []) ++ seen) (p + 1) gs (none_right (faults_head ss seen p (holding g ∷ [])) _ h))
  head-opens rest r seen p (class c xs ∷ gs) h =
      let f = none_left (faults_global ss seen p (class c xs)) _ h in
      rw (append_assoc (defines_fields c xs) (defines_globals gs) rest, fields-defined c xs) (
      adds-more (define c (is_class (types xs))) (fault-if (among c seen) 3 p (none_right (faults_typed ss (c ∷ seen) (suc p) xs) _ f)) tt
      (typed-adds (defines_globals gs ++ rest) (is_field c) (λ t q. q) (c ∷ seen) (suc p) xs (none_left _ _ f)
      (head-opens rest r (names_typed xs (c ∷ seen)) (p + size_global (class c xs)) gs (none_right (faults_global ss seen p (class c xs)) _ h))))
  head-opens rest r seen p (procedure a xs b ∷ gs) h =
      adds-more (define a (is_procedure (types xs) (results b))) (fault-if (among a seen) 3 p (procedure-parts seen p a xs b (none_left _ _ h)).2) tt
      (head-opens rest r (a ∷ seen) (p + size_global (procedure a xs b)) gs (none_right (faults_global ss seen p (procedure a xs b)) _ h))

  procedures-formed : (seen : List ℕ) (p : ℕ) (gs : List Global) → faults_globals ss seen p gs k ≡ [] → EveryProcedure gs (ProcedureFormed ss)
  unfolding faults_globals
  procedures-formed seen p [] h = λ i a xs b e. clash (cc)
  procedures-formed seen p (local d ∷ gs) h =
      every-local (ProcedureFormed ss) gs d (procedures-formed (names_global (local d) seen) (p + 1) gs (none_right (faults_global ss seen p (local d)) _ h))
  procedures-formed seen p (class c xs ∷ gs) h =
      every-class (ProcedureFormed ss) gs c xs
      (procedures-formed (names_global (class c xs) seen) (p + size_global (class c xs)) gs (none_right (faults_global ss seen p (class c xs)) _ h))
  procedures-formed seen p (procedure a xs b ∷ gs) h =
      let q = procedure-parts seen p a xs b (none_left _ _ h) in
      every-procedure (ProcedureFormed ss) gs a xs b
      (record { parameters = parameters-open (procedure_of xs ∷ ss) (suc p) xs q.0; body = body-formed (procedure_of xs ∷ ss) (suc p + length xs) b q.1 q.3 })
      (procedures-formed (a ∷ seen) (p + size_global (procedure a xs b)) gs (none_right (faults_global ss seen p (procedure a xs b)) _ h))

  -- what comes after the head has no fault, whatever was seen
  after-head : (seen : List ℕ) (p : ℕ) (gs : List Global) → faults_globals ss seen p gs k ≡ [] → (seen' : List ℕ) × (p' : ℕ) × (k seen' p' ≡ [])
  unfolding faults_globals
  after-head seen p [] h = (seen, p, h)
  after-head seen p (g ∷ gs) h = after-head (names_global g seen) (p + size_global g) gs (none_right (faults_global ss seen p g) _ h)

  no-fault-head : (rest : List Definition) → ((seen : List ℕ) (p : ℕ) → Adds ss seen rest → k seen p ≡ []) → (seen : List ℕ) (p : ℕ) (gs : List Global)
      → Adds ss seen (defines_globals gs ++ rest) → EveryProcedure gs (ProcedureFormed ss) → faults_globals ss seen p gs k ≡ []
  unfolding faults_globals defines_globals defines_head
  no-fault-head rest r seen p [] h f = r seen p h
  no-fault-head rest r seen p (local (declare x) ∷ gs) h f =
      let q = adds-head (defines_globals gs ++ rest) seen p (declare x ∷ []) h in
      none_both q.0 (no-fault-head rest r (names_head (declare x ∷ []) ++ seen) (p + 1) gs q.1 (λ i. f (suc i)))
  no-fault-head rest r seen p (local (holding g) ∷ gs) h f =
      let q = adds-head (defines_globals gs ++ rest) seen p (holding g ∷ []) h in
      none_both q.0 (no-fault-head rest r (names_head (holding g ∷ []) ++ seen) (p + 1) gs q.1 (λ i. f (suc i)))
  no-fault-head rest r seen p (class c xs ∷ gs) h f =
      let q = adds-first (define c (is_class (types xs))) h in
      let behind = defines_globals gs ++ rest in
      let l = adds-typed behind (is_field c) (λ t j. j) (c ∷ seen) (suc p) xs (rw (append_assoc (defines_fields c xs) (defines_globals gs) rest, fields-defined c xs) at q.2) in
      none_both (none_both l.0 (no-fault-if 3 p q.0)) (no-fault-head rest r (names_typed xs (c ∷ seen)) (p + size_global (class c xs)) gs l.1 (λ i. f (suc i)))
  no-fault-head rest r seen p (procedure a xs b ∷ gs) h f =
      let inner = procedure_of xs ∷ ss in
      let q = adds-first (define a (is_procedure (types xs) (results b))) h in
      let l = f 0 a xs b refl in
      let m = no-fault-body l.body (suc p + length xs) in
      none_both (none_both (no-fault-parameters inner (suc p) xs l.parameters) (none_both m.0 (none_both (no-fault-if 3 p q.0) (typed-so p m.1))))
      (no-fault-head rest r (a ∷ seen) (p + size_global (procedure a xs b)) gs q.2 (λ i. f (suc i)))

-- ── the tree ──
pub faultless-formed : (t : Tree) → faults t ≡ [] → WellFormed t
unfolding faults
faultless-formed t h =
    let ss = root_of t ∷ [] in
    let k : List ℕ → ℕ → List Refusal = λ seen p. faults_items ss seen p t.items in
    let r = after-head ss k [] 1 t.head h in
    record {
      names = (head-opens ss k (defines_items t.items) (λ seen p. labels-add seen p t.items) [] 1 t.head h).defines;
      procedures = procedures-formed ss k [] 1 t.head h;
      items = formed-items ss r.0 r.1 t.items r.2;
    }

pub formed-faultless : (t : Tree) → WellFormed t → faults t ≡ []
unfolding faults
formed-faultless t w =
    let ss = root_of t ∷ [] in
    no-fault-head ss (λ seen p. faults_items ss seen p t.items) (defines_items t.items) (λ seen p a. no-fault-items w.items seen p a) [] 1 t.head
    (adds-all w.names) w.procedures

-- ── limits ──
within : (u : Usage) (p : ℕ) → over_limits u p ≡ [] → InLimits u
within u p h =
    let k = not-false (keeps_limits u) (fault-if (not (keeps_limits u)) 6 p h) in
    let l = both_right (leb u.cells 32) _ k in
    record {
      cells = leb-true u.cells 32 (both_left _ _ k);
      holds = leb-true u.holds 16 (both_left _ _ l);
      need = leb-true u.need 32 (both_right (leb u.holds 16) _ l);
    }

not-over : (u : Usage) (p : ℕ) → InLimits u → over_limits u p ≡ []
not-over u p w = no-fault-if 6 p (ap not (both (le-leb u.cells 32 w.cells) (both (le-leb u.holds 16 w.holds) (le-leb u.need 32 w.need))))

procedures-within : (p : ℕ) (gs : List Global) → procedure_limits p gs ≡ [] → EveryProcedure gs (λ xs b. InLimits (body_usage xs b))
unfolding procedure_limits
procedures-within p [] h = λ i a xs b e. clash (cc)
procedures-within p (local d ∷ gs) h = every-local (λ xs b. InLimits (body_usage xs b)) gs d (procedures-within (suc p) gs h)
procedures-within p (class c xs ∷ gs) h = every-class (λ xs b. InLimits (body_usage xs b)) gs c xs (procedures-within (p + size_global (class c xs)) gs h)
procedures-within p (procedure a xs b ∷ gs) h =
    every-procedure (λ xs b. InLimits (body_usage xs b)) gs a xs b (within (body_usage xs b) p (none_left _ _ h))
    (procedures-within (p + size_global (procedure a xs b)) gs (none_right (over_limits (body_usage xs b) p) _ h))

not-over-procedures : (p : ℕ) (gs : List Global) → EveryProcedure gs (λ xs b. InLimits (body_usage xs b)) → procedure_limits p gs ≡ []
unfolding procedure_limits
not-over-procedures p [] f = refl
not-over-procedures p (local d ∷ gs) f = not-over-procedures (suc p) gs (λ i. f (suc i))
not-over-procedures p (class c xs ∷ gs) f = not-over-procedures (p + size_global (class c xs)) gs (λ i. f (suc i))
not-over-procedures p (procedure a xs b ∷ gs) f =
    none_both (not-over (body_usage xs b) p (f 0 a xs b refl)) (not-over-procedures (p + size_global (procedure a xs b)) gs (λ i. f (suc i)))

pub limited-keeps : (t : Tree) → limits t ≡ [] → KeepsLimits t
unfolding limits
limited-keeps t h = record {
  procedures = procedures-within 1 t.head (none_left _ _ h);
  root = within (root_usage t) 0 (none_right (procedure_limits 1 t.head) _ h);
}

pub keeps-limited : (t : Tree) → KeepsLimits t → limits t ≡ []
unfolding limits
keeps-limited t k = none_both (not-over-procedures 1 t.head k.procedures) (not-over (root_usage t) 0 k.root)
