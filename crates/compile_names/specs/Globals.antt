-- The root's head without faults: its classes, fields, procedures and variables, found by name where the compiler numbers them.
use Rattle.std.specs.Prelude.{Bool, true, false, ◌||◌, ◌≡◌, refl, List, [], ◌∷◌, ◌++◌, ℕ, zero, suc, ◌+◌, eqb, length}
use Rattle.std.proofs.Common.{ap, sym, ◌∙◌, subst, arith, eqb-true, eq-eqb}
use Rattle.std.proofs.Math.Option.{none, some}
use Rattle.std.proofs.Math.ListN.{get_elem?}
use Rattle.logic.specs.Lists.{among}
use Rattle.logic.specs.Choice.{If◌then◌else◌}
use Rattle.values.specs.Types.{Ty}
use Rattle.values.specs.Ends.{Refusal}
use Rattle.language.specs.Tree.{Typed, Decl, declare, holding, Items, Body, proper, function, Global, local, class, procedure, Tree, locals}
use Rattle.language.specs.Names.{Sort, is_variable, is_label, is_class, is_field, is_procedure, is_control, as_variable, Definition, define, types, results, defines_typed, defines_head, defines_fields}
use Rattle.language.specs.Names.{defines_items, defines_globals, Scope, block_of, expression_of, procedure_of, loop_of, root_of, Found, nowhere, found, first_of, otherwise, across, lookup}
use Rattle.language.specs.Faults.{type_e, mistyped_unless, twice, faults_typed, names_head, names_typed, names_global, body_fits, faults_body, faults_global, faults_globals, faults_items, faults, size_global}
use Rattle.language.specs.Execute.{Procedure, procedure_in, class_in}
use Rattle.language_laws.specs.Lookup.{lookup-block, lookup-expression, lookup-procedure, lookup-loop}
use Rattle.language_laws.proofs.Unchanged.{lookup-root}
use Rattle.logic.specs.Tests.{neither, eqb_comm}
use Rattle.compile_code.specs.Compile.{index_of, among_names, names_of, Class, classes_of, class_names, Proc, procs_of, proc_names, field_in}
use Rattle.language_laws.specs.Tests.{fault-if, told}
use Rattle.language_laws.specs.Typing.{typed-E, formed-S, formed-items}
use Rattle.compile_names.specs.Good.{GoodTyped, GoodHead, GoodS, GoodE, GoodItems, HasTy, split, good-typed, good-head, good-S, good-E, good-items}
use Rattle.compile_names.specs.Known.{nothing, first-append, IsLabel, outer, uncross}

-- ── the root's head ──
abbrev pub GoodBody : List Scope → Body → Type 0
GoodBody ss (proper s) = GoodS ss s
GoodBody ss (function t e) = GoodE ss e × HasTy ss e t

abbrev pub GoodGlobal : List Scope → List ℕ → Global → Type 0
GoodGlobal ss seen (local d) = GoodHead ss seen (d ∷ [])
GoodGlobal ss seen (class c xs) = GoodTyped ss (c ∷ seen) xs × (among c seen ≡ false)
GoodGlobal ss seen (procedure a xs b) = GoodTyped (procedure_of xs ∷ ss) [] xs × GoodBody (procedure_of xs ∷ ss) b × (among a seen ≡ false)

unfoldable pub GoodGlobals : List Scope → List ℕ → List Global → Type 0
GoodGlobals ss seen [] = Unit {0}
GoodGlobals ss seen (g ∷ gs) = GoodGlobal ss seen g × GoodGlobals ss (names_global g seen) gs

good-body : (ss : List Scope) (p q : ℕ) (b : Body) → faults_body ss p b ≡ [] → mistyped_unless (body_fits ss b) q ≡ [] → GoodBody ss b
good-body ss p q (proper s) h k = good-S (formed-S ss p s h)
good-body ss p q (function t e) h k = let r = told t (type_e ss e) q k in (good-E (typed-E ss p e h t r), r)

good-global : (ss : List Scope) (seen : List ℕ) (p : ℕ) (g : Global) → faults_global ss seen p g ≡ [] → GoodGlobal ss seen g
good-global ss seen p (local d) h = good-head ss seen p (d ∷ []) h
good-global ss seen p (class c xs) h = let q = split (faults_typed ss (c ∷ seen) (suc p) xs) _ h in (good-typed ss (c ∷ seen) (suc p) xs q.0, fault-if (among c seen) 3 p q.1)
good-global ss seen p (procedure a xs b) h =
    let inner = procedure_of xs ∷ ss in
    let q = split (faults_typed inner [] (suc p) xs) _ h in let r = split (faults_body inner (suc p + length xs) b) _ q.1 in let k = split (twice a seen p) _ r.1 in
    (good-typed inner [] (suc p) xs q.0, good-body inner (suc p + length xs) p b r.0 k.1, fault-if (among a seen) 3 p k.0)

good-globals : (ss : List Scope) (seen : List ℕ) (p : ℕ) (gs : List Global) (k : List ℕ → ℕ → List Refusal) → faults_globals ss seen p gs k ≡ []
    → GoodGlobals ss seen gs × ((seen' : List ℕ) × (q : ℕ) × (k seen' q ≡ []))
unfolding faults_globals GoodGlobals
good-globals ss seen p [] k h = (tt, (seen, p, h))
good-globals ss seen p (g ∷ gs) k h =
    let q = split (faults_global ss seen p g) _ h in let r = good-globals ss (names_global g seen) (p + size_global g) gs k q.1 in
    ((good-global ss seen p g q.0, r.0), r.1)

pub good-tree : (t : Tree) → faults t ≡ [] → GoodGlobals (root_of t ∷ []) [] t.head × GoodItems (root_of t ∷ []) t.items
unfolding faults
good-tree t h = let q = good-globals (root_of t ∷ []) [] 1 t.head (λ seen p. faults_items (root_of t ∷ []) seen p t.items) h in
    (q.0, good-items (formed-items (root_of t ∷ []) q.1.0 q.1.1 t.items q.1.2))

-- ── classes, fields and procedures are defined by the root alone ──
abbrev pub IsGlobal : Sort → Type 0
IsGlobal (is_variable t) = ⊥
IsGlobal is_label = ⊥
IsGlobal (is_class ts) = Unit {0}
IsGlobal (is_field c t) = Unit {0}
IsGlobal (is_procedure ts us) = Unit {0}
IsGlobal is_control = ⊥

abbrev NoGlobal : Found → Type 0
NoGlobal nowhere = Unit {0}
NoGlobal (found s w) = IsGlobal s → ⊥

abbrev pub GlobalsIn : List Global → List Scope → Type 0
GlobalsIn gs ss = (a : ℕ) (s : Sort) (w : Bool) → IsGlobal s → lookup a ss ≡ found s w → (v : Bool) × (first_of a (defines_globals gs) ≡ found s v)

no_label : (s : Sort) (w : Bool) → IsGlobal s → IsLabel (found s w) → ⊥
no_label (is_variable t) w g l = g
no_label is_label w g l = g
no_label (is_class ts) w g l = l
no_label (is_field c t) w g l = l
no_label (is_procedure ts us) w g l = l
no_label is_control w g l = l

head-global : (a : ℕ) (ds : List Decl) → NoGlobal (first_of a (defines_head ds))
unfolding first_of defines_head
head-global a [] = tt
head-global a (declare x ∷ ds) = pick (eqb x.name a) (head-global a ds)
  where
    pick : (t : Bool) → NoGlobal (first_of a (defines_head ds)) → NoGlobal (If t then found (is_variable x.type) false else first_of a (defines_head ds))
    pick true h = λ g. g
    pick false h = h
head-global a (holding g ∷ ds) = head-global a ds

typed-global : (a : ℕ) (xs : List Typed) → NoGlobal (first_of a (defines_typed xs))
unfolding first_of defines_typed
typed-global a [] = tt
typed-global a (x ∷ xs) = pick (eqb x.name a) (typed-global a xs)
  where
    pick : (t : Bool) → NoGlobal (first_of a (defines_typed xs)) → NoGlobal (If t then found (is_variable x.type) false else first_of a (defines_typed xs))
    pick true h = λ g. g
    pick false h = h

pub globals-root : (t : Tree) → GlobalsIn t.head (root_of t ∷ [])
globals-root t a s w g h =
    outer (defines_globals t.head) t.items a s w nowhere (no_label s w g) (sym (lookup-root a (defines_globals t.head ++ defines_items t.items)) ∙ h)
    ((v : Bool) × (first_of a (defines_globals t.head) ≡ found s v))
    (λ q. (w, q)) (λ n q. nothing s w q)

pub globals-block : (gs : List Global) (ds : List Decl) (is : Items) (ss : List Scope) → GlobalsIn gs ss → GlobalsIn gs (block_of ds is ∷ ss)
globals-block gs ds is ss k a s w g h =
    outer (defines_head ds) is a s w (lookup a ss) (no_label s w g) (sym (lookup-block a (defines_head ds ++ defines_items is) ss) ∙ h) ((v : Bool) × (first_of a (defines_globals gs) ≡ found s v))
    (λ q. let z : NoGlobal (found s w) = subst NoGlobal q (head-global a ds) in absurd (z g)) (λ n q. k a s w g q)

pub globals-expression : (gs : List Global) (ds : List Decl) (is : Items) (ss : List Scope) → GlobalsIn gs ss → GlobalsIn gs (expression_of ds is ∷ ss)
globals-expression gs ds is ss k a s w g h =
    outer (defines_head ds) is a s w (across (lookup a ss)) (no_label s w g) (sym (lookup-expression a (defines_head ds ++ defines_items is) ss) ∙ h)
    ((v : Bool) × (first_of a (defines_globals gs) ≡ found s v))
    (λ q. let z : NoGlobal (found s w) = subst NoGlobal q (head-global a ds) in absurd (z g)) (λ n q. let u = uncross (lookup a ss) s w q in k a s u.0 g u.1)

pub globals-procedure : (gs : List Global) (xs : List Typed) (ss : List Scope) → GlobalsIn gs ss → GlobalsIn gs (procedure_of xs ∷ ss)
globals-procedure gs xs ss k a s w g h = pick (first_of a (defines_typed xs)) refl (typed-global a xs) (sym (lookup-procedure a (defines_typed xs) ss) ∙ h)
  where
    pick : (f : Found) → first_of a (defines_typed xs) ≡ f → NoGlobal f → otherwise f (across (lookup a ss)) ≡ found s w → (v : Bool) × (first_of a (defines_globals gs) ≡ found s v)
    pick nowhere e n q = let u = uncross (lookup a ss) s w q in k a s u.0 g u.1
    pick (found u v) e n q = let z : NoGlobal (found s w) = subst NoGlobal q n in absurd (z g)

pub globals-loop : (gs : List Global) (b : ℕ) (ss : List Scope) → GlobalsIn gs ss → GlobalsIn gs (loop_of b ∷ ss)
unfolding first_of
globals-loop gs b ss k a s w g h = pick (eqb b a) (sym (lookup-loop a (define b is_control) ss) ∙ h)
  where
    pick : (t : Bool) → otherwise (If t then found is_control false else nowhere) (lookup a ss) ≡ found s w → (v : Bool) × (first_of a (defines_globals gs) ≡ found s v)
    pick true q = let z : NoGlobal (found s w) = subst NoGlobal q (λ u. u) in absurd (z g)
    pick false q = k a s w g q

-- ── found in the root's head ──

abbrev IsField : ℕ → Found → Type 0
IsField c nowhere = Unit {0}
IsField c (found (is_variable t) w) = ⊥
IsField c (found is_label w) = ⊥
IsField c (found (is_class ts) w) = ⊥
IsField c (found (is_field d t) w) = d ≡ c
IsField c (found (is_procedure ts us) w) = ⊥
IsField c (found is_control w) = ⊥

only-fields : (a c : ℕ) (xs : List Typed) → IsField c (first_of a (defines_fields c xs))
unfolding first_of defines_fields
only-fields a c [] = tt
only-fields a c (x ∷ xs) = pick (eqb x.name a) (only-fields a c xs)
  where
    pick : (t : Bool) → IsField c (first_of a (defines_fields c xs)) → IsField c (If t then found (is_field c x.type) false else first_of a (defines_fields c xs))
    pick true h = refl
    pick false h = h

-- what follows a definition that is not of sort s
skips : (a b : ℕ) (u s : Sort) (w : Bool) (f : Found) → ((u ≡ s) → ⊥) → (If eqb b a then found u false else f) ≡ found s w → (eqb b a ≡ false) × (f ≡ found s w)
skips a b u s w f n h = pick (eqb b a) refl h
  where
    pick : (t : Bool) → eqb b a ≡ t → (If t then found u false else f) ≡ found s w → (t ≡ false) × (f ≡ found s w)
    pick true e k = let z : u ≡ s = cc k in absurd (n z)
    pick false e k = (refl, k)

-- the fields of a class: one of them, or what follows
past-fields : (a c : ℕ) (xs : List Typed) (ds : List Definition) (s : Sort) (w : Bool) → ((v : Bool) → IsField c (found s v) → ⊥)
    → first_of a (defines_fields c xs ++ ds) ≡ found s w → first_of a ds ≡ found s w
past-fields a c xs ds s w n h = pick (first_of a (defines_fields c xs)) (only-fields a c xs) (sym (first-append a (defines_fields c xs) ds) ∙ h)
  where
    pick : (f : Found) → IsField c f → otherwise f (first_of a ds) ≡ found s w → first_of a ds ≡ found s w
    pick nowhere i q = q
    pick (found u v) i q = absurd (n w (subst (IsField c) q i))

abbrev pub class_as : ℕ → List Typed → Class
class_as c xs = record { name = c; fields = xs }

pub record ClassFound (gs : List Global) (a : ℕ) (ts : List Ty) : Type 0 where
  pub fields : List Typed
  pub in_tree : class_in a gs ≡ some fields
  pub its-types : types fields ≡ ts
  pub at-number : get_elem? (classes_of gs) (index_of a (class_names (classes_of gs))) ≡ some (class_as a fields)

pub class-found : (gs : List Global) (a : ℕ) (ts : List Ty) (w : Bool) → first_of a (defines_globals gs) ≡ found (is_class ts) w → ClassFound gs a ts
unfolding defines_globals defines_head first_of class_in classes_of class_names index_of
class-found [] a ts w h = nothing (is_class ts) w h
class-found (local (declare x) ∷ gs) a ts w h =
    let q = skips a x.name (is_variable x.type) (is_class ts) w (first_of a (defines_globals gs)) (λ e. let z : ◌≡◌ {A = ℕ} 0 1 = cc e in absurd (omega arith)) h in
    let r = class-found gs a ts w q.1 in record { fields = r.fields; in_tree = r.in_tree; its-types = r.its-types; at-number = r.at-number }
class-found (local (holding g) ∷ gs) a ts w h =
    let r = class-found gs a ts w h in record { fields = r.fields; in_tree = r.in_tree; its-types = r.its-types; at-number = r.at-number }
class-found (class c xs ∷ gs) a ts w h = pick (eqb c a) refl h (λ k. class-found gs a ts w (past-fields a c xs (defines_globals gs) (is_class ts) w (λ v z. z) k))
  where
    pick : (b : Bool) → eqb c a ≡ b → (If b then found (is_class (types xs)) false else first_of a (defines_fields c xs ++ defines_globals gs)) ≡ found (is_class ts) w
        → (first_of a (defines_fields c xs ++ defines_globals gs) ≡ found (is_class ts) w → ClassFound gs a ts) → ClassFound (class c xs ∷ gs) a ts
    pick true e k f =
        let z : types xs ≡ ts = cc k in
        record { fields = xs; in_tree = rw (eqb_comm a c ∙ e) refl; its-types = z; at-number = rw e (ap (λ n. some (class_as n xs)) (eqb-true c a e)) }
    pick false e k f = let r = f k in record { fields = r.fields; in_tree = rw (eqb_comm a c ∙ e) r.in_tree; its-types = r.its-types; at-number = rw e r.at-number }
class-found (procedure b xs d ∷ gs) a ts w h =
    let q = skips a b (is_procedure (types xs) (results d)) (is_class ts) w (first_of a (defines_globals gs)) (λ e. let z : ◌≡◌ {A = ℕ} 0 1 = cc e in absurd (omega arith)) h in
    let r = class-found gs a ts w q.1 in record { fields = r.fields; in_tree = r.in_tree; its-types = r.its-types; at-number = r.at-number }

abbrev pub proc_as : ℕ → Procedure → Proc
proc_as a q = record { name = a; parameters = q.parameters; body = q.body }

pub record ProcedureFound (gs : List Global) (a : ℕ) (ts us : List Ty) : Type 0 where
  pub its : Procedure
  pub in_tree : procedure_in a gs ≡ some its
  pub takes-types : types its.parameters ≡ ts
  pub gives-types : results its.body ≡ us
  pub at-number : get_elem? (procs_of gs) (index_of a (proc_names (procs_of gs))) ≡ some (proc_as a its)

pub procedure-found : (gs : List Global) (a : ℕ) (ts us : List Ty) (w : Bool) → first_of a (defines_globals gs) ≡ found (is_procedure ts us) w → ProcedureFound gs a ts us
unfolding defines_globals defines_head first_of procedure_in procs_of proc_names index_of
procedure-found [] a ts us w h = nothing (is_procedure ts us) w h
procedure-found (local (declare x) ∷ gs) a ts us w h =
    let q = skips a x.name (is_variable x.type) (is_procedure ts us) w (first_of a (defines_globals gs)) (λ e. let z : ◌≡◌ {A = ℕ} 0 1 = cc e in absurd (omega arith)) h in
    let r = procedure-found gs a ts us w q.1 in record { its = r.its; in_tree = r.in_tree; takes-types = r.takes-types; gives-types = r.gives-types; at-number = r.at-number }
procedure-found (local (holding g) ∷ gs) a ts us w h =
    let r = procedure-found gs a ts us w h in record { its = r.its; in_tree = r.in_tree; takes-types = r.takes-types; gives-types = r.gives-types; at-number = r.at-number }
procedure-found (class c xs ∷ gs) a ts us w h =
    let q = skips a c (is_class (types xs)) (is_procedure ts us) w (first_of a (defines_fields c xs ++ defines_globals gs)) (λ e. let z : ◌≡◌ {A = ℕ} 0 1 = cc e in absurd (omega arith)) h in
    let r = procedure-found gs a ts us w (past-fields a c xs (defines_globals gs) (is_procedure ts us) w (λ v z. z) q.1) in
    record { its = r.its; in_tree = r.in_tree; takes-types = r.takes-types; gives-types = r.gives-types; at-number = r.at-number }
procedure-found (procedure b xs d ∷ gs) a ts us w h = pick (eqb b a) refl h (λ k. procedure-found gs a ts us w k)
  where
    pick : (t : Bool) → eqb b a ≡ t → (If t then found (is_procedure (types xs) (results d)) false else first_of a (defines_globals gs)) ≡ found (is_procedure ts us) w
        → (first_of a (defines_globals gs) ≡ found (is_procedure ts us) w → ProcedureFound gs a ts us) → ProcedureFound (procedure b xs d ∷ gs) a ts us
    pick true e k f =
        let y : types xs ≡ ts = cc k in let z : results d ≡ us = cc k in
        record {
          its = record { parameters = xs; body = d };
          in_tree = rw (eqb_comm a b ∙ e) refl;
          takes-types = y;
          gives-types = z;
          at-number = rw e (ap (λ n. some (proc_as n (record { parameters = xs; body = d }))) (eqb-true b a e));
        }
    pick false e k f = let r = f k in record { its = r.its; in_tree = rw (eqb_comm a b ∙ e) r.in_tree; takes-types = r.takes-types; gives-types = r.gives-types; at-number = rw e r.at-number }

-- ── fields: their class's number needs that no class is named twice ──
unseen : (c : ℕ) (xs : List Typed) (l : List ℕ) → among c (names_typed xs l) ≡ false → among c l ≡ false
unfolding names_typed among
unseen c [] l h = h
unseen c (x ∷ xs) l h = (neither (eqb c x.name) (among c l) (unseen c xs (x.name ∷ l) h)).1

pub record FieldFound (gs : List Global) (seen : List ℕ) (k a c : ℕ) (t : Ty) : Type 0 where
  pub fields : List Typed
  pub at-number : get_elem? (classes_of gs) (index_of c (class_names (classes_of gs))) ≡ some (class_as c fields)
  pub its-class : (field_in a k (classes_of gs)).class ≡ k + index_of c (class_names (classes_of gs))
  pub its-index : (field_in a k (classes_of gs)).index ≡ index_of a (names_of fields)
  pub there : among_names a (names_of fields) ≡ true
  pub its-type : get_elem? (types fields) (index_of a (names_of fields)) ≡ some t
  pub new : among c seen ≡ false

-- among the fields of one class
record InFields (xs : List Typed) (a c d : ℕ) (t : Ty) : Type 0 where
  same_class : d ≡ c
  there : among_names a (names_of xs) ≡ true
  its-type : get_elem? (types xs) (index_of a (names_of xs)) ≡ some t

in-fields : (xs : List Typed) (a c d : ℕ) (t : Ty) (w : Bool) → first_of a (defines_fields c xs) ≡ found (is_field d t) w → InFields xs a c d t
unfolding first_of defines_fields among_names names_of index_of types
in-fields [] a c d t w h = nothing (is_field d t) w h
in-fields (x ∷ xs) a c d t w h = pick (eqb x.name a) refl h (λ k. in-fields xs a c d t w k)
  where
    pick : (b : Bool) → eqb x.name a ≡ b → (If b then found (is_field c x.type) false else first_of a (defines_fields c xs))
        ≡ found (is_field d t) w → (first_of a (defines_fields c xs) ≡ found (is_field d t) w → InFields xs a c d t) → InFields (x ∷ xs) a c d t
    pick true e k f = let y : c ≡ d = cc k in let z : x.type ≡ t = cc k in record { same_class = sym y; there = rw e refl; its-type = rw e (ap some z) }
    pick false e k f = let r = f k in record { same_class = r.same_class; there = rw e r.there; its-type = rw e r.its-type }

not-in-fields : (xs : List Typed) (a c : ℕ) → first_of a (defines_fields c xs) ≡ nowhere → among_names a (names_of xs) ≡ false
unfolding first_of defines_fields among_names names_of
not-in-fields [] a c h = refl
not-in-fields (x ∷ xs) a c h = pick (eqb x.name a) h (λ k. not-in-fields xs a c k)
  where
    pick : (b : Bool) → (If b then found (is_field c x.type) false else first_of a (defines_fields c xs)) ≡ nowhere
        → (first_of a (defines_fields c xs) ≡ nowhere → among_names a (names_of xs) ≡ false) → (b || among_names a (names_of xs)) ≡ false
    pick true k f = nothing (is_field c x.type) false (sym k)
    pick false k f = f k

pub field_found : (gs : List Global) (ss : List Scope) (seen : List ℕ) (k a c : ℕ) (t : Ty) (w : Bool) → GoodGlobals ss seen gs
    → first_of a (defines_globals gs) ≡ found (is_field c t) w → FieldFound gs seen k a c t
unfolding GoodGlobals GoodHead defines_globals defines_head names_head first_of classes_of class_names index_of field_in among
field_found [] ss seen k a c t w g h = nothing (is_field c t) w h
field_found (local (declare x) ∷ gs) ss seen k a c t w g h =
    let q = skips a x.name (is_variable x.type) (is_field c t) w (first_of a (defines_globals gs)) (λ e. let z : ◌≡◌ {A = ℕ} 0 1 = cc e in absurd (omega arith)) h in
    let r = field_found gs ss (x.name ∷ seen) k a c t w g.1 q.1 in
    record {
      fields = r.fields;
      at-number = r.at-number;
      its-class = r.its-class;
      its-index = r.its-index;
      there = r.there;
      its-type = r.its-type;
      new = (neither (eqb c x.name) (among c seen) r.new).1;
    }
field_found (local (holding v) ∷ gs) ss seen k a c t w g h =
    let r = field_found gs ss seen k a c t w g.1 h in
    record { fields = r.fields; at-number = r.at-number; its-class = r.its-class; its-index = r.its-index; there = r.there; its-type = r.its-type; new = r.new }
field_found (class d xs ∷ gs) ss seen k a c t w g h =
    let q = skips a d (is_class (types xs)) (is_field c t) w (first_of a (defines_fields d xs ++ defines_globals gs)) (λ e. let z : ◌≡◌ {A = ℕ} 0 1 = cc e in absurd (omega arith)) h in
    pick (first_of a (defines_fields d xs)) refl (sym (first-append a (defines_fields d xs) (defines_globals gs)) ∙ q.1) (λ y. field_found gs ss (names_typed xs (d ∷ seen)) (suc k) a c t w g.1 y)
  where
    here : InFields xs a d c t → FieldFound (class d xs ∷ gs) seen k a c t
    here r =
        let e : eqb d c ≡ true = eq-eqb d c (sym r.same_class) in
        record {
          fields = xs;
          at-number = rw e (ap (λ n. some (class_as n xs)) (sym r.same_class));
          its-class = rw (e, r.there) (omega arith);
          its-index = rw r.there refl;
          there = r.there;
          its-type = r.its-type;
          new = subst (λ z. among z seen ≡ false) (sym r.same_class) g.0.1;
        }

    further : among_names a (names_of xs) ≡ false → FieldFound gs (names_typed xs (d ∷ seen)) (suc k) a c t → FieldFound (class d xs ∷ gs) seen k a c t
    further n r =
        let u = neither (eqb c d) (among c seen) (unseen c xs (d ∷ seen) r.new) in let e : eqb d c ≡ false = eqb_comm d c ∙ u.0 in let z = r.its-class in
        record { fields = r.fields; at-number = rw e r.at-number; its-class = rw (e, n) (omega arith); its-index = rw n r.its-index; there = r.there; its-type = r.its-type; new = u.1 }

    pick : (f : Found) → first_of a (defines_fields d xs) ≡ f → otherwise f (first_of a (defines_globals gs)) ≡ found (is_field c t) w
        → (first_of a (defines_globals gs) ≡ found (is_field c t) w → FieldFound gs (names_typed xs (d ∷ seen)) (suc k) a c t) → FieldFound (class d xs ∷ gs) seen k a c t
    pick nowhere e y f = further (not-in-fields xs a d e) (f y)
    pick (found s v) e y f = here (in-fields xs a d c t w (e ∙ y))
field_found (procedure b xs d ∷ gs) ss seen k a c t w g h =
    let q = skips a b (is_procedure (types xs) (results d)) (is_field c t) w (first_of a (defines_globals gs)) (λ e. let z : ◌≡◌ {A = ℕ} 0 1 = cc e in absurd (omega arith)) h in
    let r = field_found gs ss (b ∷ seen) k a c t w g.1 q.1 in
    record {
      fields = r.fields;
      at-number = r.at-number;
      its-class = r.its-class;
      its-index = r.its-index;
      there = r.there;
      its-type = r.its-type;
      new = (neither (eqb c b) (among c seen) r.new).1;
    }

-- ── the root's variables ──
no-field-variable : (s : Sort) (t : Ty) (c : ℕ) (w : Bool) → as_variable s ≡ some t → IsField c (found s w) → ⊥
no-field-variable (is_variable u) t c w v f = f
no-field-variable is_label t c w v f = f
no-field-variable (is_class ts) t c w v f = f
no-field-variable (is_field d u) t c w v f = let z : ◌≡◌ {A = ℕ} 0 1 = cc v in omega arith
no-field-variable (is_procedure ts us) t c w v f = f
no-field-variable is_control t c w v f = f

not-variable : (u s : Sort) (t : Ty) → as_variable u ≡ none → as_variable s ≡ some t → u ≡ s → ⊥
not-variable u s t n v e = let z : ◌≡◌ {A = ℕ} 0 1 = cc (sym n ∙ ap as_variable e ∙ v) in omega arith

pub variable-found : (gs : List Global) (a : ℕ) (s : Sort) (t : Ty) (w : Bool) → as_variable s ≡ some t → first_of a (defines_globals gs) ≡ found s w
    → first_of a (defines_head (locals gs)) ≡ found s w
unfolding defines_globals defines_head first_of locals
variable-found [] a s t w v h = h
variable-found (local (declare x) ∷ gs) a s t w v h = pick (eqb x.name a) h (λ k. variable-found gs a s t w v k)
  where
    pick : (b : Bool) → (If b then found (is_variable x.type) false else first_of a (defines_globals gs)) ≡ found s w
        → (first_of a (defines_globals gs) ≡ found s w → first_of a (defines_head (locals gs)) ≡ found s w)
        → (If b then found (is_variable x.type) false else first_of a (defines_head (locals gs))) ≡ found s w
    pick true k f = k
    pick false k f = f k
variable-found (local (holding g) ∷ gs) a s t w v h = variable-found gs a s t w v h
variable-found (class c xs ∷ gs) a s t w v h =
    let q = skips a c (is_class (types xs)) s w (first_of a (defines_fields c xs ++ defines_globals gs)) (not-variable (is_class (types xs)) s t refl v) h in
    variable-found gs a s t w v (past-fields a c xs (defines_globals gs) s w (λ b z. no-field-variable s t c b v z) q.1)
variable-found (procedure b xs d ∷ gs) a s t w v h =
    let q = skips a b (is_procedure (types xs) (results d)) s w (first_of a (defines_globals gs)) (not-variable (is_procedure (types xs) (results d)) s t refl v) h in
    variable-found gs a s t w v q.1

-- fewer names seen
abbrev Fewer : List ℕ → List ℕ → Type 0
Fewer l m = (b : ℕ) → among b m ≡ false → among b l ≡ false

fewer-both : (a : ℕ) (l m : List ℕ) → Fewer l m → Fewer (a ∷ l) (a ∷ m)
unfolding among
fewer-both a l m f b h = let q = neither (eqb b a) (among b m) h in rw q.0 (f b q.1)

pub good-locals : (gs : List Global) (ss : List Scope) (l m : List ℕ) → Fewer l m → GoodGlobals ss m gs → GoodHead ss l (locals gs)
unfolding GoodGlobals GoodHead locals names_head among
good-locals [] ss l m f g = tt
good-locals (local (declare x) ∷ gs) ss l m f g = (f x.name g.0.0, g.0.1, good-locals gs ss (x.name ∷ l) (x.name ∷ m) (fewer-both x.name l m f) g.1)
good-locals (local (holding h) ∷ gs) ss l m f g = good-locals gs ss l m f g.1
good-locals (class c xs ∷ gs) ss l m f g = good-locals gs ss l (names_typed xs (c ∷ m)) (λ b h. f b (neither (eqb b c) (among b m) (unseen b xs (c ∷ m) h)).1) g.1
good-locals (procedure a xs d ∷ gs) ss l m f g = good-locals gs ss l (a ∷ m) (λ b h. f b (neither (eqb b a) (among b m) h).1) g.1

-- a procedure of the root's head, by its number, is without faults
pub procedure-at : (gs : List Global) (ss : List Scope) (seen : List ℕ) (i : ℕ) (p : Proc) → GoodGlobals ss seen gs → get_elem? (procs_of gs) i ≡ some p
    → GoodTyped (procedure_of p.parameters ∷ ss) [] p.parameters × GoodBody (procedure_of p.parameters ∷ ss) p.body
unfolding GoodGlobals procs_of
procedure-at [] ss seen i p g e = let z : ◌≡◌ {A = ℕ} 0 1 = cc e in absurd (omega arith)
procedure-at (local d ∷ gs) ss seen i p g e = procedure-at gs ss (names_global (local d) seen) i p g.1 e
procedure-at (class c xs ∷ gs) ss seen i p g e = procedure-at gs ss (names_global (class c xs) seen) i p g.1 e
procedure-at (procedure a xs b ∷ gs) ss seen zero p g e = let z : record { name = a; parameters = xs; body = b } ≡ p = cc e in
    subst (λ y. GoodTyped (procedure_of y.parameters ∷ ss) [] y.parameters × GoodBody (procedure_of y.parameters ∷ ss) y.body) z (g.0.0, g.0.1)
procedure-at (procedure a xs b ∷ gs) ss seen (suc i) p g e = procedure-at gs ss (a ∷ seen) i p g.1 e
