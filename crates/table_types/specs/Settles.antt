-- What the code settles is what the definitions say: the type and the faults of each operation.
use Rattle.std.specs.Prelude.{◌≡◌, Ok, Err, Bool, false, not, ◌&&◌, ℕ, ◌+◌, ◌*◌, ◌/◌, ◌%◌, ◌≤◌, ◌<◌, eqb, length}
use Rattle.std.proofs.Math.Path.{refl}
use Rattle.std.proofs.Common.{sym, ◌∙◌, arith}
use Rattle.std.proofs.Math.Bool.{true}
use mathlib.Core.List.{List, [], ◌∷◌, ◌++◌, map}
use Rattle.std.proofs.Math.Option.{Option, none, some}
use borrow.Author.Tests.{eq-eqb, ne_eqb}
use Rattle.language.specs.Program.{flat_typed}
use Rattle.logic.specs.Options.{is_some}
use Rattle.logic.specs.Choice.{If◌then◌else◌}
use Rattle.values.specs.Types.{Ty, integer, logical, bits, reference, ty_code}
use Rattle.values.specs.Ends.{Refusal, refusal}
use Rattle.values.specs.Operators.{unary, binary}
use Rattle.language.specs.Tree.{Typed}
use Rattle.language.specs.Names.{is_variable, is_label, is_class, is_field, is_procedure, is_control, types, Scope, nowhere, found, lookup}
use Rattle.language.specs.Names as names
use Rattle.language.specs.Faults.{variable_ty, result_ty, field_ty, is_ty, same_ty, fits_ty, fit_tys, fault_if, mistyped_unless, named, variable_sort, assignable_sort, class_sort}
use Rattle.language.specs.Faults.{class_from, field_of, call_of, aimed}
use Rattle.logic.specs.Tests.{clash, eqb_comm}
use Rattle.language_laws.specs.Claims.{entries_of}
use Rattle.table_scopes.specs.Environment.{Item, Found, Nothing, Def, find}
use Rattle.table_entries.specs.Entries.{length-entries}
use Rattle.table_entries.specs.Stands.{Stands, stands-tail, stands-within, fields}
use Rattle.table_entries.specs.declared.Fault.TheVariants.{Unnamed, Mistyped, OutOfReach}
use Rattle.table_scopes.specs.Flaws.{Verdict, Says}
use Rattle.table_scopes.specs.Sees.{Legible, Declared, Agrees, Sees}
use Rattle.table_scopes.specs.Trees.{length-map}
use Rattle.table_scopes.specs.Defines.{number-here}
use Rattle.table_types.specs.Settle.{if_both, right_if, same_all, types_at, typed_by, named_by, names_by, found_by, settled_by, counted_by, controls, Within}
use Rattle.table_types.specs.Operations.{Operation, numeral, truth, pattern, null_of, variable_of, invokes, field_at, makes, calls, goes_to, unary_op, binary_op, chooses}
use Rattle.table_types.specs.Operations.{reads, assigns, asserts, sets, kind_op, name_op, Takes, sequence, oper_ty, gives, own}
use Rattle.table_types.specs.Types.{ty_num, code-some, is_number, both-same, both-fit, unary-number, binary-number, arguments}

-- an answer gives this type
abbrev pub Types : Verdict → Option Ty → Type 0
Types (Ok t) o = t ≡ ty_num o
Types (Err f) o = Unit {0}

pub record Settled (r : Verdict) (fs : List Refusal) (o : Option Ty) : Type 0 where
  pub says : Says r fs
  pub types : Types r o

-- ── by the types alone ──
right-type : (o : Option Ty) (n p : ℕ) → n ≡ ty_num o → Settled (right_if (not (eqb n 0)) n p) (mistyped_unless (is_some o) p) o
right-type none n p e = rw e (record { says = ([], refl); types = tt })
right-type (some t) n p e = rw (e, ne_eqb (ty_code t) 0 (code-some t)) (record { says = refl; types = refl })

right-test : (b : Bool) (t : Ty) (n p : ℕ) → n ≡ if_both b true (ty_code t) → Settled (right_if (not (eqb n 0)) n p) (mistyped_unless b p) (some t)
right-test true t n p e = rw (e, ne_eqb (ty_code t) 0 (code-some t)) (record { says = refl; types = refl })
right-test false t n p e = rw e (record { says = ([], refl); types = tt })

-- ── by what is found ──
module _ {l : List ℕ} (legible : Legible l) where
  declared-types : (p : ℕ) (xs : List Typed) → Stands (entries_of l) p (map flat_typed xs) → types_at l p (length xs) ≡ map ty_code (types xs)
  unfolding types_at types flat_typed
  declared-types p [] h = refl
  declared-types p (x ∷ xs) h =
      let f = fields l p _ _ h in
      rw (number-here legible (ty_code x.type) f refl, declared-types (p + 1) xs (stands-tail _ _ h))

  pub fit-declared : (n q : ℕ) (ts : List (Option Ty)) (us : List Ty) → Declared l n q us → same_all (map ty_num ts) (types_at l (q + 1) n) ≡ fit_tys (sequence ts) us
  fit-declared n q ts us d = rw (d.count, declared-types (q + 1) d.declarations d.stands, d.same) (arguments ts us)

  pub declared-within : (n q : ℕ) (us : List Ty) → Declared l n q us → 8 * (q + 1 + n) ≤ length l
  declared-within n q us d = go d.declarations d.stands d.count
    where
      go : (xs : List Typed) → Stands (entries_of l) (q + 1) (map flat_typed xs) → n ≡ length xs → 8 * (q + 1 + n) ≤ length l
      go [] s e = omega (arith, d.within)
      go (x ∷ xs) s e = omega (arith, stands-within (flat_typed x) (map flat_typed xs) s, length-entries (length l / 8) l, length-map flat_typed xs)

  -- what is found is within the table
  pub found_within : (f : Found) (g : names.Found) → Agrees l f g → Within l f
  found_within Nothing g h = tt
  found_within (Def s n q w) nowhere h = absurd h
  found_within (Def s n q w) (found (is_variable t) b) h = (λ e. absurd (omega (arith, h.1.0)), λ e. absurd (omega (arith, h.1.0)))
  found_within (Def s n q w) (found is_label b) h = (λ e. absurd (omega (arith, h.1)), λ e. absurd (omega (arith, h.1)))
  found_within (Def s n q w) (found (is_class ts) b) h = (λ e. absurd (omega (arith, h.1.0)), λ e. declared-within n q ts h.1.1)
  found_within (Def s n q w) (found (is_field c t) b) h = (λ e. absurd (omega (arith, h.1.0)), λ e. absurd (omega (arith, h.1.0)))
  found_within (Def s n q w) (found (is_procedure ts us) b) h = (λ e. declared-within (n / 256) q ts h.1.1, λ e. absurd (omega (arith, h.1.0)))
  found_within (Def s n q w) (found is_control b) h = (λ e. absurd (omega (arith, h.1.0)), λ e. absurd (omega (arith, h.1.0)))

undefined : {p : ℕ} {o : Option Ty} → Settled (Err (Unnamed p)) (refusal 3 p ∷ []) o
undefined = record { says = ([], refl); types = tt }

wrong : {p : ℕ} {o : Option Ty} → Settled (Err (Mistyped p)) (refusal 4 p ∷ []) o
wrong = record { says = ([], refl); types = tt }

right-if : (b : Bool) (n p : ℕ) (o : Option Ty) → n ≡ ty_num o → Settled (right_if b n p) (mistyped_unless b p) o
right-if true n p o e = record { says = refl; types = e }
right-if false n p o e = record { says = ([], refl); types = tt }

no-type : (k : ℕ) (t : Option Ty) → 4 ≤ k → k < 65536 → ¬ (k ≡ ty_num t)
no-type k none h j e = omega arith
no-type k (some integer) h j e = omega arith
no-type k (some logical) h j e = omega arith
no-type k (some bits) h j e = omega arith
no-type k (some (reference c)) h j e = omega arith

swapped : (c : ℕ) (t : Option Ty) → eqb (65536 + c) (ty_num t) ≡ is_ty (reference c) t
swapped c none = ne_eqb (65536 + c) 0 (λ z. omega arith)
swapped c (some t) = eqb_comm (65536 + c) (ty_code t)

goes : (p : ℕ) (b : Bool) → Settled (If b then Err (OutOfReach p) else Ok 1) (If b then refusal 5 p ∷ [] else []) (some integer)
goes p true = record { says = ([], refl); types = tt }
goes p false = record { says = refl; types = refl }

module _ {l : List ℕ} (legible : Legible l) (p : ℕ) where
  null-settles : (a : ℕ) (vs : List ℕ) (f : Found) (g : names.Found) → Agrees l f g → Settled (found_by l 43 a p f vs) (named g class_sort p) (some (reference a))
  unfolding named_by
  null-settles a vs Nothing nowhere h = undefined
  null-settles a vs Nothing (found t b) h = absurd h
  null-settles a vs (Def s n q w) nowhere h = absurd h
  null-settles a vs (Def s n q w) (found (is_variable t) b) h = rw h.1.0 wrong
  null-settles a vs (Def s n q w) (found is_label b) h = rw h.1 wrong
  null-settles a vs (Def s n q w) (found (is_class ts) b) h = rw h.1.0 (right-if true (65536 + a) p (some (reference a)) refl)
  null-settles a vs (Def s n q w) (found (is_field c t) b) h = rw (ne_eqb s 6 (λ z. omega (arith, h.1.0))) wrong
  null-settles a vs (Def s n q w) (found (is_procedure ts us) b) h = rw h.1.0 wrong
  null-settles a vs (Def s n q w) (found is_control b) h = rw h.1.0 wrong

  variable-settles : (a : ℕ) (vs : List ℕ) (f : Found) (g : names.Found) → Agrees l f g → Settled (found_by l 44 a p f vs) (named g variable_sort p) (variable_ty g)
  unfolding named_by
  variable-settles a vs Nothing nowhere h = undefined
  variable-settles a vs Nothing (found t b) h = absurd h
  variable-settles a vs (Def s n q w) nowhere h = absurd h
  variable-settles a vs (Def s n q w) (found (is_variable t) b) h = rw h.1.0 (right-if true n p (some t) h.1.1)
  variable-settles a vs (Def s n q w) (found is_label b) h = rw h.1 wrong
  variable-settles a vs (Def s n q w) (found (is_class ts) b) h = rw h.1.0 wrong
  variable-settles a vs (Def s n q w) (found (is_field c t) b) h = rw (ne_eqb s 4 (λ z. omega (arith, h.1.0)), ne_eqb s 8 (λ z. omega (arith, h.1.0))) wrong
  variable-settles a vs (Def s n q w) (found (is_procedure ts us) b) h = rw h.1.0 wrong
  variable-settles a vs (Def s n q w) (found is_control b) h = rw h.1.0 (right-if true n p (some integer) h.1.1)

  goto-settles : (a : ℕ) (vs : List ℕ) (f : Found) (g : names.Found) → Agrees l f g → Settled (found_by l 25 a p f vs) (aimed g p) (some integer)
  unfolding named_by
  goto-settles a vs Nothing nowhere h = undefined
  goto-settles a vs Nothing (found t b) h = absurd h
  goto-settles a vs (Def s n q w) nowhere h = absurd h
  goto-settles a vs (Def s n q w) (found (is_variable t) b) h = rw h.1.0 wrong
  goto-settles a vs (Def s n q w) (found is_label b) h = rw (h.1, h.0) (goes p b)
  goto-settles a vs (Def s n q w) (found (is_class ts) b) h = rw h.1.0 wrong
  goto-settles a vs (Def s n q w) (found (is_field c t) b) h = rw (ne_eqb s 5 (λ z. omega (arith, h.1.0))) wrong
  goto-settles a vs (Def s n q w) (found (is_procedure ts us) b) h = rw h.1.0 wrong
  goto-settles a vs (Def s n q w) (found is_control b) h = rw h.1.0 wrong

  make-settles : (a : ℕ) (xs : List (Option Ty)) (f : Found) (g : names.Found) → Agrees l f g → Settled (found_by l 47 a p f (map ty_num xs)) (named g (class_from (sequence xs)) p) (some (reference a))
  unfolding named_by
  make-settles a xs Nothing nowhere h = undefined
  make-settles a xs Nothing (found t b) h = absurd h
  make-settles a xs (Def s n q w) nowhere h = absurd h
  make-settles a xs (Def s n q w) (found (is_variable t) b) h = rw h.1.0 wrong
  make-settles a xs (Def s n q w) (found is_label b) h = rw h.1 wrong
  make-settles a xs (Def s n q w) (found (is_class ts) b) h = rw (h.1.0, fit-declared legible n q xs ts h.1.1) (right-if (fit_tys (sequence xs) ts) (65536 + a) p (some (reference a)) refl)
  make-settles a xs (Def s n q w) (found (is_field c t) b) h = rw (ne_eqb s 6 (λ z. omega (arith, h.1.0))) wrong
  make-settles a xs (Def s n q w) (found (is_procedure ts us) b) h = rw h.1.0 wrong
  make-settles a xs (Def s n q w) (found is_control b) h = rw h.1.0 wrong

  field-settles : (a : ℕ) (x : Option Ty) (f : Found) (g : names.Found) → Agrees l f g → Settled (found_by l 46 a p f (ty_num x ∷ [])) (named g (field_of x) p) (field_ty g)
  unfolding named_by
  field-settles a x Nothing nowhere h = undefined
  field-settles a x Nothing (found t b) h = absurd h
  field-settles a x (Def s n q w) nowhere h = absurd h
  field-settles a x (Def s n q w) (found (is_variable t) b) h = rw (ne_eqb s (ty_num x) (λ z. no-type 4 x (omega arith) (omega arith) (sym h.1.0 ∙ z))) wrong
  field-settles a x (Def s n q w) (found is_label b) h = rw (ne_eqb s (ty_num x) (λ z. no-type 5 x (omega arith) (omega arith) (sym h.1 ∙ z))) wrong
  field-settles a x (Def s n q w) (found (is_class ts) b) h = rw (ne_eqb s (ty_num x) (λ z. no-type 6 x (omega arith) (omega arith) (sym h.1.0 ∙ z))) wrong
  field-settles a x (Def s n q w) (found (is_field c t) b) h = rw (h.1.0, swapped c x) (right-if (is_ty (reference c) x) n p (some t) h.1.1)
  field-settles a x (Def s n q w) (found (is_procedure ts us) b) h = rw (ne_eqb s (ty_num x) (λ z. no-type 7 x (omega arith) (omega arith) (sym h.1.0 ∙ z))) wrong
  field-settles a x (Def s n q w) (found is_control b) h = rw (ne_eqb s (ty_num x) (λ z. no-type 8 x (omega arith) (omega arith) (sym h.1.0 ∙ z))) wrong

  invoke-settles : (a : ℕ) (xs : List (Option Ty)) (f : Found) (g : names.Found) → Agrees l f g → Settled (found_by l 45 a p f (map ty_num xs)) (named g (call_of 1 (sequence xs)) p) (result_ty g)
  unfolding named_by
  invoke-settles a xs Nothing nowhere h = undefined
  invoke-settles a xs Nothing (found t b) h = absurd h
  invoke-settles a xs (Def s n q w) nowhere h = absurd h
  invoke-settles a xs (Def s n q w) (found (is_variable t) b) h = rw h.1.0 wrong
  invoke-settles a xs (Def s n q w) (found is_label b) h = rw h.1 wrong
  invoke-settles a xs (Def s n q w) (found (is_class ts) b) h = rw h.1.0 wrong
  invoke-settles a xs (Def s n q w) (found (is_field c t) b) h = rw (ne_eqb s 7 (λ z. omega (arith, h.1.0))) wrong
  invoke-settles a xs (Def s n q w) (found (is_procedure ts []) b) h = rw (h.1.0, h.1.2) wrong
  invoke-settles a xs (Def s n q w) (found (is_procedure ts (t ∷ [])) b) h =
      rw (h.1.0, ne_eqb (n % 256) 0 (λ z. code-some t (sym h.1.2 ∙ z)), fit-declared legible (n / 256) q xs ts h.1.1)
      (right-if (fit_tys (sequence xs) ts) (n % 256) p (some t) h.1.2)
  invoke-settles a xs (Def s n q w) (found (is_procedure ts (t ∷ (u ∷ us))) b) h = absurd h.1.2
  invoke-settles a xs (Def s n q w) (found is_control b) h = rw h.1.0 wrong

  call-settles : (a : ℕ) (xs : List (Option Ty)) (f : Found) (g : names.Found) → Agrees l f g → Settled (found_by l 27 a p f (map ty_num xs)) (named g (call_of 0 (sequence xs)) p) (none)
  unfolding named_by
  call-settles a xs Nothing nowhere h = undefined
  call-settles a xs Nothing (found t b) h = absurd h
  call-settles a xs (Def s n q w) nowhere h = absurd h
  call-settles a xs (Def s n q w) (found (is_variable t) b) h = rw h.1.0 wrong
  call-settles a xs (Def s n q w) (found is_label b) h = rw h.1 wrong
  call-settles a xs (Def s n q w) (found (is_class ts) b) h = rw h.1.0 wrong
  call-settles a xs (Def s n q w) (found (is_field c t) b) h = rw (ne_eqb s 7 (λ z. omega (arith, h.1.0))) wrong
  call-settles a xs (Def s n q w) (found (is_procedure ts []) b) h =
      rw (h.1.0, eq-eqb (n % 256) 0 h.1.2, fit-declared legible (n / 256) q xs ts h.1.1) (right-if (fit_tys (sequence xs) ts) (n % 256) p none h.1.2)
  call-settles a xs (Def s n q w) (found (is_procedure ts (t ∷ [])) b) h = rw (h.1.0, ne_eqb (n % 256) 0 (λ z. code-some t (sym h.1.2 ∙ z))) wrong
  call-settles a xs (Def s n q w) (found (is_procedure ts (t ∷ (u ∷ us))) b) h = absurd h.1.2
  call-settles a xs (Def s n q w) (found is_control b) h = rw h.1.0 wrong

-- ── control names ──
-- what was found is a control name
abbrev pub controlled : names.Found → Bool
controlled nowhere = false
controlled (found (is_variable t) b) = false
controlled (found is_label b) = false
controlled (found (is_class ts) b) = false
controlled (found (is_field c t) b) = false
controlled (found (is_procedure ts us) b) = false
controlled (found is_control b) = true

pub control-found : (l : List ℕ) (f : Found) (g : names.Found) → Agrees l f g → controls f ≡ controlled g
control-found l Nothing nowhere h = refl
control-found l Nothing (found t b) h = absurd h
control-found l (Def s n q w) nowhere h = absurd h
control-found l (Def s n q w) (found (is_variable t) b) h = rw h.1.0
control-found l (Def s n q w) (found is_label b) h = rw h.1
control-found l (Def s n q w) (found (is_class ts) b) h = rw h.1.0
control-found l (Def s n q w) (found (is_field c t) b) h = ne_eqb s 8 (λ z. omega (arith, h.1.0))
control-found l (Def s n q w) (found (is_procedure ts us) b) h = rw h.1.0
control-found l (Def s n q w) (found is_control b) h = rw h.1.0

-- as a target a name has the faults that it has as an expression, and is at fault where it is a control name
pub target-named : (g : names.Found) (p : ℕ) → named g assignable_sort p ≡ fault_if (controlled g) 4 p ++ named g variable_sort p
target-named nowhere p = refl
target-named (found (is_variable t) b) p = refl
target-named (found is_label b) p = refl
target-named (found (is_class ts) b) p = refl
target-named (found (is_field c t) b) p = refl
target-named (found (is_procedure ts us) b) p = refl
target-named (found is_control b) p = refl

joined : (x y : Bool) (n : ℕ) → if_both x y n ≡ if_both (x && y) true n
joined true true n = refl
joined true false n = refl
joined false y n = refl

some_same : (u w : Option Ty) → same_ty u w ≡ true → ¬ (ty_num u ≡ 0)
some_same none w e z = clash (cc)
some_same (some t) w e z = code-some t z

-- start, step and limit of a for
pub counted-says : (t u w : Option Ty) (p : ℕ) → Says (counted_by p (map ty_num (t ∷ u ∷ w ∷ []))) (mistyped_unless (is_ty integer t && (is_ty integer u && is_ty integer w)) p)
counted-says t u w p = rw (is_number integer t, is_number integer u, is_number integer w) (go (eqb (ty_num t) 1) (eqb (ty_num u) 1) (eqb (ty_num w) 1) refl)
  where
    go : (x y z : Bool) → eqb (ty_num w) 1 ≡ z → Says (right_if (eqb (if_both x y (ty_num w)) 1) 1 p) (mistyped_unless (x && (y && z)) p)
    go true true true e = rw e
    go true true false e = rw e ([], refl)
    go true false z e = ([], refl)
    go false y z e = ([], refl)

-- a conditional, whose type is that of its branches
choice : (x y : Bool) (u : Option Ty) (n p : ℕ) → (y ≡ true → ¬ (ty_num u ≡ 0)) → n ≡ if_both x true (if_both y true (ty_num u)) → Settled (right_if (not (eqb n 0)) n p) (mistyped_unless (x && y) p) u
choice true true u n p k e = rw (e, ne_eqb (ty_num u) 0 (k refl)) (record { says = refl; types = refl })
choice true false u n p k e = rw e (record { says = ([], refl); types = tt })
choice false y u n p k e = rw e (record { says = ([], refl); types = tt })

-- ── every operation ──
module _ {l : List ℕ} (legible : Legible l) (p : ℕ) {v : List Item} {ss : List Scope} (see : Sees l v ss) where
  pub settles : (o : Operation) (ts : List (Option Ty)) → Takes o (length ts) → name_op o < 65536
      → Settled (settled_by l (kind_op o) (name_op o) p (find (name_op o) v) (map ty_num ts)) (own ss o ts p) (gives ss o ts)
  unfolding settled_by names_by typed_by
  settles (null_of a) ts k small = null-settles legible p a (map ty_num ts) (find a v) (lookup a ss) (see.sees a small)
  settles (variable_of a) ts k small = variable-settles legible p a (map ty_num ts) (find a v) (lookup a ss) (see.sees a small)
  settles (goes_to a) ts k small = goto-settles legible p a (map ty_num ts) (find a v) (lookup a ss) (see.sees a small)
  settles (makes a) ts k small = make-settles legible p a ts (find a v) (lookup a ss) (see.sees a small)
  settles (invokes a) ts k small = invoke-settles legible p a ts (find a v) (lookup a ss) (see.sees a small)
  settles (calls a) ts k small = call-settles legible p a ts (find a v) (lookup a ss) (see.sees a small)
  settles (field_at a) [] k small = absurd (omega arith)
  settles (field_at a) (t ∷ []) k small = field-settles legible p a t (find a v) (lookup a ss) (see.sees a small)
  settles (field_at a) (t ∷ (u ∷ ts)) k small = absurd (omega arith)
  settles (numeral z) ts k small = record { says = refl; types = refl }
  settles (truth z) ts k small = record { says = refl; types = refl }
  settles (pattern z) ts k small = record { says = refl; types = refl }
  settles (unary_op o) [] k small = absurd (omega arith)
  settles (unary_op o) (t ∷ []) k small = right-type (oper_ty (unary o) (t ∷ [])) _ p (unary-number o t 0)
  settles (unary_op o) (t ∷ (u ∷ ts)) k small = absurd (omega arith)
  settles (binary_op o) [] k small = absurd (omega arith)
  settles (binary_op o) (t ∷ []) k small = absurd (omega arith)
  settles (binary_op o) (t ∷ (u ∷ [])) k small = right-type (oper_ty (binary o) (t ∷ (u ∷ []))) _ p (binary-number o t u)
  settles (binary_op o) (t ∷ (u ∷ (w ∷ ts))) k small = absurd (omega arith)
  settles reads [] k small = absurd (omega arith)
  settles reads (t ∷ []) k small = right-test (is_ty integer t) integer (if_both (eqb (ty_num t) 1) true 1) p (rw (is_number integer t))
  settles reads (t ∷ (u ∷ ts)) k small = absurd (omega arith)
  settles asserts [] k small = absurd (omega arith)
  settles asserts (t ∷ []) k small = right-test (is_ty logical t) integer (if_both (eqb (ty_num t) 2) true 1) p (rw (is_number logical t))
  settles asserts (t ∷ (u ∷ ts)) k small = absurd (omega arith)
  settles assigns [] k small = absurd (omega arith)
  settles assigns (t ∷ []) k small = absurd (omega arith)
  settles assigns (t ∷ (u ∷ [])) k small = right-test (fits_ty u t) integer _ p (both-fit t u 1)
  settles assigns (t ∷ (u ∷ (w ∷ ts))) k small = absurd (omega arith)
  settles sets [] k small = absurd (omega arith)
  settles sets (t ∷ []) k small = absurd (omega arith)
  settles sets (t ∷ (u ∷ [])) k small =
      right-test (is_ty integer t && is_ty integer u) integer (if_both (eqb (ty_num t) 1) (eqb (ty_num u) 1) 1) p
      (rw (is_number integer t, is_number integer u) (joined (eqb (ty_num t) 1) (eqb (ty_num u) 1) 1))
  settles sets (t ∷ (u ∷ (w ∷ ts))) k small = absurd (omega arith)
  settles chooses [] k small = absurd (omega arith)
  settles chooses (t ∷ []) k small = absurd (omega arith)
  settles chooses (t ∷ (u ∷ [])) k small = absurd (omega arith)
  settles chooses (t ∷ (u ∷ (w ∷ []))) k small =
      choice (is_ty logical t) (same_ty u w) u (if_both (eqb (ty_num t) 2) true (if_both (eqb (ty_num u) (ty_num w)) (not (eqb (ty_num u) 0)) (ty_num u))) p
      (some_same u w) (rw (is_number logical t, both-same u w (ty_num u)))
  settles chooses (t ∷ (u ∷ (w ∷ (x ∷ ts)))) k small = absurd (omega arith)
