-- Operands that an op takes, the tests of a step that are known to hold, and where a caller goes on.
use Rattle.std.specs.Prelude.{◌≡◌, refl, Bool, true, false, ℕ, zero, suc, ◌≤◌, ◌<◌, ℤ, length, take}
use Rattle.std.proofs.Math.Path.{ap}
use Rattle.std.proofs.Common.{sym, ◌∙◌, subst, arith, length-append}
use mathlib.Core.List.{List, [], ◌∷◌, ◌++◌, reverse, reverse_aux}
use Rattle.std.proofs.Math.Option.{Option, some}
use Rattle.std.proofs.lemmas.List.{length-reverse}
use Rattle.logic.specs.Lists.{all}
use Rattle.logic.specs.Choice.{If◌then◌else◌}
use Rattle.values.specs.Types.{Ty, integer, logical, reference, fits, all_fit}
use Rattle.values.specs.Values.{Value, ref, ty_of, tys_of, as_integer, as_logical, Reference, as_reference}
use Rattle.bytecode.specs.Macro.{Body, shape, Macro}
use Rattle.bytecode.specs.Instructions.{call, body_at, procedure_at}
use Rattle.bytecode.specs.Rules.{on_stack}
use Rattle.bytecode.specs.Machine.{Activation, Made, Machine, Stuck, Stepped, bad_type, demand, pop, given, pop_many}
use Rattle.bytecode.specs.Sound.{sound_value, parameters_of}
use Rattle.logic.specs.Tests.{never, both, halves}
use Rattle.logic.specs.OptionLaws.{same_some}
use Rattle.values.specs.Identical.{fits→≡, length_types}
use Rattle.bytecode_laws.specs.Terms.{Passed, Allowed, Takes, Finds}
use Rattle.bytecode_laws.specs.Takes.{takes-some, takes_first}
use Rattle.bytecode_laws.specs.Promises.{ops}
use Rattle.bytecode_safety.specs.Terms.{Steps}
use Rattle.bytecode_safety.specs.Operators.{on-integer, on-logical, on-reference}
use Rattle.bytecode_safety.specs.Lists.{all-parts, all-reverse, all_first, all_none, tys-append, tys-reverse, tys-first, append-same, pops}
use Rattle.bytecode_safety.specs.States.{Waits}

-- a list of types, reversed twice
reverse_twice : (ts us vs : List Ty) → reverse_aux (reverse_aux ts us) vs ≡ reverse_aux us (ts ++ vs)
reverse_twice [] us vs = refl
reverse_twice (t ∷ ts) us vs = reverse_twice ts (t ∷ us) vs

append-nil : (ts : List Ty) → ts ++ [] ≡ ts
append-nil [] = refl
append-nil (t ∷ ts) = ap (λ x. t ∷ x) (append-nil ts)

reverse-reverse : (ts : List Ty) → reverse (reverse ts) ≡ ts
reverse-reverse ts = reverse_twice ts [] [] ∙ append-nil ts

-- types that fit others, counted and turned
fit_length : (us ts : List Ty) → all_fit us ts ≡ true → length us ≡ length ts
unfolding all_fit
fit_length [] [] h = refl
fit_length [] (t ∷ ts) h = never h
fit_length (u ∷ us) [] h = never h
fit_length (u ∷ us) (t ∷ ts) h = ap suc (fit_length us ts (halves (fits u t) (all_fit us ts) h).1)

fit-onto : (us ts vs xs : List Ty) → all_fit us ts ≡ true → all_fit vs xs ≡ true → all_fit (reverse_aux us vs) (reverse_aux ts xs) ≡ true
unfolding all_fit
fit-onto [] [] vs xs h k = k
fit-onto [] (t ∷ ts) vs xs h k = never h
fit-onto (u ∷ us) [] vs xs h k = never h
fit-onto (u ∷ us) (t ∷ ts) vs xs h k =
    let q = halves (fits u t) (all_fit us ts) h in fit-onto us ts (u ∷ vs) (t ∷ xs) q.1 (both q.0 k)

fit-turned : (us ts : List Ty) → all_fit us (reverse ts) ≡ true → all_fit (reverse us) ts ≡ true
fit-turned us ts h = subst (λ z. all_fit (reverse us) z ≡ true) (reverse-reverse ts) (fit-onto us (reverse ts) [] [] h (unfold all_fit in refl))

pub empty : {A : Type 0} (xs : List A) → length xs ≡ 0 → xs ≡ []
empty [] h = refl
empty (x ∷ xs) h = absurd (omega arith)

-- a value on top of the stack that fits the first type asked for; under it lie those that fit the others
pub record OnTop (rs : List Made) (vs : List Value) (t : Ty) (ts under : List Ty) : Type 0 where
  pub value : Value
  pub others : List Value
  pub is : vs ≡ value ∷ others
  pub fit : fits (ty_of value) t ≡ true
  pub next : Takes ts (tys_of others) under
  pub it-sound : sound_value rs value ≡ true
  pub they-sound : all (sound_value rs) others ≡ true

pub on-top : (rs : List Made) (vs : List Value) (t : Ty) (ts under : List Ty) → Takes (t ∷ ts) (tys_of vs) under → all (sound_value rs) vs ≡ true
    → OnTop rs vs t ts under
on-top rs vs t ts under x a =
    let n = takes-some t ts (tys_of vs) under x in
    let q = tys-first vs n.0 n.1 n.2 in
    let b = all_first (sound_value rs) q.0 q.1 (subst (λ y. all (sound_value rs) y ≡ true) q.2 a) in
    let e : tys_of vs ≡ ty_of q.0 ∷ tys_of q.1 = unfold tys_of in ap tys_of q.2 in
    let d = takes_first (ty_of q.0) t ts (tys_of q.1) under (subst (λ y. Takes (t ∷ ts) y under) e x) in
    record { value = q.0; others = q.1; is = q.2; fit = d.0; next = d.1; it-sound = b.0; they-sound = b.1 }

-- a value of this very type on top of others of these
pub record Exactly (rs : List Made) (vs : List Value) (t : Ty) (ts : List Ty) : Type 0 where
  pub value : Value
  pub others : List Value
  pub is : vs ≡ value ∷ others
  pub its-type : ty_of value ≡ t
  pub their-types : tys_of others ≡ ts
  pub it-sound : sound_value rs value ≡ true
  pub they-sound : all (sound_value rs) others ≡ true

pub exactly : (rs : List Made) (vs : List Value) (t : Ty) (ts : List Ty) → tys_of vs ≡ t ∷ ts → all (sound_value rs) vs ≡ true → Exactly rs vs t ts
exactly rs vs t ts h a =
    let q = tys-first vs t ts h in
    let b = all_first (sound_value rs) q.0 q.1 (subst (λ x. all (sound_value rs) x ≡ true) q.2 a) in
    record { value = q.0; others = q.1; is = q.2; its-type = q.3; their-types = q.4; it-sound = b.0; they-sound = b.1 }

-- as many values as types are asked for, the last on top
pub record Taken (rs : List Made) (vs : List Value) (ts under : List Ty) (g : List Value → List Value → Stepped) : Type 0 where
  pub values : List Value
  pub others : List Value
  pub pops-to : pop_many (length ts) [] vs g ≡ g values others
  pub fit : all_fit (tys_of values) ts ≡ true
  pub parts : tys_of vs ≡ reverse (tys_of values) ++ tys_of others
  pub other-types : tys_of others ≡ under
  pub values-sound : all (sound_value rs) values ≡ true
  pub others-sound : all (sound_value rs) others ≡ true

pub take-off : (rs : List Made) (vs : List Value) (ts under : List Ty) (g : List Value → List Value → Stepped)
    → Takes (on_stack ts) (tys_of vs) under → all (sound_value rs) vs ≡ true → Taken rs vs ts under g
unfolding tys_of
take-off rs vs ts under g x a =
    let count = fit_length x.taken (reverse ts) x.fit in
    let n : length ts ≤ length vs = omega (arith, length_types vs, ap length x.parts, length-append x.taken under, count, length-reverse ts) in
    let p = pops (length ts) [] vs g n in
    let xs = p.0 in let us = p.1 in
    let e : tys_of xs ++ tys_of us ≡ x.taken ++ under = sym (tys-append xs us) ∙ ap tys_of (sym p.3) ∙ x.parts in
    let q = append-same (tys_of xs) x.taken (tys_of us) under e (length_types xs ∙ p.4 ∙ sym (length-reverse ts) ∙ sym count) in
    let s = all-parts (sound_value rs) xs us (subst (λ x. all (sound_value rs) x ≡ true) p.3 a) in
    let r : tys_of (reverse xs) ≡ reverse x.taken = tys-reverse xs [] ∙ ap reverse q.0 in
    record {
      values = reverse xs;
      others = us;
      pops-to = p.2;
      fit = subst (λ z. all_fit z ts ≡ true) (sym r) (fit-turned x.taken ts x.fit);
      parts = ap tys_of p.3 ∙ tys-append xs us ∙ ap (λ z. z ++ tys_of us) (q.0 ∙ sym (reverse-reverse x.taken) ∙ ap reverse (sym r));
      other-types = q.1;
      values-sound = all-reverse (sound_value rs) xs [] s.0 (all_none (sound_value rs));
      others-sound = s.1;
    }

-- the activation that a call leaves waiting goes on with the body's results
pub resumes : (m : Macro) → Passed m → (rs : List Made) (k : ℕ) (f : Activation) → Waits m rs k f
    → (b : Body) × (0 < k) × (body_at m k ≡ some b)
    × Allowed m f.body (suc f.address) (shape (length f.holds) (b.results ++ tys_of f.operands))
resumes m w rs k f s =
    let sh = shape (length f.holds) (on_stack (parameters_of (body_at m k)) ++ tys_of f.operands) in
    let o = ops m w f.body f.address sh s.stands.allowed in
    let e : o.0 ≡ call k = same_some (sym o.1 ∙ s.calls) in
    let d : Finds m f.body f.address sh (call k) = subst (λ x. Finds m f.body f.address sh x) e o.2 in
    let b = d.0 in
    let ps = on_stack (take b.parameters b.cells) in
    let x = d.3.1 in
    let p : ps ++ tys_of f.operands ≡ x.taken ++ d.3.0 =
    subst (λ z. on_stack (parameters_of z) ++ tys_of f.operands ≡ x.taken ++ d.3.0) d.2 x.parts in
    let u = (append-same ps x.taken (tys_of f.operands) d.3.0 p (sym (fit_length x.taken ps x.fit))).1 in
    (b, d.1, d.2, subst (λ x. Allowed m f.body (suc f.address) (shape (length f.holds) (b.results ++ x))) (sym u) d.3.2)

pub not_root : (m : Macro) (k : ℕ) → 0 < k → procedure_at m k ≡ body_at m k
not_root m zero h = absurd (omega arith)
not_root m (suc k) h = refl

-- ── the ways of a step, where each test is known ──
module _ (m : Macro) (s : Machine) where
  pub demanded : (b : Bool) (why : Stuck) (x : Stepped) → b ≡ true → Steps m s x → Steps m s (demand b why x)
  demanded true why x e h = h
  demanded false why x e h = never e

  pub chosen : (b : Bool) (x y : Stepped) → (b ≡ true → Steps m s x) → (b ≡ false → Steps m s y) → Steps m s (If b then x else y)
  chosen true x y f g = f refl
  chosen false x y f g = g refl

  pub supplied : {A : Type 0} (o : Option A) (why : Stuck) (f : A → Stepped) (a : A) → o ≡ some a → Steps m s (f a) → Steps m s (given o why f)
  supplied o why f a e h = subst (λ o. Steps m s (given o why f)) (sym e) h

  pub topped : (vs : List Value) (v : Value) (us : List Value) (f : Value → List Value → Stepped) → vs ≡ v ∷ us → Steps m s (f v us) → Steps m s (pop vs f)
  topped vs v us f e h = subst (λ vs. Steps m s (pop vs f)) (sym e) h

  -- an operand asked for by its type
  pub an-integer : (v : Value) (f : ℤ → Stepped) → fits (ty_of v) integer ≡ true → ((z : ℤ) → Steps m s (f z))
      → Steps m s (given (as_integer v) bad_type f)
  an-integer v f e h = on-integer (λ v. Steps m s (given (as_integer v) bad_type f)) v (fits→≡ (ty_of v) integer e) h

  pub a-logical : (v : Value) (f : Bool → Stepped) → fits (ty_of v) logical ≡ true → ((b : Bool) → Steps m s (f b))
      → Steps m s (given (as_logical v) bad_type f)
  a-logical v f e h = on-logical (λ v. Steps m s (given (as_logical v) bad_type f)) v (fits→≡ (ty_of v) logical e) h

  pub a-reference : (rs : List Made) (v : Value) (c : ℕ) (f : Reference → Stepped) → fits (ty_of v) (reference c) ≡ true → sound_value rs v ≡ true
      → ((n : Option ℕ) → sound_value rs (ref c n) ≡ true → Steps m s (f (record { class = c; target = n })))
      → Steps m s (given (as_reference v) bad_type f)
  a-reference rs v c f e x h =
      on-reference (λ v. sound_value rs v ≡ true → Steps m s (given (as_reference v) bad_type f)) v c (fits→≡ (ty_of v) (reference c) e) h x
