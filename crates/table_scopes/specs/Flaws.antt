-- The faults of declarations near the code, and what an answer says of a list of faults.
use Rattle.std.specs.Prelude.{◌≡◌, Option, Some, None, Result, Ok, Err, List, [], ◌∷◌, ◌++◌, ℕ, zero, suc, ◌+◌, ◌-◌, ◌<◌, eqb, ltb}
use Rattle.std.proofs.Common.{ap, sym, arith, eq-eqb, ne_eqb}
use Rattle.logic.specs.Choice.{If◌then◌else◌}
use Rattle.values.specs.Ends.{Refusal, refusal}
use Rattle.table_scopes.specs.Environment.{Item, Found, found_of, Nothing, Def, find}
use Rattle.table_entries.specs.declared.Fault.{Fault}
use Rattle.table_entries.specs.Faults.{refusal_of}
use Rattle.table_entries.specs.declared.Fault.TheVariants.{Unnamed, Mistyped}
use Rattle.table_scopes.specs.declared.environment.Definition.{Definition}
use Rattle.table_scopes.specs.Items.{kind_at, a_at, b_at}

-- what a judgement answers: the number of a type, or what is wrong
abbrev pub Verdict : Type 0
Verdict = Result ℕ Fault

-- an answer gives the first of the faults, if there is one
abbrev pub Says : Verdict → List Refusal → Type 0
Says (Ok t) fs = fs ≡ []
Says (Err f) fs = (rest : List Refusal) × (fs ≡ refusal_of f ∷ rest)

pub says_first : (r : Verdict) (f : Fault) (fs gs : List Refusal) → r ≡ Err f → Says r fs → Says (Err f) (fs ++ gs)
says_first (Ok t) f fs gs e h = absurd (let z : ◌≡◌ {A = ℕ} 0 1 = cc in omega arith)
says_first (Err g) f fs gs e (rest, h) = (rest ++ gs, let x : g ≡ f = cc in rw (h, x))

pub says_then : (r s : Verdict) (t : ℕ) (fs gs : List Refusal) → r ≡ Ok t → Says r fs → Says s gs → Says s (fs ++ gs)
says_then (Ok u) s t fs gs e h k = rw h k
says_then (Err f) s t fs gs e h k = absurd (let z : ◌≡◌ {A = ℕ} 0 1 = cc in omega arith)

-- no fault where nothing is wrong
pub says-fine : (r : Verdict) (t : ℕ) (fs : List Refusal) → r ≡ Ok t → Says r fs → fs ≡ []
says-fine (Ok u) t fs e h = h
says-fine (Err f) t fs e h = absurd (let z : ◌≡◌ {A = ℕ} 0 1 = cc in omega arith)

-- a name is defined at p: what is found of it must be this definition
abbrev pub once_of : Found → ℕ → List Refusal
once_of Nothing p = refusal 3 p ∷ []
once_of (Def s n q w) p = If eqb q p then [] else refusal 3 p ∷ []

abbrev pub once_flaw : List Item → ℕ → ℕ → List Refusal
once_flaw v a p = once_of (find a v) p

-- the class that a type names
abbrev pub class_of : Found → ℕ → List Refusal
class_of Nothing p = refusal 3 p ∷ []
class_of (Def s n q w) p = If eqb s 6 then [] else refusal 4 p ∷ []

abbrev pub class_flaw : List Item → ℕ → ℕ → List Refusal
class_flaw v t p = If ltb t 65536 then [] else class_of (find (t - 65536) v) p

unfoldable pub decl_flaws : List ℕ → List Item → ℕ → List Refusal
decl_flaws l v p = If eqb (kind_at l p) 10 then once_flaw v (a_at l p) p ++ class_flaw v (b_at l p) p else []

unfoldable pub head_flaws : List ℕ → List Item → ℕ → ℕ → List Refusal
head_flaws l v p zero = []
head_flaws l v p (suc n) = decl_flaws l v p ++ head_flaws l v (p + 1) n

pub head_more : (l : List ℕ) (v : List Item) (p n : ℕ) → 0 < n → head_flaws l v p n ≡ decl_flaws l v p ++ head_flaws l v (p + 1) (n - 1)
unfolding head_flaws
head_more l v p n h = let e : n ≡ suc (n - 1) = omega arith in ap (head_flaws l v p) e

pub head-start : (l : List ℕ) (v : List Item) (p n : ℕ) → head_flaws l v p n ≡ head_flaws l v p (p + n - p)
head-start l v p n = let e : n ≡ p + n - p = omega arith in ap (head_flaws l v p) e

pub head_next : (l : List ℕ) (v : List Item) (p e : ℕ) → p < e → head_flaws l v p (e - p) ≡ decl_flaws l v p ++ head_flaws l v (p + 1) (e - (p + 1))
unfolding head_flaws
head_next l v p e h = let k : e - p ≡ suc (e - (p + 1)) = omega arith in ap (head_flaws l v p) k

pub head-none : (l : List ℕ) (v : List Item) (p n : ℕ) → n ≡ 0 → head_flaws l v p n ≡ []
unfolding head_flaws
head-none l v p n e = rw e

pub decl-is : (l : List ℕ) (v : List Item) (p : ℕ) → kind_at l p ≡ 10 → decl_flaws l v p ≡ once_flaw v (a_at l p) p ++ class_flaw v (b_at l p) p
unfolding decl_flaws
decl-is l v p e = rw (eq-eqb _ _ e)

pub decl-not : (l : List ℕ) (v : List Item) (p : ℕ) → ¬ (kind_at l p ≡ 10) → decl_flaws l v p ≡ []
unfolding decl_flaws
decl-not l v p e = rw (ne_eqb _ _ e)

-- what is found decides
module _ {r : Option Definition} {f : Found} {p : ℕ} (e : found_of r ≡ f) where
  pub once-nothing : r ≡ None → Says (Err (Unnamed p)) (once_of f p)
  once-nothing z = ([], rw (sym e, z))

  pub once-this : {d : Definition} (t : ℕ) → r ≡ Some d → d.place ≡ p → Says (Ok t) (once_of f p)
  once-this t z k = rw (sym e, z, eq-eqb _ _ k)

  pub once-other : {d : Definition} → r ≡ Some d → ¬ (d.place ≡ p) → Says (Err (Unnamed p)) (once_of f p)
  once-other z k = ([], rw (sym e, z, ne_eqb _ _ k))

  pub class-nothing : r ≡ None → Says (Err (Unnamed p)) (class_of f p)
  class-nothing z = ([], rw (sym e, z))

  pub class-wrong : {d : Definition} → r ≡ Some d → ¬ (d.sort ≡ 6) → Says (Err (Mistyped p)) (class_of f p)
  class-wrong z k = ([], rw (sym e, z, ne_eqb _ _ k))

pub class-right : {r : Option Definition} {f : Found} {d : Definition} (p t : ℕ) → found_of r ≡ f → r ≡ Some d → d.sort ≡ 6 → Says (Ok t) (class_of f p)
class-right p t e z k = rw (sym e, z, eq-eqb _ _ k)
