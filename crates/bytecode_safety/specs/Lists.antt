-- Laws of lists of values and cells: their types, tests of every element, operands taken off.
use Rattle.std.specs.Prelude.{◌≡◌, Bool, true, length, set as put}
use Rattle.std.proofs.Math.Path.{refl}
use Rattle.std.proofs.Common.{ap, ap₂, sym, ◌∙◌, arith}
use mathlib.Core.List.{List, [], ◌∷◌, ◌++◌, map, reverse_aux}
use Rattle.std.proofs.Math.Option.{some}
use Prim.Native.Nat.{ℕ, zero, suc, ◌≤◌}
use Rattle.std.proofs.Math.ListN.{get_elem?}
use Rattle.logic.specs.Lists.{all}
use Rattle.values.specs.Types.{Ty, integer, logical, bits, reference}
use Rattle.values.specs.Values.{Value, ty_of, tys_of, Cell, assigned, ty_of_cell, initial, fresh_all}
use Rattle.bytecode.specs.Machine.{Made, Stepped, pop_many, assign_all}
use Rattle.bytecode.specs.Sound.{sound_value, sound_cell}
use Rattle.logic.specs.OptionLaws.{never-some, same_some}
use Rattle.logic.specs.Tests.{both, halves}

-- ── every element ──
module _ {A : Type 0} (p : A → Bool) where
  pub all_append : (xs ys : List A) → all p xs ≡ true → all p ys ≡ true → all p (xs ++ ys) ≡ true
  unfolding all
  all_append [] ys a b = b
  all_append (x ∷ xs) ys a b = let q = halves (p x) (all p xs) a in both q.0 (all_append xs ys q.1 b)

  pub all-parts : (xs ys : List A) → all p (xs ++ ys) ≡ true → (all p xs ≡ true) × (all p ys ≡ true)
  unfolding all
  all-parts [] ys a = (refl, a)
  all-parts (x ∷ xs) ys a = let q = halves (p x) (all p (xs ++ ys)) a in let r = all-parts xs ys q.1 in (both q.0 r.0, r.1)

  pub all-at : (xs : List A) (i : ℕ) (x : A) → all p xs ≡ true → get_elem? xs i ≡ some x → p x ≡ true
  unfolding all
  all-at [] i x a h = never-some h
  all-at (y ∷ xs) zero x a h = let e : y ≡ x = cc in rw e at (halves (p y) (all p xs) a).0
  all-at (y ∷ xs) (suc i) x a h = all-at xs i x (halves (p y) (all p xs) a).1 h

  pub all-put : (xs : List A) (i : ℕ) (x : A) → all p xs ≡ true → p x ≡ true → all p (put xs i x) ≡ true
  unfolding all
  all-put [] zero x a h = refl
  all-put [] (suc i) x a h = refl
  all-put (y ∷ xs) zero x a h = both h (halves (p y) (all p xs) a).1
  all-put (y ∷ xs) (suc i) x a h = let q = halves (p y) (all p xs) a in both q.0 (all-put xs i x q.1 h)

  pub all-reverse : (xs ys : List A) → all p xs ≡ true → all p ys ≡ true → all p (reverse_aux xs ys) ≡ true
  unfolding all
  all-reverse [] ys a b = b
  all-reverse (x ∷ xs) ys a b = let q = halves (p x) (all p xs) a in all-reverse xs (x ∷ ys) q.1 (both q.0 b)

pub all_weaker : {A : Type 0} (p q : A → Bool) → ((x : A) → p x ≡ true → q x ≡ true) → (xs : List A) → all p xs ≡ true → all q xs ≡ true
unfolding all
all_weaker p q f [] a = refl
all_weaker p q f (x ∷ xs) a = let r = halves (p x) (all p xs) a in both (f x r.0) (all_weaker p q f xs r.1)

-- the first element and the others
pub all_first : {A : Type 0} (p : A → Bool) (x : A) (xs : List A) → all p (x ∷ xs) ≡ true → (p x ≡ true) × (all p xs ≡ true)
unfolding all
all_first p x xs a = halves (p x) (all p xs) a

pub all_cons : {A : Type 0} (p : A → Bool) (x : A) (xs : List A) → p x ≡ true → all p xs ≡ true → all p (x ∷ xs) ≡ true
unfolding all
all_cons p x xs a b = both a b

pub all_none : {A : Type 0} (p : A → Bool) → all p [] ≡ true
unfolding all
all_none p = refl

-- ── types ──

pub tys-append : (vs ws : List Value) → tys_of (vs ++ ws) ≡ tys_of vs ++ tys_of ws
unfolding tys_of
tys-append [] ws = refl
tys-append (v ∷ vs) ws = ap (λ ts. ty_of v ∷ ts) (tys-append vs ws)

pub tys-reverse : (vs ws : List Value) → tys_of (reverse_aux vs ws) ≡ reverse_aux (tys_of vs) (tys_of ws)
unfolding tys_of
tys-reverse [] ws = refl
tys-reverse (v ∷ vs) ws = tys-reverse vs (v ∷ ws)

pub tys-none : (vs : List Value) → tys_of vs ≡ [] → vs ≡ []
unfolding tys_of
tys-none [] h = refl
tys-none (v ∷ vs) h = let z : ◌≡◌ {A = ℕ} 0 1 = cc h in absurd (omega arith)

-- an operand on top
pub tys-first : (vs : List Value) (t : Ty) (ts : List Ty) → tys_of vs ≡ t ∷ ts → (v : Value) × (us : List Value) × (vs ≡ v ∷ us) × (ty_of v ≡ t)
    × (tys_of us ≡ ts)
unfolding tys_of
tys-first [] t ts h = let z : ◌≡◌ {A = ℕ} 0 1 = cc h in absurd (omega arith)
tys-first (v ∷ us) t ts h = (v, us, refl, cc, cc)

pub tys_at : (vs : List Value) (i : ℕ) (t : Ty) → get_elem? (tys_of vs) i ≡ some t → (v : Value) × (get_elem? vs i ≡ some v) × (ty_of v ≡ t)
unfolding tys_of
tys_at [] i t h = never-some h
tys_at (v ∷ vs) zero t h = (v, refl, same_some h)
tys_at (v ∷ vs) (suc i) t h = tys_at vs i t h

pub tys-put : (vs : List Value) (i : ℕ) (u v : Value) → get_elem? vs i ≡ some u → ty_of v ≡ ty_of u → tys_of (put vs i v) ≡ tys_of vs
unfolding tys_of
tys-put [] i u v h e = never-some h
tys-put (x ∷ vs) zero u v h e = let q : x ≡ u = cc in ap (λ t. t ∷ tys_of vs) (e ∙ ap (λ (y : Value). ty_of y) (sym q))
tys-put (x ∷ vs) (suc i) u v h e = ap (λ ts. ty_of x ∷ ts) (tys-put vs i u v h e)

-- ── cells ──
pub cell-at : (cs : List Cell) (i : ℕ) (t : Ty) → get_elem? (map ty_of_cell cs) i ≡ some t
    → (v : Value) × (get_elem? cs i ≡ some (assigned v)) × (ty_of v ≡ t)
cell-at [] i t h = never-some h
cell-at (assigned v ∷ cs) zero t h = (v, refl, same_some h)
cell-at (assigned v ∷ cs) (suc i) t h = cell-at cs i t h

pub cells-put : (cs : List Cell) (i : ℕ) (v w : Value) → get_elem? cs i ≡ some (assigned w) → ty_of v ≡ ty_of w
    → map ty_of_cell (put cs i (assigned v)) ≡ map ty_of_cell cs
cells-put [] i v w h e = never-some h
cells-put (c ∷ cs) zero v w h e =
    let q : c ≡ assigned w = cc in ap (λ t. t ∷ map ty_of_cell cs) (e ∙ ap (λ (y : Cell). ty_of_cell y) (sym q))
cells-put (c ∷ cs) (suc i) v w h e = ap (λ ts. ty_of_cell c ∷ ts) (cells-put cs i v w h e)

pub cells-append : (cs ds : List Cell) → map ty_of_cell (cs ++ ds) ≡ map ty_of_cell cs ++ map ty_of_cell ds
cells-append [] ds = refl
cells-append (c ∷ cs) ds = ap (λ ts. ty_of_cell c ∷ ts) (cells-append cs ds)

pub assigned-types : (vs : List Value) → map ty_of_cell (assign_all vs) ≡ tys_of vs
unfolding assign_all tys_of
assigned-types [] = refl
assigned-types (v ∷ vs) = ap (λ ts. ty_of v ∷ ts) (assigned-types vs)

pub assigned-sound : (rs : List Made) (vs : List Value) → all (sound_value rs) vs ≡ true → all (sound_cell rs) (assign_all vs) ≡ true
unfolding all assign_all
assigned-sound rs [] a = refl
assigned-sound rs (v ∷ vs) a = let q = halves (sound_value rs v) (all (sound_value rs) vs) a in both q.0 (assigned-sound rs vs q.1)

initial-type : (t : Ty) → ty_of (initial t) ≡ t
initial-type integer = refl
initial-type logical = refl
initial-type bits = refl
initial-type (reference c) = refl

pub fresh-types : (ts : List Ty) → map ty_of_cell (fresh_all ts) ≡ ts
unfolding fresh_all
fresh-types [] = refl
fresh-types (t ∷ ts) = ap₂ (λ x xs. x ∷ xs) (initial-type t) (fresh-types ts)

-- ── operands taken off ──
pub append-same : {A : Type 0} (xs ys us vs : List A) → xs ++ us ≡ ys ++ vs → length xs ≡ length ys → (xs ≡ ys) × (us ≡ vs)
append-same [] [] us vs h e = (refl, h)
append-same [] (y ∷ ys) us vs h e = absurd (omega arith)
append-same (x ∷ xs) [] us vs h e = absurd (omega arith)
append-same (x ∷ xs) (y ∷ ys) us vs h e =
    let p : x ≡ y = cc in let t : xs ++ us ≡ ys ++ vs = cc in
    let q = append-same xs ys us vs t (omega arith) in (ap₂ (λ a l. a ∷ l) p q.0, q.1)

pub pops : (n : ℕ) (taken vs : List Value) (f : List Value → List Value → Stepped) → n ≤ length vs
    → (xs : List Value) × (us : List Value) × (pop_many n taken vs f ≡ f (reverse_aux xs taken) us) × (vs ≡ xs ++ us) × (length xs ≡ n)
unfolding pop_many
pops zero taken vs f h = ([], vs, refl, refl, refl)
pops (suc n) taken [] f h = absurd (omega arith)
pops (suc n) taken (v ∷ vs) f h =
    let q = pops n (v ∷ taken) vs f (omega arith) in
    (v ∷ q.0, q.1, q.2, ap (λ ws. v ∷ ws) q.3, ap suc q.4)

-- ── variables as they start ──
pub initial-sound : (rs : List Made) (t : Ty) → sound_value rs (initial t) ≡ true
unfolding sound_value
initial-sound rs integer = refl
initial-sound rs logical = refl
initial-sound rs bits = refl
initial-sound rs (reference c) = refl

pub fresh-values : (rs : List Made) (ts : List Ty) → all (sound_cell rs) (fresh_all ts) ≡ true
unfolding all fresh_all
fresh-values rs [] = refl
fresh-values rs (t ∷ ts) = both (initial-sound rs t) (fresh-values rs ts)
