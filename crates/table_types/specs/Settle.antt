-- What an entry makes of the numbers of its operands' types: near the code.
use Rattle.std.specs.Prelude.{◌≡◌, refl, Ok, Err, Bool, true, false, not, List, [], ◌∷◌, ◌++◌, ℕ, zero, suc, ◌+◌, ◌*◌, ◌/◌, ◌%◌, ◌≤◌, ◌<◌, eqb, ltb, length, get_or, drop}
use Rattle.std.proofs.Common.{ap, ◌∙◌, arith, add-suc, add-zero, length-append, drop_of_length-le}
use Rattle.std.proofs.Math.Numerals.{add-one}
use Rattle.std.proofs.Math.Decide.{ℕ_discrete}
use Rattle.std.proofs.Math.Seq.{drop-cons}
use borrow.Author.Tests.{eq-eqb, ne_eqb, ltb-true, ltb-false}
use Rattle.logic.specs.Choice.{If◌then◌else◌}
use Rattle.table_entries.specs.declared.Fault.TheVariants.{Unnamed, Mistyped, OutOfReach}
use Rattle.table_scopes.specs.Environment.{Item, item, Found, Nothing, Def, env_of}
use Rattle.table_scopes.specs.Flaws.{Verdict}
use Rattle.table_scopes.specs.Items.{b_at}

-- the numbers of the first n items, the last first
unfoldable pub values : ℕ → List Item → List ℕ
values zero v = []
values (suc n) [] = []
values (suc n) (item a s t q ∷ v) = values n v ++ (t ∷ [])

abbrev pub if_both : Bool → Bool → ℕ → ℕ
if_both x y t = If x then If y then t else 0 else 0

abbrev pub if_either : Bool → Bool → ℕ → ℕ
if_either x y t = If x then t else If y then t else 0

unfoldable pub operated_by : ℕ → ℕ → ℕ → ℕ
operated_by op t u =
    If eqb op 10 then if_both (eqb t u) (not (eqb t 0)) 2 else
    If eqb op 11 then if_both (eqb t u) (not (eqb t 0)) 2 else
    If eqb op 12 then if_both (eqb t u) true (if_either (eqb t 2) (eqb t 3) t) else
    If eqb op 13 then if_both (eqb t u) true (if_either (eqb t 2) (eqb t 3) t) else
    If eqb op 14 then if_both (eqb t 3) (eqb u 1) 3 else
    If eqb op 15 then if_both (eqb t 3) (eqb u 1) 3 else
    If eqb op 20 then if_both (eqb t 1) true 1 else
    If eqb op 21 then if_both (eqb t 1) true 1 else
    If eqb op 22 then if_either (eqb t 2) (eqb t 3) t else
    If ltb op 6 then if_both (eqb t 1) (eqb u 1) 1 else if_both (eqb t 1) (eqb u 1) 2

unfoldable pub typed_by : ℕ → ℕ → ℕ → ℕ → ℕ → ℕ
typed_by k a t u w =
    If eqb k 21 then if_both (eqb t u) (not (eqb t 0)) 1 else
    If eqb k 26 then if_both (eqb t 2) true 1 else
    If eqb k 28 then if_both (eqb t 1) (eqb u 1) 1 else
    If eqb k 40 then 1 else
    If eqb k 41 then 2 else
    If eqb k 42 then 3 else
    If eqb k 50 then if_both (eqb t 2) true (if_both (eqb u w) (not (eqb u 0)) u) else
    If eqb k 51 then if_both (eqb t 1) true 1 else operated_by a t u

-- as many, and each its own
unfoldable pub same_all : List ℕ → List ℕ → Bool
same_all [] [] = true
same_all [] (u ∷ us) = false
same_all (t ∷ ts) [] = false
same_all (t ∷ ts) (u ∷ us) = If eqb t u then same_all ts us else false

-- the types declared at so many entries
unfoldable pub types_at : List ℕ → ℕ → ℕ → List ℕ
types_at l p zero = []
types_at l p (suc n) = b_at l p ∷ types_at l (p + 1) n

abbrev pub right_if : Bool → ℕ → ℕ → Verdict
right_if b t p = If b then Ok t else Err (Mistyped p)

-- a variable, a parameter or a control name
abbrev pub has_value : ℕ → Bool
has_value s = If eqb s 4 then true else eqb s 8

abbrev pub aimed_by : ℕ → Bool → ℕ → Verdict
aimed_by s w p = If eqb s 5 then If w then Err (OutOfReach p) else Ok 1 else Err (Mistyped p)

abbrev pub called_by : List ℕ → ℕ → ℕ → ℕ → Bool → ℕ → List ℕ → Verdict
called_by l s n q right p vs = If eqb s 7 then If right then right_if (same_all vs (types_at l (q + 1) (n / 256))) (n % 256) p else Err (Mistyped p) else Err (Mistyped p)

abbrev pub recorded_by : List ℕ → ℕ → ℕ → ℕ → ℕ → ℕ → List ℕ → Verdict
recorded_by l a s n q p vs = If eqb s 6 then right_if (same_all vs (types_at l (q + 1) n)) (65536 + a) p else Err (Mistyped p)

unfoldable pub named_by : List ℕ → ℕ → ℕ → ℕ → ℕ → ℕ → Bool → ℕ → List ℕ → Verdict
named_by l k a s n q w p vs =
    If eqb k 25 then aimed_by s w p else
    If eqb k 27 then called_by l s n q (eqb (n % 256) 0) p vs else
    If eqb k 43 then right_if (eqb s 6) (65536 + a) p else
    If eqb k 44 then right_if (has_value s) n p else
    If eqb k 45 then called_by l s n q (not (eqb (n % 256) 0)) p vs else
    If eqb k 46 then right_if (eqb s (get_or vs 0 0)) n p else recorded_by l a s n q p vs

unfoldable pub names_by : ℕ → Bool
names_by k = If eqb k 25 then true else If eqb k 27 then true else If ltb k 43 then false else ltb k 48

abbrev pub found_by : List ℕ → ℕ → ℕ → ℕ → Found → List ℕ → Verdict
found_by l k a p Nothing vs = Err (Unnamed p)
found_by l k a p (Def s n q w) vs = named_by l k a s n q w p vs

abbrev pub type_by : ℕ → ℕ → List ℕ → ℕ
type_by k a vs = typed_by k a (get_or vs 0 0) (get_or vs 1 0) (get_or vs 2 0)

unfoldable pub settled_by : List ℕ → ℕ → ℕ → ℕ → Found → List ℕ → Verdict
settled_by l k a p f vs = If names_by k then found_by l k a p f vs else right_if (not (eqb (type_by k a vs) 0)) (type_by k a vs) p

-- start, step and limit of a for
abbrev pub counted_by : ℕ → List ℕ → Verdict
counted_by p vs = right_if (eqb (if_both (eqb (get_or vs 0 0) 1) (eqb (get_or vs 1 0) 1) (get_or vs 2 0)) 1) 1 p

-- a control name was found
abbrev pub controls : Found → Bool
controls Nothing = false
controls (Def s n q w) = eqb s 8

-- an expression with nothing below it: a constant, null or a variable
unfoldable pub is_leaf : ℕ → Bool
is_leaf k = If ltb k 40 then false else ltb k 45

abbrev pub leaf_of : ℕ → ℕ → ℕ → Found → Verdict
leaf_of k a p Nothing = Err (Unnamed p)
leaf_of k a p (Def s n q w) = If eqb k 43 then right_if (eqb s 6) (65536 + a) p else right_if (has_value s) n p

unfoldable pub leaf_by : ℕ → ℕ → ℕ → Found → Verdict
leaf_by k a p f = If eqb k 40 then Ok 1 else If eqb k 41 then Ok 2 else If eqb k 42 then Ok 3 else leaf_of k a p f

pub leaf-kind : (k : ℕ) → is_leaf k ≡ true → (40 ≤ k) × (k < 45)
unfolding is_leaf
leaf-kind k e = go (ltb k 40) refl (ltb k 45) refl
  where
    go : (b : Bool) → ltb k 40 ≡ b → (c : Bool) → ltb k 45 ≡ c → (40 ≤ k) × (k < 45)
    go true x c y = let z : false ≡ true = rw x at e in absurd (let w : ◌≡◌ {A = ℕ} 0 1 = cc in omega arith)
    go false x true y = (ltb-false k 40 x, ltb-true k 45 y)
    go false x false y = let z : false ≡ true = rw (x, y) at e in absurd (let w : ◌≡◌ {A = ℕ} 0 1 = cc in omega arith)

leaf-null : (l : List ℕ) (a p : ℕ) (f : Found) → found_by l 43 a p f [] ≡ leaf_of 43 a p f
unfolding named_by
leaf-null l a p Nothing = refl
leaf-null l a p (Def s n q w) = refl

leaf-variable : (l : List ℕ) (a p : ℕ) (f : Found) → found_by l 44 a p f [] ≡ leaf_of 44 a p f
unfolding named_by
leaf-variable l a p Nothing = refl
leaf-variable l a p (Def s n q w) = refl

pub leaf-settled : (l : List ℕ) (k a p : ℕ) (f : Found) → is_leaf k ≡ true → settled_by l k a p f [] ≡ leaf_by k a p f
unfolding settled_by leaf_by names_by typed_by
leaf-settled l k a p f e =
    let h = leaf-kind k e in
    elim (ℕ_discrete k 40) [
      | yes z ↦ rw z
      | no x ↦ elim (ℕ_discrete k 41) [
        | yes z ↦ rw z
        | no y ↦ elim (ℕ_discrete k 42) [
          | yes z ↦ rw z
          | no w ↦ elim (ℕ_discrete k 43) [
            | yes z ↦ rw z (leaf-null l a p f)
            | no v ↦ let z : k ≡ 44 = omega (arith, h.0, h.1) in rw z (leaf-variable l a p f)
          ]
        ]
      ]
    ]

-- what is declared stands within the table
abbrev pub WithinCall : List ℕ → ℕ → ℕ → ℕ → Type 0
WithinCall l s n q = s ≡ 7 → 8 * (q + 1 + n / 256) ≤ length l

abbrev pub WithinRecord : List ℕ → ℕ → ℕ → ℕ → Type 0
WithinRecord l s n q = s ≡ 6 → 8 * (q + 1 + n) ≤ length l

abbrev pub Within : List ℕ → Found → Type 0
Within l Nothing = Unit {0}
Within l (Def s n q w) = WithinCall l s n q × WithinRecord l s n q

-- ── the stack's numbers ──
pub length-values : (l : List ℕ) (top n : ℕ) → length (values n (env_of l (top + n))) ≡ n
unfolding values env_of
length-values l top zero = refl
length-values l top (suc n) = rw (add-suc top n) (omega (arith, length-append (values n (env_of l (top + n))) (get_or l (4 * (top + n) + 2) 0 ∷ []), length-values l top n))

at-end : (xs : List ℕ) (x j : ℕ) → j ≡ length xs → get_or (xs ++ (x ∷ [])) j 0 ≡ x
at-end [] x j e = rw e
at-end (y ∷ xs) x zero e = absurd (omega arith)
at-end (y ∷ xs) x (suc j) e = at-end xs x j (omega arith)

before-end : (xs : List ℕ) (x j : ℕ) → j < length xs → get_or (xs ++ (x ∷ [])) j 0 ≡ get_or xs j 0
before-end [] x j h = absurd (omega arith)
before-end (y ∷ xs) x zero h = refl
before-end (y ∷ xs) x (suc j) h = before-end xs x j (omega arith)

pub value-at : (l : List ℕ) (top n j : ℕ) → j < n → get_or (values n (env_of l (top + n))) j 0 ≡ get_or l (4 * (top + j) + 2) 0
unfolding values env_of
value-at l top zero j h = absurd (omega arith)
value-at l top (suc n) j h =
    rw (add-suc top n) (elim (ℕ_discrete j n) [
      | yes e ↦ at-end (values n (env_of l (top + n))) _ j (omega (arith, length-values l top n))
          ∙ rw e
      | no e ↦ before-end (values n (env_of l (top + n))) _ j (omega (arith, length-values l top n)) ∙ value-at l top n j (omega arith)
    ])

past_end : (xs : List ℕ) (j : ℕ) → length xs ≤ j → get_or xs j 0 ≡ 0
past_end [] j h = refl
past_end (x ∷ xs) zero h = absurd (omega arith)
past_end (x ∷ xs) (suc j) h = past_end xs j (omega arith)

pub value-past : (l : List ℕ) (top n j : ℕ) → n ≤ j → get_or (values n (env_of l (top + n))) j 0 ≡ 0
value-past l top n j h = past_end (values n (env_of l (top + n))) j (omega (arith, length-values l top n))

-- ── comparing one by one ──
pub length_types : (l : List ℕ) (p n : ℕ) → length (types_at l p n) ≡ n
unfolding types_at
length_types l p zero = refl
length_types l p (suc n) = ap suc (length_types l (p + 1) n)

pub type_at : (l : List ℕ) (p n j : ℕ) → j < n → get_or (types_at l p n) j 0 ≡ b_at l (p + j)
unfolding types_at
type_at l p zero j h = absurd (omega arith)
type_at l p (suc n) zero h = rw (add-zero p)
type_at l p (suc n) (suc j) h = let e : p + 1 + j ≡ p + suc j = omega arith in rw (← e) (type_at l (p + 1) n j (omega arith))

pub unequal-lengths : (xs ys : List ℕ) → ¬ (length xs ≡ length ys) → same_all xs ys ≡ false
unfolding same_all
unequal-lengths [] [] h = absurd (h refl)
unequal-lengths [] (y ∷ ys) h = refl
unequal-lengths (x ∷ xs) [] h = refl
unequal-lengths (x ∷ xs) (y ∷ ys) h = go (eqb x y) (unequal-lengths xs ys (λ e. h (ap suc e)))
  where
    go : (b : Bool) → same_all xs ys ≡ false → (If b then same_all xs ys else false) ≡ false
    go true e = e
    go false e = refl

module _ (xs ys : List ℕ) (i : ℕ) (h : i < length xs) (k : i < length ys) where
  pub same_next : get_or xs i 0 ≡ get_or ys i 0 → same_all (drop i xs) (drop i ys) ≡ same_all (drop (i + 1) xs) (drop (i + 1) ys)
  unfolding same_all
  same_next e = rw (drop-cons xs i 0 h, drop-cons ys i 0 k, eq-eqb _ _ e, add-one i)

  pub same-stops : ¬ (get_or xs i 0 ≡ get_or ys i 0) → same_all (drop i xs) (drop i ys) ≡ false
  unfolding same_all
  same-stops e = rw (drop-cons xs i 0 h, drop-cons ys i 0 k, ne_eqb _ _ e)

pub same_ends : (xs ys : List ℕ) (i : ℕ) → length xs ≡ length ys → length xs ≤ i → same_all (drop i xs) (drop i ys) ≡ true
unfolding same_all
same_ends xs ys i e h = rw (drop_of_length-le xs {i = i} h, drop_of_length-le ys {i = i} (omega arith))
