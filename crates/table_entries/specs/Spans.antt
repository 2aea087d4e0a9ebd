-- How many entries so many parts have that stand one after the other. It goes by the entries alone: each says how many parts are below it.
use Rattle.std.specs.Prelude.{◌≡◌, refl, List, [], ◌∷◌, ◌++◌, ℕ, zero, suc, ◌+◌, ◌-◌, ◌≤◌, ◌<◌, nat_abs, length, drop}
use Rattle.std.proofs.Common.{ap, ◌∙◌, append_assoc, arith, add-zero, zero-add, add_assoc, suc-add, length-append, length-drop, drop_at, drop-drop}
use Rattle.language.specs.Table.{Entry}
use Rattle.table_entries.specs.Arity.{parts}

-- the parts below an entry
abbrev pub arity : Entry → ℕ
arity e = parts e.kind e.a (nat_abs e.b)

-- the entries of so many parts
unfoldable pub span_of : List Entry → ℕ → ℕ
span_of [] n = 0
span_of (e ∷ es) zero = 0
span_of (e ∷ es) (suc n) = suc (span_of es (arity e + n))

abbrev pub span : ℕ → List Entry → ℕ
span n es = span_of es n

pub span-zero : (es : List Entry) → span 0 es ≡ 0
unfolding span_of
span-zero [] = refl
span-zero (e ∷ es) = refl

pub span-within : (es : List Entry) (n : ℕ) → span n es ≤ length es
unfolding span_of
span-within [] n = omega arith
span-within (e ∷ es) zero = omega arith
span-within (e ∷ es) (suc n) = omega (arith, span-within es (arity e + n))

-- some parts, and then the others
pub span-then : (es : List Entry) (m n : ℕ) → span (m + n) es ≡ span m es + span n (drop (span m es) es)
unfolding span_of
span-then [] m n = refl
span-then (e ∷ es) zero n = rw (zero-add n, zero-add (span n (e ∷ es)))
span-then (e ∷ es) (suc m) n =
    rw (suc-add m n, ← add_assoc (arity e) m n, span-then es (arity e + m) n, suc-add (span (arity e + m) es) (span n (drop (span (arity e + m) es) es)))

-- parts are spanned: so many from the front, and nothing is left
pub record Spans (n : ℕ) (us : List Entry) : Type 0 where
  pub spans : (rest : List Entry) → span n (us ++ rest) ≡ length us

pub spans-none : Spans 0 []
spans-none = record { spans = λ rest. span-zero rest }

pub spans-then : (m n : ℕ) (us vs : List Entry) → Spans m us → Spans n vs → Spans (m + n) (us ++ vs)
spans-then m n us vs h k =
    record { spans = λ rest. rw (append_assoc us vs rest, span-then (us ++ (vs ++ rest)) m n, h.spans (vs ++ rest), drop_at us (vs ++ rest), k.spans rest, length-append us vs) }

pub spans-as : (m n : ℕ) (us : List Entry) → Spans m us → m ≡ n → Spans n us
spans-as m n us h e = rw e at h

-- an entry and the parts below it
pub spans-one : (e : Entry) (us : List Entry) → Spans (arity e) us → Spans 1 (e ∷ us)
unfolding span_of
spans-one e us h = record { spans = λ rest. rw (add-zero (arity e), h.spans rest) }

-- one hop
pub hop : (n : ℕ) (es : List Entry) (at : ℕ) → 0 < n → span n (drop at es) ≡ span 1 (drop at es) + span (n - 1) (drop (at + span 1 (drop at es)) es)
hop n es at h =
    let e : n ≡ 1 + (n - 1) = omega arith in
    ap (λ (m : ℕ). span m (drop at es)) e ∙ span-then (drop at es) 1 (n - 1)
    ∙ ap (λ (us : List Entry). span 1 (drop at es) + span (n - 1) us) (drop-drop (span 1 (drop at es)) at es)

pub hop-within : (n : ℕ) (es : List Entry) (at : ℕ) → at ≤ length es → at + span n (drop at es) ≤ length es
hop-within n es at h = omega (arith, span-within (drop at es) n, length-drop at es)

pub hop-none : (n : ℕ) (es : List Entry) (at : ℕ) → length es ≤ at → span n (drop at es) ≡ 0
hop-none n es at h = let k : length (drop at es) ≡ 0 = omega (arith, length-drop at es) in omega (arith, span-within (drop at es) n)
