-- Operands as types and as type bytes: comparing them and taking them off is the same.
use Rattle.std.specs.Prelude.{◌≡◌, refl, true, List, [], ◌∷◌, ◌⊎◌, ℕ, zero, suc, ◌+◌, ◌≤◌, ◌<◌, eqb, length}
use Rattle.std.proofs.lemmas.Bool.{false≢true}
use Rattle.std.proofs.Common.{inl, inr, arith, eqb-true}
use Rattle.std.proofs.Math.Option.{Option, none, some}
use Rattle.words.specs.Numbers.{byte_at}
use Rattle.values.specs.Types.{Ty, integer, logical, bits, reference, ty_code, ty_byte, same, sames, fits}
use Rattle.bytecode.specs.Rules.{strip}
use Rattle.load_places.specs.Search.{tops, alike}
use Rattle.load_places.specs.Rules.{Flow, goes, bad, pop, chain, takes}
use Rattle.load_views.specs.Lists.{backs}
use Rattle.logic.specs.Tests.{tests, by-test, together, eqb_comm, held}
use Rattle.load_views.specs.View.{bytes, Typed, stack_on}

-- ── comparing ──
code-byte : (t : Ty) → ((ty_code t ≡ ty_byte t) × (ty_byte t < 4)) ⊎ ((ty_code t ≡ ty_byte t + 65520) × (16 ≤ ty_byte t))
code-byte integer = inl (refl, omega arith)
code-byte logical = inl (refl, omega arith)
code-byte bits = inl (refl, omega arith)
code-byte (reference c) = inr (omega arith, omega arith)

pub same_byte : (t u : Ty) → same t u ≡ eqb (ty_byte t) (ty_byte u)
same_byte t u = go (ty_code t) (ty_byte t) (ty_code u) (ty_byte u) (code-byte t) (code-byte u)
  where
    go : (a b c d : ℕ) → ((a ≡ b) × (b < 4)) ⊎ ((a ≡ b + 65520) × (16 ≤ b))
        → ((c ≡ d) × (d < 4)) ⊎ ((c ≡ d + 65520) × (16 ≤ d)) → eqb a c ≡ eqb b d
    go a b c d (inl p) (inl q) = together (eqb a c) (eqb b d) (λ h. omega tests) (λ h. omega tests)
    go a b c d (inl p) (inr q) = together (eqb a c) (eqb b d) (λ h. omega tests) (λ h. omega tests)
    go a b c d (inr p) (inl q) = together (eqb a c) (eqb b d) (λ h. omega tests) (λ h. omega tests)
    go a b c d (inr p) (inr q) = together (eqb a c) (eqb b d) (λ h. omega tests) (λ h. omega tests)

pub alike-bytes : (ts us : List Ty) → alike (bytes ts) (bytes us) ≡ sames ts us
unfolding alike sames
alike-bytes [] [] = refl
alike-bytes [] (u ∷ us) = refl
alike-bytes (t ∷ ts) [] = refl
alike-bytes (t ∷ ts) (u ∷ us) = rw (same_byte t u, alike-bytes ts us) (by-test (eqb (ty_byte t) (ty_byte u)) (λ h. rw h) (λ h. rw h))

pub alike_same : (s t : List ℕ) → alike s t ≡ true → s ≡ t
unfolding alike
alike_same [] [] e = refl
alike_same [] (y ∷ t) e = absurd (false≢true (e))
alike_same (x ∷ s) [] e = absurd (false≢true (e))
alike_same (x ∷ s) (y ∷ t) e = let b = held true (eqb x y) (alike s t) e in rw (eqb-true x y b.0, alike_same s t b.1)

pub sames-sym : (ts us : List Ty) → sames ts us ≡ sames us ts
unfolding sames
sames-sym [] [] = refl
sames-sym [] (u ∷ us) = refl
sames-sym (t ∷ ts) [] = refl
sames-sym (t ∷ ts) (u ∷ us) = rw (eqb_comm (ty_code t) (ty_code u), sames-sym ts us)

-- the types from a place on, the last on top
pub stack-bytes : (l : List ℕ) (q n : ℕ) → Typed l q n → bytes (stack_on l q n) ≡ tops l q n
unfolding backs tops
stack-bytes l q zero t = refl
stack-bytes l q (suc n) t = rw (t n (omega arith), stack-bytes l q n (λ k h. t k (omega arith)))

-- ── taking off ──
-- operands of these types are taken off, the first of them on top, and what is left goes on
unfoldable pub draws : List ℕ → ℕ → List ℕ → (ℕ → List ℕ → Flow) → Flow
draws [] h s f = f h s
draws (u ∷ us) h s f = chain (pop u h s) (λ g r. draws us g r f)

abbrev pub left : Option (List Ty) → (List Ty → Flow) → Flow
left none f = bad
left (some ts) f = f ts

pub draws-strip : (us ts : List Ty) (h : ℕ) (f : ℕ → List ℕ → Flow) → draws (bytes us) h (bytes ts) f ≡ left (strip us ts) (λ r. f h (bytes r))
unfolding draws strip pop
draws-strip [] ts h f = refl
draws-strip (u ∷ us) [] h f = refl
draws-strip (u ∷ us) (t ∷ ts) h f =
    rw (same_byte t u) (by-test (eqb (ty_byte t) (ty_byte u)) (λ e. rw e (draws-strip us ts h f)) (λ e. rw e))

-- the types at a place are taken off
pub takes-draws : (l : List ℕ) (q n h : ℕ) (s : List ℕ) (f : ℕ → List ℕ → Flow) → chain (takes l q n h s) f ≡ draws (tops l q n) h s f
unfolding takes draws tops pop
takes-draws l q zero h s f = refl
takes-draws l q (suc n) h [] f = refl
takes-draws l q (suc n) h (x ∷ s) f = by-test (eqb x (byte_at l (q + n))) (λ e. rw e (takes-draws l q n h s f)) (λ e. rw e)

pub pop-draws : (t h : ℕ) (s : List ℕ) → pop t h s ≡ draws (t ∷ []) h s goes
unfolding draws pop
pop-draws t h [] = refl
pop-draws t h (x ∷ s) = by-test (eqb x t) (λ e. rw e) (λ e. rw e)

pub strip-length : (us ts r : List Ty) → strip us ts ≡ some r → length r ≤ length ts
unfolding strip
strip-length [] ts r e = let z : ts ≡ r = cc in rw z (omega arith)
strip-length (u ∷ us) [] r e = absurd (let y : ◌≡◌ {A = ℕ} 0 1 = cc in omega arith)
strip-length (u ∷ us) (t ∷ ts) r e =
    by-test (fits t u) (λ h. omega (arith, strip-length us ts r (rw h at e)))
    (λ h. absurd (let z : none ≡ some r = rw h at e in let y : ◌≡◌ {A = ℕ} 0 1 = cc in omega arith))
