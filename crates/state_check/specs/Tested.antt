-- What the walk that tests activations may take for granted, and what it tells.
use Rattle.std.specs.Prelude.{◌≡◌, Bool, true, false, cond, List, ℕ, ◌+◌, ◌<◌, ◌≤◌, eqb, ltb, length, Result, Ok, Err}
use Rattle.words.specs.Numbers.{byte_at}
use Rattle.load_places.specs.Search.{first}
use Rattle.load_places.specs.Records.{bodies, count, body_place}
use Rattle.load_places.specs.Rules.{Flow, goes, ends, bad, broken}
use Rattle.state_sound.specs.Each.{each}
use Rattle.state_sound.specs.Fits.{body_in, address_in, taken_in, stands_in, stands}
use Rattle.bytecode.specs.State.{state_length}

-- a state's bytes with n activations, each of a body that there is
pub record Counted (c l : List ℕ) (n : ℕ) : Type 0 where
  pub long : length l ≡ state_length
  pub few : n ≤ 32
  pub of-bodies : (k : ℕ) → k < n → body_in l k < bodies c

-- as much as is asked where no activation may count, so that nothing of the bytes is read
abbrev pub AnyCounted : List ℕ → List ℕ → ℕ → Type 0
AnyCounted c l n = 0 < n → Counted c l n

abbrev pub AnySized : List ℕ → ℕ → Type 0
AnySized l n = 0 < n → (length l ≡ state_length) × (n ≤ 32)

-- d types in st are a operands, and above them the arguments that activation k's call took
unfoldable pub args_fit : List ℕ → List ℕ → ℕ → ℕ → List ℕ → ℕ → ℕ → Bool
args_fit c l n k st a d =
    cond (eqb (a + taken_in c l n k) d)
    (each (λ j. eqb (byte_at c (body_place c (body_in l (k + 1)) + 7 + j)) (byte_at st (a + j))) 0 (taken_in c l n k))
    false

-- all activations that stand at i fit a state found there, in body b
abbrev pub standing : List ℕ → List ℕ → ℕ → ℕ → ℕ → ℕ → Flow → Bool
standing c l r n i b (goes h s) = each (λ k. cond (eqb (address_in l k) i) (stands_in c l r n k b h s) true) 0 n
standing c l r n i b ends = true
standing c l r n i b bad = true

-- all activations that stand before i fit
abbrev pub fit_before : List ℕ → List ℕ → ℕ → ℕ → ℕ → Bool
fit_before c l r n i = each (λ k. cond (ltb (address_in l k) i) (stands c l r n k) true) 0 n

-- a walk has come to i; none stands from i on before next
pub record Upto (c l : List ℕ) (r n i : ℕ) (ok : Bool) (next : ℕ) : Type 0 where
  pub tested : ok ≡ fit_before c l r n i
  pub ahead : (k : ℕ) → k < n → i ≤ address_in l k → next ≤ address_in l k

-- a walk ended at the first fault, or past all addresses
abbrev pub Tests : List ℕ → List ℕ → ℕ → ℕ → Result Bool ℕ → Type 0
Tests c l r n (Err at) = (at ≡ first (broken c) (count c)) × (at < count c)
Tests c l r n (Ok ok) = (count c ≡ first (broken c) (count c)) × (ok ≡ fit_before c l r n (count c))
