-- The readings that runs take, and the oracle that they follow: "the k-th reading is taken from the 64 bytes of the run in which it falls" (DECISIONS, T13).
use Rattle.std.specs.Prelude.{Bool, true, false, ◌≡◌, List, [], ◌∷◌, ℕ, ◌+◌, ◌-◌, ◌≤◌, ◌<◌, ltb}
use Rattle.std.proofs.Common.{ap, ◌∙◌, arith, lt-ltb, le-ltb}
use Rattle.logic.specs.Choice.{If◌then◌else◌}
use Rattle.words.specs.Laws.{Bytes}
use Rattle.values.specs.Trace.{readings_in}
use Rattle.bytecode.specs.Macro.{Macro}
use Rattle.bytecode.specs.Machine.{Machine}
use Rattle.bytecode.specs.Runs.{Feed, bank_of, run}
use Rattle.logic.specs.Lists.{Each}

-- how many readings a run takes
abbrev pub takes_in : Macro → Feed → Machine → ℕ
takes_in m f s = readings_in (run m f.readings f.allowance s).trace

-- the bank of each reading: of the run in which it falls
unfoldable pub oracle_of : Macro → List Feed → Machine → ℕ → ℕ → ℕ
oracle_of m [] s k = λ n. 0
oracle_of m (f ∷ fs) s k =
    let c = takes_in m f s in
    If ltb k c then bank_of f.readings else oracle_of m fs (run m f.readings f.allowance s).state (k - c)

-- the oracle's k-th reading, of whichever fader, is in these bytes
abbrev pub Reads : (ℕ → ℕ → ℕ) → ℕ → List ℕ → Type 0
Reads o k bytes = (n : ℕ) → 1 ≤ n → n ≤ 64 → o k n ≡ bank_of bytes n

-- Runs that follow an oracle, of which k readings are taken before: each reading that a run takes is from that run's bytes.
-- "op 16 reads fader n in the n-th of its run's 64 bytes"
abbrev pub Follows : Macro → (ℕ → ℕ → ℕ) → ℕ → List Feed → Machine → Type 0
Follows m o k [] s = Unit {0}
Follows m o k (f ∷ fs) s =
    let c = takes_in m f s in
    ((j : ℕ) → j < c → Reads o (k + j) f.readings) × Follows m o (k + c) fs (run m f.readings f.allowance s).state

pub follows : (m : Macro) (o : ℕ → ℕ → ℕ) (fs : List Feed) (s : Machine) (k : ℕ) → ((j : ℕ) → o (k + j) ≡ oracle_of m fs s j) → Follows m o k fs s
unfolding oracle_of
follows m o [] s k a = tt
follows m o (f ∷ fs) s k a =
    let r = run m f.readings f.allowance s in let c = takes_in m f s in (
      (λ j l n lo hi. ap (λ (b : ℕ → ℕ). b n) (a j ∙ ap (λ t. If t then bank_of f.readings else oracle_of m fs r.state (j - c)) (lt-ltb j c l))),
      follows m o fs r.state (k + c) (λ j.
          let e1 : k + c + j ≡ k + (c + j) = omega arith in let e2 : c + j - c ≡ j = omega arith in
          ap o e1 ∙ a (c + j) ∙ ap (λ t. If t then bank_of f.readings else oracle_of m fs r.state (c + j - c)) (le-ltb (c + j) c (omega arith)) ∙ ap (oracle_of m fs r.state) e2),
    )

-- the oracle gives bytes
pub oracle-bytes : (m : Macro) (fs : List Feed) → Each (λ (f : Feed). Bytes f.readings) fs → (s : Machine) (k n : ℕ) → oracle_of m fs s k n < 256
unfolding oracle_of
oracle-bytes m [] b s k n = omega arith
oracle-bytes m (f ∷ fs) b s k n = go (ltb k (takes_in m f s)) (oracle-bytes m fs b.1 (run m f.readings f.allowance s).state (k - takes_in m f s) n)
  where
    go : (t : Bool) → oracle_of m fs (run m f.readings f.allowance s).state (k - takes_in m f s) n < 256
        → (If t then bank_of f.readings else oracle_of m fs (run m f.readings f.allowance s).state (k - takes_in m f s)) n < 256
    go true h = b.0 (n - 1)
    go false h = h
