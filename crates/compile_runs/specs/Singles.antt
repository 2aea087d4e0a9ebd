-- Every oracle of bytes is followed by lists of runs of any length: runs of a step each, given the bytes that the oracle has next.
use Rattle.std.specs.Prelude.{true, ◌≡◌, List, [], ◌∷◌, length, get_or}
use Rattle.std.proofs.Math.Path.{refl, ap, sym}
use Rattle.std.proofs.Common.{◌∙◌}
use Prim.Native.Nat.{ℕ, zero, suc, ◌+◌, ◌-◌, ◌≤◌, ◌<◌}
use native.Mathlib.Omega.{arith}
use Rattle.words.specs.Laws.{Bytes}
use Rattle.bytecode.specs.Macro.{Macro}
use Rattle.bytecode.specs.Machine.{Machine}
use Rattle.bytecode.specs.Runs.{Answer, happens, spends, finishes, refuses, halts, Feed, run}
use Rattle.bytecode.specs.Sound.{sound}
use Rattle.bytecode_laws.specs.Terms.{Passed}
use Rattle.bytecode_safety.specs.Terms.{steps_of, Answers, SafeRun}
use Rattle.bytecode_safety.specs.Safety.{run-safe}
use Rattle.language_laws.specs.Endings.{ByteReadings}
use Rattle.compile_runs.specs.Readings.{takes_in, Follows}
use Rattle.compile_runs.specs.Enough.{FedBytes, Stepping}

-- n readings of a bank, from the i-th fader on
unfoldable pub bank_bytes : ℕ → ℕ → (ℕ → ℕ) → List ℕ
bank_bytes zero i b = []
bank_bytes (suc n) i b = b i ∷ bank_bytes n (suc i) b

bank-length : (n i : ℕ) (b : ℕ → ℕ) → length (bank_bytes n i b) ≡ n
unfolding bank_bytes
bank-length zero i b = refl
bank-length (suc n) i b = ap suc (bank-length n (suc i) b)

bank-at : (n i k : ℕ) (b : ℕ → ℕ) → k < n → get_or (bank_bytes n i b) k 0 ≡ b (i + k)
unfolding bank_bytes
bank-at zero i k b h = absurd (omega arith)
bank-at (suc n) i zero b h = ap b (omega arith)
bank-at (suc n) i (suc k) b h = bank-at n (suc i) k b (omega arith) ∙ ap b (omega arith)

bank-bytes : (n i : ℕ) (b : ℕ → ℕ) → ((k : ℕ) → b k < 256) → Bytes (bank_bytes n i b)
unfolding bank_bytes
bank-bytes zero i b h k = omega arith
bank-bytes (suc n) i b h zero = h i
bank-bytes (suc n) i b h (suc k) = bank-bytes n (suc i) b h k

abbrev single : (ℕ → ℕ) → Feed
single b = record { readings = bank_bytes 64 1 b; allowance = 1 }

unfoldable pub singles : Macro → (ℕ → ℕ → ℕ) → ℕ → ℕ → Machine → List Feed
singles m o zero k s = []
singles m o (suc n) k s =
    let f = single (o k) in
    f ∷ singles m o n (k + takes_in m f s) (run m f.readings f.allowance s).state

module _ (m : Macro) (o : ℕ → ℕ → ℕ) (low : ByteReadings o) where
  pub singles-length : (n k : ℕ) (s : Machine) → length (singles m o n k s) ≡ n
  unfolding singles
  singles-length zero k s = refl
  singles-length (suc n) k s = let f = single (o k) in ap suc (singles-length n (k + takes_in m f s) (run m f.readings f.allowance s).state)

  pub singles-fed : (n k : ℕ) (s : Machine) → FedBytes (singles m o n k s)
  unfolding singles
  singles-fed zero k s = tt
  singles-fed (suc n) k s = let f = single (o k) in (bank-bytes 64 1 (o k) (low k), singles-fed n (k + takes_in m f s) (run m f.readings f.allowance s).state)

  pub singles-step : (n k : ℕ) (s : Machine) → Stepping (singles m o n k s)
  unfolding singles
  singles-step zero k s = tt
  singles-step (suc n) k s =
      let f = single (o k) in
      ((bank-length 64 1 (o k), omega arith), singles-step n (k + takes_in m f s) (run m f.readings f.allowance s).state)

  module _ (w : Passed m) where
    -- what a run of one step from a sound state comes to
    safe : (k : ℕ) (s : Machine) → sound m s ≡ true → SafeRun m (single (o k)) s (run m (single (o k)).readings 1 s)
    safe k s h = run-safe m w (single (o k)) (bank-bytes 64 1 (o k) (low k)) s h

    -- it takes one reading at most
    takes-few : (k : ℕ) (s : Machine) → sound m s ≡ true → takes_in m (single (o k)) s ≤ 1
    takes-few k s h =
        let r = run m (single (o k)).readings 1 s in
        let q = safe k s h in
        omega (arith, q.traced.1, by r.answer r.state q.answers)
      where
        by : (a : Answer) (t : Machine) → Answers (single (o k)) s a t → steps_of a ≤ 1
        by (happens e n) t g = g.1
        by (spends n) t g = omega (arith, g.1)
        by (finishes c n) t g = g.1
        by (refuses r) t g = omega arith
        by (halts why) t g = omega arith

    pub singles-follow : (n k : ℕ) (s : Machine) → sound m s ≡ true → Follows m o k (singles m o n k s) s
    unfolding singles
    singles-follow zero k s h = tt
    singles-follow (suc n) k s h =
        let f = single (o k) in (
          (λ j l i lo hi.
              let few = takes-few k s h in let here : k + j ≡ k = omega arith in let at : i ≡ 1 + (i - 1) = omega arith in
              ap (λ (q : ℕ). o q i) here ∙ ap (o k) at ∙ sym (bank-at 64 1 (i - 1) (o k) (omega arith))),
          singles-follow n (k + takes_in m f s) (run m f.readings f.allowance s).state (safe k s h).still-sound,
        )
