-- How an execution ends, or goes on for ever, whatever the fuel.
use Rattle.std.specs.Prelude.{◌≡◌, List, ◌++◌, ℕ, ◌<◌}
use Rattle.values.specs.Trace.{Item}
use Rattle.language.specs.Tree.{Tree}
use Rattle.language.specs.Execute.{Ran, finished, going, ill_formed, execute}

-- "A fader (1 to 64) reads a byte.": asked of what an execution is given to read, where it matters
abbrev pub ByteReadings : (ℕ → ℕ → ℕ) → Type 0
ByteReadings oracle = (k n : ℕ) → oracle k n < 256

-- it ends by c, which is 0 or a condition, and its trace is `is`
abbrev pub EndsBy : (ℕ → ℕ → ℕ) → Tree → List Item → ℕ → Type 0
EndsBy oracle t is c = (n : ℕ) × (execute oracle t n ≡ finished is c)

-- no fuel suffices
abbrev pub GoesOn : (ℕ → ℕ → ℕ) → Tree → Type 0
GoesOn oracle t = (n : ℕ) → (is : List Item) × (execute oracle t n ≡ going is)

-- ── one execution with less fuel, and with more ──
abbrev pub Prefix : List Item → List Item → Type 0
Prefix is js = (rest : List Item) × (js ≡ is ++ rest)

-- what began with the trace `is`
abbrev pub Continues : List Item → Ran → Type 0
Continues is (finished js c) = Prefix is js
Continues is (going js) = Prefix is js
Continues is ill_formed = Unit {0}

-- what has ended stays so, also where it was ill-formed; what was going on goes on from its trace
abbrev pub Further : Ran → Ran → Type 0
Further (finished is c) s = s ≡ finished is c
Further (going is) s = Continues is s
Further ill_formed s = s ≡ ill_formed
