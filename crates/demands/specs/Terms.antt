-- What the third demand says of a macro: start and a list of runs on lent bytes, beside the plain machine.
use Rattle.std.specs.Prelude.{◌≡◌, true, List, map, ℕ, ◌<◌, take}
use Rattle.values.specs.Ends.{accepted}
use Rattle.bytecode.specs.Macro.{Macro}
use Rattle.bytecode.specs.Machine.{Machine, Stuck, ended, stuck, fresh_machine, step}
use Rattle.bytecode.specs.Runs.{Feed, runs}
use Rattle.bytecode.specs.Sound.{sound}
use Rattle.bytecode.specs.State.{encode}
use Rattle.bytecode.specs.Lent.{start_on}
use Rattle.bytecode_safety.specs.Terms.{holds_of, releases_of, events_of, state_after, Reaches, EachSafe}
use Rattle.bytecode_runs.specs.Terms.{runs_on, on_bytes}

-- start on lent bytes l, and then a run for each feed
pub record Demanded (code : List ℕ) (m : Macro) (l : List ℕ) (fs : List Feed) : Type 0 where
  -- start is done, and leaves the bytes of the fresh state
  pub starts : ((start_on code l).verdict ≡ accepted tt) × ((start_on code l).bytes ≡ encode (fresh_machine m))
  -- every run answers exactly as the plain machine, with the same steps, and leaves the bytes of its state
  pub equals : runs_on code fs (start_on code l).bytes ≡ map on_bytes (runs m fs (fresh_machine m))
  -- each run (SafeRun): the state after it is sound; it is never stuck; the one refusal is 11, given exactly where the readings are not 64
  -- bytes; it ends only by 0 or a condition, and answers an end again
  pub each-run : EachSafe m fs (fresh_machine m) (runs m fs (fresh_machine m))
  -- every state passed through, after any single step with any readings, is sound and not stuck
  pub each_step : {t : Machine} → Reaches m (fresh_machine m) t → (sound m t ≡ true)
      × ((bank : ℕ → ℕ) → ((n : ℕ) → bank n < 256) → (why : Stuck) → step m bank t ≡ stuck why → ⊥)
  -- at an end, after the first n runs, as many holds of each group were answered as releases
  pub released : (n c : ℕ) → let rs = take n (runs m fs (fresh_machine m)) in state_after (fresh_machine m) rs ≡ ended c
      → (g : ℕ) → holds_of g (events_of rs) ≡ releases_of g (events_of rs)
