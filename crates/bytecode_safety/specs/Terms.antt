-- What the statement of safety speaks of: holds and releases counted, and what a list of runs may answer.
use Rattle.std.specs.Prelude.{◌≡◌, Bool, true, false, List, [], ◌∷◌, ◌++◌, ◌⊎◌, ℕ, suc, ◌+◌, ◌≤◌, ◌<◌, eqb, length, take}
use Rattle.values.specs.Types.{Ty}
use Rattle.values.specs.Ends.{refusal, is_condition}
use Rattle.values.specs.Arithmetic.{Outcome, gives, ends, mistyped}
use Rattle.values.specs.Values.{Value, ty_of}
use Rattle.values.specs.Trace.{Event, set, hold, release, Item, event, reading, readings_in}
use Rattle.bytecode.specs.Macro.{Macro}
use Rattle.bytecode.specs.Machine.{Made, Machine, running, unwinding, ended, Stepped, moved, stuck, all_holds, step}
use Rattle.bytecode.specs.Runs.{Answer, happens, spends, finishes, refuses, halts, Ran, Feed}
use Rattle.bytecode.specs.Sound.{sound_value, sound}
use Rattle.logic.specs.Lists.{Each}

-- ── operators ──
-- what an operator that gives type t may come to: a value of that type, sound whatever records are made, or a condition
abbrev pub Fine : Ty → Outcome Value → Type 0
Fine t (gives v) = (ty_of v ≡ t) × ((rs : List Made) → sound_value rs v ≡ true)
Fine t (ends c) = is_condition c ≡ true
Fine t mistyped = ⊥

-- ── counting ──
abbrev pub counted : Bool → ℕ → ℕ
counted true n = suc n
counted false n = n

-- how often a number stands in a list
unfoldable pub occurs : ℕ → List ℕ → ℕ
occurs g [] = 0
occurs g (x ∷ xs) = counted (eqb x g) (occurs g xs)

-- how many holds, and how many releases, of group g are among events
abbrev pub is_hold : ℕ → Event → Bool
is_hold g (set c l) = false
is_hold g (hold x) = eqb x g
is_hold g (release x) = false

abbrev pub is_release : ℕ → Event → Bool
is_release g (set c l) = false
is_release g (hold x) = false
is_release g (release x) = eqb x g

unfoldable pub holds_of : ℕ → List Event → ℕ
holds_of g [] = 0
holds_of g (e ∷ es) = counted (is_hold g e) (holds_of g es)

unfoldable pub releases_of : ℕ → List Event → ℕ
releases_of g [] = 0
releases_of g (e ∷ es) = counted (is_release g e) (releases_of g es)

-- how many holds of group g are open in a state
abbrev pub open_holds : ℕ → Machine → ℕ
open_holds g (running s f fs) = occurs g (all_holds (f ∷ fs))
open_holds g (unwinding gs a) = occurs g gs
open_holds g (ended c) = 0

-- ── a step ──
-- the events among what a step gives
abbrev pub events_in : List Item → List Event
events_in [] = []
events_in (event e ∷ is) = e ∷ events_in is
events_in (reading f v ∷ is) = events_in is

-- channel, level and group as the paper numbers them
abbrev pub InRange : Event → Type 0
InRange (set c l) = (1 ≤ c) × (c ≤ 512) × (l ≤ 255)
InRange (hold g) = g ≤ 63
InRange (release g) = g ≤ 63

-- a step that gives a reading goes on running
abbrev pub ReadsOn : List Item → Machine → Type 0
ReadsOn is (running s f fs) = Unit {0}
ReadsOn is (unwinding gs a) = readings_in is ≡ 0
ReadsOn is (ended c) = readings_in is ≡ 0

-- a safe step from s to t: t is sound, at most one item is given, and each hold open in s or given is open in t or released
pub record Moves (m : Macro) (s : Machine) (is : List Item) (t : Machine) : Type 0 where
  pub still-sound : sound m t ≡ true
  pub one-item : length is ≤ 1
  pub in-range : Each InRange (events_in is)
  pub reads_on : ReadsOn is t
  pub account : (g : ℕ) → holds_of g (events_in is) + open_holds g s ≡ releases_of g (events_in is) + open_holds g t

-- a step from s: there is one, and it is safe
abbrev pub Steps : Macro → Machine → Stepped → Type 0
Steps m s (moved is t) = Moves m s is t
Steps m s (stuck why) = ⊥

-- the states that steps lead to, with any readings
pub data Reaches (m : Macro) (s : Machine) : Machine → Type 0 where
  at_once : Reaches m s s
  after : {t u : Machine} {is : List Item} (bank : ℕ → ℕ) → ((n : ℕ) → bank n < 256) → Reaches m s t → step m bank t ≡ moved is u → Reaches m s u

-- ── runs ──
abbrev pub event_of : Answer → List Event
event_of (happens e n) = e ∷ []
event_of (spends n) = []
event_of (finishes c n) = []
event_of (refuses r) = []
event_of (halts why) = []

abbrev pub steps_of : Answer → ℕ
steps_of (happens e n) = n
steps_of (spends n) = n
steps_of (finishes c n) = n
steps_of (refuses r) = 0
steps_of (halts why) = 0

abbrev pub events_of : List Ran → List Event
events_of [] = []
events_of (r ∷ rs) = event_of r.answer ++ events_of rs

-- the state after runs that began in s
abbrev pub state_after : Machine → List Ran → Machine
state_after s [] = s
state_after s (r ∷ rs) = state_after r.state rs

-- what a run of this feed from state s may answer, with state t after it: never without a next step; a refusal is 11, given exactly
-- where the readings are not 64 bytes, and leaves the state as it is; an event's numbers are in range; an end is 0 or a condition
abbrev pub Answers : Feed → Machine → Answer → Machine → Type 0
Answers f s (happens e n) t = (length f.readings ≡ 64) × (n ≤ f.allowance) × InRange e
Answers f s (spends n) t = (length f.readings ≡ 64) × (n ≡ f.allowance)
Answers f s (finishes c n) t = (length f.readings ≡ 64) × (n ≤ f.allowance) × (t ≡ ended c) × ((c ≡ 0) ⊎ (is_condition c ≡ true))
Answers f s (refuses r) t = (length f.readings ≡ 64 → ⊥) × (r ≡ refusal 11 0) × (t ≡ s)
Answers f s (halts why) t = ⊥

pub record SafeRun (m : Macro) (f : Feed) (s : Machine) (r : Ran) : Type 0 where
  pub still-sound : sound m r.state ≡ true
  pub answers : Answers f s r.answer r.state
  -- the event of its trace is the one answered, and no step takes more than one reading
  pub traced : (events_in r.trace ≡ event_of r.answer) × (readings_in r.trace ≤ steps_of r.answer)
  -- an ended state answers its end again, with 0 steps
  pub ends-again : (c : ℕ) → s ≡ ended c → length f.readings ≡ 64 → (r.answer ≡ finishes c 0) × (r.state ≡ ended c)

abbrev pub EachSafe : Macro → List Feed → Machine → List Ran → Type 0
EachSafe m [] s [] = Unit {0}
EachSafe m [] s (r ∷ rs) = ⊥
EachSafe m (f ∷ fs) s [] = ⊥
EachSafe m (f ∷ fs) s (r ∷ rs) = SafeRun m f s r × EachSafe m fs r.state rs

-- runs that began in state s, one for each feed
pub record Safe (m : Macro) (fs : List Feed) (s : Machine) (rs : List Ran) : Type 0 where
  pub each-run : EachSafe m fs s rs
  -- where the first n of them have come to an end, holds and releases of each group that they answered are equal in number
  pub released : (n c : ℕ) → state_after s (take n rs) ≡ ended c → (g : ℕ) → holds_of g (events_of (take n rs)) ≡ releases_of g (events_of (take n rs))
