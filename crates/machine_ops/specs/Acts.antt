-- What an op's function does: from the bytes of a sound running state to those of the state after the step, and what it answers.
use Rattle.std.specs.Prelude.{◌≡◌, true, List, [], ◌∷◌, ℕ, ◌+◌, ◌≤◌, ◌<◌, length}
use Rattle.bytecode.specs.Words.{value_word}
use Rattle.words.specs.Numbers.{byte_at, half_at}
use Rattle.values.specs.Trace.{Item, event, reading}
use Rattle.values.specs.Trace as trace
use Rattle.values.specs.Values.{Value}
use Rattle.bytecode.specs.Macro.{Macro}
use Rattle.bytecode.specs.Machine.{Activation, Shared, Machine, running, unwinding, ended, Stepped, moved, stuck, Here, goes_on, goes}
use Rattle.bytecode.specs.Sound.{sound}
use Rattle.bytecode.specs.State.{type_byte, encode, state_length}
use Rattle.bytecode_laws.specs.Terms.{Passed}
use Rattle.machine_frames.specs.On.{On}
use Rattle.machine_ops.specs.declared.Event.{Event}
use Rattle.machine_ops.specs.declared.Event.TheVariants.{Set, Hold, Release}
use Rattle.machine_ops.specs.declared.Out.{Out}
use Rattle.machine_ops.specs.declared.Out.TheVariants.{Goes, Reads, Gives, Ends}

-- ── what is answered for a step: its event, that it took a reading, that it ended, or nothing ──
abbrev pub event_of : trace.Event → Event
event_of (trace.set c v) = Set c v
event_of (trace.hold g) = Hold g
event_of (trace.release g) = Release g

abbrev pub out_end : Machine → Out
out_end (running rs f fs) = Goes
out_end (unwinding gs a) = Goes
out_end (ended c) = Ends c

abbrev pub out_of : List Item → Machine → Out
out_of [] s = out_end s
out_of (event e ∷ is) s = Gives (event_of e)
out_of (reading f v ∷ is) s = Reads

-- the bytes and the answer are those of a step; of a step that is none nothing is said
abbrev pub Are : Stepped → List ℕ → Out → Type 0
Are (moved is s) l o = (l ≡ encode s) × (o ≡ out_of is s)
Are (stuck why) l o = Unit {0}

pub record Told (s : Stepped) (l : List ℕ) (o : Out) : Type 0 where
  pub are : Are s l o

-- ── an op's function ──
abbrev pub here : Shared → Activation → List Activation → Here
here rs t fs = record { shared = rs; top = t; below = fs }

-- the bytes hold a sound running state, with the top at f, n operands and the address i
pub record Now (m : Macro) (l : List ℕ) (f n i : ℕ) (rs : Shared) (t : Activation) (fs : List Activation) : Type 0 where
  pub passed : Passed m
  pub sounds : sound m (running rs t fs) ≡ true
  pub on : On l f rs [] t fs
  pub depth : n ≡ length t.operands
  pub address : i ≡ t.address

-- what those numbers are below
pub record Room (l : List ℕ) (f n i : ℕ) : Type 0 where
  pub long : length l ≡ state_length
  pub place : f ≤ 10200
  pub depth : n ≤ 32
  pub address : i < 65535
  pub count : byte_at l 2 ≤ 32
  pub records : half_at l 4 ≤ 256

-- from bytes l to bytes k with the answer o, as the plain machine does by `does`
abbrev pub Tells : (Macro → Here → Stepped) → List ℕ → ℕ → ℕ → ℕ → List ℕ → Out → Type 0
Tells does l f n i k o = (m : Macro) (rs : Shared) (t : Activation) (fs : List Activation) → Now m l f n i rs t fs → Told (does m (here rs t fs)) k o

-- a value as a word and a type byte, pushed
abbrev pub Pushes : ℕ → ℕ → List ℕ → ℕ → ℕ → ℕ → List ℕ → Out → Type 0
Pushes w y l f n i k o = (v : Value) → w ≡ value_word v → y ≡ type_byte v → Tells (λ m h. goes_on [] (v ∷ h.top.operands) h) l f n i k o

abbrev pub Jumps : ℕ → List ℕ → ℕ → ℕ → ℕ → List ℕ → Out → Type 0
Jumps b l f n i k o = Tells (λ m h. goes b h.top.operands h) l f n i k o

-- one more hold finds room
pub record Holding (l : List ℕ) (f : ℕ) : Type 0 where
  pub all-few : half_at l 6 < 512
  pub own-few : byte_at l (f + 2) < 255
