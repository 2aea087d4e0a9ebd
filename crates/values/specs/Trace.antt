-- What an execution does that others can see, in order, and how it ends.
use Rattle.std.specs.Prelude.{List, [], ◌∷◌, ℕ, suc}

-- "Events are: set (channel 1 to 512, level 0 to 255), hold, release."
pub data Event : Type 0 where
  set : ℕ → ℕ → Event
  hold : ℕ → Event
  release : ℕ → Event

-- readings stand in the trace beside the events: "sets, holds, releases and readings, then the end" (paper 02, ticket 4; T14)
pub data Item : Type 0 where
  event : Event → Item
  reading : ℕ → ℕ → Item  -- the fader, and the byte read

-- how many readings are among them
abbrev pub readings_in : List Item → ℕ
readings_in [] = 0
readings_in (event e ∷ is) = readings_in is
readings_in (reading f v ∷ is) = suc (readings_in is)
