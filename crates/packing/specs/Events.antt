-- The events of the code as those of the definitions: different ones stay different.
use Rattle.std.specs.Prelude.{◌≡◌, refl}
use Rattle.values.specs.Trace as trace
use Rattle.machine_ops.specs.declared.Event.{Event}
use Rattle.machine_ops.specs.declared.Event.TheVariants.{Set, Hold, Release}
use Rattle.machine_ops.specs.Acts.{event_of}

abbrev pub event_back : Event → trace.Event
event_back (Set c v) = trace.set c v
event_back (Hold g) = trace.hold g
event_back (Release g) = trace.release g

pub event-back : (e : Event) → event_of (event_back e) ≡ e
event-back (Set c v) = refl
event-back (Hold g) = refl
event-back (Release g) = refl

pub back-event : (e : trace.Event) → event_back (event_of e) ≡ e
back-event (trace.set c v) = refl
back-event (trace.hold g) = refl
back-event (trace.release g) = refl
