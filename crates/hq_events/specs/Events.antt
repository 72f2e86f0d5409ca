-- What an event is in the machine's words: a single step, or a list of steps.
use Rattle.std.specs.Prelude.{Option, Some, None}
use Rattle.hq_events.specs.declared.event.Event.{Event}
use Rattle.hq_events.specs.declared.event.Event.TheVariants as event
use Rattle.hq_model.specs.Machine as machine
use Rattle.hq_model.specs.Journal.{Coarse}
use Rattle.hq_model.specs.Journal.Coarse.{One, Fetch, Deliver, Complete, Rest}

-- the event in the words of the model
abbrev pub coarse_of : Event → Coarse
coarse_of event.Submit = One machine.Event.Submit
coarse_of (event.Launch queue) = One (machine.Event.Launch queue)
coarse_of (event.Observe packet slot) = One (machine.Event.Observe packet slot)
coarse_of (event.Enter packet) = One (machine.Event.Enter packet)
coarse_of (event.Fetch packet) = Fetch packet
coarse_of (event.Deliver packet) = Deliver packet
coarse_of (event.Complete packet) = Complete packet
coarse_of event.Rest = Rest
coarse_of (event.Read packet entry) = One (machine.Event.Read packet entry)
coarse_of (event.Store packet entry) = One (machine.Event.Store packet entry)
coarse_of (event.Finish packet) = One (machine.Event.Finish packet)
coarse_of (event.PushLane packet byte) = One (machine.Event.PushLane packet byte)
coarse_of (event.PushAgent agent byte) = One (machine.Event.PushAgent agent byte)
coarse_of (event.FillLane packet byte) = One (machine.Event.FillLane packet byte)
coarse_of (event.FillAgent agent byte) = One (machine.Event.FillAgent agent byte)
coarse_of (event.DropLane packet byte) = One (machine.Event.DropLane packet byte)
coarse_of (event.DropAgent agent byte) = One (machine.Event.DropAgent agent byte)

-- the single step that a coarse event is, if it is one
abbrev pub one_of : Coarse → Option machine.Event
one_of (One event) = Some event
one_of (Fetch packet) = None
one_of (Deliver packet) = None
one_of (Complete packet) = None
one_of Rest = None

-- the single step that an event is, if it is one
abbrev pub single_of : Event → Option machine.Event
single_of event = one_of (coarse_of event)
