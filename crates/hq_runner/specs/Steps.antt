-- What each step is as an event.
use Rattle.hq_events.specs.declared.event.Event.{Event}
use Rattle.hq_events.specs.declared.event.Event.TheVariants as event
use Rattle.hq_runner.specs.declared.step.Step.{Step}
use Rattle.hq_runner.specs.declared.step.Step.TheVariants as step

-- the event of a step
abbrev pub event_of : Step → Event
event_of step.Submit = event.Submit
event_of (step.Launch queue) = event.Launch queue
event_of (step.Observe packet slot) = event.Observe packet slot
event_of (step.Enter packet) = event.Enter packet
event_of (step.Complete packet) = event.Complete packet
