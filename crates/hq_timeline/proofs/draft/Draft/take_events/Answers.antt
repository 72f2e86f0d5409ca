use Rattle.std.proofs.Common.{refl}
use Rattle.hq_timeline.specs.DraftView.{state_of}
use Rattle.hq_timeline.proofs.OnePass.{event_taken}
use Rattle.hq_timeline.proofs.draft.Draft.take_events.Goals as goal

pub loop-event-preserved : goal.loop-event-preserved
loop-event-preserved c =
    let so = c.loop-event.invariant in
    record {
      taken = event_taken c.args.text.now c.loop-event.rest.now c.in-Some.behind.now c.loop-event.taken (state_of c.args.self.now) (state_of c.loop-event.self) _ c.in-Some.event
          so.taken so.at c.in-Some.ensures (rw (so.at, c.in_ok-push.ensures.items) refl);
      at = so.at;
    }
