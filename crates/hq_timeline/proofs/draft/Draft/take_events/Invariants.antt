use Rattle.std.proofs.Common.{◌≡◌, length}
use Rattle.hq_timeline.specs.declared.draft.Stage.TheVariants as stage
use Rattle.hq_timeline.specs.DraftView.{state_of}
use Rattle.hq_timeline.specs.OnePass.{TakenFrom}
use Rattle.hq_timeline.proofs.draft.Draft.take_events.Given as goal

abbrev pub invariant-loop-event : goal.invariant-loop-event
invariant-loop-event l = record {
  taken : TakenFrom l.text l.rest l.taken (state_of l.fn.self) (state_of l.self);
  at : l.self.stage ≡ stage.Events;
}

abbrev pub decreases-loop-event : goal.decreases-loop-event
decreases-loop-event l = length l.rest
