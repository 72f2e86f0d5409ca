use Rattle.std.proofs.Common.{sym, ◌∙◌, arith}
use Rattle.hq_events.specs.declared.event.Event.TheVariants as event
use Rattle.hq_job.specs.Plan.{plan}
use Rattle.hq_runner.specs.Journals.{owned}
use Rattle.hq_runner.proofs.Asked.{next_in, untrue}
use Rattle.hq_runner.proofs.owner.is_receipt.Goals as goal
use Rattle.hq_runner.proofs.owner.is_receipt.Goals.{then-next-list-via-then-next-list, then-next-list-via-else-next-list+then-not-same_event}

pub returns-then-next-list : goal.returns-then-next-list
returns-then-next-list c = (
  λ t. cc,
  λ same.
      let (there, is) = next_in (owned (plan c.args.job.now) c.args.owner) c.args.journal.now c.args.list.now c.loop-event.event-index c.loop-event.next event.Submit
      c.loop-event-test.true (sym c.owns.ensures ∙ c.if-owns.true) c.loop-event.invariant.room c.loop-event.invariant.same same in
      elim c.then-next-list.branch [
        | then-next-list-via-then-next-list w ↦ absurd (omega (arith, there, w.if-next-list.true))
        | then-next-list-via-else-next-list+then-not-same_event w ↦ absurd (untrue w.same_event.result (w.same_event.ensures.1 is) w.if-not-same_event.true)
      ],
)
