use Rattle.std.proofs.Common.{IsTrue, refl, sym, ◌∙◌}
use Rattle.hq_events.specs.declared.event.Event.TheVariants as event
use Rattle.hq_runner.specs.Journals.{is_asked}
use Rattle.hq_runner.proofs.Asked.{not_all, taken_more, taken_all}
use Rattle.hq_runner.proofs.owner.are_asked.Goals as goal

pub returns-then-not-is_asked : goal.returns-then-not-is_asked
returns-then-not-is_asked c = (
  λ t. cc,
  λ all. absurd (not_all is_asked c.args.journal.now c.loop-event.event-index event.Submit c.loop-event-test.true (sym c.is_asked.ensures ∙ c.if-not-is_asked.true) all),
)

pub loop-event-preserved : goal.loop-event-preserved
loop-event-preserved c =
    taken_more (λ e. IsTrue (is_asked e)) c.args.journal.now c.loop-event.event-index event.Submit c.loop-event-test.true
    (sym c.is_asked.ensures ∙ c.if-not-is_asked.false) c.loop-event.invariant

pub returns : goal.returns
returns c = (
  λ t. taken_all (λ e. IsTrue (is_asked e)) c.args.journal.now c.loop-event.event-index c.loop-event-test.false c.loop-event.invariant,
  λ all. refl,
)
