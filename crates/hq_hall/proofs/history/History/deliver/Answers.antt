use Rattle.std.proofs.Common.{◌≡◌, subst, sym}
use Rattle.hq_job.specs.Plan.{plan}
use Rattle.hq_events.specs.declared.event.Event.TheVariants as event
use Rattle.hq_machine.specs.Enabled.{Possible}
use Rattle.hq_machine.specs.View.{state_of}
use Rattle.hq_model.specs.Journal.Coarse.{Deliver}
use Rattle.hq_model.specs.Machine.{bytes_stored}
use Rattle.hq_hall.specs.Histories.{HistoryValue, plan_of}
use Rattle.hq_hall.proofs.Events.{run_grows}
use Rattle.hq_hall.proofs.history.History.deliver.Goals as goal

pub apply_delivery-requires-clause-bytes : goal.apply_delivery-requires-clause-bytes
apply_delivery-requires-clause-bytes c =
    subst (λ (h : HistoryValue). Possible (plan_of h) h.state (Deliver c.args.packet) → c.args.bytes.now ≡ bytes_stored (plan_of h) (state_of (plan_of h) h.state) c.args.packet) (sym c.self.view_is) c.requires.bytes

-- the journal has one event more
pub invariant_of-self-in-Ok : goal.invariant_of-self-in-Ok
invariant_of-self-in-Ok c =
    run_grows (plan c.self.inside.accepted.now.job) c.self.inside.journal c.push.new.self c.self.inside.state c.apply_delivery.new.state (event.Deliver c.args.packet) c.self.invariant c.in-Ok.ensures.ok c.in_ok-push.ensures.ok
