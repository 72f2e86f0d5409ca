use Rattle.std.proofs.Common.{refl, subst, IfErr}
use Rattle.hq_events.specs.declared.event.Event.TheVariants as event
use Rattle.hq_machine.specs.Enabled.{Possible}
use Rattle.hq_model.specs.Machine as machine
use Rattle.hq_model.specs.Journal.Coarse.{One}
use Rattle.hq_hall.specs.Histories.{Refused}
use Rattle.hq_hall.specs.View.{HallValue, job_of}
use Rattle.hq_hall.proofs.Keeping.{quiet_stood}
use Rattle.hq_hall.proofs.hall.Hall.enter.Goals as goal

pub invariant_of-self : goal.invariant_of-self
invariant_of-self c =
    quiet_stood c.take.result c.self.inside.history c.take.new.self (event.Enter c.args.packet) c.self.inside.grants c.self.inside.stages.items c.self.inside.tray.packets c.take.ensures.ok c.take.ensures.err
    (λ p. refl) (λ p. refl) (λ p. refl) c.self.invariant

pub returns-clause-fault : goal.returns-clause-fault
returns-clause-fault c = subst (λ (h : HallValue). IfErr c.take.result (λ f. Refused (Possible (job_of h) h.state (One (machine.Event.Enter c.args.packet))) f)) c.self.view_is c.take.ensures.fault
