use Rattle.std.proofs.Common.{refl}
use Rattle.hq_events.specs.declared.event.Event.TheVariants as event
use Rattle.hq_hall.proofs.Keeping.{quiet_stood}
use Rattle.hq_hall.proofs.hall.Hall.launch.Goals as goal

pub invariant_of-self : goal.invariant_of-self
invariant_of-self c =
    quiet_stood c.take.result c.self.inside.history c.take.new.self (event.Launch c.args.queue) c.self.inside.grants c.self.inside.stages.items c.self.inside.tray.packets c.take.ensures.ok c.take.ensures.err
    (λ p. refl) (λ p. refl) (λ p. refl) c.self.invariant
