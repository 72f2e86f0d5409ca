-- The phases of the code are told apart as those of the model.
use Rattle.std.proofs.Common.{◌≡◌, refl, sym, ◌∙◌, ap}
use Rattle.hq_model.specs.Machine as machine
use Rattle.hq_events.specs.Phases.{named}
use Rattle.hq_events.specs.declared.phase.Phase.{Phase}
use Rattle.hq_events.specs.declared.phase.Phase.TheVariants as phase

own : machine.Phase → Phase
own machine.Phase.Waiting = phase.Waiting
own machine.Phase.InQueue = phase.InQueue
own machine.Phase.Launched = phase.Launched
own machine.Phase.Active = phase.Active
own machine.Phase.Complete = phase.Complete

own_named : (x : Phase) → own (named x) ≡ x
unfolding own
own_named phase.Waiting = refl
own_named phase.InQueue = refl
own_named phase.Launched = refl
own_named phase.Active = refl
own_named phase.Complete = refl

pub named_same : (x y : Phase) → named x ≡ named y → x ≡ y
named_same x y e = sym (own_named x) ∙ ap own e ∙ own_named y
