-- Journals that grow at their end.
use Rattle.std.proofs.Common.{◌≡◌, List, [], ◌∷◌, ◌++◌, map, refl, subst, sym, ap}
use Rattle.hq_events.specs.declared.event.Event.{Event}
use Rattle.hq_events.specs.declared.fault.StepFault.{StepFault}
use Rattle.hq_events.specs.declared.fault.StepFault.TheVariants as step
use Rattle.hq_events.specs.Events.{coarse_of}
use Rattle.hq_machine.specs.Changes.{Applied}
use Rattle.hq_machine.specs.Enabled.{NotApplied}
use Rattle.hq_machine.specs.State.{StateValue}
use Rattle.hq_machine.specs.View.{IsStateOf, state_of}
use Rattle.hq_model.specs.Job.{Job}
use Rattle.hq_model.specs.Machine.{start}
use Rattle.hq_model.specs.Journal.{Coarse, Journal}
use Rattle.hq_hall.proofs.Journals.{journal_snoc}
use Rattle.hq_hall.specs.declared.fault.HallFault.{HallFault}
use Rattle.hq_hall.specs.Faults.{hall_fault}
use Rattle.hq_hall.specs.Histories.{RunSoFar, NotDone}

coarse_snoc : (xs : List Event) (x : Event) → map coarse_of (xs ++ x ∷ []) ≡ map coarse_of xs ++ coarse_of x ∷ []
coarse_snoc [] x = refl
coarse_snoc (y ∷ xs) x = ap (λ ys. coarse_of y ∷ ys) (coarse_snoc xs x)

pub run_more : (job : Job) (events : List Event) (mid new : StateValue) (event : Event) → RunSoFar job events mid → Applied job mid (coarse_of event) new → RunSoFar job (events ++ event ∷ []) new
run_more job events mid new event run a =
    record {
      is = a.is;
      run = subst (λ xs. Journal job (start job) xs (state_of job new)) (sym (coarse_snoc events event))
          (journal_snoc job (start job) (state_of job mid) (state_of job new) (map coarse_of events) (coarse_of event) run.run a.happens);
    }

-- where no event has happened
pub run_starts : (job : Job) (state : StateValue) → IsStateOf job state → state_of job state ≡ start job → RunSoFar job [] state
run_starts job state is same = record { is = is; run = same }

pub run_grows : (job : Job) (old all : List Event) (mid new : StateValue) (event : Event) → RunSoFar job old mid → Applied job mid (coarse_of event) new → all ≡ old ++ event ∷ [] → RunSoFar job all new
run_grows job old all mid new event run a same = subst (λ xs. RunSoFar job xs new) (sym same) (run_more job old mid new event run a)

pub not_done : (job : Job) (v : StateValue) (event : Coarse) (why : StepFault) (f : HallFault) → NotApplied job v event why → f ≡ hall_fault why → NotDone job v event f
not_done job v event step.NotEnabled f not is = subst (λ g. NotDone job v event g) (sym is) not
not_done job v event step.Memory f not is = subst (λ g. NotDone job v event g) (sym is) tt
