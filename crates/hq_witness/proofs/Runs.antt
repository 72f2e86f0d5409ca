-- A run that is made step by step.
use Rattle.std.proofs.Common.{◌≡◌, ℕ, ◌<◌, IsSome, IfSome, List, [], ◌∷◌, ◌++◌, length, map, refl, sym, ◌∙◌, ap, subst, Option, Some, None}
use Rattle.std.proofs.lemmas.List.{map-append}
use Rattle.hq_events.specs.declared.event.Event.{Event as MachineEvent}
use Rattle.hq_events.specs.Events.{coarse_of, one_of, single_of}
use Rattle.hq_machine.specs.Changes.{Moved}
use Rattle.hq_machine.specs.State.{StateValue}
use Rattle.hq_machine.specs.View.{state_of}
use Rattle.hq_model.specs.Job.{Job}
use Rattle.hq_model.specs.Journal.{Coarse}
use Rattle.hq_model.specs.Journal.Coarse.{One, Fetch, Deliver, Complete, Rest}
use Rattle.hq_model.specs.Machine.{Event, start}
use Rattle.hq_model.specs.Origins.{all_start, moved}
use Rattle.hq_model.proofs.Origins.{traced_more}
use Rattle.hq_witness.specs.declared.origin.Origin.{Origin}
use Rattle.hq_witness.specs.declared.place.Place.{Place}
use Rattle.hq_witness.specs.declared.place.Place.TheVariants as place
use Rattle.hq_witness.specs.declared.recording.Recording.{Recording}
use Rattle.hq_witness.specs.declared.trace.Trace.{Trace}
use Rattle.hq_witness.specs.Differences.{Has, TellsAt}
use Rattle.hq_witness.specs.Origins.{named, origin_at, IsPlace}
use Rattle.hq_witness.specs.Traces.{Comes, IsRecording, IsSighting, Follows}
use Rattle.hq_witness.specs.Witness.{IsFinished, IsWholeRun}

one_is : (c : Coarse) (e : Event) → one_of c ≡ Some e → c ≡ One e
one_is (One x) e h = cc
one_is (Fetch p) e h = absurd cc
one_is (Deliver p) e h = absurd cc
one_is (Complete p) e h = absurd cc
one_is Rest e h = absurd cc

module _ (job : Job) (r : Recording) (state : StateValue) (journal : List MachineEvent) (trace : Trace) (event : MachineEvent) where
  taken_one : (e : Event) → single_of event ≡ Some e → IsRecording job r → Moved job r.state e state → Follows job r.trace e (state_of job state) trace → journal ≡ r.journal ++ event ∷ [] → IsRecording job (record { state = state; journal = journal; trace = trace })
  taken_one e single h m follows pushed = record {
    is = m.is;
    events = h.events ++ e ∷ [];
    singles =
        ap (map coarse_of) pushed
        ∙ map-append coarse_of r.journal (event ∷ [])
        ∙ ap (λ xs. xs ++ coarse_of event ∷ []) h.singles
        ∙ ap (λ x. map One h.events ++ x ∷ []) (one_is (coarse_of event) e single)
        ∙ sym (map-append One h.events (e ∷ []));
    origins = moved job (state_of job r.state) h.origins e;
    run = traced_more job (start job) all_start h.events (state_of job r.state) h.origins e (state_of job state) h.run m.step;
    tells = follows (state_of job r.state) h.origins m.step h.tells;
  }

  pub taken : IsRecording job r → IsSome (single_of event) → IfSome (single_of event) (λ e. Moved job r.state e state) → IfSome (single_of event) (λ e. Follows job r.trace e (state_of job state) trace) → journal ≡ r.journal ++ event ∷ [] → IsRecording job (record { state = state; journal = journal; trace = trace })
  taken h some m follows pushed =
      elim (single_of event) as (λ o. single_of event ≡ o → IsSome o → IfSome o (λ e. Moved job r.state e state) → IfSome o (λ e. Follows job r.trace e (state_of job state) trace) → IsRecording job (record { state = state; journal = journal; trace = trace })) [
        | None ↦ λ is s m f. absurd cc
        | Some e ↦ λ is s m f. taken_one e is h m f pushed
      ] refl some m follows

pub comes : (job : Job) (old new : StateValue) (o : Option Event) → IfSome o (λ e. Moved job old e new) → IfSome o (λ e. Comes job e (state_of job new))
comes job old new None m = tt
comes job old new (Some e) m = (state_of job old, m.step)

-- ---- what a trace tells at a place

told_read : (job : Job) (r : Recording) (p i : ℕ) (x : Origin) → (h : IsRecording job r) → Has r.trace.reads.items (record { packet = p; entry = i; origin = x }) → IsSighting job (state_of job r.state) h.origins (record { packet = p; entry = i; origin = x })
told_read job r p i x h (k, l, is) = subst (IsSighting job (state_of job r.state) h.origins) (sym is) (h.tells.reads k (record { packet = p; entry = i; origin = x }) l)

pub told_at : (job : Job) (r : Recording) (at : Place) (x : Origin) → (h : IsRecording job r) → TellsAt r.trace at x → origin_at h.origins at ≡ named x
told_at job r (place.Read p i) x h has = (told_read job r p i x h has).origin
told_at job r (place.Memory b) x h (is, same) = ap h.origins.memory is ∙ h.tells.copies.memory ∙ ap named same

pub told_place : (job : Job) (r : Recording) (at : Place) (x : Origin) → IsRecording job r → TellsAt r.trace at x → IsPlace job at
told_place job r (place.Read p i) x h has = let s = told_read job r p i x h has in (s.is_packet, s.few)
told_place job r (place.Memory b) x h (is, same) = subst (λ n. n < length job.memory) (sym is) h.tells.fits.is_byte

pub whole_run : (job : Job) (r : Recording) (at : Place) (x : Origin) (journal : List MachineEvent) → IsRecording job r → IsFinished job (state_of job r.state) → TellsAt r.trace at x → journal ≡ r.journal → IsWholeRun job journal at x
whole_run job r at x journal h over told same = record {
  events = h.events;
  singles = ap (map coarse_of) same ∙ h.singles;
  state = state_of job r.state;
  origins = h.origins;
  run = h.run;
  over = over;
  there = told_at job r at x h told;
}
