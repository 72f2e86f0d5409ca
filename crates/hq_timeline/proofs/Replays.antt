-- Events applied one behind another.
use Rattle.std.proofs.Common.{◌≡◌, ℕ, zero, suc, ◌+◌, ◌<◌, ◌≤◌, List, [], ◌∷◌, ◌++◌, length, take, map, Some, refl, sym, ap, subst, ◌∙◌, arith, add-one}
use Rattle.std.proofs.Math.Seq.{take-suc}
use Rattle.std.specs.Prelude.{slice_get, slice_index, slice_index_or}
use Rattle.hq_events.specs.declared.event.Event.{Event}
use Rattle.hq_events.specs.declared.fault.StepFault.{StepFault}
use Rattle.hq_events.specs.declared.fault.StepFault.TheVariants as step
use Rattle.hq_events.specs.Events.{coarse_of}
use Rattle.hq_machine.specs.Changes.{Applied}
use Rattle.hq_machine.specs.Enabled.{NotApplied}
use Rattle.hq_machine.specs.State.{StateValue}
use Rattle.hq_machine.specs.View.{state_of}
use Rattle.hq_model.specs.Job.{Job}
use Rattle.hq_model.specs.Machine.{State, listed, start}
use Rattle.hq_model.specs.Journal.{Coarse, Happens, Journal}
use Rattle.hq_timeline.specs.declared.fault.ReplayFault.{ReplayFault}
use Rattle.hq_timeline.specs.Replays.{Goes, Stops, FaultOf, Replayed}

-- one event more behind those that led to a state
journal_snoc : (job : Job) (old mid new : State) (events : List Coarse) (event : Coarse) → Journal job old events mid → Happens job mid event new → Journal job old (events ++ event ∷ []) new
journal_snoc job old mid new [] event is h = (new, subst (λ s. Happens job s event new) is h, refl)
journal_snoc job old mid new (e ∷ events) event (next, first, rest) h = (next, first, journal_snoc job next mid new events event rest h)

coarse_snoc : (xs : List Event) (x : Event) → map coarse_of (xs ++ x ∷ []) ≡ map coarse_of xs ++ coarse_of x ∷ []
coarse_snoc [] x = refl
coarse_snoc (y ∷ xs) x = ap (λ ys. coarse_of y ∷ ys) (coarse_snoc xs x)

take_next : (xs : List Event) (i : ℕ) (d : Event) → i < length xs → take (i + 1) xs ≡ take i xs ++ slice_index_or xs i d ∷ []
take_next xs i d l = ap (λ k. take k xs) (add-one i) ∙ take-suc xs i d l

get_there : (xs : List Event) (i : ℕ) (d : Event) → i < length xs → slice_get xs i ≡ Some (slice_index_or xs i d)
get_there [] i d l = absurd (omega arith)
get_there (y ∷ xs) zero d l = refl
get_there (y ∷ xs) (suc i) d l = get_there xs i d (omega arith)

pub goes_next : (job : Job) (old mid new : StateValue) (events : List Event) (i : ℕ) (d : Event) → Goes job old (take i events) mid → i < length events
    → Applied job mid (coarse_of (slice_index_or events i d)) new → Goes job old (take (i + 1) events) new
goes_next job old mid new events i d g l a =
    let event : Event = slice_index_or events i d in
    record {
      is = a.is;
      journal = subst (λ xs. Journal job (state_of job old) (map coarse_of xs) (state_of job new)) (sym (take_next events i d l))
          (subst (λ xs. Journal job (state_of job old) xs (state_of job new)) (sym (coarse_snoc (take i events) event))
          (journal_snoc job (state_of job old) (state_of job mid) (state_of job new) (map coarse_of (take i events)) (coarse_of event) g.journal a.happens));
    }

pub stops_here : (job : Job) (old mid : StateValue) (events : List Event) (i : ℕ) (d : Event) (why : StepFault) (answered : ReplayFault) → Goes job old (take i events) mid → i < length events
    → NotApplied job mid (coarse_of (slice_index_or events i d)) why → FaultOf i why answered → Stops job old events answered
stops_here job old mid events i d step.NotEnabled answered g l not is =
    subst (λ (f : ReplayFault). Stops job old events f) (sym is)
    (record { event = slice_index_or events i d; there = get_there events i d l; state = state_of job mid; journal = g.journal; refused = λ new h. not (new, h) })
stops_here job old mid events i d step.Memory answered g l not is = subst (λ (f : ReplayFault). Stops job old events f) (sym is) tt

-- ---- from the start

listed_take : (n : ℕ) (xs : List ℕ) → n ≤ length xs → listed n (λ b. slice_index xs b) ≡ take n xs
listed_take zero xs l = refl
listed_take (suc n) xs l = ap (λ ys. ys ++ slice_index xs n ∷ []) (listed_take n xs (omega arith)) ∙ sym (take-suc xs n 0 (omega arith))

take_whole : (n : ℕ) (xs : List ℕ) → length xs ≡ n → take n xs ≡ xs
take_whole zero [] e = refl
take_whole (suc n) [] e = refl
take_whole zero (x ∷ xs) e = absurd (omega (arith, e))
take_whole (suc n) (x ∷ xs) e = ap (λ ys. x ∷ ys) (take_whole n xs (omega (arith, e)))

pub replayed : (job : Job) (old new : StateValue) (events : List Event) (bytes : List ℕ) → state_of job old ≡ start job → Goes job old events new → bytes ≡ new.copies.memory → Replayed job events bytes
replayed job old new events bytes begun g same =
    record {
      state = state_of job new;
      run = subst (λ s. Journal job s (map coarse_of events) (state_of job new)) begun g.journal;
      memory = same ∙ sym (listed_take (length job.memory) new.copies.memory (omega (arith, g.is.lengths.memory)) ∙ take_whole (length job.memory) new.copies.memory g.is.lengths.memory);
    }
