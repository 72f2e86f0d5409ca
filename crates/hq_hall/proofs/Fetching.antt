-- What a fetch reads, and that a packet that has read all has read what it is given one packet at a time.
use Rattle.std.proofs.Common.{◌≡◌, ℕ, ◌<◌, inl, inr, List, [], ◌∷◌, length, map, refl, sym, ◌∙◌, ap, arith, Some, slice_index, unwrap_or}
use Rattle.std.proofs.lemmas.Bool.{cases_eq}
use Rattle.std.proofs.lemmas.List.{take_all}
use Rattle.hq_model.specs.Job.{Job, packet}
use Rattle.hq_model.specs.Order.{In, Extends}
use Rattle.hq_model.specs.Fence.{Ordered}
use Rattle.hq_model.specs.Machine.{State, Steps, AllRead, bytes_read, lane_sees}
use Rattle.hq_model.specs.Machine.Event.{Read}
use Rattle.hq_model.specs.Journal.{Coarse, Happens, JournalRun, numbers}
use Rattle.hq_model.specs.Journal.Coarse.{Fetch}
use Rattle.hq_model.specs.OneByOne.{given}
use Rattle.hq_model.specs.Theorems.{Valid}
use Rattle.hq_model.proofs.Places.{in_rest, in_numbers}
use Rattle.hq_model.proofs.Sums.{put2_same}
use Rattle.hq_model.proofs.Journals.{journals_run}
use Rattle.hq_model.proofs.Given.{listed_is, index_map, length_of_map}
use Rattle.hq_model.proofs.Headline as headline
use Rattle.hq_hall.proofs.Stays.{Stays, steps_stay, each_made, is_read, read_leaves}

reads_stay : (job : Job) (old : State) (ks : List ℕ) (new : State) (p : ℕ) → Steps job old (map (Read p) ks) new
    → Stays old new p
reads_stay job old ks new p run =
    steps_stay job p is_read (read_leaves p) old (map (Read p) ks) new (each_made is_read (Read p) ks (λ j. refl)) run

-- Reads of p's entries give what p's lane sees there.
pub reads_see : (job : Job) (old : State) (ks : List ℕ) (new : State) (p : ℕ) → Steps job old (map (Read p) ks) new
    → (i : ℕ) → In ks i → new.read p i ≡ Some (lane_sees job old p (slice_index (packet job p).reads i))
reads_see job old [] new p run i h = absurd (omega arith)
reads_see job old (k ∷ ks) new p (mid, step, rest) i h = elim (cases_eq i k) [
  | inl e ↦
      (reads_stay job mid ks new p rest).read i (lane_sees job old p (slice_index (packet job p).reads i))
      (ap (λ s. s.read p i) step.4
      ∙ put2_same old.read p k (Some (lane_sees job old p (slice_index (packet job p).reads k))) p i refl e
      ∙ ap (λ j. Some (lane_sees job old p (slice_index (packet job p).reads j))) (sym e))
  | inr d ↦
      reads_see job mid ks new p rest i (in_rest k ks i (λ e. d (sym e)) h)
      ∙ ap (λ s. Some (lane_sees job s p (slice_index (packet job p).reads i))) step.4
]

-- After p's fetch each of its entries holds the byte that p's lane saw before.
pub fetched_sees : (job : Job) (old new : State) (p : ℕ) → Happens job old (Fetch p) new → (i : ℕ)
    → i < length (packet job p).reads
    → new.read p i ≡ Some (lane_sees job old p (slice_index (packet job p).reads i))
fetched_sees job old new p h i l =
    reads_see job old (numbers (length (packet job p).reads)) new p h.1 i (in_numbers (length (packet job p).reads) i l)

-- All of them, in order.
pub fetched_bytes : (job : Job) (old new : State) (p : ℕ) → Happens job old (Fetch p) new
    → bytes_read job new p ≡ map (lane_sees job old p) (packet job p).reads
fetched_bytes job old new p h =
    listed_is (length reads) (λ i. unwrap_or (new.read p i) 0) seen (omega (arith, same_length)) at
    ∙ take_all (length reads) seen (omega (arith, same_length))
  where
    reads : List ℕ
    reads = (packet job p).reads

    seen : List ℕ
    seen = map (lane_sees job old p) reads

    same_length : length seen ≡ length reads
    same_length = length_of_map (lane_sees job old p) reads

    at : (i : ℕ) → i < length reads → unwrap_or (new.read p i) 0 ≡ slice_index seen i
    at i l =
        ap (λ o. unwrap_or o 0) (fetched_sees job old new p h i l) ∙ sym (index_map (lane_sees job old p) reads i l)

reads_only : (job : Job) (old : State) (ks : List ℕ) (new : State) (p : ℕ) → Steps job old (map (Read p) ks) new
    → (new.phase ≡ old.phase) × (new.stored ≡ old.stored)
reads_only job old [] new p is = (ap (λ s. s.phase) is, ap (λ s. s.stored) is)
reads_only job old (k ∷ ks) new p (mid, step, rest) =
    let (phases, stores) = reads_only job mid ks new p rest in
    (phases ∙ ap (λ s. s.phase) step.4, stores ∙ ap (λ s. s.stored) step.4)

-- A fetch changes no phase and stores nothing.
pub fetched_stays : (job : Job) (old new : State) (p : ℕ) → Happens job old (Fetch p) new
    → (new.phase ≡ old.phase) × (new.stored ≡ old.stored)
fetched_stays job old new p h = reads_only job old (numbers (length (packet job p).reads)) new p h.1

-- In every journal of an ordered job a packet that has read all has read what the job gives it one packet at a time.
pub read_is_given : (job : Job) (list : List ℕ) (journal : List Coarse) (state : State) (p : ℕ) → Valid job
    → Ordered job → Extends job list
    → JournalRun job journal state → AllRead job state p → bytes_read job state p ≡ given job list p
read_is_given job list journal state p valid ordered extends run all =
    let (events, steps) = journals_run job journal state run in
    headline.read_is_given job list valid ordered extends state
    (headline.good_run job list valid ordered extends events state steps) p all
