-- One event more in a journal, and that a packet which has read all can make all its stores.
use Rattle.std.proofs.Common.{◌≡◌, ℕ, suc, ◌<◌, ◌≢◌, List, [], ◌∷◌, ◌++◌, length, map, refl, sym, ◌∙◌, subst, arith, true, false, AllPairs, slice_index}
use Rattle.hq_model.specs.Job.{Job, packet, IsPacket}
use Rattle.hq_model.specs.Order.{In, place}
use Rattle.hq_model.specs.Machine.{State, Steps, AllRead, bytes_stored, dirty, put2}
use Rattle.hq_model.specs.Machine.Phase.{Active}
use Rattle.hq_model.specs.Machine.Event.{Store}
use Rattle.hq_model.specs.Journal.{Coarse, Happens, Journal, numbers}
use Rattle.hq_model.specs.Journal.Coarse.{Deliver}
use Rattle.hq_model.proofs.Places.{at_place, place_of_packets, in_first, in_cons, numbers_below, numbers_once}
use Rattle.hq_model.proofs.Sums.{put2_other}

-- A journal goes on by an event that happens at its end.
pub journal_snoc : (job : Job) (old mid new : State) (events : List Coarse) (event : Coarse)
    → Journal job old events mid → Happens job mid event new
    → Journal job old (events ++ event ∷ []) new
journal_snoc job old mid new [] event is h = (new, subst (λ s. Happens job s event new) is h, refl)
journal_snoc job old mid new (first ∷ events) event (next, begin, rest) h =
    (next, begin, journal_snoc job next mid new events event rest h)

-- ---- stores

first_apart : (x : ℕ) (xs : List ℕ) → AllPairs (λ p r. p ≢ r) (x ∷ xs) → In xs x → ⊥
first_apart x xs h i = h 0 (suc (place xs x)) 0 (omega arith) (omega arith) (sym (at_place xs x 0 i))

rest_apart : (x : ℕ) (xs : List ℕ) → AllPairs (λ p r. p ≢ r) (x ∷ xs) → AllPairs (λ p r. p ≢ r) xs
rest_apart x xs h = λ i j d lt within. h (suc i) (suc j) d (omega arith) (omega arith)

-- Stores of an active packet that has read all can be made one behind another, where none of them is made.
pub stores_come : (job : Job) (old : State) (p : ℕ) (ks : List ℕ) → IsPacket job p → old.phase p ≡ Active
    → AllRead job old p → AllPairs (λ i j. i ≢ j) ks
    → ((i : ℕ) → In ks i → i < length (packet job p).writes) → ((i : ℕ) → In ks i → old.stored p i ≡ false)
    → (new : State) × Steps job old (map (Store p) ks) new
stores_come job old p [] there active all once within fresh = (old, refl)
stores_come job old p (k ∷ ks) there active all once within fresh =
    let mid : State = record old {
      stored = put2 old.stored p k true;
      lane = put2 old.lane p (slice_index (packet job p).writes k) (dirty (slice_index (bytes_stored job old p) k));
    } in
    let apart = λ (i : ℕ) (h : In ks i) (e : i ≡ k). first_apart k ks once (subst (In ks) e h) in
    let (new, run) =
    stores_come job mid p ks there active all (rest_apart k ks once) (λ i h. within i (in_cons k ks i h))
    (λ i h. put2_other old.stored p k true p i (λ _ e. apart i h e) ∙ fresh i (in_cons k ks i h)) in
    (new, (mid, (there, active, all, within k (in_first k ks k refl), fresh k (in_first k ks k refl), refl), run))

-- So all its stores can come.
pub deliver_comes : (job : Job) (old : State) (p : ℕ) → IsPacket job p → old.phase p ≡ Active → AllRead job old p
    → ((i : ℕ) → i < length (packet job p).writes → old.stored p i ≡ false)
    → (new : State) × Happens job old (Deliver p) new
deliver_comes job old p there active all fresh =
    let (new, run) =
    stores_come job old p (numbers count) there active all (numbers_once count) below (λ i h. fresh i (below i h)) in
    (new, (there, run))
  where
    count : ℕ
    count = length (packet job p).writes

    below : (i : ℕ) → In (numbers count) i → i < length (packet job p).writes
    below i h = place_of_packets (λ k. k < count) (numbers count) i (numbers_below count count (omega arith)) h
