-- Packets by number and their submissions make a job whose packets are each submitted once, and a queue's in its order.
use Rattle.std.proofs.Common.{◌≡◌, ℕ, ◌<◌, ◌≢◌, inl, inr, List, length, sym, ◌∙◌, ap, subst, arith, Some, slice_get, slice_index_or, All, AllPairs, map}
use Rattle.std.proofs.lemmas.Bool.{cases_eq, cases_lt}
use Rattle.std.proofs.lemmas.List.{get_or-map, length-map}
use Rattle.std.proofs.lemmas.Option.{get_or_from_slice_get}
use Rattle.hq_tables.specs.declared.rows.Placed.{Placed}
use Rattle.hq_job.specs.Numbering.{number_of, by_number, submissions_of}
use Rattle.hq_job.specs.Plan.{planned}
use Rattle.hq_job.proofs.Grouped.{Numbered, numbered, number_below, number_once, number_rises, get_number}
use Rattle.hq_model.specs.Job.{Job, packet, no_packet, Earlier}
use Rattle.hq_model.specs.Journal.{numbers}
use Rattle.hq_model.specs.Order.{EachOnce, Ahead, place}
use Rattle.hq_model.proofs.Places.{place_once, in_of, length_numbers, number_at}
use Rattle.hq_tables.proofs.Lists.{at, within, all_at}

abbrev pub queue_of : Placed → ℕ
queue_of p = p.queue

pub length_submissions : (placed : List Placed) → length (submissions_of placed) ≡ length placed
length_submissions placed = length-map (numbers (length placed)) (number_of queue_of placed) ∙ length_numbers (length placed)

pub submission_at : (placed : List Placed) (k d : ℕ) → k < length placed → slice_index_or (submissions_of placed) k d ≡ number_of queue_of placed k
submission_at placed k d l = get_or-map (number_of queue_of placed) (numbers (length placed)) k 0 d (omega (arith, length_numbers (length placed))) ∙ ap (number_of queue_of placed) (number_at (length placed) k 0 l)

-- ---- the laws

submitted_once : (placed : List Placed) → AllPairs (λ p r. p ≢ r) (submissions_of placed)
submitted_once placed i j d less inside same =
    let low : j < length placed = omega (arith, length_submissions placed) in
    let first = at placed i (omega arith) in
    let second = at placed j low in
    number_once queue_of placed i j first.x second.x first.there second.there less (sym (submission_at placed i d (omega arith)) ∙ same ∙ submission_at placed j d low)

pub each_once : (job : Job) (n : ℕ) (placed : List Placed) → All (λ p. p.queue < n) placed → job.packets ≡ map planned (by_number n placed) → EachOnce job (submissions_of placed)
each_once job n placed below packets =
    let count : length job.packets ≡ length (by_number n placed) = ap length packets ∙ length-map (by_number n placed) planned in
    record {
      packets = λ k d l.
          let low : k < length placed = omega (arith, length_submissions placed) in
          let found = at placed k low in
          subst (λ p. p < length job.packets) (sym (submission_at placed k d low)) (omega (arith, count, number_below queue_of n placed k found.x found.there (all_at (λ p. p.queue < n) placed k found.x below found.there)));
      once = submitted_once placed;
      all = λ p l.
          let found = numbered queue_of n placed p (omega arith) in
          let low : found.k < length placed = within placed found.k found.x found.there in
          in_of (submissions_of placed) found.k 0 p (omega (arith, length_submissions placed)) (submission_at placed found.k 0 low ∙ found.number_is);
    }

-- the queue of a packet is that of its line
queue_at : (job : Job) (n : ℕ) (placed : List Placed) → job.packets ≡ map planned (by_number n placed) → (p : ℕ) (found : Numbered queue_of n placed p) → (packet job p).queue ≡ found.x.queue
queue_at job n placed packets p found =
    let there : slice_get (by_number n placed) p ≡ Some found.x = subst (λ m. slice_get (by_number n placed) m ≡ Some found.x) found.number_is (get_number queue_of n placed found.k found.x found.there found.key_below) in
    ap (λ ps. (slice_index_or ps p no_packet).queue) packets
    ∙ ap (λ e. e.queue) (get_or-map planned (by_number n placed) p found.x no_packet (within (by_number n placed) p found.x there))
    ∙ ap (λ e. e.queue) (get_or_from_slice_get (by_number n placed) p found.x found.x there)

place_of_line : (placed : List Placed) (k p : ℕ) → k < length placed → number_of queue_of placed k ≡ p → place (submissions_of placed) p ≡ k
place_of_line placed k p l e =
    ap (place (submissions_of placed)) (sym (submission_at placed k 0 l ∙ e)) ∙ place_once (submissions_of placed) k 0 (submitted_once placed) (omega (arith, length_submissions placed))

pub in_order : (job : Job) (n : ℕ) (placed : List Placed) → job.packets ≡ map planned (by_number n placed) → (p r : ℕ) → Earlier job p r → Ahead (submissions_of placed) p r
in_order job n placed packets p r earlier =
    let count : length job.packets ≡ length (by_number n placed) = ap length packets ∙ length-map (by_number n placed) planned in
    let first = numbered queue_of n placed p (omega (arith, earlier.ahead, earlier.is_packet)) in
    let second = numbered queue_of n placed r (omega (arith, earlier.is_packet)) in
    let same : first.x.queue ≡ second.x.queue = sym (queue_at job n placed packets p first) ∙ earlier.same_queue ∙ queue_at job n placed packets r second in
    let at_first : place (submissions_of placed) p ≡ first.k = place_of_line placed first.k p (within placed first.k first.x first.there) first.number_is in
    let at_second : place (submissions_of placed) r ≡ second.k = place_of_line placed second.k r (within placed second.k second.x second.there) second.number_is in
    elim (cases_lt first.k second.k) [
      | inl low ↦ omega (arith, at_first, at_second)
      | inr high ↦ elim (cases_eq second.k first.k) [
        | inl one ↦ omega (arith, earlier.ahead, first.number_is, second.number_is, ap (number_of queue_of placed) one)
        | inr two ↦ omega (arith, earlier.ahead, first.number_is, second.number_is, number_rises queue_of placed second.k first.k second.x first.x second.there first.there (sym same) (omega arith))
      ]
    ]
