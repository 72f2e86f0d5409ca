-- Order lists by their tables.
use Rattle.std.proofs.Common.{◌≡◌, ℕ, ◌+◌, ◌<◌, ◌≤◌, ◌↔◌, inl, inr, List, length, sym, ◌∙◌, ap, subst, arith, slice_index, All}
use Rattle.std.proofs.lemmas.Bool.{cases_lt, cases_eq}
use Rattle.std.proofs.lemmas.List.{get_or_default}
use Rattle.hq_job.specs.Access.{AreOfQueue}
use Rattle.hq_model.specs.Job.{Job, IsPacket, Earlier}
use Rattle.hq_model.specs.Order.{place, Ahead, EachOnce, OrderList}
use Rattle.hq_model.specs.Theorems.{Valid}
use Rattle.hq_model.proofs.Places.{at_place, place_once}
use Rattle.hq_ordercheck.specs.Placed.{ArePlaces, StandsAhead, RisesOn, KeepsQueue, KeepsOrder}

-- ---- every packet once

-- each place of the list is the first of its number
abbrev pub IsOnce : List ℕ → List ℕ → Type 0
IsOnce list places = (k : ℕ) → k < length list → slice_index places (slice_index list k) ≡ k

pub each_of : (job : Job) (list places : List ℕ) → ArePlaces job list places → All (IsPacket job) list → All (λ place. place < length list) places → IsOnce list places → EachOnce job list
each_of job list places table packets low once = record {
  packets = packets;
  once = λ i j d l within e.
      let at : slice_index list i ≡ slice_index list j = get_or_default list i 0 d (omega (arith, l, within)) ∙ e ∙ get_or_default list j d 0 within in
      omega (arith, l, once i (omega (arith, l, within)), once j within, ap (slice_index places) at);
  all = λ p is. subst (λ k. k < length list) (table.at p is) (low p 0 (omega (arith, is, table.count)));
}

pub once_of : (job : Job) (list places : List ℕ) → ArePlaces job list places → EachOnce job list → IsOnce list places
once_of job list places table each k l = table.at (slice_index list k) (each.packets k 0 l) ∙ place_once list k 0 each.once l

pub low_of : (job : Job) (list places : List ℕ) → ArePlaces job list places → EachOnce job list → All (λ place. place < length list) places
low_of job list places table each = λ k d l.
    let is : IsPacket job k = omega (arith, l, table.count) in
    subst (λ n. n < length list) (sym (get_or_default places k d 0 l ∙ table.at k is)) (each.all k is)

-- ---- the order

pub ahead_by : (job : Job) (list places : List ℕ) → ArePlaces job list places → (p r : ℕ) → IsPacket job p → IsPacket job r → StandsAhead places p r ↔ Ahead list p r
ahead_by job list places table p r p_is r_is = (λ h. omega (arith, h, table.at p p_is, table.at r r_is), λ h. omega (arith, h, table.at p p_is, table.at r r_is))

first_is : (job : Job) (p r : ℕ) → Earlier job p r → IsPacket job p
first_is job p r e = let a : p < r = e.ahead in let b : r < length job.packets = e.is_packet in omega arith

-- where these are the packets of a queue, their places rise exactly where the queue's order is kept
pub queue_kept : (job : Job) (places : List ℕ) (queue start stop : ℕ) → AreOfQueue job queue start stop → RisesOn places start stop ↔ KeepsQueue job places queue
queue_kept job places queue start stop a = (
  λ h p r e same.
      let p_in = a.within p (first_is job p r e) (e.same_queue ∙ same) in
      let r_in = a.within r e.is_packet same in
      h p r p_in.0 e.ahead r_in.1,
  λ h p r low ahead high.
      let p_of = a.of_queue p low (omega (arith, ahead, high)) in
      let r_of = a.of_queue r (omega (arith, low, ahead)) high in
      h p r (record { ahead = ahead; is_packet = r_of.0; same_queue = p_of.1 ∙ sym r_of.1 }) r_of.1,
)

module _ (job : Job) (list places turns : List ℕ) (valid : Valid job) (table : ArePlaces job list places) (submitted : ArePlaces job job.submissions turns) where
  pub order_of : EachOnce job list → KeepsOrder job turns places → OrderList job list
  order_of each k = record {
    each_once = each;
    queues = λ p r e. (ahead_by job list places table p r (first_is job p r e) e.is_packet).0 (k.queues p r e);
    slots = λ p r f.
        let m_is : IsPacket job f.m = f.frees.earlier.is_packet in
        let turn : slice_index turns f.m ≤ slice_index turns r = elim f.upto [
          | inl same ↦ omega (arith, ap (slice_index turns) same)
          | inr ahead ↦ omega (arith, ahead, submitted.at f.m m_is, submitted.at r f.is_packet)
        ] in
        (ahead_by job list places table p r (first_is job p f.m f.frees.earlier) f.is_packet).0 (k.slots f.m m_is p r f.frees f.is_packet turn);
    ands = λ r slot s d kind w f. (ahead_by job list places table d r f.is_packet w.is_packet).0 ((k.waits r w.is_packet).ands kind slot s w d f);
    ors = λ r is kind.
        let (slot, s, w, all) = (k.waits r is).ors kind in
        (slot, s, w, λ d f. (ahead_by job list places table d r f.is_packet is).0 (all d f));
  }

  pub keeps_of : OrderList job list → KeepsOrder job turns places
  keeps_of o = record {
    queues = λ p r e. (ahead_by job list places table p r (first_is job p r e) e.is_packet).1 (o.queues p r e);
    waits = λ r is. record {
      ands = λ kind slot s w d f. (ahead_by job list places table d r f.is_packet is).1 (o.ands r slot s d kind w f);
      ors = λ kind. let (slot, s, w, all) = o.ors r is kind in (slot, s, w, λ d f. (ahead_by job list places table d r f.is_packet is).1 (all d f));
    };
    slots = λ m is p r frees r_is turn.
        let later : place job.submissions m ≤ place job.submissions r = omega (arith, turn, submitted.at m is, submitted.at r r_is) in
        (ahead_by job list places table p r (first_is job p m frees.earlier) r_is).1 (o.slots p r (record {
          is_packet = r_is;
          m = m;
          upto = elim (cases_lt (place job.submissions m) (place job.submissions r)) [
            | inl ahead ↦ inr ahead
            | inr same ↦
                let one : place job.submissions m ≡ place job.submissions r = omega (arith, later, same) in
                inl (sym (at_place job.submissions m 0 (valid.submissions.all m is)) ∙ ap (slice_index job.submissions) one ∙ at_place job.submissions r 0 (valid.submissions.all r r_is))
          ];
          frees = frees;
        }));
  }

-- ---- the least place from a turn on

-- what is below the least is below m's place, and below those of all up to i that have no earlier turn
abbrev pub IsLeast : List ℕ → List ℕ → ℕ → ℕ → ℕ → Type 0
IsLeast turns places m i least =
    (b : ℕ) → b < least ↔ ((b < slice_index places m) × ((r : ℕ) → r < i → slice_index turns m ≤ slice_index turns r → b < slice_index places r))

pub least_falls : (turns places : List ℕ) (m i least : ℕ) → IsLeast turns places m i least → slice_index turns m ≤ slice_index turns i → slice_index places i < least → IsLeast turns places m (i + 1) (slice_index places i)
least_falls turns places m i least h turn low = λ b. (
  λ l.
      let old = (h b).0 (omega (arith, l, low)) in (
        old.0,
        λ r below t. elim (cases_eq r i) [
          | inl same ↦ subst (λ k. b < slice_index places k) (sym same) l
          | inr apart ↦ old.1 r (omega arith) t
        ],
      ),
  λ all. all.1 i (omega arith) turn,
)

pub least_stays : (turns places : List ℕ) (m i least : ℕ) → IsLeast turns places m i least → (slice_index turns m ≤ slice_index turns i → least ≤ slice_index places i) → IsLeast turns places m (i + 1) least
least_stays turns places m i least h high = λ b. (
  λ l.
      let old = (h b).0 l in (
        old.0,
        λ r below t. elim (cases_eq r i) [
          | inl same ↦
              let far : least ≤ slice_index places i = high (subst (λ k. slice_index turns m ≤ slice_index turns k) same t) in
              subst (λ k. b < slice_index places k) (sym same) (omega (arith, l, far))
          | inr apart ↦ old.1 r (omega arith) t
        ],
      ),
  λ all. (h b).1 (all.0, λ r below t. all.1 r (omega arith) t),
)

pub least_all : (turns places : List ℕ) (m i least : ℕ) → IsLeast turns places m i least → m < length places → length places ≤ i → i ≤ length places → (b : ℕ) → b < least ↔ ((r : ℕ) → r < length places → slice_index turns m ≤ slice_index turns r → b < slice_index places r)
least_all turns places m i least h low past end b = (
  λ l r below t. ((h b).0 l).1 r (omega arith) t,
  λ all. (h b).1 (all m low (omega arith), λ r below t. all r (omega arith) t),
)
