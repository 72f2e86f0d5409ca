-- Places in queues and in the order of submission, and what frees slots.
use Rattle.std.proofs.Common.{◌≡◌, ℕ, ◌+◌, ◌<◌, ◌≤◌, ◌≢◌, ◌↔◌, inl, inr, IsTrue, List, length, sym, ◌∙◌, ap, subst, arith, slice_index}
use Rattle.std.proofs.lemmas.Bool.{cases_lt}
use Rattle.hq_model.specs.Job.{Job, IsPacket, Frees}
use Rattle.hq_model.specs.Order.{place, In, FreesFor}
use Rattle.hq_model.proofs.Places.{at_place, place_at, in_of}
use Rattle.hq_bits.specs.Bits.{has}
use Rattle.hq_schedule.specs.Placing.{Freeing}
use Rattle.hq_rows.proofs.Filling.{Gathered}

-- the first place where p stands
pub first_place : (list : List ℕ) (i p : ℕ) → i < length list → slice_index list i ≡ p → ((k : ℕ) → k < i → slice_index list k ≢ p) → i ≡ place list p
first_place list i p l e none =
    let most : place list p ≤ i = subst (λ q. place list q ≤ i) e (place_at list i 0 l) in
    elim (cases_lt (place list p) i) [
      | inl below ↦ absurd (none (place list p) below (at_place list p 0 (in_of list i 0 p l e)))
      | inr above ↦ omega arith
    ]

pub never_absent : (list : List ℕ) (i p : ℕ) → length list ≤ i → In list p → ((k : ℕ) → k < i → slice_index list k ≢ p) → ⊥
never_absent list i p l there none = none (place list p) (omega (arith, there)) (at_place list p 0 there)

-- the row of the turn of p is the set of the packets that free a slot for it
pub frees_for_row : (job : Job) (p : ℕ) (row : List ℕ) → IsPacket job p → In job.submissions p → Freeing job (place job.submissions p) row → (e : ℕ) → IsTrue (has row e) ↔ FreesFor job e p
frees_for_row job p row is there f e = (
  λ h. let (i, l, frees) = (f.are e).0 h in
      let low : i < length job.submissions = omega (arith, l, there) in
      let most : place job.submissions (slice_index job.submissions i) ≤ i = place_at job.submissions i 0 low in
      record {
        is_packet = is;
        m = slice_index job.submissions i;
        upto = elim (cases_lt (place job.submissions (slice_index job.submissions i)) (place job.submissions p)) [
          | inl ahead ↦ inr ahead
          | inr same ↦
              let one : i ≡ place job.submissions p = omega (arith, most, same, l) in
              inl (ap (slice_index job.submissions) one ∙ at_place job.submissions p 0 there)
        ];
        frees = frees;
      },
  λ h. elim h.upto [
    | inl same ↦ (f.are e).1 (place job.submissions p, omega arith, subst (Frees job e) (sym (at_place job.submissions p 0 there ∙ sym same)) h.frees)
    | inr ahead ↦
        let inside : In job.submissions h.m = omega (arith, ahead, there) in
        (f.are e).1 (place job.submissions h.m, omega (arith, ahead), subst (Frees job e) (sym (at_place job.submissions h.m 0 inside)) h.frees)
  ],
)

-- all that were gathered up to a turn
pub freeing_row : (job : Job) (old row : List ℕ) (k : ℕ) → ((e : ℕ) → IsTrue (has old e) → ⊥) → Gathered (λ i e. Frees job e (slice_index job.submissions i)) old (k + 1) row → Freeing job k row
freeing_row job old row k empty g = record {
  are = λ e. (
    λ h. elim ((g.are e).0 h) [ inl t ↦ absurd (empty e t) | inr b ↦ (b.0, omega (arith, b.1), b.2) ],
    λ h. let (i, l, f) = h in (g.are e).1 (inr (i, omega (arith, l), f)),
  );
}
