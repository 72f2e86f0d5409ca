-- Stores.
use Rattle.std.proofs.Common.{◌≡◌, ℕ, zero, suc, length-append, ◌+◌, ◌<◌, inl, inr, List, [], ◌∷◌, true, false, cond, eqb, length, replicate, unwrap_or, set, get_or, slice_index, refl, sym, ◌∙◌, ap, subst, arith, length-set, get_or-set_same, get_or-set_other}
use Rattle.std.proofs.lemmas.Bool.{cases_eq}
use Rattle.std.proofs.lemmas.List.{length-replicate, get_or_past}
use Rattle.hq_footprint.specs.Tasks.{Suits}
use Rattle.hq_footprint.proofs.TaskLaws.{results_counted}
use Rattle.hq_events.proofs.Replicated.{of_replicate}
use Rattle.hq_model.specs.Job.{Job, packet, IsPacket}
use Rattle.hq_model.specs.Machine.{State, Step, AllRead, bytes_read, bytes_stored, dirty, put2, listed}
use Rattle.hq_model.specs.Machine.Event.{Store}
use Rattle.hq_model.specs.Theorems.{Valid}
use Rattle.hq_model.specs.View.{copies_of}
use Rattle.hq_model.proofs.View.{copies_of_insert}
use Rattle.hq_copies.specs.Copies.{CopiesValue, a_copy, stored}
use Rattle.hq_events.proofs.Places.{row_set}
use Rattle.hq_events.specs.Rows.{StoresValue, no_stores, IsRow}
use Rattle.hq_machine.proofs.Places.{row_put2}
use Rattle.hq_machine.proofs.Within.{within_step}
use Rattle.hq_machine.specs.Changes.{Moved, NextStores, with_byte_stored, with_stores}
use Rattle.hq_machine.specs.Enabled.{MayStore}
use Rattle.hq_machine.specs.State.{StateValue}
use Rattle.hq_machine.specs.View.{IsStateOf, AreStores, state_of, stores_of}

kept : (job : Job) (v : StateValue) (p i : ℕ) (s : StoresValue) (copies : CopiesValue) → IsStateOf job v → MayStore job (state_of job v) p i → NextStores job v p i s → (q : ℕ) → IsPacket job q → AreStores job (with_stores v p s copies) q
kept job v p i s copies k may next q there = elim (cases_eq q p) [
  | inl e ↦
      let count = k.lengths.stores in
      let is : get_or (set v.stores p s) p no_stores ≡ s = get_or-set_same v.stores p s no_stores (let t = may.is_packet in omega arith) in
      subst (AreStores job (with_stores v p s copies)) (sym e) (record {
        row = inr (ap (λ (x : StoresValue). length x.stored) is ∙ next.whole);
        read = λ _. may.read;
        bytes = λ _. ap (λ (x : StoresValue). x.bytes) is ∙ next.bytes;
      })
  | inr d ↦
      let old = k.stores q there in
      let same : stores_of v q ≡ get_or (set v.stores p s) q no_stores = sym (get_or-set_other v.stores p q s no_stores d) in
      record {
        row = subst (λ (x : StoresValue). IsRow (length (packet job q).writes) x.stored) same old.row;
        read = subst (λ (x : StoresValue). 0 < length x.stored → AllRead job (state_of job v) q) same old.read;
        bytes = subst (λ (x : StoresValue). 0 < length x.stored → x.bytes ≡ bytes_stored job (state_of job v) q) same old.bytes;
      }
]

pub moved_store : (job : Job) (v : StateValue) (p i b value : ℕ) (s : StoresValue) → Valid job → IsStateOf job v → MayStore job (state_of job v) p i → NextStores job v p i s
    → b ≡ slice_index (packet job p).writes i → value ≡ slice_index (bytes_stored job (state_of job v) p) i → Moved job v (Store p i) (with_stores v p s (stored v.copies p b value))
moved_store job v p i b value s valid k may next at is =
    let there = may.is_packet in
    let count = k.lengths.stores in
    let lanes = k.lengths.lanes in
    let high : p < length v.stores = omega arith in
    let held : p < length v.copies.lanes = omega arith in
    let e : (λ (q j : ℕ). get_or (StoresValue.stored (get_or (set v.stores p s) q no_stores)) j false) ≡ put2 (λ (q j : ℕ). get_or (stores_of v q).stored j false) p i true =
    row_put2 (λ (x : StoresValue) (j : ℕ). get_or x.stored j false) v.stores p i s no_stores true high next.entry in
    let l : copies_of (stored v.copies p b value).lanes ≡ put2 (copies_of v.copies.lanes) p (slice_index (packet job p).writes i) (dirty (slice_index (bytes_stored job (state_of job v) p) i)) =
    copies_of_insert v.copies.lanes p b (a_copy value true) held ∙ ap (λ x. put2 (copies_of v.copies.lanes) p x (dirty value)) at ∙ ap (λ x. put2 (copies_of v.copies.lanes) p (slice_index (packet job p).writes i) (dirty x)) is in
    let new : state_of job (with_stores v p s (stored v.copies p b value)) ≡ record (state_of job v) {
      stored = put2 (λ (q j : ℕ). get_or (stores_of v q).stored j false) p i true;
      lane = put2 (copies_of v.copies.lanes) p (slice_index (packet job p).writes i) (dirty (slice_index (bytes_stored job (state_of job v) p) i));
    } = λ x. record (state_of job v) { stored = e x; lane = l x } in
    let step : Step job (state_of job v) (Store p i) (state_of job (with_stores v p s (stored v.copies p b value))) = (there, may.active, may.read, may.few, may.fresh, new) in
    let d = within_step job (state_of job v) (Store p i) (state_of job (with_stores v p s (stored v.copies p b value))) valid k.dirty step in
    record {
      is = record {
        lengths = record {
          phases = k.lengths.phases;
          observed = k.lengths.observed;
          slots = k.lengths.slots;
          reads = k.lengths.reads;
          stores = length-set v.stores p s ∙ k.lengths.stores;
          signals = k.lengths.signals;
          memory = k.lengths.memory;
          agents = k.lengths.agents;
          lanes = length-set v.copies.lanes p _ ∙ k.lengths.lanes;
          lane_agents = k.lengths.lane_agents;
        };
        read_rows = k.read_rows;
        stores = kept job v p i s (stored v.copies p b value) k may next;
        dirty = d;
      };
      step = step;
    }

pub length_listed : (n : ℕ) (f : ℕ → ℕ) → length (listed n f) ≡ n
length_listed zero f = refl
length_listed (suc n) f = length-append (listed n f) (f n ∷ []) ∙ ap (λ m. m + 1) (length_listed n f) ∙ omega arith

-- what the first store makes
pub next_first : (job : Job) (v : StateValue) (p i : ℕ) (bytes : List ℕ) → bytes ≡ bytes_stored job (state_of job v) p → length bytes ≡ length (packet job p).writes → i < length (packet job p).writes → length (stores_of v p).stored ≡ 0
    → NextStores job v p i (with_byte_stored (record { bytes = bytes; stored = replicate (length bytes) false }) i)
next_first job v p i bytes is count few none = record {
  bytes = is;
  whole = length-set (replicate (length bytes) false) i true ∙ length-replicate (length bytes) false ∙ count;
  entry = λ j. row_set (replicate (length bytes) false) i true false (let n = length-replicate (length bytes) false in omega arith) j ∙ ap (λ b. cond (eqb j i) true b) (of_replicate (length bytes) j false ∙ sym (get_or_past (stores_of v p).stored j false (omega arith)));
}

-- what each further store makes
pub next_again : (job : Job) (v : StateValue) (p i : ℕ) → IsStateOf job v → MayStore job (state_of job v) p i → 0 < length (stores_of v p).stored → NextStores job v p i (with_byte_stored (stores_of v p) i)
next_again job v p i k may some =
    let s = k.stores p may.is_packet in
    let few = may.few in
    let whole : length (stores_of v p).stored ≡ length (packet job p).writes = elim s.row [ inl e ↦ absurd (omega arith) | inr e ↦ e ] in
    record {
      bytes = s.bytes some;
      whole = length-set (stores_of v p).stored i true ∙ whole;
      entry = row_set (stores_of v p).stored i true false (omega arith);
    }

pub bytes_count : (job : Job) (state : State) (p : ℕ) → Suits (packet job p).task (length (packet job p).reads) (length (packet job p).writes) → length (bytes_stored job state p) ≡ length (packet job p).writes
bytes_count job state p suits =
    results_counted (packet job p).task (length (packet job p).writes) (bytes_read job state p)
    (subst (λ n. Suits (packet job p).task n (length (packet job p).writes)) (sym (length_listed (length (packet job p).reads) (λ i. unwrap_or (state.read p i) 0))) suits)
