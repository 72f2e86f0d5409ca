-- All stores of a packet in order.
use Rattle.std.proofs.Common.{◌≡◌, ℕ, zero, suc, ◌+◌, ◌<◌, ◌≤◌, ◌↔◌, inl, inr, List, Bool, true, false, map, cond, eqb, length, count_by, set, get_or, slice_index, slice_index_or, refl, sym, ◌∙◌, ap, subst, arith, replicate, length-set, get_or-set_same, get_or-set_other}
use Rattle.std.proofs.lemmas.Bool.{cases_eq, cases_lt, true≢false}
use Rattle.std.proofs.lemmas.List.{get_or_past, length-replicate}
use Rattle.std.proofs.lemmas.List.Sums.{length-filter}
use Rattle.hq_model.specs.Job.{Job, packet, IsPacket}
use Rattle.hq_model.specs.Machine.{State, Step, Steps, AllRead, bytes_stored, put2}
use Rattle.hq_model.specs.Machine.Event.{Store}
use Rattle.hq_model.specs.Journal.{numbers}
use Rattle.hq_model.specs.Journal.Coarse.{Deliver}
use Rattle.hq_model.specs.Theorems.{Valid}
use Rattle.hq_model.proofs.Places.{in_numbers}
use Rattle.hq_model.proofs.Sums.{put2_same, put2_other}
use Rattle.hq_copies.specs.Copies.{CopiesValue, stored}
use Rattle.hq_events.proofs.Places.{row_set}
use Rattle.hq_events.proofs.Replicated.{of_replicate}
use Rattle.hq_events.specs.Rows.{StoresValue, no_stores, IsRow}
use Rattle.hq_machine.proofs.EachEntry.{set_again, none_counted, each_asks, step_more}
use Rattle.hq_machine.proofs.StoreMoves.{moved_store}
use Rattle.hq_machine.specs.Changes.{Moved, NextStores, with_byte_stored, with_stores}
use Rattle.hq_machine.specs.Enabled.{Possible, MayStore}
use Rattle.hq_machine.specs.Entries.{MayDeliver}
use Rattle.hq_machine.specs.State.{StateValue}
use Rattle.hq_machine.specs.View.{IsStateOf, AreStores, state_of, stores_of}

-- with these stores and copies p has stored its first n bytes in order, and no other
pub record DeliveredUpTo (job : Job) (old : StateValue) (p n : ℕ) (s : StoresValue)
    (copies : CopiesValue) : Type 0 where
  pub is : IsStateOf job (with_stores old p s copies)
  pub steps : Steps job (state_of job old) (map (Store p) (numbers n)) (state_of job (with_stores old p s copies))
  pub bytes : s.bytes ≡ bytes_stored job (state_of job old) p
  pub whole : length s.stored ≡ length (packet job p).writes
  pub rest : (j : ℕ) → n ≤ j → slice_index_or s.stored j false ≡ false

put2_false : (f : ℕ → ℕ → Bool) (p i j : ℕ) → put2 f p i true p j ≡ false → f p j ≡ false
put2_false f p i j n = elim (cases_eq j i) [
  | inl e ↦ absurd (true≢false (sym (put2_same f p i true p j refl e) ∙ n))
  | inr d ↦ sym (put2_other f p i true p j (λ _ e. d e)) ∙ n
]

store_asks : (job : Job) (p : ℕ) (s new : State) (i : ℕ) → Step job s (Store p i) new → MayStore job s p i
store_asks job p s new i step = record { is_packet = step.0; active = step.1; read = step.2; few = step.3; fresh = step.4 }

store_back : (job : Job) (p : ℕ) (s mid : State) (i j : ℕ) → Step job s (Store p i) mid → MayStore job mid p j → MayStore job s p j
store_back job p s mid i j (there, active, read, few, fresh, is) may = record {
  is_packet = there;
  active = active;
  read = read;
  few = may.few;
  fresh = put2_false s.stored p i j (sym (ap (λ (x : State). x.stored p j) is) ∙ may.fresh);
}

pub deliver_needs : (job : Job) (v : StateValue) (p : ℕ) → Possible job v (Deliver p) → MayDeliver job (state_of job v) p
deliver_needs job v p (new, (there, steps)) = λ i l. each_asks job (Store p) (λ s i. MayStore job s p i) (store_asks job p) (store_back job p) (numbers (length (packet job p).writes)) (state_of job v) new steps i (in_numbers (length (packet job p).writes) i l)

nothing_stored : (job : Job) (v : StateValue) (p : ℕ) → IsPacket job p → IsStateOf job v → ((i : ℕ) → i < length (packet job p).writes → get_or (stores_of v p).stored i false ≡ false) → (j : ℕ) → get_or (stores_of v p).stored j false ≡ false
nothing_stored job v p there k fresh j = elim (cases_lt j (length (packet job p).writes)) [
  | inl l ↦ fresh j l
  | inr g ↦ get_or_past (stores_of v p).stored j false (elim (k.stores p there).row [ inl e ↦ omega arith | inr e ↦ omega arith ])
]

same_stored : (v : StateValue) (p : ℕ) (s : StoresValue) → p < length v.stores → ((j : ℕ) → get_or s.stored j false ≡ get_or (stores_of v p).stored j false)
    → (q j : ℕ) → get_or (StoresValue.stored (get_or (set v.stores p s) q no_stores)) j false ≡ get_or (stores_of v q).stored j false
same_stored v p s high same q j = elim (cases_eq q p) [
  | inl e ↦ ap (λ r. get_or (StoresValue.stored (get_or (set v.stores p s) r no_stores)) j false) e ∙ ap (λ (r : StoresValue). get_or r.stored j false) (get_or-set_same v.stores p s no_stores high) ∙ same j ∙ ap (λ r. get_or (stores_of v r).stored j false) (sym e)
  | inr d ↦ ap (λ (r : StoresValue). get_or r.stored j false) (get_or-set_other v.stores p q s no_stores d)
]

-- stores of which none is stored yet
opened_stores : (job : Job) (v : StateValue) (p : ℕ) (s : StoresValue) → IsStateOf job v → AllRead job (state_of job v) p → p < length v.stores → s.bytes ≡ bytes_stored job (state_of job v) p → length s.stored ≡ length (packet job p).writes
    → (q : ℕ) → IsPacket job q → AreStores job (with_stores v p s v.copies) q
opened_stores job v p s k read high bytes whole q there = elim (cases_eq q p) [
  | inl e ↦
      let is : get_or (set v.stores p s) p no_stores ≡ s = get_or-set_same v.stores p s no_stores high in
      subst (AreStores job (with_stores v p s v.copies)) (sym e) (record {
        row = inr (ap (λ (x : StoresValue). length x.stored) is ∙ whole);
        read = λ _. read;
        bytes = λ _. ap (λ (x : StoresValue). x.bytes) is ∙ bytes;
      })
  | inr d ↦
      let old = k.stores q there in
      let same : stores_of v q ≡ get_or (set v.stores p s) q no_stores = sym (get_or-set_other v.stores p q s no_stores d) in
      record {
        row = subst (λ (x : StoresValue). IsRow (length (packet job q).writes) x.stored) same old.row;
        read = subst (λ (x : StoresValue). 0 < length x.stored → AllRead job (state_of job v) q) same old.read;
        bytes = subst (λ (x : StoresValue). 0 < length x.stored → x.bytes ≡ bytes_stored job (state_of job v) q) same old.bytes;
      }
]

pub delivered_first : (job : Job) (v : StateValue) (p : ℕ) (s : StoresValue) → IsStateOf job v → MayDeliver job (state_of job v) p → 0 < length (packet job p).writes
    → s.bytes ≡ bytes_stored job (state_of job v) p → length s.stored ≡ length (packet job p).writes → ((j : ℕ) → get_or s.stored j false ≡ false) → DeliveredUpTo job v p 0 s v.copies
delivered_first job v p s k may some bytes whole none =
    let first = may 0 some in
    let there = first.is_packet in
    let count = k.lengths.stores in
    let high : p < length v.stores = omega arith in
    let old = nothing_stored job v p there k (λ i l. (may i l).fresh) in
    let same : (λ (q j : ℕ). get_or (StoresValue.stored (get_or (set v.stores p s) q no_stores)) j false) ≡ (λ (q j : ℕ). get_or (stores_of v q).stored j false) = λ x q j. same_stored v p s high (λ j. none j ∙ sym (old j)) q j x in
    record {
      is = record {
        lengths = record {
          phases = k.lengths.phases;
          observed = k.lengths.observed;
          slots = k.lengths.slots;
          reads = k.lengths.reads;
          stores = length-set v.stores p s ∙ k.lengths.stores;
          signals = k.lengths.signals;
          memory = k.lengths.memory;
          agents = k.lengths.agents;
          lanes = k.lengths.lanes;
          lane_agents = k.lengths.lane_agents;
        };
        read_rows = k.read_rows;
        stores = opened_stores job v p s k first.read high bytes whole;
        dirty = record { lanes = k.dirty.lanes; agents = k.dirty.agents };
      };
      steps = λ x. record (state_of job v) { stored = same x };
      bytes = bytes;
      whole = whole;
      rest = λ j _. none j;
    }

pub delivered_more : (job : Job) (v : StateValue) (p n b value : ℕ) (s : StoresValue) (copies : CopiesValue) → Valid job → IsStateOf job v → MayDeliver job (state_of job v) p → DeliveredUpTo job v p n s copies → n < length (packet job p).writes
    → b ≡ slice_index (packet job p).writes n → value ≡ slice_index s.bytes n → DeliveredUpTo job v p (n + 1) (with_byte_stored s n) (stored copies p b value)
delivered_more job v p n b value s copies valid k may f few at is =
    let mid = with_stores v p s copies in
    let there = (may n few).is_packet in
    let count = k.lengths.stores in
    let high : p < length v.stores = omega arith in
    let same : stores_of mid p ≡ s = get_or-set_same v.stores p s no_stores high in
    let whole = f.whole in
    let can : MayStore job (state_of job mid) p n = record {
      is_packet = there;
      active = (may n few).active;
      read = (may n few).read;
      few = few;
      fresh = ap (λ (r : StoresValue). get_or r.stored n false) same ∙ f.rest n (omega arith);
    } in
    let next : NextStores job mid p n (with_byte_stored s n) = record {
      bytes = f.bytes;
      whole = length-set s.stored n true ∙ whole;
      entry = subst (λ (r : StoresValue). (j : ℕ) → get_or (set s.stored n true) j false ≡ cond (eqb j n) true (get_or r.stored j false)) (sym same) (row_set s.stored n true false (omega arith));
    } in
    let moved : Moved job mid (Store p n) (with_stores v p (with_byte_stored s n) (stored copies p b value)) =
    subst (λ rows. Moved job mid (Store p n) (record v { stores = rows; copies = stored copies p b value })) (set_again v.stores p s (with_byte_stored s n))
    (moved_store job mid p n b value (with_byte_stored s n) valid f.is can next at (is ∙ ap (λ (bs : List ℕ). slice_index bs n) f.bytes)) in
    record {
      is = moved.is;
      steps = step_more job (Store p) n (state_of job v) (state_of job mid) (state_of job (with_stores v p (with_byte_stored s n) (stored copies p b value))) f.steps moved.step;
      bytes = f.bytes;
      whole = length-set s.stored n true ∙ whole;
      rest = λ j l. get_or-set_other s.stored n j true false (omega arith) ∙ f.rest j (omega arith);
    }

-- what deliveries may leave, up to n
delivered_rows : (job : Job) (v : StateValue) (p : ℕ) (s : StoresValue) → Valid job → IsStateOf job v → MayDeliver job (state_of job v) p → DeliveredUpTo job v p 0 s v.copies → (n : ℕ) → n ≤ length (packet job p).writes
    → (s : StoresValue) × (copies : CopiesValue) × DeliveredUpTo job v p n s copies
delivered_rows job v p s valid k may start zero l = (s, v.copies, start)
delivered_rows job v p s valid k may start (suc n) l =
    let (t, copies, f) = delivered_rows job v p s valid k may start n (omega arith) in
    let e : n + 1 ≡ suc n = omega arith in
    let b : ℕ = slice_index (packet job p).writes n in
    let value : ℕ = slice_index t.bytes n in
    (with_byte_stored t n, stored copies p b value, subst (λ m. DeliveredUpTo job v p m (with_byte_stored t n) (stored copies p b value)) e (delivered_more job v p n b value t copies valid k may f (omega arith) refl refl))

pub deliver_possible : (job : Job) (v : StateValue) (p : ℕ) → Valid job → IsStateOf job v → IsPacket job p → MayDeliver job (state_of job v) p → 0 < length (packet job p).writes → Possible job v (Deliver p)
deliver_possible job v p valid k there may some =
    let n = length (packet job p).writes in
    let s : StoresValue = record { bytes = bytes_stored job (state_of job v) p; stored = replicate n false } in
    let start = delivered_first job v p s k may some refl (length-replicate n false) (λ j. of_replicate n j false) in
    let (t, copies, f) = delivered_rows job v p s valid k may start n (omega arith) in
    (state_of job (with_stores v p t copies), (there, f.steps))

pub unstored_counted : (row : List Bool) → (count_by (λ b. b) row ≡ 0) ↔ ((i : ℕ) → get_or row i false ≡ false)
unstored_counted row =
    let h = none_counted {X = Bool} (λ b. b) row false refl in (
      λ e i. h.0 (length-filter (λ b. b) row ∙ e) i,
      λ n. sym (length-filter (λ b. b) row) ∙ h.1 n,
    )
