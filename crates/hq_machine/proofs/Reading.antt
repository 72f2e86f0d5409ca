-- Reads.
use Rattle.std.proofs.Common.{◌≡◌, ℕ, ◌<◌, ◌≤◌, MatchOption, inl, inr, List, [], Option, Some, None, IsSome, is_some, length, set, get_or, slice_index, sym, ◌∙◌, ap, subst, arith, length-set, get_or-set_same, get_or-set_other}
use Rattle.std.proofs.lemmas.Bool.{cases_eq, cases_lt, true≢false}
use Rattle.hq_model.specs.Job.{Job, packet, IsPacket}
use Rattle.hq_model.specs.Machine.{State, bytes_stored, lane_sees, put2}
use Rattle.hq_model.specs.Machine.Event.{Read}
use Rattle.hq_events.specs.Packets.{IsEntry}
use Rattle.hq_events.specs.Rows.{IsRow, NextRow}
use Rattle.hq_machine.proofs.Places.{row_put2}
use Rattle.hq_machine.specs.Changes.{Moved, with_reads}
use Rattle.hq_machine.specs.Enabled.{MayRead, ReadOpen}
use Rattle.hq_machine.specs.State.{StateValue}
use Rattle.hq_machine.specs.View.{IsStateOf, AreStores, state_of, row_of, stores_of}

-- p has stored nothing yet, since it has not read all
nothing_stored : (job : Job) (v : StateValue) (p i : ℕ) → IsStateOf job v → MayRead job (state_of job v) p i → length (stores_of v p).stored ≡ 0
nothing_stored job v p i k may = elim (cases_lt 0 (length (stores_of v p).stored)) [
  | inr l ↦ omega arith
  | inl l ↦ absurd (true≢false (sym ((k.stores p may.unread.is_packet).read l i may.few) ∙ ap is_some may.unread.fresh))
]

other_row : (v : StateValue) (p q : ℕ) (row : List (Option ℕ)) → (q ≡ p → ⊥) → row_of (set v.reads p row) q ≡ row_of v.reads q
other_row v p q row d = get_or-set_other v.reads p q row [] d

kept_stores : (job : Job) (v : StateValue) (p i : ℕ) (row : List (Option ℕ)) → IsStateOf job v → MayRead job (state_of job v) p i → (q : ℕ) → IsPacket job q → AreStores job (with_reads v p row) q
kept_stores job v p i row k may q there = elim (cases_eq q p) [
  | inl e ↦
      let zero' : length (stores_of v q).stored ≡ 0 = ap (λ r. length (stores_of v r).stored) e ∙ nothing_stored job v p i k may in
      record { row = (k.stores q there).row; read = λ some. absurd (omega arith); bytes = λ some. absurd (omega arith) }
  | inr d ↦
      let s = k.stores q there in
      let same = sym (other_row v p q row d) in
      record {
        row = s.row;
        read = λ some j l. subst (λ (r : List (Option ℕ)). IsSome (get_or r j None)) same (s.read some j l);
        bytes = λ some. s.bytes some ∙ bytes_same same;
      }
]
  where
    bytes_same : row_of v.reads q ≡ row_of (set v.reads p row) q → bytes_stored job (state_of job v) q ≡ bytes_stored job (state_of job (with_reads v p row)) q
    bytes_same same = ap (λ (r : List (Option ℕ)). bytes_stored job (record (state_of job v) { read = λ _ j. get_or r j None }) q) same

pub with_reads_keeps : (job : Job) (v : StateValue) (p i : ℕ) (row : List (Option ℕ)) → IsStateOf job v → MayRead job (state_of job v) p i → length row ≡ length (packet job p).reads → IsStateOf job (with_reads v p row)
with_reads_keeps job v p i row k may whole = record {
  lengths = record {
    phases = k.lengths.phases;
    observed = k.lengths.observed;
    slots = k.lengths.slots;
    reads = length-set v.reads p row ∙ k.lengths.reads;
    stores = k.lengths.stores;
    signals = k.lengths.signals;
    memory = k.lengths.memory;
    agents = k.lengths.agents;
    lanes = k.lengths.lanes;
    lane_agents = k.lengths.lane_agents;
  };
  read_rows = λ q there. elim (cases_eq q p) [
    | inl e ↦ inr (ap (λ r. length (row_of (set v.reads p row) r)) e ∙ ap (λ r. length r) (get_or-set_same v.reads p row [] (let c = k.lengths.reads in let t = may.unread.is_packet in omega arith)) ∙ whole ∙ ap (λ r. length (packet job r).reads) (sym e))
    | inr d ↦ subst (λ (r : List (Option ℕ)). IsRow (length (packet job q).reads) r) (sym (other_row v p q row d)) (k.read_rows q there)
  ];
  stores = kept_stores job v p i row k may;
  dirty = record { lanes = k.dirty.lanes; agents = k.dirty.agents };
}

pub moved_read : (job : Job) (v : StateValue) (p i byte : ℕ) (row : List (Option ℕ)) → IsStateOf job v → MayRead job (state_of job v) p i → NextRow (row_of v.reads p) (length (packet job p).reads) i byte row → byte ≡ lane_sees job (state_of job v) p (slice_index (packet job p).reads i) → Moved job v (Read p i) (with_reads v p row)
moved_read job v p i byte row k may next is =
    let there = may.unread.is_packet in
    let count = k.lengths.reads in
    let high : p < length v.reads = omega arith in
    let e : (λ (q j : ℕ). get_or (get_or (set v.reads p row) q []) j None) ≡ put2 (λ (q j : ℕ). get_or (get_or v.reads q []) j None) p i (Some byte) = row_put2 (λ (r : List (Option ℕ)) (j : ℕ). get_or r j None) v.reads p i row [] (Some byte) high next.entry in
    let new : state_of job (with_reads v p row) ≡ record (state_of job v) { read = put2 (λ (q j : ℕ). get_or (row_of v.reads q) j None) p i (Some (lane_sees job (state_of job v) p (slice_index (packet job p).reads i))) } =
    (λ j. record (state_of job v) { read = e j }) ∙ ap (λ b. record (state_of job v) { read = put2 (λ (q j : ℕ). get_or (row_of v.reads q) j None) p i (Some b) }) is in
    record { is = with_reads_keeps job v p i row k may next.whole; step = (there, may.unread.active, may.few, may.unread.fresh, new) }

pub readable_from : (job : Job) (state : State) (p i : ℕ) (o : Option ℕ) → ReadOpen job state p i → MatchOption o (length (packet job p).reads ≤ i) (λ b. IsEntry job p i b) → MatchOption o (MayRead job state p i → ⊥) (λ b. MayRead job state p i × IsEntry job p i b)
readable_from job state p i None a h = λ may. let l = may.few in absurd (omega arith)
readable_from job state p i (Some b) a h = (record { unread = record { is_packet = a.is_packet; active = a.active; fresh = a.fresh }; few = h.few }, h)
