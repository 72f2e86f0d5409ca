-- All entries of a packet in order.
use Rattle.std.proofs.Common.{◌≡◌, ℕ, zero, suc, ◌+◌, ◌<◌, ◌≤◌, ◌↔◌, inl, inr, List, [], ◌∷◌, ◌++◌, Bool, false, Option, Some, None, is_some, Result, Ok, Err, IfErr, length, map, filter, count_by, replicate, set, get_or, slice_index, refl, sym, ◌∙◌, ap, subst, arith, length-set, get_or-set_same, get_or-set_other}
use Rattle.std.specs.Result.{IsErrAnd}
use Rattle.std.proofs.lemmas.Bool.{cases_eq, cases_lt, cases_Bool, cond-true, cond-false, true≢false}
use Rattle.std.proofs.lemmas.List.{get_or_past, get_or_default, get_or-map, length-map, length-replicate, map-append, same_lists}
use Rattle.std.proofs.lemmas.List.Sums.{length-filter}
use Rattle.hq_model.specs.Job.{Job, packet, IsPacket}
use Rattle.hq_model.specs.Order.{In}
use Rattle.hq_model.specs.Machine.{State, Event, Step, Steps, lane_sees, put2}
use Rattle.hq_model.specs.Machine.Event.{Read}
use Rattle.hq_model.specs.Journal.{numbers}
use Rattle.hq_model.proofs.Places.{in_rest, in_numbers}
use Rattle.hq_model.proofs.Journals.{steps_append}
use Rattle.hq_model.proofs.Sums.{put2_same, put2_other}
use Rattle.hq_machine.specs.Changes.{Moved, with_reads}
use Rattle.hq_machine.specs.Enabled.{NotApplied, Possible, MayRead}
use Rattle.hq_machine.specs.Entries.{MayFetch, FetchedUpTo}
use Rattle.hq_machine.specs.State.{StateValue}
use Rattle.hq_machine.specs.View.{IsStateOf, state_of, row_of}
use Rattle.hq_model.specs.Journal.{Coarse}
use Rattle.hq_model.specs.Journal.Coarse.{Fetch}
use Rattle.hq_events.specs.declared.fault.StepFault.{StepFault}
use Rattle.hq_events.specs.declared.fault.StepFault.TheVariants as fault
use Rattle.hq_events.proofs.Replicated.{of_replicate}
use Rattle.hq_events.proofs.Wholes.{next_row}
use Rattle.hq_machine.proofs.Reading.{moved_read, with_reads_keeps}

-- ---- lists

pub set_again : {X : Type 0} (xs : List X) (p : ℕ) (x y : X) → set (set xs p x) p y ≡ set xs p y
set_again [] p x y = refl
set_again (z ∷ xs) zero x y = refl
set_again (z ∷ xs) (suc p) x y = ap (λ l. z ∷ l) (set_again xs p x y)

-- none passes exactly where none is counted
pub none_counted : {X : Type 0} (f : X → Bool) (xs : List X) (d : X) → f d ≡ false → (length (filter f xs) ≡ 0) ↔ ((i : ℕ) → f (get_or xs i d) ≡ false)
none_counted f [] d e = (λ _ i. e, λ _. refl)
none_counted f (x ∷ xs) d e = elim (cases_Bool (f x)) [
  | inl t ↦ let g = ap length (cond-true (f x) (x ∷ filter f xs) (filter f xs) t) in (
    λ n. absurd (omega (arith, g, n)),
    λ h. absurd (true≢false (sym t ∙ h 0)),
  )
  | inr n ↦
      let g = ap length (cond-false (f x) (x ∷ filter f xs) (filter f xs) n) in
      let r = none_counted f xs d e in (
        λ z. at n (r.0 (sym g ∙ z)),
        λ h. g ∙ r.1 (λ i. h (suc i)),
      )
]
  where
    at : f x ≡ false → ((i : ℕ) → f (get_or xs i d) ≡ false) → (i : ℕ) → f (get_or (x ∷ xs) i d) ≡ false
    at n h zero = n
    at n h (suc i) = h i

-- ---- what a list of steps asks of the state that it begins in

-- What each event of the list asks of its state is asked of the first state, where no event makes it true.
pub each_asks : (job : Job) (E : ℕ → Event) (Ask : State → ℕ → Type 0)
    → ((s new : State) (i : ℕ) → Step job s (E i) new → Ask s i)
    → ((s mid : State) (i j : ℕ) → Step job s (E i) mid → Ask mid j → Ask s j)
    → (xs : List ℕ) (s new : State) → Steps job s (map E xs) new → (i : ℕ) → In xs i → Ask s i
each_asks job E Ask asks back [] s new steps i h = absurd (omega arith)
each_asks job E Ask asks back (x ∷ xs) s new (mid, step, rest) i h = elim (cases_eq x i) [
  | inl e ↦ subst (Ask s) e (asks s mid x step)
  | inr d ↦ back s mid x i step (each_asks job E Ask asks back xs mid new rest i (in_rest x xs i d h))
]

-- one step more
pub step_more : (job : Job) (E : ℕ → Event) (n : ℕ) (s mid new : State) → Steps job s (map E (numbers n)) mid → Step job mid (E n) new → Steps job s (map E (numbers (n + 1))) new
step_more job E n s mid new steps step =
    let e : map E (numbers (n + 1)) ≡ map E (numbers n) ++ E n ∷ [] = ap (λ m. map E (numbers m)) (let e : n + 1 ≡ suc n = omega arith in e) ∙ map-append E (numbers n) (n ∷ []) in
    subst (λ events. Steps job s events new) (sym e) (steps_append job s (map E (numbers n)) mid (E n ∷ []) new steps (new, step, refl))

-- ---- reads

put2_none : {X : Type 0} (f : ℕ → ℕ → Option X) (p i : ℕ) (x : X) (j : ℕ) → put2 f p i (Some x) p j ≡ None → f p j ≡ None
put2_none f p i x j n = elim (cases_eq j i) [
  | inl e ↦ absurd (true≢false (ap is_some (sym (put2_same f p i (Some x) p j refl e) ∙ n)))
  | inr d ↦ sym (put2_other f p i (Some x) p j (λ _ e. d e)) ∙ n
]

read_asks : (job : Job) (p : ℕ) (s new : State) (i : ℕ) → Step job s (Read p i) new → MayRead job s p i
read_asks job p s new i step = record { unread = record { is_packet = step.0; active = step.1; fresh = step.3 }; few = step.2 }

read_back : (job : Job) (p : ℕ) (s mid : State) (i j : ℕ) → Step job s (Read p i) mid → MayRead job mid p j → MayRead job s p j
read_back job p s mid i j (there, active, few, fresh, is) may = record {
  unread = record {
    is_packet = there;
    active = active;
    fresh = put2_none s.read p i (lane_sees job s p (slice_index (packet job p).reads i)) j (sym (ap (λ (x : State). x.read p j) is) ∙ may.unread.fresh);
  };
  few = may.few;
}

pub fetch_needs : (job : Job) (v : StateValue) (p : ℕ) → Possible job v (Fetch p) → MayFetch job (state_of job v) p
fetch_needs job v p (new, (there, steps)) = λ i l. each_asks job (Read p) (λ s i. MayRead job s p i) (read_asks job p) (read_back job p) (numbers (length (packet job p).reads)) (state_of job v) new steps i (in_numbers (length (packet job p).reads) i l)

-- where an entry may be read next, none is
pub nothing_read : (job : Job) (v : StateValue) (p : ℕ) → IsPacket job p → IsStateOf job v → ((i : ℕ) → i < length (packet job p).reads → get_or (row_of v.reads p) i None ≡ None) → (j : ℕ) → get_or (row_of v.reads p) j None ≡ None
nothing_read job v p there k fresh j = elim (cases_lt j (length (packet job p).reads)) [
  | inl l ↦ fresh j l
  | inr g ↦ get_or_past (row_of v.reads p) j None (elim (k.read_rows p there) [ inl e ↦ omega arith | inr e ↦ omega arith ])
]

same_reads : (v : StateValue) (p : ℕ) (row : List (Option ℕ)) → p < length v.reads → ((j : ℕ) → get_or row j None ≡ get_or (row_of v.reads p) j None) → (q j : ℕ) → get_or (row_of (set v.reads p row) q) j None ≡ get_or (row_of v.reads q) j None
same_reads v p row high same q j = elim (cases_eq q p) [
  | inl e ↦ ap (λ r. get_or (row_of (set v.reads p row) r) j None) e ∙ ap (λ (r : List (Option ℕ)). get_or r j None) (get_or-set_same v.reads p row [] high) ∙ same j ∙ ap (λ r. get_or (row_of v.reads r) j None) (sym e)
  | inr d ↦ ap (λ (r : List (Option ℕ)). get_or r j None) (get_or-set_other v.reads p q row [] d)
]

pub fetched_first : (job : Job) (v : StateValue) (p : ℕ) (row : List (Option ℕ)) → IsStateOf job v → MayFetch job (state_of job v) p → 0 < length (packet job p).reads → length row ≡ length (packet job p).reads → ((j : ℕ) → get_or row j None ≡ None) → FetchedUpTo job v p 0 row
fetched_first job v p row k may some whole none =
    let first = may 0 some in
    let there = first.unread.is_packet in
    let count = k.lengths.reads in
    let high : p < length v.reads = omega arith in
    let old = nothing_read job v p there k (λ i l. (may i l).unread.fresh) in
    let same : (λ (q j : ℕ). get_or (row_of (set v.reads p row) q) j None) ≡ (λ (q j : ℕ). get_or (row_of v.reads q) j None) = λ x q j. same_reads v p row high (λ j. none j ∙ sym (old j)) q j x in
    record {
      is = with_reads_keeps job v p 0 row k first whole;
      steps = λ x. record (state_of job v) { read = same x };
      whole = whole;
      rest = λ j _. none j;
    }

pub fetched_more : (job : Job) (v : StateValue) (p n value : ℕ) (row : List (Option ℕ)) → IsStateOf job v → MayFetch job (state_of job v) p → FetchedUpTo job v p n row → n < length (packet job p).reads
    → value ≡ lane_sees job (state_of job v) p (slice_index (packet job p).reads n) → FetchedUpTo job v p (n + 1) (set row n (Some value))
fetched_more job v p n value row k may f few is =
    let mid = with_reads v p row in
    let there = (may n few).unread.is_packet in
    let count = k.lengths.reads in
    let high : p < length v.reads = omega arith in
    let same : row_of mid.reads p ≡ row = get_or-set_same v.reads p row [] high in
    let can : MayRead job (state_of job mid) p n = record { unread = record { is_packet = there; active = (may n few).unread.active; fresh = ap (λ (r : List (Option ℕ)). get_or r n None) same ∙ f.rest n (omega arith) }; few = few } in
    let whole = f.whole in
    let next = next_row (row_of mid.reads p) row (length (packet job p).reads) n value whole (λ j. ap (λ (r : List (Option ℕ)). get_or r j None) (sym same)) few in
    let moved : Moved job mid (Read p n) (with_reads v p (set row n (Some value))) =
    subst (λ rows. Moved job mid (Read p n) (record v { reads = rows })) (set_again v.reads p row (set row n (Some value))) (moved_read job mid p n value (set row n (Some value)) f.is can next is) in
    record {
      is = moved.is;
      steps = step_more job (Read p) n (state_of job v) (state_of job mid) (state_of job (with_reads v p (set row n (Some value)))) f.steps moved.step;
      whole = length-set row n (Some value) ∙ whole;
      rest = λ j l. get_or-set_other row n j (Some value) None (omega arith) ∙ f.rest j (omega arith);
    }

-- what fetches may find, up to n: what is seen
abbrev pub FetchedRow : Job → StateValue → ℕ → ℕ → Type 0
FetchedRow job v p n = (row : List (Option ℕ)) × (FetchedUpTo job v p n row × ((i : ℕ) → i < n → get_or row i None ≡ Some (lane_sees job (state_of job v) p (slice_index (packet job p).reads i))))

fetched_rows : (job : Job) (v : StateValue) (p : ℕ) → IsStateOf job v → MayFetch job (state_of job v) p → 0 < length (packet job p).reads → (n : ℕ) → n ≤ length (packet job p).reads → FetchedRow job v p n
fetched_rows job v p k may some zero l = (empty, (fetched_first job v p empty k may some (length-replicate (length (packet job p).reads) None) (λ j. of_replicate (length (packet job p).reads) j None), λ i low. absurd (omega arith)))
  where
    empty : List (Option ℕ)
    empty = replicate (length (packet job p).reads) None
fetched_rows job v p k may some (suc n) l =
    let (row, (f, old)) = fetched_rows job v p k may some n (omega arith) in
    let e : n + 1 ≡ suc n = omega arith in
    let value : ℕ = lane_sees job (state_of job v) p (slice_index (packet job p).reads n) in
    let high : n < length row = omega (arith, f.whole, l) in (
      set row n (Some value),
      (
        subst (λ m. FetchedUpTo job v p m (set row n (Some value))) e (fetched_more job v p n value row k may f (omega arith) refl),
        λ i low. elim (cases_eq i n) [
          | inl same ↦ ap (λ m. get_or (set row n (Some value)) m None) same ∙ get_or-set_same row n (Some value) None high ∙ ap (λ m. Some (lane_sees job (state_of job v) p (slice_index (packet job p).reads m))) (sym same)
          | inr apart ↦ get_or-set_other row n i (Some value) None apart ∙ old i (omega arith)
        ],
      ),
    )

pub fetch_possible : (job : Job) (v : StateValue) (p : ℕ) → IsStateOf job v → IsPacket job p → MayFetch job (state_of job v) p → 0 < length (packet job p).reads → Possible job v (Fetch p)
fetch_possible job v p k there may some =
    let (row, (f, all)) = fetched_rows job v p k may some (length (packet job p).reads) (omega arith) in
    (state_of job (with_reads v p row), (there, f.steps))

-- all that is seen, read in order
pub fetched_whole : (job : Job) (v : StateValue) (p : ℕ) (bytes : List ℕ) → IsStateOf job v → MayFetch job (state_of job v) p → 0 < length (packet job p).reads → bytes ≡ map (lane_sees job (state_of job v) p) (packet job p).reads
    → FetchedUpTo job v p (length (packet job p).reads) (map Some bytes)
fetched_whole job v p bytes k may some e =
    let sees = lane_sees job (state_of job v) p in
    let reads = (packet job p).reads in
    let (row, (f, all)) = fetched_rows job v p k may some (length reads) (omega arith) in
    let count : length bytes ≡ length reads = ap length e ∙ length-map reads sees in
    let len : length row ≡ length (map Some bytes) = f.whole ∙ sym count ∙ sym (length-map bytes Some) in
    let each : (i : ℕ) (d : Option ℕ) → i < length row → get_or row i d ≡ get_or (map Some bytes) i d = λ i d low.
    let below : i < length reads = omega (arith, low, f.whole) in
    get_or_default row i d None low ∙ all i below ∙ ap Some (sym (ap (λ (xs : List ℕ). get_or xs i 0) e ∙ get_or-map sees reads i 0 0 below)) ∙ sym (get_or-map Some bytes i 0 d (omega (arith, below, count))) in
    subst (FetchedUpTo job v p (length reads)) (same_lists row (map Some bytes) len each) f

not_some : (o : Option ℕ) → is_some o ≡ false → o ≡ None
not_some None e = refl
not_some (Some x) e = absurd (true≢false e)

pub unread_counted : (row : List (Option ℕ)) → (count_by is_some row ≡ 0) ↔ ((i : ℕ) → get_or row i None ≡ None)
unread_counted row =
    let h = none_counted {X = Option ℕ} is_some row None refl in (
      λ e i. not_some (get_or row i None) (h.0 (length-filter is_some row ∙ e) i),
      λ n. sym (length-filter is_some row) ∙ h.1 (λ i. ap is_some (n i)),
    )

-- a `?` hands on that there is no memory
pub no_memory : (job : Job) (v : StateValue) (event : Coarse) (r : Result (Unit {0}) StepFault) → Possible job v event → IsErrAnd r (λ e. e ≡ fault.Memory) → IfErr r (λ f. NotApplied job v event f)
no_memory job v event (Ok x) p e = absurd e
no_memory job v event (Err f) p e = subst (NotApplied job v event) (sym e) p

pub no_memory_within : (job : Job) (v : StateValue) (event : Coarse) (r : Result (Unit {0}) StepFault) (given : StepFault) → Possible job v event → given ≡ fault.Memory → IsErrAnd r (λ e. e ≡ given) → IfErr r (λ f. NotApplied job v event f)
no_memory_within job v event (Ok x) given p m e = absurd e
no_memory_within job v event (Err f) given p m e = subst (NotApplied job v event) (sym (e ∙ m)) p
