-- What the owner of a seat knows is enough for its questions.
use Rattle.std.proofs.Common.{◌≡◌, ◌≢◌, ◌↔◌, ℕ, zero, suc, ◌+◌, ◌-◌, ◌<◌, ◌≤◌, ◌⊎◌, inl, inr, Bool, true, false, cond, List, [], ◌∷◌, length, get_or, replicate, refl, sym, ◌∙◌, ap, subst, arith, slice_index_or, count_by, IsTrue}
use Rattle.std.proofs.lemmas.Bool.{cases_eq, true≢false}
use Rattle.std.proofs.lemmas.List.{length-map, length-replicate, get_or-replicate, get_or_default}
use Rattle.hq_model.specs.Job.{Job, packet, IsPacket, IsBarrier, Earlier, Dependency}
use Rattle.hq_job.specs.Plan.{plan}
use Rattle.hq_job.specs.Value.{JobValue}
use Rattle.hq_model.specs.Machine as machine
use Rattle.hq_model.specs.Machine.{MayLaunch, is_launched, is_complete}
use Rattle.hq_model.specs.Machine.Phase.{Waiting, InQueue, Launched, Active, Complete}
use Rattle.hq_events.specs.Phases.{named}
use Rattle.hq_events.specs.declared.phase.Phase.{Phase}
use Rattle.hq_events.specs.declared.phase.Phase.TheVariants as own
use Rattle.hq_events.specs.Waits.{AreObserved}
use Rattle.hq_job.specs.Access.{AreOfQueue}
use Rattle.hq_board.specs.declared.entry.View.{View}
use Rattle.hq_board.specs.Rule.{newcomer}
use Rattle.hq_board.specs.declared.known.Known.{Known}
use Rattle.hq_board.specs.History.{after, IsOpen, MayLook}
use Rattle.hq_board.specs.Known.{BitLets, IsHeld, IsOwn, IsReady, Tied, is_done, log_of, phase_at}

-- ---- lists of phases of which only the first n may be complete

abbrev pub Beyond : List Phase → ℕ → Type 0
Beyond xs n = (i : ℕ) → n ≤ i → i < length xs → is_done (get_or xs i own.InQueue) ≡ false

pub count_first : (x : Phase) (xs : List Phase) → is_done x ≡ true → count_by is_done (x ∷ xs) ≡ 1 + count_by is_done xs
count_first x xs e = omega (arith, count_is x xs, ap (λ b. cond {A = ℕ} b 1 0) e)
  where
    count_is : (x : Phase) (xs : List Phase) → count_by is_done (x ∷ xs) ≡ cond {A = ℕ} (is_done x) 1 0 + count_by is_done xs
    count_is x xs = Rattle.std.proofs.lemmas.List.Sums.sum_by-cons (λ y. cond {A = ℕ} (is_done y) 1 0) x xs

pub count_none : (x : Phase) (xs : List Phase) → is_done x ≡ false → count_by is_done (x ∷ xs) ≡ count_by is_done xs
count_none x xs e = omega (arith, Rattle.std.proofs.lemmas.List.Sums.sum_by-cons (λ y. cond {A = ℕ} (is_done y) 1 0) x xs, ap (λ b. cond {A = ℕ} b 1 0) e)

pub bool : (b : Bool) → (b ≡ true) ⊎ (b ≡ false)
bool true = inl refl
bool false = inr refl

few : (xs : List Phase) (n : ℕ) → Beyond xs n → count_by is_done xs ≤ n
few [] n h = omega arith
few (x ∷ xs) zero h = omega (arith, count_none x xs (h 0 (omega arith) (omega arith)), few xs zero (λ i a l. h (suc i) (omega arith) (omega (arith, l))))
few (x ∷ xs) (suc n) h = elim (bool (is_done x)) [
  | inl e ↦ omega (arith, count_first x xs e, few xs n (λ i a l. h (suc i) (omega (arith, a)) (omega (arith, l))))
  | inr e ↦ omega (arith, count_none x xs e, few xs n (λ i a l. h (suc i) (omega (arith, a)) (omega (arith, l))))
]

first_or_later : (x : Phase) (xs : List Phase) (n i : ℕ) → is_done x ≡ true → i < suc n → ((j : ℕ) → j < n → is_done (get_or xs j own.InQueue) ≡ true) → is_done (get_or (x ∷ xs) i own.InQueue) ≡ true
first_or_later x xs n zero t l h = t
first_or_later x xs n (suc i) t l h = h i (omega (arith, l))

tight : (xs : List Phase) (n : ℕ) → Beyond xs n → count_by is_done xs ≡ n → (i : ℕ) → i < n → is_done (get_or xs i own.InQueue) ≡ true
tight [] n h e i l = absurd (omega (arith, e, l))
tight (x ∷ xs) zero h e i l = absurd (omega (arith, l))
tight (x ∷ xs) (suc n) h e i l = elim (bool (is_done x)) [
  | inr f ↦ absurd (omega (arith, e, count_none x xs f, few xs n (λ j a m. h (suc j) (omega (arith, a)) (omega (arith, m)))))
  | inl t ↦ first_or_later x xs n i t l (tight xs n (λ j a m. h (suc j) (omega (arith, a)) (omega (arith, m))) (omega (arith, e, count_first x xs t)))
]

full : (xs : List Phase) (n : ℕ) → n ≤ length xs → ((i : ℕ) → i < n → is_done (get_or xs i own.InQueue) ≡ true) → n ≤ count_by is_done xs
full xs zero l h = omega arith
full [] (suc n) l h = absurd (omega (arith, l))
full (x ∷ xs) (suc n) l h = omega (arith, count_first x xs (h 0 (omega arith)), full xs n (omega (arith, l)) (λ i m. h (suc i) (omega (arith, m))))

-- ---- phases

done_of : (f : machine.Phase) → f ≡ Complete → is_complete f ≡ true
done_of f e = ap is_complete e

of_done : (f : machine.Phase) → is_complete f ≡ true → f ≡ Complete
of_done Waiting e = absurd (true≢false (sym e))
of_done InQueue e = absurd (true≢false (sym e))
of_done Launched e = absurd (true≢false (sym e))
of_done Active e = absurd (true≢false (sym e))
of_done Complete e = refl

queued_not_done : (f : machine.Phase) → f ≡ InQueue → is_complete f ≡ false
queued_not_done f e = ap is_complete e

queued_not_launched : (f : machine.Phase) → f ≡ InQueue → is_launched f ≡ true → ⊥
queued_not_launched f e l = true≢false (sym l ∙ ap is_launched e)

is_or_not : (f : machine.Phase) → (f ≡ Complete) ⊎ (f ≢ Complete)
is_or_not f = elim (bool (is_complete f)) [
  | inl e ↦ inl (of_done f e)
  | inr e ↦ inr (λ is. true≢false (sym (done_of f is) ∙ e))
]

-- ---- places

pub own_packet : (job : Job) (known : Known) (i : ℕ) → Tied job known → i < length known.phases.items → IsPacket job (known.first + i) × ((packet job (known.first + i)).queue ≡ known.queue)
own_packet job known i t l = t.span.of_queue (known.first + i) (omega arith) (omega (arith, l))

pub own_place : (job : Job) (known : Known) (p : ℕ) → Tied job known → IsPacket job p → (packet job p).queue ≡ known.queue → IsOwn known p
own_place job known p t there q = let w = t.span.within p there q in record { place = p - known.first; below = omega (arith, w); is = omega (arith, w) }

pub beyond : (job : Job) (known : Known) → Tied job known → Beyond known.phases.items known.launched
beyond job known t i a l = queued_not_done (phase_at known i) (t.queued i a l)

-- the place of an earlier packet of the queue
earlier_place : (job : Job) (known : Known) (e i : ℕ) → Tied job known → i < length known.phases.items → Earlier job e (known.first + i) → (j : ℕ) × (j < i) × (e ≡ known.first + j)
earlier_place job known e i t l h =
    let o = own_place job known e t (omega (arith, h.ahead, h.is_packet)) (h.same_queue ∙ (own_packet job known i t l).1) in
    (o.place, omega (arith, o.is, h.ahead), o.is)

-- ---- launches

launches : (job : Job) (known : Known) → Tied job known → known.launched < length known.phases.items → (IsHeld job known → ⊥) → BitLets job known → MayLaunch job (after job (log_of known)) known.queue (known.first + known.launched)
launches job known t l held lets = record {
  is_packet = here.0;
  queue = here.1;
  waits = sym (t.phases known.launched l) ∙ t.queued known.launched (omega arith) l;
  next = λ e h. let (j, m, is) = earlier_place job known e known.launched t l h in
      subst (λ k. is_launched ((after job (log_of known)).phase k) ≡ true) (sym is) (subst (λ f. is_launched f ≡ true) (t.phases j (omega (arith, m, l))) (t.begun j m));
  bit = λ b e h. let (j, m, is) = earlier_place job known e known.launched t l h in
      ap (after job (log_of known)).phase is ∙ sym (t.phases j (omega (arith, m, l))) ∙ of_done (phase_at known j) (tight known.phases.items known.launched (beyond job known t) (sym t.counted ∙ lets b) j m);
  barriers = λ e h b. let (j, m, is) = earlier_place job known e known.launched t l h in
      ap (after job (log_of known)).phase is ∙ sym (t.phases j (omega (arith, m, l))) ∙ settled j m (subst (IsBarrier job) is b);
}
  where
    here : IsPacket job (known.first + known.launched) × ((packet job (known.first + known.launched)).queue ≡ known.queue)
    here = own_packet job known known.launched t l

    settled : (j : ℕ) → j < known.launched → IsBarrier job (known.first + j) → phase_at known j ≡ Complete
    settled j m b = elim (cases_eq (suc j) known.launched) [
      | inr n ↦ t.barriers j (omega (arith, m, n)) b
      | inl e ↦ elim (is_or_not (phase_at known j)) [
        | inl done ↦ done
        | inr n ↦ absurd (held (record { last = j; launched = sym e; barrier = b; incomplete = n }))
      ]
    ]

pub earlier_own : (job : Job) (known : Known) (j i : ℕ) → Tied job known → i < length known.phases.items → j < i → Earlier job (known.first + j) (known.first + i)
earlier_own job known j i t l m = record { ahead = omega (arith, m); is_packet = (own_packet job known i t l).0; same_queue = (own_packet job known j t (omega (arith, m, l))).1 ∙ sym (own_packet job known i t l).1 }

-- a packet that may be launched is the next
next_is : (job : Job) (known : Known) (p : ℕ) → Tied job known → MayLaunch job (after job (log_of known)) known.queue p → (p ≡ known.first + known.launched) × (known.launched < length known.phases.items)
next_is job known p t may =
    let o = own_place job known p t may.is_packet may.queue in
    let waits : phase_at known o.place ≡ InQueue = t.phases o.place o.below ∙ ap (after job (log_of known)).phase (sym o.is) ∙ may.waits in
    let high : known.launched ≤ o.place = elim (Rattle.std.proofs.lemmas.Bool.cases_lt o.place known.launched) [
      | inl l ↦ absurd (queued_not_launched (phase_at known o.place) waits (t.begun o.place l))
      | inr g ↦ g
    ] in
    elim (cases_eq known.launched o.place) [
      | inl e ↦ (o.is ∙ ap (λ k. known.first + k) (sym e), omega (arith, e, o.below))
      | inr n ↦ absurd (
          let low : known.launched < o.place = omega (arith, n, high) in
          let e = earlier_own job known known.launched o.place t o.below low in
          queued_not_launched (phase_at known known.launched) (t.queued known.launched (omega arith) (omega (arith, low, o.below)))
          (subst (λ f. is_launched f ≡ true) (sym (t.phases known.launched (omega (arith, low, o.below)))) (may.next (known.first + known.launched) (subst (Earlier job (known.first + known.launched)) (sym o.is) e)))
          )
    ]

pub launches_if : (job : Job) (known : Known) → Tied job known → IsReady job known → MayLaunch job (after job (log_of known)) known.queue (known.first + known.launched)
launches_if job known t r = launches job known t r.room r.free r.lets

pub ready_where : (job : Job) (known : Known) (p : ℕ) → Tied job known → MayLaunch job (after job (log_of known)) known.queue p → IsReady job known
ready_where job known p t may =
    let (is, l) = next_is job known p t may in
    let at : MayLaunch job (after job (log_of known)) known.queue (known.first + known.launched) = subst (MayLaunch job (after job (log_of known)) known.queue) is may in
    record {
      room = l;
      free = λ held. held.incomplete (t.phases held.last (omega (arith, held.launched, t.within)) ∙ at.barriers (known.first + held.last) (earlier_own job known held.last known.launched t l (omega (arith, held.launched))) held.barrier);
      lets = λ b.
          let all : known.launched ≤ count_by is_done known.phases.items = full known.phases.items known.launched t.within (λ i m. done_of (phase_at known i) (t.phases i (omega (arith, m, l)) ∙ at.bit b (known.first + i) (earlier_own job known i known.launched t l m))) in
          omega (arith, t.counted, all, few known.phases.items known.launched (beyond job known t));
    }

pub launches_none : (job : Job) (known : Known) → Tied job known → (b : Bool) → b ≡ false → IsTrue b ↔ IsReady job known → (p : ℕ) → MayLaunch job (after job (log_of known)) known.queue p → ⊥
launches_none job known t b f is p may = true≢false (sym (is.1 (ready_where job known p t may)) ∙ f)

-- ---- looks

pub is_open : (job : Job) (known : Known) (place slot : ℕ) → Tied job known → place < length known.phases.items
    → ((IsBarrier job (known.first + place) × (phase_at known place ≡ Launched)) × (slice_index_or (slice_index_or known.observed.items place []) slot false ≡ false)) ↔ IsOpen job (after job (log_of known)) (known.first + place) slot
is_open job known place slot t l = (
  λ h. record { barrier = h.0.0; launched = sym (t.phases place l) ∙ h.0.1; fresh = sym (t.slots place slot l) ∙ h.1 },
  λ o. ((o.barrier, t.phases place l ∙ o.launched), t.slots place slot l ∙ o.fresh),
)

pub looks_own : (job : Job) (known : Known) (p slot : ℕ) → Tied job known → (packet job p).queue ≡ known.queue → MayLook job (after job (log_of known)) p slot → IsOwn known p
looks_own job known p slot t q may = own_place job known p t may.dependency.is_packet q

pub looks_if : (job : Job) (known : Known) (p slot s : ℕ) → Dependency job p slot s → IsOpen job (after job (log_of known)) p slot → MayLook job (after job (log_of known)) p slot
looks_if job known p slot s d o = record { signal = s; dependency = d; unobserved = o }

-- ---- a queue that has done nothing

none_done : (n : ℕ) → count_by is_done (replicate n own.InQueue) ≡ 0
none_done zero = refl
none_done (suc n) = omega (arith, count_none own.InQueue (replicate n own.InQueue) refl, none_done n)

pub new_tied : (job : Job) (known : Known) (q first n : ℕ) → job.rings ≡ false → q < length job.queues → known.token.me.0 ≡ newcomer q → known.queue ≡ q → known.first ≡ first
    → known.phases.items ≡ replicate n own.InQueue → known.observed.items ≡ replicate n (false ∷ false ∷ false ∷ false ∷ false ∷ []) → known.launched ≡ 0 → known.completed ≡ 0
    → AreOfQueue job q first (first + n) → Tied job known
new_tied job known q first n rings near me is_q is_first ph ob la co span = record {
  plain = ap (λ (v : View). v.deals) me;
  queue = ap (λ (v : View). v.queue) me ∙ sym is_q;
  near = subst (λ k. k < length job.queues) (sym is_q) near;
  span = subst (λ k. AreOfQueue job k known.first (known.first + length known.phases.items)) (sym is_q) (subst (λ f. AreOfQueue job q f (f + length known.phases.items)) (sym is_first) (subst (λ k. AreOfQueue job q first (first + k)) (sym count) span));
  slot_count = ap length ob ∙ length-replicate n (false ∷ false ∷ false ∷ false ∷ false ∷ []) ∙ sym count;
  phases = λ i l. all_queued i (omega (arith, l, count)) ∙ sym (ap (λ (v : View). (after job v.log).phase (known.first + i)) me ∙ ap (λ b. cond b Waiting InQueue) rings);
  slots = λ i slot l. ap (λ xs. get_or (get_or xs i []) slot false) ob ∙ ap (λ row. get_or row slot false) (get_or-replicate n i (false ∷ false ∷ false ∷ false ∷ false ∷ []) [] (omega (arith, l, count))) ∙ none_seen slot ∙ sym (ap (λ (v : View). (after job v.log).observed (known.first + i) slot) me);
  within = omega (arith, la);
  begun = λ i l. absurd (omega (arith, l, la));
  queued = λ i a l. all_queued i (omega (arith, l, count));
  barriers = λ i l b. absurd (omega (arith, l, la));
  counted = co ∙ sym (ap (count_by is_done) ph ∙ none_done n);
}
  where
    count : length known.phases.items ≡ n
    count = ap length ph ∙ length-replicate n own.InQueue

    all_queued : (i : ℕ) → i < n → phase_at known i ≡ InQueue
    all_queued i l = ap (λ xs. named (get_or xs i own.InQueue)) ph ∙ ap named (get_or-replicate n i own.InQueue own.InQueue l)

    none_seen : (slot : ℕ) → get_or (false ∷ false ∷ false ∷ false ∷ false ∷ []) slot false ≡ false
    none_seen zero = refl
    none_seen (suc zero) = refl
    none_seen (suc (suc zero)) = refl
    none_seen (suc (suc (suc zero))) = refl
    none_seen (suc (suc (suc (suc zero)))) = refl
    none_seen (suc (suc (suc (suc (suc n))))) = refl

pub span_from : (job : Job) (q a b n : ℕ) → AreOfQueue job q a b → n ≡ b - a → AreOfQueue job q a (a + n)
span_from job q a b n span e = record {
  within = λ p there is. let w = span.within p there is in (w.0, omega (arith, w, e));
  of_queue = λ p l m. span.of_queue p l (omega (arith, l, m, e));
}

-- ---- waits

pub waits : (job : Job) (known : Known) (p place : ℕ) (row : List Bool) → Tied job known → place < length known.phases.items → p ≡ known.first + place → row ≡ get_or known.observed.items place row → AreObserved (after job (log_of known)) p row
waits job known p place row t l is row_is slot =
    ap (λ r. get_or r slot false) (row_is ∙ get_or_default known.observed.items place row [] (omega (arith, l, t.slot_count))) ∙ t.slots place slot l ∙ ap (λ k. (after job (log_of known)).observed k slot) (sym is)

pub entered_phase : (job : Job) (known : Known) (p place : ℕ) {f : machine.Phase} → Tied job known → place < length known.phases.items → p ≡ known.first + place → phase_at known place ≡ f → (after job (log_of known)).phase p ≡ f
entered_phase job known p place {f} t l is e = ap (after job (log_of known)).phase is ∙ sym (t.phases place l) ∙ e

pub there_own : (job : Job) (known : Known) (p place : ℕ) → Tied job known → place < length known.phases.items → p ≡ known.first + place → IsPacket job p
there_own job known p place t l is = subst (IsPacket job) (sym is) (own_packet job known place t l).0

pub queue_near : (job : JobValue) (q : ℕ) → q < length job.queues → q < length (plan job).queues
queue_near job q l = omega (arith, l, length-map job.queues (λ q. q.agent))

pub phase_same : (x y : Phase) → named x ≡ named y → x ≡ y
phase_same x y e = Rattle.hq_events.proofs.Phases.named_same x y e
