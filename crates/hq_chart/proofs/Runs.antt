-- What is drawn of a run is what packets do in it.
use Rattle.std.proofs.Common.{◌≡◌, ◌≢◌, ℕ, zero, suc, ◌+◌, ◌<◌, ◌&&◌, ◌==◌, inl, inr, Bool, true, false, List, [], ◌∷◌, ◌++◌, Some, None, length, map, slice_get, slice_index_or, slice_set, refl, sym, ◌∙◌, ap, subst, arith, length-append, append_assoc, append-nil, option_map, cond, ltb}
use Rattle.std.specs.List.{position_or_len}
use Rattle.std.proofs.lemmas.Bool.{cases_eq, cases_lt, cond-true, eq-eqb, eqb-true, lt-ltb, true≢false}
use Rattle.std.proofs.lemmas.List.{length-map, length-set, get_or-set_same, get_or-set_other}
use Rattle.std.proofs.lemmas.List.Sums.{position_or_len_is}
use Rattle.std.proofs.lemmas.Option.{same_Some, slice_get-map, slice_get-get_or, slice_get_within, slice_get_past, get_or_from_slice_get}
use Rattle.hq_tables.specs.declared.rows.Placed.{Placed}
use Rattle.hq_job.specs.Plan.{plan, planned}
use Rattle.hq_job.specs.Value.{JobValue}
use Rattle.hq_job.proofs.Grouped.{get_before, get_after}
use Rattle.hq_job.proofs.Shares.{packet_at}
use Rattle.hq_model.specs.Job as model
use Rattle.hq_model.specs.Job.{packet, IsPacket}
use Rattle.hq_model.specs.Journal.{Happens, Journal, Pushes, numbers, lane_pushes, agent_pushes}
use Rattle.hq_model.specs.Machine as machine
use Rattle.hq_model.specs.Machine.{State, Phase, Step, Steps, MayLaunch, put, start, is_launched, first_phase}
use Rattle.hq_model.specs.Machine.Phase.{Waiting, InQueue, Launched, Active, Complete}
use Rattle.hq_model.proofs.Rested.{Each, is_lane_push, each_lane_push, each_agent_push, agent_phases}
use Rattle.hq_model.proofs.Sums.{put_same, put_other}
use Rattle.hq_events.specs.Events.{coarse_of}
use Rattle.hq_events.specs.declared.event.Event.{Event}
use Rattle.hq_events.specs.declared.event.Event.TheVariants as event
use Rattle.hq_chart.specs.declared.rows.Row.{Row}
use Rattle.hq_chart.specs.declared.rows.Stage.{Stage}
use Rattle.hq_chart.specs.declared.rows.Stage.TheVariants as stage
use Rattle.hq_chart.specs.Rows.{rows_of, rows_after, moved, with_stage, with_stage_at, launched, first_ahead, is_ahead, awaits_launch}
use Rattle.hq_chart.specs.Runs.{IsPhase, IsSince, TellsOf, RowsTellOfRuns}

-- ---- steps that change no phase

-- whether an event leaves all phases
abbrev keeps : machine.Event → Bool
keeps machine.Event.Submit = false
keeps (machine.Event.Launch q) = false
keeps (machine.Event.Enter p) = false
keeps (machine.Event.Finish p) = false
keeps (machine.Event.Observe p slot) = true
keeps (machine.Event.Read p i) = true
keeps (machine.Event.Store p i) = true
keeps (machine.Event.PushLane p b) = true
keeps (machine.Event.FillLane p b) = true
keeps (machine.Event.DropLane p b) = true
keeps (machine.Event.PushAgent a b) = true
keeps (machine.Event.FillAgent a b) = true
keeps (machine.Event.DropAgent a b) = true

step_keeps : (job : model.Job) (old : State) (e : machine.Event) (new : State) → keeps e ≡ true → Step job old e new → new.phase ≡ old.phase
step_keeps job old machine.Event.Submit new k h = absurd (true≢false (sym k))
step_keeps job old (machine.Event.Launch q) new k h = absurd (true≢false (sym k))
step_keeps job old (machine.Event.Enter p) new k h = absurd (true≢false (sym k))
step_keeps job old (machine.Event.Finish p) new k h = absurd (true≢false (sym k))
step_keeps job old (machine.Event.Observe p slot) new k h = ap (λ s. s.phase) h.6
step_keeps job old (machine.Event.Read p i) new k h = ap (λ s. s.phase) h.4
step_keeps job old (machine.Event.Store p i) new k h = ap (λ s. s.phase) h.5
step_keeps job old (machine.Event.PushLane p b) new k h = ap (λ s. s.phase) h.4
step_keeps job old (machine.Event.FillLane p b) new k h = ap (λ s. s.phase) h.3
step_keeps job old (machine.Event.DropLane p b) new k h = ap (λ s. s.phase) h.4
step_keeps job old (machine.Event.PushAgent a b) new k h = ap (λ s. s.phase) h.4
step_keeps job old (machine.Event.FillAgent a b) new k h = ap (λ s. s.phase) h.3
step_keeps job old (machine.Event.DropAgent a b) new k h = ap (λ s. s.phase) h.4

steps_keep : (job : model.Job) (old : State) (f : ℕ → machine.Event) (ns : List ℕ) (new : State) → ((i : ℕ) → keeps (f i) ≡ true) → Steps job old (map f ns) new → new.phase ≡ old.phase
steps_keep job old f [] new k is = ap (λ s. s.phase) is
steps_keep job old f (n ∷ ns) new k (mid, step, rest) = steps_keep job mid f ns new k rest ∙ step_keeps job old (f n) mid (k n) step

lanes_keep : (job : model.Job) (old : State) (events : List machine.Event) (new : State) → Each is_lane_push events → Steps job old events new → new.phase ≡ old.phase
lanes_keep job old [] new each is = ap (λ s. s.phase) is
lanes_keep job old (machine.Event.PushLane q c ∷ events) new (e, each) (mid, step, rest) = lanes_keep job mid events new each rest ∙ ap (λ s. s.phase) step.4
lanes_keep job old (event ∷ events) new (e, each) run = absurd (true≢false (sym e))

pushes_keep : (job : model.Job) (old : State) (lanes agents : List ℕ) (new : State) → Pushes job old lanes agents new → new.phase ≡ old.phase
pushes_keep job old lanes agents new (mid, a, b) =
    (agent_phases job mid (agent_pushes job mid agents) new (each_agent_push job mid agents) b).0
    ∙ lanes_keep job old (lane_pushes job old lanes) mid (each_lane_push job old lanes) a

-- ---- what a stage says of a phase

ahead_of : (s : Stage) (phase : Phase) → IsPhase s phase → is_launched phase ≡ false → awaits_launch s ≡ true
ahead_of stage.Ahead phase h is_not = refl
ahead_of (stage.Waits since) phase h is_not = absurd (true≢false (sym (ap is_launched h) ∙ is_not))
ahead_of (stage.Active since) phase h is_not = absurd (true≢false (sym (ap is_launched h) ∙ is_not))
ahead_of stage.Done phase h is_not = absurd (true≢false (sym (ap is_launched h) ∙ is_not))

not_ahead : (s : Stage) (phase : Phase) → IsPhase s phase → is_launched phase ≡ true → awaits_launch s ≡ false
not_ahead stage.Ahead phase h is_now = absurd (true≢false (sym is_now ∙ h))
not_ahead (stage.Waits since) phase h is_now = refl
not_ahead (stage.Active since) phase h is_now = refl
not_ahead stage.Done phase h is_now = refl

-- a packet that isn't launched still isn't
still_ahead : (s : Stage) (was now : Phase) → is_launched was ≡ false → is_launched now ≡ false → IsPhase s was → IsPhase s now
still_ahead stage.Ahead was now a b h = b
still_ahead (stage.Waits since) was now a b h = absurd (true≢false (sym (ap is_launched h) ∙ a))
still_ahead (stage.Active since) was now a b h = absurd (true≢false (sym (ap is_launched h) ∙ a))
still_ahead stage.Done was now a b h = absurd (true≢false (sym (ap is_launched h) ∙ a))

-- an event at a place stands there with more behind it too
longer : (done : List Event) (e : Event) (q p : ℕ) (s : Stage) → IsSince done q p s → IsSince (done ++ e ∷ []) q p s
longer done e q p stage.Ahead h = tt
longer done e q p (stage.Waits since) h = get_before done (e ∷ []) since (slice_get_within done since (event.Launch q) h) ∙ h
longer done e q p (stage.Active since) h = get_before done (e ∷ []) since (slice_get_within done since (event.Enter p) h) ∙ h
longer done e q p stage.Done h = tt

at_end : (done : List Event) (e : Event) → slice_get (done ++ e ∷ []) (length done) ≡ Some e
at_end done e = let same : length done ≡ length done + 0 = omega arith in ap (slice_get (done ++ e ∷ [])) same ∙ get_after done (e ∷ []) 0

-- ---- rows, event by event

-- the rows tell of the packets behind these events
pub record Tell (job : JobValue) (done : List Event) (state : State) (rows : List Row) : Type 0 where
  pub len : length rows ≡ length job.packets
  pub each : (p : ℕ) (row : Row) → slice_get rows p ≡ Some row → TellsOf job done state p row

-- an event that changes no row
stays : (job : JobValue) (done : List Event) (e : Event) (old new : State) (rows : List Row) → ((p : ℕ) (s : Stage) → IsPhase s (old.phase p) → IsPhase s (new.phase p)) → Tell job done old rows → Tell job (done ++ e ∷ []) new rows
stays job done e old new rows keep t = record {
  len = t.len;
  each = λ p row there. let r = t.each p row there in record { queue = r.queue; phase = keep p row.stage r.phase; since = longer done e row.queue p row.stage r.since };
}

same_phases : (old new : State) → new.phase ≡ old.phase → (p : ℕ) (s : Stage) → IsPhase s (old.phase p) → IsPhase s (new.phase p)
same_phases old new is p s h = subst (λ f. IsPhase s (f p)) (sym is) h

quiet : (job : JobValue) (done : List Event) (e : Event) (one : machine.Event) (old new : State) (rows : List Row) → keeps one ≡ true → Steps (plan job) old (one ∷ []) new → Tell job done old rows → Tell job (done ++ e ∷ []) new rows
quiet job done e one old new rows k (mid, step, is) t =
    stays job done e old new rows (same_phases old new (ap (λ s. s.phase) is ∙ step_keeps (plan job) old one mid k step)) t

get_set_same : (xs : List Row) (i : ℕ) (x : Row) → i < length xs → slice_get (slice_set xs i x) i ≡ Some x
get_set_same xs i x low = slice_get-get_or (slice_set xs i x) i x (omega (arith, low, length-set xs i x)) ∙ ap (λ h. Some h) (get_or-set_same xs i x x low)

get_set_other : (xs : List Row) (i p : ℕ) (x : Row) → p ≢ i → slice_get (slice_set xs i x) p ≡ slice_get xs p
get_set_other xs i p x apart = elim (cases_lt p (length xs)) [
  | inl low ↦ slice_get-get_or (slice_set xs i x) p x (omega (arith, low, length-set xs i x)) ∙ ap (λ h. Some h) (get_or-set_other xs i p x x apart) ∙ sym (slice_get-get_or xs p x low)
  | inr past ↦ slice_get_past (slice_set xs i x) p (omega (arith, past, length-set xs i x)) ∙ sym (slice_get_past xs p past)
]

-- an event by which one packet does something else
moves : (job : JobValue) (done : List Event) (e : Event) (old new : State) (rows : List Row) (p : ℕ) (row : Row) (s : Stage) → slice_get rows p ≡ Some row → ((q : ℕ) → q ≢ p → new.phase q ≡ old.phase q) → IsPhase s (new.phase p)
    → IsSince (done ++ e ∷ []) row.queue p s → Tell job done old rows → Tell job (done ++ e ∷ []) new (with_stage rows p s)
moves job done e old new rows p row s there others phase since t =
    subst (λ o. Tell job (done ++ e ∷ []) new (with_stage_at rows p s o)) (sym there) (record {
      len = length-set rows p changed ∙ t.len;
      each = λ q other is. elim (cases_eq q p) [
        | inl here ↦
            let low : p < length rows = slice_get_within rows p row there in
            let same : changed ≡ other = same_Some changed other (sym (get_set_same rows p changed low) ∙ sym (ap (slice_get (slice_set rows p changed)) here) ∙ is) in
            subst (TellsOf job (done ++ e ∷ []) new q) same (subst (λ n. TellsOf job (done ++ e ∷ []) new n changed) (sym here) (record { queue = (t.each p row there).queue; phase = phase; since = since }))
        | inr apart ↦
            let r = t.each q other (sym (get_set_other rows p q changed apart) ∙ is) in
            record { queue = r.queue; phase = subst (IsPhase other.stage) (sym (others q apart)) r.phase; since = longer done e other.queue q other.stage r.since }
      ];
    })
  where
    changed : Row
    changed = record row { stage = s }

-- the row of a packet
pub record HasRow (rows : List Row) (p : ℕ) : Type 0 where
  pub row : Row
  pub there : slice_get rows p ≡ Some row

some_row : (rows : List Row) (p : ℕ) → p < length rows → HasRow rows p
some_row [] p low = absurd (omega arith)
some_row (row ∷ rows) zero low = record { row = row; there = refl }
some_row (row ∷ rows) (suc p) low = let r = some_row rows p (omega arith) in record { row = r.row; there = r.there }

packet_count : (job : JobValue) → length (plan job).packets ≡ length job.packets
packet_count job = length-map job.packets planned

row_of : (job : JobValue) (done : List Event) (state : State) (rows : List Row) (p : ℕ) → Tell job done state rows → IsPacket (plan job) p → HasRow rows p
row_of job done state rows p t is = some_row rows p (omega (arith, t.len, packet_count job, is))

-- ---- launches

and_false : (a b : Bool) → (a ≡ true → b ≡ false) → (a && b) ≡ false
and_false true b h = h refl
and_false false b h = refl

and_true : (a b : Bool) → a ≡ true → b ≡ true → (a && b) ≡ true
and_true true b h k = k
and_true false b h k = absurd (true≢false (sym h))

-- the packet that may be launched is the first of its queue that isn't
first_is : (job : JobValue) (done : List Event) (state : State) (rows : List Row) (q p : ℕ) (row : Row) → Tell job done state rows → MayLaunch (plan job) state q p → slice_get rows p ≡ Some row → first_ahead rows q ≡ Some p
first_is job done state rows q p row t may there =
    let at : position_or_len (is_ahead q) rows ≡ p = position_or_len_is (is_ahead q) rows p row (omega (arith, low)) before (λ _. here) in
    ap (λ n. cond (ltb n (length rows)) (Some n) None) at ∙ cond-true (ltb p (length rows)) (Some p) None (lt-ltb p (length rows) low)
  where
    low : p < length rows
    low = slice_get_within rows p row there

    here : is_ahead q (slice_index_or rows p row) ≡ true
    here = ap (is_ahead q) (get_or_from_slice_get rows p row row there)
        ∙ and_true (row.queue == q) (awaits_launch row.stage) (eq-eqb row.queue q ((t.each p row there).queue ∙ may.queue)) (ahead_of row.stage (state.phase p) (t.each p row there).phase (ap is_launched may.waits))

    before : (k : ℕ) → k < p → is_ahead q (slice_index_or rows k row) ≡ false
    before k ahead =
        let other = slice_index_or rows k row in
        let is : slice_get rows k ≡ Some other = slice_get-get_or rows k row (omega (arith, ahead, low)) in
        let r = t.each k other is in
        and_false (other.queue == q) (awaits_launch other.stage) (λ e.
        not_ahead other.stage (state.phase k) r.phase (may.next k (record { ahead = ahead; is_packet = may.is_packet; same_queue = sym r.queue ∙ eqb-true other.queue q e ∙ sym may.queue })))

launches : (job : JobValue) (done : List Event) (q : ℕ) (old new : State) (rows : List Row) → Steps (plan job) old (machine.Event.Launch q ∷ []) new → Tell job done old rows
    → Tell job (done ++ event.Launch q ∷ []) new (moved rows (length done) (event.Launch q))
launches job done q old new rows (mid, (p, may, left), is) t =
    let r = row_of job done old rows p t may.is_packet in
    let phases : new.phase ≡ put old.phase p Launched = ap (λ s. s.phase) is ∙ ap (λ s. s.phase) left in
    let queue : r.row.queue ≡ q = (t.each p r.row r.there).queue ∙ may.queue in
    subst (λ o. Tell job (done ++ event.Launch q ∷ []) new (launched rows (length done) o)) (sym (first_is job done old rows q p r.row t may r.there))
    (moves job done (event.Launch q) old new rows p r.row (stage.Waits (length done)) r.there
    (λ x apart. ap (λ f. f x) phases ∙ put_other old.phase p Launched x apart)
    (ap (λ f. f p) phases ∙ put_same old.phase p Launched p refl)
    (at_end done (event.Launch q) ∙ ap (λ n. Some (event.Launch n)) (sym queue)) t)

-- ---- the other events that change a phase

submits : (job : JobValue) (done : List Event) (old new : State) (rows : List Row) → Steps (plan job) old (machine.Event.Submit ∷ []) new → Tell job done old rows → Tell job (done ++ event.Submit ∷ []) new rows
submits job done old new rows (mid, (p, may, left), is) t =
    let phases : new.phase ≡ put old.phase p InQueue = ap (λ s. s.phase) is ∙ ap (λ s. s.phase) left in
    stays job done event.Submit old new rows (λ x s h. elim (cases_eq x p) [
      | inl e ↦ still_ahead s (old.phase x) (new.phase x) (ap is_launched (ap old.phase e ∙ may.waits)) (ap is_launched (ap (λ f. f x) phases ∙ put_same old.phase p InQueue x e)) h
      | inr e ↦ subst (IsPhase s) (sym (ap (λ f. f x) phases ∙ put_other old.phase p InQueue x e)) h
    ]) t

-- a packet that comes to another phase
changes : (job : JobValue) (done : List Event) (e : Event) (old new : State) (rows : List Row) (p : ℕ) (phase : Phase) (s : Stage) → IsPacket (plan job) p → new.phase ≡ put old.phase p phase → IsPhase s phase
    → ((q : ℕ) → IsSince (done ++ e ∷ []) q p s) → Tell job done old rows → Tell job (done ++ e ∷ []) new (with_stage rows p s)
changes job done e old new rows p phase s there phases says since t =
    let r = row_of job done old rows p t there in
    moves job done e old new rows p r.row s r.there
    (λ x apart. ap (λ f. f x) phases ∙ put_other old.phase p phase x apart)
    (subst (IsPhase s) (sym (ap (λ f. f p) phases ∙ put_same old.phase p phase p refl)) says)
    (since r.row.queue) t

enters : (job : JobValue) (done : List Event) (p : ℕ) (old new : State) (rows : List Row) → Steps (plan job) old (machine.Event.Enter p ∷ []) new → Tell job done old rows
    → Tell job (done ++ event.Enter p ∷ []) new (moved rows (length done) (event.Enter p))
enters job done p old new rows (mid, step, is) t =
    changes job done (event.Enter p) old new rows p Active (stage.Active (length done)) step.0 (ap (λ s. s.phase) is ∙ ap (λ s. s.phase) step.3) refl (λ q. at_end done (event.Enter p)) t

finishes : (job : JobValue) (done : List Event) (e : Event) (p : ℕ) (old mid new : State) (rows : List Row) → mid.phase ≡ old.phase → Steps (plan job) mid (machine.Event.Finish p ∷ []) new → Tell job done old rows
    → Tell job (done ++ e ∷ []) new (with_stage rows p stage.Done)
finishes job done e p old mid new rows same (last, step, is) t =
    changes job done e old new rows p Complete stage.Done step.0 (ap (λ s. s.phase) is ∙ ap (λ s. s.phase) step.5 ∙ ap (λ f. put f p Complete) same) refl (λ q. tt) t

-- ---- all events

happens : (job : JobValue) (done : List Event) (e : Event) (old new : State) (rows : List Row) → Happens (plan job) old (coarse_of e) new → Tell job done old rows → Tell job (done ++ e ∷ []) new (moved rows (length done) e)
happens job done event.Submit old new rows h t = submits job done old new rows h t
happens job done (event.Launch q) old new rows h t = launches job done q old new rows h t
happens job done (event.Observe p slot) old new rows h t = quiet job done (event.Observe p slot) (machine.Event.Observe p slot) old new rows refl h t
happens job done (event.Enter p) old new rows h t = enters job done p old new rows h t
happens job done (event.Fetch p) old new rows h t =
    stays job done (event.Fetch p) old new rows (same_phases old new (steps_keep (plan job) old (machine.Event.Read p) (numbers (length (packet (plan job) p).reads)) new (λ i. refl) h.1)) t
happens job done (event.Deliver p) old new rows h t =
    stays job done (event.Deliver p) old new rows (same_phases old new (steps_keep (plan job) old (machine.Event.Store p) (numbers (length (packet (plan job) p).writes)) new (λ i. refl) h.1)) t
happens job done (event.Complete p) old new rows (mid, pushes, last) t =
    finishes job done (event.Complete p) p old mid new rows (pushes_keep (plan job) old _ _ mid pushes) last t
happens job done event.Rest old new rows h t = stays job done event.Rest old new rows (same_phases old new (pushes_keep (plan job) old _ _ new h)) t
happens job done (event.Read p entry) old new rows h t = quiet job done (event.Read p entry) (machine.Event.Read p entry) old new rows refl h t
happens job done (event.Store p entry) old new rows h t = quiet job done (event.Store p entry) (machine.Event.Store p entry) old new rows refl h t
happens job done (event.Finish p) old new rows h t = finishes job done (event.Finish p) p old old new rows refl h t
happens job done (event.PushLane p byte) old new rows h t = quiet job done (event.PushLane p byte) (machine.Event.PushLane p byte) old new rows refl h t
happens job done (event.PushAgent agent byte) old new rows h t = quiet job done (event.PushAgent agent byte) (machine.Event.PushAgent agent byte) old new rows refl h t
happens job done (event.FillLane p byte) old new rows h t = quiet job done (event.FillLane p byte) (machine.Event.FillLane p byte) old new rows refl h t
happens job done (event.FillAgent agent byte) old new rows h t = quiet job done (event.FillAgent agent byte) (machine.Event.FillAgent agent byte) old new rows refl h t
happens job done (event.DropLane p byte) old new rows h t = quiet job done (event.DropLane p byte) (machine.Event.DropLane p byte) old new rows refl h t
happens job done (event.DropAgent agent byte) old new rows h t = quiet job done (event.DropAgent agent byte) (machine.Event.DropAgent agent byte) old new rows refl h t

follow : (job : JobValue) (done : List Event) (rows : List Row) (old : State) (events : List Event) (new : State) → Journal (plan job) old (map coarse_of events) new → Tell job done old rows
    → Tell job (done ++ events) new (rows_after rows (length done) events)
follow job done rows old [] new is t = subst (λ s. Tell job (done ++ []) s rows) (sym is) (subst (λ d. Tell job d old rows) (sym (append-nil done)) t)
follow job done rows old (e ∷ events) new (mid, h, rest) t =
    let more : length (done ++ e ∷ []) ≡ length done + 1 = length-append done (e ∷ []) in
    let next = moved rows (length done) e in
    subst (λ d. Tell job d new (rows_after next (length done + 1) events)) (append_assoc done (e ∷ []) events)
    (subst (λ n. Tell job ((done ++ e ∷ []) ++ events) new (rows_after next n events)) more
    (follow job (done ++ e ∷ []) next mid events new rest (happens job done e old mid rows h t)))

-- ---- before the first event

first_ahead_phase : (job : model.Job) → is_launched (first_phase job) ≡ false
first_ahead_phase job = by job.rings
  where
    by : (rings : Bool) → is_launched (cond rings Waiting InQueue) ≡ false
    by true = refl
    by false = refl

begun : (job : JobValue) → Tell job [] (start (plan job)) (rows_of job.packets)
begun job = record {
  len = length-map job.packets first;
  each = λ p row there.
      let low : p < length job.packets = omega (arith, slice_get_within (rows_of job.packets) p row there, length-map job.packets first) in
      at p row low there (some_placed job.packets p low);
}
  where
    first : Placed → Row
    first placed = record { queue = placed.queue; stage = stage.Ahead }

    some_placed : (xs : List Placed) (p : ℕ) → p < length xs → (x : Placed) × (slice_get xs p ≡ Some x)
    some_placed [] p low = absurd (omega arith)
    some_placed (x ∷ xs) zero low = (x, refl)
    some_placed (x ∷ xs) (suc p) low = some_placed xs p (omega arith)

    at : (p : ℕ) (row : Row) → p < length job.packets → slice_get (rows_of job.packets) p ≡ Some row → (x : Placed) × (slice_get job.packets p ≡ Some x) → TellsOf job [] (start (plan job)) p row
    at p row low there (x, is) =
        let same : first x ≡ row = same_Some (first x) row (sym (slice_get-map first job.packets p ∙ ap (option_map first) is) ∙ there) in
        let here : packet (plan job) p ≡ planned x = packet_at job p x low (sym (get_or_from_slice_get job.packets p x x is)) in
        subst (TellsOf job [] (start (plan job)) p) same (record { queue = sym (ap (λ y. y.queue) here); phase = first_ahead_phase (plan job); since = tt })

pub rows_tell_of_runs : RowsTellOfRuns
rows_tell_of_runs job events state run p row there = (follow job [] (rows_of job.packets) (start (plan job)) events state run (begun job)).each p row there
