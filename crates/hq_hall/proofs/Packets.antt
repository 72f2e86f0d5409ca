-- What is known of a packet of an accepted job.
use Rattle.std.proofs.Common.{◌≡◌, ℕ, ◌+◌, ◌-◌, ◌^◌, ◌<◌, ◌≤◌, inl, inr, List, [], ◌∷◌, ◌++◌, length, map, slice_get, slice_index_or, refl, sym, ap, ap₂, ◌∙◌, subst, arith, All, Option, Some, unwrap_or, replicate, ◌≢◌, length-append}
use Rattle.std.specs.List.{flat_map}
use Rattle.std.specs.Option.{option_map}
use Rattle.std.proofs.lemmas.Bool.{cases_lt}
use Rattle.std.proofs.lemmas.List.{append-nil, get_or_past, get_or_default, length-map}
use Rattle.std.proofs.lemmas.List.Concat.{length-flat_map}
use Rattle.std.proofs.lemmas.List.FromFn.{length-range_with_len}
use Rattle.std.proofs.lemmas.Option.{slice_get_within, get_or_from_slice_get}
use Rattle.hq_footprint.specs.declared.footprint.Range.{Range}
use Rattle.hq_footprint.specs.declared.footprint.Footprint.{Footprint}
use Rattle.hq_footprint.specs.declared.footprint.Work.{Work}
use Rattle.hq_footprint.specs.Bytes.{bytes_of, read_entries, written_bytes, Share}
use Rattle.hq_footprint.specs.Conflicts.{Conflict}
use Rattle.hq_footprint.specs.Tasks.{SuitsTwo, result_of}
use Rattle.hq_footprint.specs.Table.{nowhere, no_work}
use Rattle.hq_tables.specs.declared.rows.Placed.{Placed}
use Rattle.hq_job.specs.Plan.{plan, planned}
use Rattle.hq_tables.specs.Tables.{total_of}
use Rattle.hq_job.specs.Value.{JobValue}
use Rattle.hq_tables.specs.Blocks.{Bytes}
use Rattle.hq_job.specs.View.{PacketIsRead, WithinLimits}
use Rattle.hq_job.proofs.Shares.{packet_at}
use Rattle.hq_tables.proofs.Lists.{all_at, at}
use Rattle.hq_certcheck.specs.View.{AcceptedJob}
use Rattle.hq_ledger.specs.declared.grants.Grant.{Grant}
use Rattle.hq_ledger.specs.Grants.{IsClear}
use Rattle.hq_ledger.specs.Pieces.{Part}
use Rattle.hq_events.specs.declared.event.Event.{Event}
use Rattle.hq_events.specs.declared.event.Event.TheVariants as event
use Rattle.hq_events.specs.Events.{coarse_of}
use Rattle.hq_machine.proofs.Seen.{range_below}
use Rattle.hq_machine.specs.Enabled.{Possible}
use Rattle.hq_machine.specs.State.{StateValue}
use Rattle.hq_machine.specs.View.{IsStateOf, state_of}
use Rattle.hq_model.specs.Job.{Packet, packet}
use Rattle.hq_model.specs.Fence.{Conflict as Kinds, Conflicts, Ordered}
use Rattle.hq_model.specs.Fence.Conflict.{WriteRead, WriteWrite, ReadWrite}
use Rattle.hq_model.specs.Journal.{JournalRun}
use Rattle.hq_model.specs.Journal.Coarse.{Deliver}
use Rattle.hq_model.specs.Machine.{bytes_read, bytes_stored, lane_sees}
use Rattle.hq_model.specs.Machine.Phase.{Active}
use Rattle.hq_model.specs.OneByOne.{given}
use Rattle.hq_model.specs.Order.{Extends}
use Rattle.hq_model.specs.Theorems.{Valid}
use Rattle.hq_model.proofs.Rested.{coarse_law}
use Rattle.hq_hall.specs.declared.stage.Stage.{Stage}
use Rattle.hq_hall.specs.declared.stage.Stage.TheVariants as stage
use Rattle.hq_hall.specs.Handing.{first_read, foot_of, pieces_of, second_read, work_of}
use Rattle.hq_hall.specs.Histories.{RunSoFar}
use Rattle.hq_hall.specs.Stages.{stage_of}
use Rattle.hq_hall.specs.View.{Adds, ArePieces, HallValue, Stands, bytes_among, job_of, state_in, work_in}
use Rattle.hq_hall.proofs.Apart.{active_apart}
use Rattle.hq_hall.proofs.Brought.{read_among}
use Rattle.hq_hall.proofs.Fetching.{fetched_bytes, read_is_given}
use Rattle.hq_hall.proofs.Handed.{length_at}
use Rattle.hq_hall.proofs.Journals.{deliver_comes}

pub work_is : (packets : List Placed) (p : ℕ) (x : Placed) → slice_get packets p ≡ Some x → x.work ≡ work_of packets p
work_is packets p x e = sym (ap (λ (o : Option Placed). unwrap_or (option_map (λ (placed : Placed). placed.work) o) no_work) e)

pub foot_is : (packets : List Placed) (p : ℕ) (x : Placed) → slice_get packets p ≡ Some x → x.bytes ≡ foot_of packets p
foot_is packets p x e = sym (ap (λ (o : Option Placed). unwrap_or (option_map (λ (placed : Placed). placed.bytes) o) no_work.foot) e)

pub planned_is : (v : JobValue) (p : ℕ) (x : Placed) → slice_get v.packets p ≡ Some x → planned x ≡ packet (plan v) p
planned_is v p x e = sym (packet_at v p x (slice_get_within v.packets p x e) (sym (get_or_from_slice_get v.packets p x x e)))

pub packet_read : (v : JobValue) (p : ℕ) (x : Placed) → All (PacketIsRead v) v.packets → slice_get v.packets p ≡ Some x → PacketIsRead v x
packet_read v p x all e = all_at (PacketIsRead v) v.packets p x all e

-- a range of which all bytes are below a limit isn't longer than that
length_low : (ranges : List Range) (i limit : ℕ) → All (λ b. b < limit) (flat_map bytes_of ranges) → (slice_index_or ranges i nowhere).len ≤ limit
length_low ranges i limit all = elim (cases_lt i (length ranges)) [
  | inl low ↦ by ((slice_index_or ranges i nowhere).len) refl low
  | inr past ↦ let e = ap (λ (r : Range). r.len) (get_or_past ranges i nowhere past) in omega (arith, e)
] where
  by : (n : ℕ) → (slice_index_or ranges i nowhere).len ≡ n → i < length ranges → (slice_index_or ranges i nowhere).len ≤ limit
  by n e low = elim (cases_lt 0 n) [
    | inl some ↦ let last = range_below ranges i (n - 1) limit nowhere all low (omega (arith, e, some)) in omega (arith, e, some, last)
    | inr none ↦ omega (arith, e, none)
  ]

pub entries_low : (v : JobValue) (x : Placed) → PacketIsRead v x → WithinLimits v → (first_read x.work).len + (second_read x.work).len < 2 ^ 64
entries_low v x read limits =
    let first = length_low x.bytes.reads 0 (total_of v.buffers) read.reads in
    let second = length_low x.bytes.reads 1 (total_of v.buffers) read.reads in
    let same = length_at x.bytes.reads x.work.foot.reads 0 read.ranges.reads in
    let other = length_at x.bytes.reads x.work.foot.reads 1 read.ranges.reads in
    let few = limits.bytes in
    omega (arith, first, second, same, other, few)

-- what the packet reads lies in memory
pub memory_reads : (v : JobValue) (x : Placed) (st : StateValue) → PacketIsRead v x → IsStateOf (plan v) st → All (λ b. b < length st.copies.memory) (read_entries x.bytes)
memory_reads v x st read is =
    subst (λ n. All (λ b. b < n) (read_entries x.bytes)) (sym (is.lengths.memory ∙ length-flat_map (λ (b : Bytes). b.bytes) v.buffers)) read.reads

-- what the plan's packet reads, writes and does
record Plan (v : JobValue) (p : ℕ) : Type 0 where
  reads : (packet (plan v) p).reads ≡ read_entries (foot_of v.packets p)
  writes : (packet (plan v) p).writes ≡ written_bytes (foot_of v.packets p)
  task : (packet (plan v) p).task ≡ (work_of v.packets p).task

plan_at : (v : JobValue) (p : ℕ) → p < length v.packets → Plan v p
plan_at v p low =
    let found = at v.packets p low in
    let e = planned_is v p found.x found.there in
    let f = foot_is v.packets p found.x found.there in
    record {
      reads = sym (ap (λ (x : Packet). x.reads) e) ∙ ap read_entries f;
      writes = sym (ap (λ (x : Packet). x.writes) e) ∙ ap written_bytes f;
      task = sym (ap (λ (x : Packet). x.task) e) ∙ ap (λ (w : Work). w.task) (work_is v.packets p found.x found.there);
    }

-- ---- who may be out together

apart_shares : (v : JobValue) (q p : ℕ) → q < length v.packets → p < length v.packets → ((kind : Kinds) → Conflicts (plan v) kind q p → ⊥) → Conflict (foot_of v.packets q) (foot_of v.packets p) → ⊥
apart_shares v q p lq lp none (inl wr) =
    none WriteRead (subst (λ xs. Share xs (packet (plan v) p).reads) (sym (plan_at v q lq).writes) (subst (Share (written_bytes (foot_of v.packets q))) (sym (plan_at v p lp).reads) wr))
apart_shares v q p lq lp none (inr (inl ww)) =
    none WriteWrite (subst (λ xs. Share xs (packet (plan v) p).writes) (sym (plan_at v q lq).writes) (subst (Share (written_bytes (foot_of v.packets q))) (sym (plan_at v p lp).writes) ww))
apart_shares v q p lq lp none (inr (inr rw)) =
    none ReadWrite (subst (λ xs. Share xs (packet (plan v) p).writes) (sym (plan_at v q lq).reads) (subst (Share (read_entries (foot_of v.packets q))) (sym (plan_at v p lp).writes) rw))

-- a packet that is active and wasn't fetched is in no way of those that are out
pub clear_out : (v : JobValue) (events : List Event) (st : StateValue) (out : List Grant) (stages : List Stage) (p : ℕ) (foot : Footprint) → Valid (plan v) → Ordered (plan v) → RunSoFar (plan v) events st
    → Stands v.packets events (state_of (plan v) st) out stages (plan v) → p < length v.packets → (state_of (plan v) st).phase p ≡ Active → stage_of events p ≡ stage.Unfetched → foot ≡ foot_of v.packets p
    → IsClear out (record { packet = p; foot = foot })
clear_out v events st out stages p foot valid ordered run k low active fresh own = λ i d l clash.
    let g = slice_index_or out i d in
    let is = (k.are_out g.packet).0 (i, g, l, get_or_default out i g d l, refl) in
    let other : g.packet ≢ p = λ e. let never : stage.Unfetched ≡ stage.Out = sym fresh ∙ subst (λ q. stage_of events q ≡ stage.Out) e is.1 in absurd (cc) in
    let count = length-map v.packets planned in
    elim clash [
      | inl same ↦ other same
      | inr conflict ↦
          apart_shares v g.packet p is.0 low
          (λ kind. active_apart (plan v) (map coarse_of events) (state_of (plan v) st) g.packet p kind valid ordered run.run (omega (arith, is.0, count)) (omega (arith, low, count)) other (k.away g.packet is.1).active active)
          (subst (λ h. Conflict h (foot_of v.packets p)) (k.feet i d l) (subst (Conflict g.foot) own conflict))
    ]

-- a packet that is out may be delivered
pub out_delivers : (v : JobValue) (events : List Event) (st : StateValue) (out : List Grant) (stages : List Stage) (p : ℕ) → Stands v.packets events (state_of (plan v) st) out stages (plan v)
    → p < length v.packets → stage_of events p ≡ stage.Out → Possible (plan v) st (Deliver p)
out_delivers v events st out stages p k low is =
    let count = length-map v.packets planned in
    let away = k.away p is in
    deliver_comes (plan v) (state_of (plan v) st) p (omega (arith, low, count)) away.active away.read
    (λ i _. k.fresh p (λ e. let never : stage.Out ≡ stage.Delivered = sym is ∙ e in absurd (cc)) i)

-- ---- what a packet is handed and brings back

suits_work : (v : JobValue) (x : Placed) (r s : Range) → PacketIsRead v x → x.work.foot.reads ≡ r ∷ s ∷ [] → SuitsTwo x.work.task (first_read x.work).len (second_read x.work).len x.work.foot.write.len
suits_work v x r s read e =
    subst (λ (rs : List Range). SuitsTwo x.work.task (slice_index_or rs 0 nowhere).len (slice_index_or rs 1 nowhere).len x.work.foot.write.len) (sym e) (read.ranges.each r s e)

reads_total : (v : JobValue) (x : Placed) (r s : Range) → PacketIsRead v x → x.work.foot.reads ≡ r ∷ s ∷ [] → (from more : Range) → x.bytes.reads ≡ from ∷ more ∷ []
    → length (read_entries x.bytes) ≡ (first_read x.work).len + (second_read x.work).len
reads_total v x r s read e from more f =
    let same = length_at x.bytes.reads x.work.foot.reads 0 read.ranges.reads in
    let other = length_at x.bytes.reads x.work.foot.reads 1 read.ranges.reads in
    ap (λ rs. length (flat_map bytes_of rs)) f
    ∙ length-append (bytes_of from) (bytes_of more ++ [])
    ∙ ap₂ (λ m n. m + n) (length-range_with_len from.at from.len) (ap length (append-nil (bytes_of more)) ∙ length-range_with_len more.at more.len)
    ∙ ap₂ (λ m n. m + n) (ap (λ rs. (slice_index_or rs 0 nowhere).len) (sym f) ∙ same) (ap (λ rs. (slice_index_or rs 1 nowhere).len) (sym f) ∙ other)

-- where these are the packet's pieces, what its task makes of those that it reads is what it stores
pub brought : (v : JobValue) (st : StateValue) (p : ℕ) (x : Placed) (r s from more : Range) (pieces : List Part) (bytes : List ℕ) → PacketIsRead v x → slice_get v.packets p ≡ Some x
    → x.work.foot.reads ≡ r ∷ s ∷ [] → x.bytes.reads ≡ from ∷ more ∷ [] → ArePieces (state_of (plan v) st) p x.work pieces
    → bytes ≡ result_of x.work.task x.work.foot.write.len (bytes_among x.work.task pieces) → bytes ≡ bytes_stored (plan v) (state_of (plan v) st) p
brought v st p x r s from more pieces bytes read there ranges numbers are is =
    let e = planned_is v p x there in
    let total : length (packet (plan v) p).reads ≡ (first_read x.work).len + (second_read x.work).len =
    ap (λ (y : Packet). length y.reads) (sym e) ∙ reads_total v x r s read ranges from more numbers in
    let count : x.work.foot.write.len ≡ length (packet (plan v) p).writes =
    sym read.ranges.write ∙ sym (length-range_with_len x.bytes.write.at x.bytes.write.len) ∙ ap (λ (y : Packet). length y.writes) e in
    is
    ∙ ap (λ n. result_of x.work.task n (bytes_among x.work.task pieces)) count
    ∙ ap (λ bs. result_of x.work.task (length (packet (plan v) p).writes) bs) (read_among (plan v) (state_of (plan v) st) p x.work pieces are total (suits_work v x r s read ranges))
    ∙ ap (λ (y : Packet). result_of y.task (length (packet (plan v) p).writes) (bytes_read (plan v) (state_of (plan v) st) p)) e

-- what a fetch reads is what was seen when the pieces were handed out
pub fetched_pieces : (old new : HallValue) (p : ℕ) (items : List Part) → Adds old (event.Fetch p) new
    → items ≡ pieces_of p (work_in old p) (map (lane_sees (job_of old) (state_in old) p) (packet (job_of old) p).reads) (replicate (work_in old p).foot.write.len 0)
    → items ≡ pieces_of p (work_in new p) (bytes_read (job_of new) (state_in new) p) (replicate (work_in new p).foot.write.len 0)
fetched_pieces old new p items adds is =
    subst (λ (j : AcceptedJob). items ≡ pieces_of p (work_of j.job.packets p) (bytes_read (plan j.job) (state_of (plan j.job) new.state) p) (replicate (work_of j.job.packets p).foot.write.len 0)) (sym adds.moves.job)
    (is ∙ ap (λ bs. pieces_of p (work_in old p) bs (replicate (work_in old p).foot.write.len 0)) (sym (fetched_bytes (job_of old) (state_in old) (state_of (job_of old) new.state) p adds.moves.happens)))

-- and what every order that keeps the job's gives
pub fetched_given : (old new : HallValue) (p : ℕ) → Adds old (event.Fetch p) new → RunSoFar (job_of new) new.events new.state → Valid (job_of old) → Ordered (job_of old)
    → (list : List ℕ) → Extends (job_of old) list → bytes_read (job_of new) (state_in new) p ≡ given (job_of old) list p
fetched_given old new p adds run valid ordered list extends =
    subst (λ (j : AcceptedJob). bytes_read (plan j.job) (state_of (plan j.job) new.state) p ≡ given (job_of old) list p) (sym adds.moves.job)
    (read_is_given (job_of old) list (map coarse_of new.events) (state_of (job_of old) new.state) p valid ordered extends
    (subst (λ (j : AcceptedJob). JournalRun (plan j.job) (map coarse_of new.events) (state_of (plan j.job) new.state)) adds.moves.job run.run)
    ((coarse_law (job_of old) (state_in old) (state_of (job_of old) new.state)).fetch p adds.moves.happens))
