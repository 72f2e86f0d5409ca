-- What is known of a valid job's numbers.
use Rattle.std.proofs.Common.{◌≡◌, ℕ, zero, suc, ◌+◌, ◌-◌, ◌<◌, ◌≤◌, inl, inr, IfSome, All, List, [], ◌∷◌, ◌++◌, Option, Some, None, MatchOption, slice_get, subst, get_or, length-append, length, sym, ◌∙◌, ap, arith}
use Rattle.std.proofs.lemmas.Bool.{cases_lt}
use Rattle.std.specs.List.{flat_map}
use Rattle.std.proofs.lemmas.List.{get_or_append_left, get_or-append-add, get_or-append_right, get_or-map}
use Rattle.std.proofs.lemmas.Option.{slice_get-get_or}
use Rattle.hq_model.specs.declared.limits.TheConstants.{BYTES}
use Rattle.hq_model.proofs.Places.{got}
use Rattle.hq_events.specs.Packets.{IsEntry}
use Rattle.hq_footprint.specs.declared.footprint.Range.{Range}
use Rattle.hq_footprint.specs.Bytes.{bytes_of}
use Rattle.hq_footprint.specs.Tasks.{Suits}
use Rattle.hq_footprint.proofs.RangeBytes.{bytes_counted, bytes_placed}
use Rattle.hq_job.specs.Value.{JobValue}
use Rattle.hq_job.specs.View.{PacketIsRead}
use Rattle.hq_job.specs.Plan.{plan, planned}
use Rattle.hq_tables.specs.Tables.{total_of}
use Rattle.hq_tables.specs.declared.rows.Placed.{Placed}
use Rattle.hq_model.specs.Job.{Job, Packet, packet, IsPacket, agent_of, no_packet}
use Rattle.hq_model.specs.Theorems.{Valid}

pub agent_below : (job : Job) (p : ℕ) → Valid job → IsPacket job p → agent_of job p < job.agents
agent_below job p valid there = valid.agents (packet job p).queue 0 (valid.queues p there)

-- ---- what packets read

-- a range of bytes of which none is past the limit is no longer than the limit
range_few : (r : Range) (rest : List ℕ) (limit : ℕ) → All (λ b. b < limit) (bytes_of r ++ rest) → r.len ≤ limit
range_few r rest limit all = elim (cases_lt limit r.len) [
  | inr l ↦ l
  | inl l ↦
      let counted' = bytes_counted r in
      let whole = length-append (bytes_of r) rest in
      let e = get_or_append_left (bytes_of r) rest 0 limit (omega arith) ∙ bytes_placed r limit 0 l in
      let low = all limit 0 (omega arith) in
      absurd (omega arith)
]

pub write_few : (r : Range) (limit : ℕ) → All (λ b. b < limit) (bytes_of r) → r.len ≤ limit
write_few r limit all = elim (cases_lt limit r.len) [
  | inr l ↦ l
  | inl l ↦
      let counted' = bytes_counted r in
      let e = bytes_placed r limit 0 l in
      let low = all limit 0 (omega arith) in
      absurd (omega arith)
]

pub rest_all : (xs ys : List ℕ) (limit : ℕ) → All (λ b. b < limit) (xs ++ ys) → All (λ b. b < limit) ys
rest_all xs ys limit all = λ i d l.
    let whole = length-append xs ys in
    subst (λ b. b < limit) (get_or-append-add xs ys i d) (all (length xs + i) d (omega arith))

pub ranges_few : (rs : List Range) (limit : ℕ) → All (λ b. b < limit) (flat_map bytes_of rs) → (k : ℕ) (d : Range) → k < length rs → Range.len (get_or rs k d) ≤ limit
ranges_few [] limit all k d l = absurd (omega arith)
ranges_few (r ∷ rs) limit all zero d l = range_few r (flat_map bytes_of rs) limit all
ranges_few (r ∷ rs) limit all (suc k) d l = ranges_few rs limit (rest_all (bytes_of r) (flat_map bytes_of rs) limit all) k d (omega arith)

pub reads_within : (v : JobValue) (p : ℕ) (d : Placed) → All (PacketIsRead v) v.packets → p < length v.packets → All (λ b. b < total_of v.buffers) (packet (plan v) p).reads
reads_within v p d all l = subst (λ (x : Packet). All (λ b. b < total_of v.buffers) x.reads) (sym (get_or-map planned v.packets p d no_packet l)) (all p d l).reads

pub done_within : (v : JobValue) (p : ℕ) (d : Placed) → All (PacketIsRead v) v.packets → p < length v.packets → IfSome (packet (plan v) p).done (λ s. s < length v.signals)
done_within v p d all l = subst (λ (x : Packet). IfSome x.done (λ s. s < length v.signals)) (sym (get_or-map planned v.packets p d no_packet l)) (all p d l).done

pub entries_length : (r : Range) (rest : List ℕ) → length (bytes_of r ++ rest) ≡ r.len + length rest
entries_length r rest = length-append (bytes_of r) rest ∙ ap (λ n. n + length rest) (bytes_counted r)

pub entry_first : (r : Range) (rest : List ℕ) (i : ℕ) → i < r.len → slice_get (bytes_of r ++ rest) i ≡ Some (r.at + i)
entry_first r rest i l =
    let whole = entries_length r rest in
    let here = bytes_counted r in
    slice_get-get_or (bytes_of r ++ rest) i 0 (omega arith) ∙ ap Some (get_or_append_left (bytes_of r) rest 0 i (omega arith) ∙ bytes_placed r i 0 l)

pub entry_later : (r : Range) (rest : List ℕ) (i : ℕ) → r.len ≤ i → i < r.len + length rest → slice_get (bytes_of r ++ rest) i ≡ slice_get rest (i - r.len)
entry_later r rest i l high =
    let whole = entries_length r rest in
    slice_get-get_or (bytes_of r ++ rest) i 0 (omega arith) ∙ ap Some (get_or-append_right (bytes_of r) rest r.len i 0 (bytes_counted r) l) ∙ sym (slice_get-get_or rest (i - r.len) 0 (omega arith))

pub entry_within : (r : Range) (rest : List ℕ) (limit i : ℕ) → All (λ b. b < limit) (bytes_of r ++ rest) → i < r.len → r.at + i < limit
entry_within r rest limit i all l =
    let whole = entries_length r rest in
    let here = bytes_counted r in
    subst (λ b. b < limit) (get_or_append_left (bytes_of r) rest 0 i (omega arith) ∙ bytes_placed r i 0 l) (all i 0 (omega arith))

pub entry_low : (r : Range) (rest : List ℕ) (i : ℕ) → All (λ b. b < BYTES) (bytes_of r ++ rest) → i < r.len → r.at + i < BYTES
entry_low r rest i all l = entry_within r rest BYTES i all l

pub entries_rest : (r : Range) (rest : List ℕ) → All (λ b. b < BYTES) (bytes_of r ++ rest) → All (λ b. b < BYTES) rest
entries_rest r rest all = rest_all (bytes_of r) rest BYTES all

pub later_match : (r : Range) (rest : List ℕ) (i : ℕ) (o : Option ℕ) → r.len ≤ i → MatchOption o (length rest ≤ i - r.len) (λ b. slice_get rest (i - r.len) ≡ Some b) → MatchOption o (length (bytes_of r ++ rest) ≤ i) (λ b. slice_get (bytes_of r ++ rest) i ≡ Some b)
later_match r rest i None l h = let whole = entries_length r rest in omega arith
later_match r rest i (Some b) l h = let k = (got rest (i - r.len) b h).0 in entry_later r rest i l (omega arith) ∙ h

entry_here : (job : Job) (p i b : ℕ) → All (λ b. b < length job.memory) (packet job p).reads → slice_get (packet job p).reads i ≡ Some b → IsEntry job p i b
entry_here job p i b all e = let g = got (packet job p).reads i b e in record { few = g.0; byte = sym g.1; within = subst (λ x. x < length job.memory) g.1 (all i 0 g.0) }

pub entry_match : (job : Job) (p i : ℕ) (reads : List ℕ) (o : Option ℕ) → reads ≡ (packet job p).reads → All (λ b. b < length job.memory) (packet job p).reads → MatchOption o (length reads ≤ i) (λ b. slice_get reads i ≡ Some b) → MatchOption o (length (packet job p).reads ≤ i) (λ b. IsEntry job p i b)
entry_match job p i reads None e all h = let n = ap length e in omega arith
entry_match job p i reads (Some b) e all h = entry_here job p i b all (subst (λ xs. slice_get xs i ≡ Some b) e h)

pub suits : (v : JobValue) (p : ℕ) (d : Placed) → All (PacketIsRead v) v.packets → p < length v.packets → Suits (packet (plan v) p).task (length (packet (plan v) p).reads) (length (packet (plan v) p).writes)
suits v p d all l = subst (λ (x : Packet). Suits x.task (length x.reads) (length x.writes)) (sym (get_or-map planned v.packets p d no_packet l)) (all p d l).suits
