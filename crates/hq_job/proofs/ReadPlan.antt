-- The job of tables that fit, with no signal against it, is one that was read: its plan is valid, and it is within the limits.
use Rattle.std.proofs.Common.{◌≡◌, ℕ, ◌<◌, ◌≤◌, ◌≢◌, inl, inr, List, length, Some, refl, sym, ap, ◌∙◌, subst, arith, slice_get, slice_index, All, AllPairs, IfSome, IsTrue, count_by}
use Rattle.std.proofs.lemmas.Bool.{cases_lt}
use Rattle.std.proofs.lemmas.List.{length-map, get_or-map, get_or_past}
use Rattle.std.proofs.lemmas.List.Concat.{length-flat_map}
use Rattle.std.proofs.lemmas.List.Elements.{All-map, All-weaker}
use Rattle.std.proofs.lemmas.Option.{get_or_from_slice_get}
use Rattle.hq_footprint.proofs.RangeBytes.{bytes_apart}
use Rattle.hq_signals.specs.Table.{OpenSignal, IsUndershot, NeverReachesZero}
use Rattle.hq_model.specs.Job as model
use Rattle.hq_model.specs.Job.{Job, packet, no_packet, IsPacket, Dependency, decrementers}
use Rattle.hq_model.specs.Machine.{IsByte}
use Rattle.hq_model.specs.Theorems.{Valid}
use Rattle.hq_tables.specs.declared.rows.Placed.{Placed}
use Rattle.hq_job.specs.Numbering.{by_number}
use Rattle.hq_job.specs.Plan.{plan, planned}
use Rattle.hq_tables.specs.Blocks.{Bytes}
use Rattle.hq_job.specs.View.{IsRead, WithinLimits, PacketIsRead}
use Rattle.hq_tables.specs.Tables.{Tables, total_of}
use Rattle.hq_job.specs.Ended.{value_of}
use Rattle.hq_tables.specs.Fits.{TablesFit, PacketFits}
use Rattle.hq_job.proofs.Grouped.{grouped_most}
use Rattle.hq_job.proofs.Submitted.{queue_of, each_once, in_order}
use Rattle.hq_tables.proofs.Lists.{at, within, all_at}
use Rattle.hq_job.proofs.GroupedSums.{all_grouped, count_grouped, count_map}
use Rattle.hq_tables.proofs.Counts.{on, none_past}

abbrev job_of : Tables → Job
job_of ts = plan (value_of ts)

abbrev rows : Tables → List Placed
rows ts = by_number (length ts.queues) ts.placed

below : (ts : Tables) → TablesFit ts → All (λ p. p.queue < length ts.queues) ts.placed
below ts fits = All-weaker (PacketFits ts) (λ p. p.queue < length ts.queues) (λ p h. h.queue) ts.placed fits.packets

rows_fit : (ts : Tables) → TablesFit ts → All (PacketFits ts) (rows ts)
rows_fit ts fits = all_grouped (PacketFits ts) queue_of (length ts.queues) ts.placed fits.packets

-- ---- one packet

-- a packet of the plan is the row's, planned
record Row (ts : Tables) (p : ℕ) : Type 0 where
  pub row : Placed
  pub there : slice_get (rows ts) p ≡ Some row
  pub is : packet (job_of ts) p ≡ planned row

row_at : (ts : Tables) (p : ℕ) → IsPacket (job_of ts) p → Row ts p
row_at ts p l =
    let low : p < length (rows ts) = omega (arith, length-map (rows ts) planned) in
    let found = at (rows ts) p low in
    record { row = found.x; there = found.there; is = get_or-map planned (rows ts) p found.x no_packet low ∙ ap planned (get_or_from_slice_get (rows ts) p found.x found.x found.there) }

fits_at : (ts : Tables) → TablesFit ts → (p : ℕ) (r : Row ts p) → PacketFits ts r.row
fits_at ts fits p r = all_at (PacketFits ts) (rows ts) p r.row (rows_fit ts fits) r.there

-- what holds of no packet and of each row's holds of all
of_each : (P : model.Packet → Type 0) (ts : Tables) → P no_packet → ((p : ℕ) (r : Row ts p) → P (planned r.row)) → (p : ℕ) → P (packet (job_of ts) p)
of_each P ts none some p = elim (cases_lt p (length (job_of ts).packets)) [
  | inl low ↦ let r = row_at ts p low in subst P (sym r.is) (some p r)
  | inr high ↦ subst P (sym (get_or_past (job_of ts).packets p no_packet high)) none
]

memory_is : (ts : Tables) → length (job_of ts).memory ≡ total_of ts.buffers
memory_is ts = length-flat_map (λ (b : Bytes). b.bytes) ts.buffers

-- ---- signals

decrementers_are : (ts : Tables) → TablesFit ts → (s : ℕ) → decrementers (job_of ts) s ≡ count_by (on s) ts.placed
decrementers_are ts fits s = count_map (model.completes_on s) planned (rows ts) ∙ count_grouped (on s) queue_of (length ts.queues) ts.placed (below ts fits)

start_is : (ts : Tables) (k : ℕ) (s : OpenSignal) → slice_get ts.signals k ≡ Some s → slice_index (job_of ts).starts k ≡ s.start
start_is ts k s e = get_or-map (λ (t : OpenSignal). t.start) ts.signals k s 0 (within ts.signals k s e) ∙ ap (λ (t : OpenSignal). t.start) (get_or_from_slice_get ts.signals k s s e)

enough : (ts : Tables) → TablesFit ts → All (λ s. ¬ IsUndershot s) ts.signals → (s : ℕ) → decrementers (job_of ts) s ≤ slice_index (job_of ts).starts s
enough ts fits sound s = elim (cases_lt s (length ts.signals)) [
  | inl low ↦
      let found = at ts.signals s low in
      let counted = (fits.signals s found.x found.there).decrementers in
      let most : found.x.decrementers ≤ found.x.start = least (all_at (λ t. ¬ IsUndershot t) ts.signals s found.x sound found.there) in
      omega (arith, decrementers_are ts fits s, counted, start_is ts s found.x found.there)
  | inr high ↦ omega (arith, decrementers_are ts fits s, none_past ts fits s high)
]
  where
    least : {a b : ℕ} → ¬ (a < b) → b ≤ a
    least h = omega arith

exact : (ts : Tables) → TablesFit ts → All (λ s. ¬ IsUndershot s) ts.signals → All (λ s. ¬ NeverReachesZero s) ts.signals → (p slot s : ℕ) → Dependency (job_of ts) p slot s → decrementers (job_of ts) s ≡ slice_index (job_of ts).starts s
exact ts fits sound zeros p slot s dep =
    let r = row_at ts p dep.is_packet in
    let named : slice_get r.row.slots slot ≡ Some (Some s) = subst (λ (q : model.Packet). slice_get q.deps slot ≡ Some (Some s)) r.is dep.signal in
    let low : s < length ts.signals = all_at (λ o. IfSome o (λ k. k < length ts.signals)) r.row.slots slot (Some s) (fits_at ts fits p r).slots named in
    let found = at ts.signals s low in
    let of_signal = fits.signals s found.x found.there in
    let Waits : Placed → Type 0 = λ q. (slot : ℕ) → slice_get q.slots slot ≡ Some (Some s) → IsTrue found.x.waited in
    let waited : IsTrue found.x.waited = all_at Waits (rows ts) p r.row (all_grouped Waits queue_of (length ts.queues) ts.placed of_signal.waited) r.there slot named in
    let least : ¬ (found.x.decrementers < found.x.start) = λ short. all_at (λ t. ¬ NeverReachesZero t) ts.signals s found.x zeros found.there (waited, short) in
    omega (arith, enough ts fits sound s, decrementers_are ts fits s, of_signal.decrementers, start_is ts s found.x found.there, least)

-- ---- the job

valid : (ts : Tables) → TablesFit ts → All (λ s. ¬ IsUndershot s) ts.signals → All (λ s. ¬ NeverReachesZero s) ts.signals → Valid (job_of ts)
valid ts fits sound zeros =
    record {
      queues = λ p l. let r = row_at ts p l in subst (λ (q : model.Packet). q.queue < length (job_of ts).queues) (sym r.is) (omega (arith, (fits_at ts fits p r).queue, length-map ts.queues (λ q. q.agent)));
      agents = All-map (λ a. a < length ts.agents) (λ q. q.agent) ts.queues fits.agents;
      writes = of_each (λ q. All (IsByte (job_of ts)) q.writes) ts (λ k d l. absurd (omega arith)) (λ p r. subst (λ n. All (λ b. b < n) (planned r.row).writes) (sym (memory_is ts)) (fits_at ts fits p r).writes);
      writes_once = of_each (λ q. AllPairs (λ b c. b ≢ c) q.writes) ts (λ i j d l m. absurd (omega arith)) (λ p r. bytes_apart r.row.bytes.write);
      not_null = λ p l kind.
          let r = row_at ts p l in
          let (slot, s, e) = (fits_at ts fits p r).not_null (ap (λ (q : model.Packet). q.kind) (sym r.is) ∙ kind) in
          (slot, s, record { is_packet = l; signal = subst (λ (q : model.Packet). slice_get q.deps slot ≡ Some (Some s)) (sym r.is) e });
      submissions = each_once (job_of ts) (length ts.queues) ts.placed (below ts fits) refl;
      in_order = in_order (job_of ts) (length ts.queues) ts.placed refl;
      sizes = length-map ts.queues (λ q. q.size) ∙ sym (length-map ts.queues (λ q. q.agent));
      slots = All-map (λ size. 0 < size) (λ q. q.size) ts.queues fits.sizes;
      balanced = record { enough = enough ts fits sound; exact = exact ts fits sound zeros };
    }

limits : (ts : Tables) → TablesFit ts → WithinLimits (value_of ts)
limits ts fits =
    let w = fits.within in
    record {
      agents = w.agents;
      queues = w.queues;
      packets = omega (arith, w.packets, grouped_most queue_of (length ts.queues) ts.placed);
      buffers = w.buffers;
      bytes = w.bytes;
      signals = w.signals;
      kernels = w.kernels;
      arguments = w.arguments;
    }

pub fits_read : (ts : Tables) → TablesFit ts → All (λ s. ¬ IsUndershot s) ts.signals → All (λ s. ¬ NeverReachesZero s) ts.signals → IsRead (value_of ts)
fits_read ts fits sound zeros =
    record {
      valid = valid ts fits sound zeros;
      limits = limits ts fits;
      packets = All-weaker (PacketFits ts) (PacketIsRead (value_of ts)) (λ p h. record { reads = h.reads; suits = h.suits; ranges = h.ranges; slots = h.slots; done = h.done }) (rows ts) (rows_fit ts fits);
    }
