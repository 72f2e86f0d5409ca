-- A packet that is admitted fits, and with it the tables fit.
use Rattle.std.proofs.Common.{◌≡◌, ℕ, zero, suc, ◌+◌, ◌<◌, ◌≤◌, ◌≢◌, inl, inr, Bool, true, cond, ◌==◌, ◌||◌, if◌then◌else◌, List, [], ◌∷◌, length, Option, Some, None, refl, sym, ap, ◌∙◌, subst, arith, slice_get, slice_index_or, All, Any, AllPairs, map, replicate, IfSome, IsTrue, IsNone, unwrap_or, option_map, length-append}
use Rattle.std.specs.List.{list_any}
use Rattle.std.proofs.lemmas.Bool.{cases_eq, or_left, or_right, eq-eqb}
use Rattle.std.proofs.lemmas.List.{length-map}
use Rattle.std.proofs.lemmas.List.Quantifiers.{all_pairs_push}
use Rattle.std.proofs.lemmas.List.Elements.{All-cons, All-nil, All-map, All-push, All-weaker}
use Rattle.std.proofs.lemmas.Option.{slice_get-map, get_or_from_slice_get}
use Rattle.hq_packet.specs.declared.packet.Packet as packet
use Rattle.hq_packet.specs.declared.packet.Packet.TheVariants as format
use Rattle.hq_packet.specs.Parts.{completion_of}
use Rattle.hq_footprint.specs.declared.footprint.Work.{Work}
use Rattle.hq_footprint.specs.Bytes.{read_entries, written_bytes}
use Rattle.hq_footprint.specs.Table.{no_work, service_call}
use Rattle.hq_footprint.specs.Tasks.{Suits, SuitsTwo}
use Rattle.hq_footprint.specs.declared.footprint.Range.{Range}
use Rattle.hq_footprint.specs.declared.task.Task.TheVariants as task
use Rattle.hq_footprint.proofs.TaskLaws.{kernels_suit, services_suit}
use Rattle.hq_signals.specs.Table.{OpenSignal, handles}
use Rattle.hq_model.specs.Job.Kind.{BarrierOr}
use Rattle.hq_tables.specs.declared.rows.Placed.{Placed}
use Rattle.hq_tables.specs.Kinds.{kind_of}
use Rattle.hq_tables.specs.Ranges.{RangesSuit}
use Rattle.hq_tables.specs.Tables.{Tables, IsUndeclared, IsNullOr, NoneApplies, signal_number, total_of, in_bytes, code_at, items_of, placed_of, work_of, noted_by, deps_of, slots_of, packet_tests, with_packet}
use Rattle.hq_tables.specs.Fits.{TablesFit, PacketFits, SignalFits}
use Rattle.hq_tables.proofs.Lists.{some_is}
use Rattle.hq_tables.proofs.Lists.{at, all_at, within}
use Rattle.hq_tables.proofs.ByteNumbers.{reads_low, writes_low, reads_counted, writes_counted, length_kept, lengths_kept}
use Rattle.hq_tables.proofs.SignalNumbers.{number_low, number_handle, is_number, declared_number}
use Rattle.hq_tables.proofs.Lists.{count_push}
use Rattle.hq_tables.proofs.Counts.{on}

-- ---- longer tables

some_grown : (m n : ℕ) → m ≤ n → (o : Option ℕ) → IfSome o (λ k. k < m) → IfSome o (λ k. k < n)
some_grown m n l None h = tt
some_grown m n l (Some k) h = omega arith

-- a packet fits where the tables grew
pub grown : (ts us : Tables) → length ts.queues ≤ length us.queues → total_of ts.buffers ≤ total_of us.buffers → length ts.signals ≤ length us.signals → (p : Placed) → PacketFits ts p → PacketFits us p
grown ts us queues buffers signals p h =
    record {
      queue = omega (arith, h.queue);
      reads = All-weaker (λ b. b < total_of ts.buffers) (λ b. b < total_of us.buffers) (λ b l. omega arith) (read_entries p.bytes) h.reads;
      writes = All-weaker (λ b. b < total_of ts.buffers) (λ b. b < total_of us.buffers) (λ b l. omega arith) (written_bytes p.bytes) h.writes;
      suits = h.suits;
      ranges = h.ranges;
      slots = All-weaker (λ o. IfSome o (λ k. k < length ts.signals)) (λ o. IfSome o (λ k. k < length us.signals)) (some_grown (length ts.signals) (length us.signals) signals) p.slots h.slots;
      done = some_grown (length ts.signals) (length us.signals) signals p.done h.done;
      not_null = h.not_null;
    }

-- ---- dependencies

-- a slot that isn't null
record Slot (deps : List ℕ) : Type 0 where
  pub slot : ℕ
  pub dep : ℕ
  pub there : slice_get deps slot ≡ Some dep
  pub some : dep ≢ 0

some_slot : (deps : List ℕ) → ¬ All (λ d. d ≡ 0) deps → Slot deps
some_slot [] h = absurd (h (All-nil (λ d. d ≡ 0)))
some_slot (d ∷ ds) h = elim (cases_eq d 0) [
  | inl null ↦ let rest = some_slot ds (λ all. h (All-cons (λ e. e ≡ 0) d ds null all)) in record { slot = suc rest.slot; dep = rest.dep; there = rest.there; some = rest.some }
  | inr some ↦ record { slot = 0; dep = d; there = refl; some = some }
]

not_null : (ts : Tables) (q : ℕ) (p : packet.Packet) → ¬ IsNullOr p → ¬ Any (IsUndeclared ts.signals) (completion_of p ∷ deps_of p) → kind_of p ≡ BarrierOr → (slot : ℕ) × (k : ℕ) × (slice_get (placed_of ts q p).slots slot ≡ Some (Some k))
not_null ts q (format.Kernel k) some declared kind = absurd (cc)
not_null ts q (format.Agent a) some declared kind = absurd (cc)
not_null ts q (format.And b) some declared kind = absurd (cc)
not_null ts q (format.Or b) some declared kind =
    let found = some_slot b.deps some in
    let number = declared_number ts.signals found.dep found.some (λ closed. declared (suc found.slot, found.dep, omega (arith, within b.deps found.slot found.dep found.there), get_or_from_slice_get b.deps found.slot found.dep found.dep found.there, (found.some, closed))) in
    (found.slot, number.k, slice_get-map (signal_number ts.signals) b.deps found.slot ∙ ap (λ o. option_map (signal_number ts.signals) o) found.there ∙ ap Some number.is)

-- ---- the packet

current_low : (o : Option ℕ) (n : ℕ) → ¬ IsNone o → IfSome o (λ q. q < n) → unwrap_or o 0 < n
current_low None n some low = absurd (some refl)
current_low (Some q) n some low = low

current_last : (o : Option ℕ) (n : ℕ) → ¬ IsNone o → IfSome o (λ q. q + 1 ≡ n) → unwrap_or o 0 + 1 ≡ n
current_last None n some is = absurd (some refl)
current_last (Some q) n some is = is

slots_low : (signals : List OpenSignal) (hs : List ℕ) → All (λ o. IfSome o (λ k. k < length signals)) (map (signal_number signals) hs)
slots_low signals hs = All-map (λ o. IfSome o (λ k. k < length signals)) (signal_number signals) hs (λ k d l. number_low signals (slice_index_or hs k d))

abbrev EachSuits : Work → Type 0
EachSuits w = (first second : Range) → w.foot.reads ≡ first ∷ second ∷ [] → SuitsTwo w.task first.len second.len w.foot.write.len

-- the work of a packet reads and writes as many bytes as its task asks for
abbrev IsSuited : Work → Type 0
IsSuited w = Suits w.task (length (read_entries w.foot)) (length (written_bytes w.foot))

service_suits : (kind : ℕ) (args : List ℕ) (ret : ℕ) (o : Option Work) → service_call kind args ret ≡ o → IsSuited (unwrap_or o no_work)
service_suits kind args ret None e = (refl, refl)
service_suits kind args ret (Some w) e = (services_suit kind args ret w e).together

work_suits : (ts : Tables) (p : packet.Packet) → IsSuited (work_of ts p)
work_suits ts (format.Kernel k) = (kernels_suit (code_at ts k.object) (items_of k) _ _ _).together
work_suits ts (format.Agent a) = service_suits a.kind a.args a.ret (service_call a.kind a.args a.ret) refl
work_suits ts (format.And b) = (refl, refl)
work_suits ts (format.Or b) = (refl, refl)

-- and so do its byte numbers
numbers_suit : (ts : Tables) (p : packet.Packet) → Suits (work_of ts p).task (length (read_entries (in_bytes ts.buffers (work_of ts p).foot))) (length (written_bytes (in_bytes ts.buffers (work_of ts p).foot)))
numbers_suit ts p =
    let w = work_of ts p in
    subst (λ m. Suits w.task m (length (written_bytes (in_bytes ts.buffers w.foot)))) (sym (reads_counted ts.buffers w.foot))
    (subst (λ n. Suits w.task (length (read_entries w.foot)) n) (sym (writes_counted ts.buffers w.foot)) (work_suits ts p))

-- ---- range by range

none_suits : (first second : Range) → no_work.foot.reads ≡ first ∷ second ∷ [] → SuitsTwo task.Nop first.len second.len 0
none_suits = (services_suit 0x8002 [] 0 no_work refl).each

service_each : (kind : ℕ) (args : List ℕ) (ret : ℕ) (o : Option Work) → service_call kind args ret ≡ o → EachSuits (unwrap_or o no_work)
service_each kind args ret None e = none_suits
service_each kind args ret (Some w) e = (services_suit kind args ret w e).each

work_each : (ts : Tables) (p : packet.Packet) → EachSuits (work_of ts p)
work_each ts (format.Kernel k) = (kernels_suit (code_at ts k.object) (items_of k) _ _ _).each
work_each ts (format.Agent a) = service_each a.kind a.args a.ret (service_call a.kind a.args a.ret) refl
work_each ts (format.And b) = none_suits
work_each ts (format.Or b) = none_suits

ranges_suit : (ts : Tables) (q : ℕ) (p : packet.Packet) → RangesSuit (placed_of ts q p)
ranges_suit ts q p =
    let foot = (work_of ts p).foot in
    record {
      reads = lengths_kept ts.buffers foot.reads;
      write = length_kept ts.buffers foot.write;
      each = work_each ts p;
    }

packet_fits : (ts : Tables) (p : packet.Packet) → TablesFit ts → NoneApplies (packet_tests ts p) → PacketFits ts (placed_of ts (unwrap_or ts.current 0) p)
packet_fits ts p fits none =
    let foot = (work_of ts p).foot in
    record {
      queue = current_low ts.current (length ts.queues) none.1.0 fits.current;
      reads = reads_low ts.buffers foot none.1.1.1.1.1.1.1.1.1.0;
      writes = writes_low ts.buffers foot none.1.1.1.1.1.1.1.1.1.0;
      suits = numbers_suit ts p;
      ranges = ranges_suit ts (unwrap_or ts.current 0) p;
      slots = slots_low ts.signals (slots_of p);
      done = number_low ts.signals (completion_of p);
      not_null = not_null ts (unwrap_or ts.current 0) p none.1.1.1.1.1.0 (λ any. none.1.1.1.1.0 (inr any));
    }

-- ---- the signals

abbrev noted : packet.Packet → OpenSignal → OpenSignal
noted p s = record s { decrementers = s.decrementers + (if s.handle == completion_of p then 1 else 0); waited = s.waited || list_any (λ d. s.handle == d) (deps_of p) }

handles_kept : (p : packet.Packet) (signals : List OpenSignal) → handles (noted_by p signals) ≡ handles signals
handles_kept p [] = refl
handles_kept p (s ∷ ss) = ap (λ hs. s.handle ∷ hs) (handles_kept p ss)

-- a dependency on the signal is among the packet's
named : (f : ℕ → Option ℕ) (test : ℕ → Bool) (k : ℕ) → ((d : ℕ) → f d ≡ Some k → test d ≡ true) → (ds : List ℕ) (slot : ℕ) → slice_get (map f ds) slot ≡ Some (Some k) → list_any test ds ≡ true
named f test k h [] slot e = absurd (cc)
named f test k h (d ∷ ds) zero e = or_left (test d) (list_any test ds) (h d (some_is (f d) (Some k) e))
named f test k h (d ∷ ds) (suc slot) e = or_right (test d) (list_any test ds) (named f test k h ds slot e)

no_slot : (signals : List OpenSignal) (n k slot : ℕ) → slice_get (map (signal_number signals) (replicate n 0)) slot ≡ Some (Some k) → ⊥
no_slot signals zero k slot e = absurd (cc)
no_slot signals (suc n) k zero e = absurd (cc)
no_slot signals (suc n) k (suc slot) e = no_slot signals n k slot e

waits : (signals : List OpenSignal) (p : packet.Packet) (k slot : ℕ) (s : OpenSignal) → slice_get signals k ≡ Some s → slice_get (map (signal_number signals) (slots_of p)) slot ≡ Some (Some k) → list_any (λ d. s.handle == d) (deps_of p) ≡ true
waits signals (format.Kernel c) k slot s here e = absurd (no_slot signals 5 k slot e)
waits signals (format.Agent a) k slot s here e = absurd (no_slot signals 5 k slot e)
waits signals (format.And b) k slot s here e = named (signal_number signals) (λ d. s.handle == d) k (λ d is. eq-eqb s.handle d (number_handle signals d k s is here)) b.deps slot e
waits signals (format.Or b) k slot s here e = named (signal_number signals) (λ d. s.handle == d) k (λ d is. eq-eqb s.handle d (number_handle signals d k s is here)) b.deps slot e

signal_fits : (ts : Tables) (p : packet.Packet) → TablesFit ts → (k : ℕ) (s : OpenSignal) → slice_get ts.signals k ≡ Some s → SignalFits (with_packet ts p) k (noted p s)
signal_fits ts p fits k s here =
    let new : Placed = placed_of ts (unwrap_or ts.current 0) p in
    let old = fits.signals k s here in
    let some : 0 < s.handle = all_at (λ t. 0 < t.handle) ts.signals k s fits.handles_some here in
    let one : cond {A = ℕ} (on k new) 1 0 ≡ cond {A = ℕ} (s.handle == completion_of p) 1 0 = ap (λ b. cond {A = ℕ} b 1 0) (is_number ts.signals (completion_of p) k s fits.handles_apart some here) in
    let Waits : Placed → Type 0 = λ q. (slot : ℕ) → slice_get q.slots slot ≡ Some (Some k) → IsTrue (noted p s).waited in
    record {
      decrementers = omega (arith, old.decrementers, one, count_push (on k) ts.placed new);
      waited = All-push Waits ts.placed new
          (All-weaker (λ q. (slot : ℕ) → slice_get q.slots slot ≡ Some (Some k) → IsTrue s.waited) Waits (λ q h slot e. or_left s.waited (list_any (λ d. s.handle == d) (deps_of p)) (h slot e)) ts.placed old.waited)
          (λ slot e. or_right s.waited (list_any (λ d. s.handle == d) (deps_of p)) (waits ts.signals p k slot s here e));
    }

noted_fits : (ts : Tables) (p : packet.Packet) → TablesFit ts → (k : ℕ) (s : OpenSignal) → slice_get (noted_by p ts.signals) k ≡ Some s → SignalFits (with_packet ts p) k s
noted_fits ts p fits k s here =
    let low : k < length ts.signals = omega (arith, within (noted_by p ts.signals) k s here, length-map ts.signals (noted p)) in
    let old = at ts.signals k low in
    let is : noted p old.x ≡ s = some_is (noted p old.x) s (sym (slice_get-map (noted p) ts.signals k ∙ ap (λ o. option_map (noted p) o) old.there) ∙ here) in
    subst (SignalFits (with_packet ts p) k) is (signal_fits ts p fits k old.x old.there)

-- ---- the tables

pub packet_kept : (ts : Tables) (p : packet.Packet) → TablesFit ts → NoneApplies (packet_tests ts p) → TablesFit (with_packet ts p)
packet_kept ts p fits none =
    let w = fits.within in
    let new : Placed = placed_of ts (unwrap_or ts.current 0) p in
    let count : length (noted_by p ts.signals) ≡ length ts.signals = length-map ts.signals (noted p) in
    let wider : (q : Placed) → PacketFits ts q → PacketFits (with_packet ts p) q = grown ts (with_packet ts p) (omega arith) (omega arith) (omega arith) in
    record {
      within = record { agents = w.agents; buffers = w.buffers; bytes = w.bytes; arguments = w.arguments; signals = omega (arith, w.signals); kernels = w.kernels; queues = w.queues; packets = fewer none.0 };
      current = fits.current;
      agents = fits.agents;
      sizes = fits.sizes;
      handles_apart = subst (AllPairs (λ h g. h ≢ g)) (sym (handles_kept p ts.signals)) fits.handles_apart;
      handles_some = All-map (λ s. 0 < s.handle) (noted p) ts.signals fits.handles_some;
      packets = All-push (PacketFits (with_packet ts p)) ts.placed new (All-weaker (PacketFits ts) (PacketFits (with_packet ts p)) wider ts.placed fits.packets) (wider new (packet_fits ts p fits none));
      last = fits.last;
      rises = λ e. all_pairs_push (λ (q r : Placed). q.queue ≤ r.queue) ts.placed new (fits.rises e) (λ k d l. omega (arith, (fits.packets k d l).queue, current_last ts.current (length ts.queues) none.1.0 (fits.last e)));
      signals = noted_fits ts p fits;
    }
  where
    fewer : ¬ (1024 ≤ length ts.placed) → length (with_packet ts p).placed ≤ 1024
    fewer low = omega (arith, length-append ts.placed (placed_of ts (unwrap_or ts.current 0) p ∷ []))
