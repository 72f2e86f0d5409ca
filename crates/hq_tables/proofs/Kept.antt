-- The tables fit at first, and with each line that is admitted.
use Rattle.std.proofs.Common.{◌≡◌, ℕ, zero, suc, ◌+◌, ◌<◌, ◌≤◌, ◌≢◌, inl, inr, List, [], ◌∷◌, ◌++◌, length, Option, Some, None, Ok, refl, sym, ap, ◌∙◌, subst, arith, slice_get, All, AllPairs, Contains, IfSome, IsTrue, count_by, unwrap_or, length-append}
use Rattle.std.proofs.lemmas.Bool.{cases_lt}
use Rattle.std.proofs.lemmas.List.{length-map, get_or_push, get_or_default}
use Rattle.std.proofs.lemmas.List.Elements.{All-push, All-weaker}
use Rattle.std.proofs.lemmas.List.Quantifiers.{all_pairs_push}
use Rattle.std.proofs.lemmas.List.Sums.{sum_by-append, sum_by-cons}
use Rattle.std.proofs.lemmas.Option.{get_or_from_slice_get}
use Rattle.hq_footprint.specs.declared.task.Code.{Code}
use Rattle.hq_signals.specs.Table.{OpenSignal, opened, handles, IsOpen}
use Rattle.hq_signals.proofs.TableLaws.{handles-opened}
use Rattle.hq_lines.specs.Fits as ranges
use Rattle.hq_lines.specs.Meaning as says
use Rattle.hq_lines.specs.Meaning.{Meaning}
use Rattle.hq_lines.specs.Says.{SaysLine}
use Rattle.hq_lines.proofs.Ranges.{found_fits}
use Rattle.hq_tables.specs.declared.rows.Kernel.{Kernel}
use Rattle.hq_tables.specs.declared.rows.Queue.{Queue}
use Rattle.hq_tables.specs.declared.rows.Placed.{Placed}
use Rattle.hq_tables.specs.Blocks.{Name, Bytes}
use Rattle.hq_tables.specs.Tables.{Tables, tests, added, NoneApplies, number_of_name, queue_names, total_of}
use Rattle.hq_tables.specs.Fits.{Within, TablesFit, PacketFits, SignalFits}
use Rattle.hq_tables.proofs.Lists.{all_at, within}
use Rattle.hq_tables.proofs.ByteNumbers.{position_low}
use Rattle.hq_tables.proofs.PacketKept.{grown, packet_kept}
use Rattle.hq_tables.proofs.Counts.{on, none_past}

-- ---- lines that declare what no packet is of

one_more : {X : Type 0} (xs : List X) (x : X) (n : ℕ) → ¬ (n ≤ length xs) → length (xs ++ x ∷ []) ≤ n
one_more xs x n low = omega (arith, length-append xs (x ∷ []))

-- where packets, signals and queues stay, and the others grow
abbrev with_tables : Tables → List Name → List Bytes → List Bytes → List Kernel → Tables
with_tables ts agents buffers arguments kernels = record ts { agents = agents; buffers = buffers; arguments = arguments; kernels = kernels }

wider : (ts : Tables) (agents : List Name) (buffers arguments : List Bytes) (kernels : List Kernel) → TablesFit ts → Within (with_tables ts agents buffers arguments kernels)
    → length ts.agents ≤ length agents → total_of ts.buffers ≤ total_of buffers → TablesFit (with_tables ts agents buffers arguments kernels)
wider ts agents buffers arguments kernels fits w more bytes =
    let us : Tables = with_tables ts agents buffers arguments kernels in
    record {
      within = w;
      current = fits.current;
      agents = All-weaker (λ (q : Queue). q.agent < length ts.agents) (λ q. q.agent < length agents) (λ q l. omega arith) ts.queues fits.agents;
      sizes = fits.sizes;
      handles_apart = fits.handles_apart;
      handles_some = fits.handles_some;
      packets = All-weaker (PacketFits ts) (PacketFits us) (grown ts us (omega arith) bytes (omega arith)) ts.placed fits.packets;
      last = fits.last;
      rises = fits.rises;
      signals = λ k s e. let h = fits.signals k s e in record { decrementers = h.decrementers; waited = h.waited };
    }

agent_kept : (ts : Tables) (name : Name) → TablesFit ts → NoneApplies (tests ts (says.Agent name)) → TablesFit (added ts (says.Agent name))
agent_kept ts name fits none =
    let w = fits.within in
    wider ts (ts.agents ++ name ∷ []) ts.buffers ts.arguments ts.kernels fits
    (record { agents = one_more ts.agents name 16 none.0; buffers = w.buffers; bytes = w.bytes; arguments = w.arguments; signals = w.signals; kernels = w.kernels; queues = w.queues; packets = w.packets })
    (omega (arith, length-append ts.agents (name ∷ []))) (omega arith)

total_more : (buffers : List Bytes) (b : Bytes) → total_of (buffers ++ b ∷ []) ≡ total_of buffers + length b.bytes
total_more buffers b = sum_by-append (λ (c : Bytes). length c.bytes) buffers (b ∷ []) ∙ omega (arith, sum_by-cons (λ (c : Bytes). length c.bytes) b [])

buffer_kept : (ts : Tables) (name : Name) (at : ℕ) (bytes : List ℕ) → TablesFit ts → NoneApplies (tests ts (says.Buffer name at bytes)) → TablesFit (added ts (says.Buffer name at bytes))
buffer_kept ts name at bytes fits none =
    let w = fits.within in
    let b : Bytes = record { name = name; at = at; bytes = bytes } in
    let total : total_of (ts.buffers ++ b ∷ []) ≡ total_of ts.buffers + length bytes = total_more ts.buffers b in
    wider ts ts.agents (ts.buffers ++ b ∷ []) ts.arguments ts.kernels fits
    (record { agents = w.agents; buffers = one_more ts.buffers b 64 none.0; bytes = fewer total none.1.0; arguments = w.arguments; signals = w.signals; kernels = w.kernels; queues = w.queues; packets = w.packets })
    (omega arith) (omega arith)
  where
    fewer : {m n : ℕ} → m ≡ n → ¬ (65536 < n) → m ≤ 65536
    fewer e low = omega arith

args_kept : (ts : Tables) (name : Name) (at : ℕ) (bytes : List ℕ) → TablesFit ts → NoneApplies (tests ts (says.Args name at bytes)) → TablesFit (added ts (says.Args name at bytes))
args_kept ts name at bytes fits none =
    let w = fits.within in
    let b : Bytes = record { name = name; at = at; bytes = bytes } in
    wider ts ts.agents ts.buffers (ts.arguments ++ b ∷ []) ts.kernels fits
    (record { agents = w.agents; buffers = w.buffers; bytes = w.bytes; arguments = one_more ts.arguments b 256 none.0; signals = w.signals; kernels = w.kernels; queues = w.queues; packets = w.packets })
    (omega arith) (omega arith)

kernel_kept : (ts : Tables) (name : Name) (object : ℕ) (code : Code) → TablesFit ts → NoneApplies (tests ts (says.Kernel name object code)) → TablesFit (added ts (says.Kernel name object code))
kernel_kept ts name object code fits none =
    let w = fits.within in
    let k : Kernel = record { name = name; object = object; code = code } in
    wider ts ts.agents ts.buffers ts.arguments (ts.kernels ++ k ∷ []) fits
    (record { agents = w.agents; buffers = w.buffers; bytes = w.bytes; arguments = w.arguments; signals = w.signals; kernels = one_more ts.kernels k 64 none.0; queues = w.queues; packets = w.packets })
    (omega arith) (omega arith)

-- ---- signals

get_ahead : {X : Type 0} (xs ys : List X) (i : ℕ) → i < length xs → slice_get (xs ++ ys) i ≡ slice_get xs i
get_ahead [] ys i l = absurd (omega arith)
get_ahead (x ∷ xs) ys zero l = refl
get_ahead (x ∷ xs) ys (suc i) l = get_ahead xs ys i (omega arith)

-- what holds of each of a list and of one more
each_push : {X : Type 0} (P : ℕ → X → Type 0) (xs : List X) (x : X) → ((k : ℕ) (y : X) → slice_get xs k ≡ Some y → P k y) → P (length xs) x → (k : ℕ) (y : X) → slice_get (xs ++ x ∷ []) k ≡ Some y → P k y
each_push P xs x old new k y e = elim (cases_lt k (length xs)) [
  | inl low ↦ old k y (sym (get_ahead xs (x ∷ []) k low) ∙ e)
  | inr high ↦
      let last : length xs ≡ k = omega (arith, within (xs ++ x ∷ []) k y e, length-append xs (x ∷ [])) in
      let is : x ≡ y = sym (get_or_push xs x y k last) ∙ get_or_from_slice_get (xs ++ x ∷ []) k y y e in
      subst (λ n. P n y) last (subst (P (length xs)) is new)
]

-- no packet is on a signal that isn't there yet
opened_fits : (ts us : Tables) (handle start : ℕ) → us.placed ≡ ts.placed → TablesFit ts → SignalFits us (length ts.signals) (opened handle start)
opened_fits ts us handle start same fits =
    let k : ℕ = length ts.signals in
    let Waits : Placed → Type 0 = λ p. (slot : ℕ) → slice_get p.slots slot ≡ Some (Some k) → IsTrue (opened handle start).waited in
    record {
      decrementers = sym (ap (count_by (on k)) same ∙ none_past ts fits k (omega arith));
      waited = subst (All Waits) (sym same) (All-weaker (PacketFits ts) Waits (λ p h slot e. absurd (past p h slot e)) ts.placed fits.packets);
    }
  where
    past : (p : Placed) → PacketFits ts p → (slot : ℕ) → slice_get p.slots slot ≡ Some (Some (length ts.signals)) → ⊥
    past p h slot e = let low : length ts.signals < length ts.signals = all_at (λ o. IfSome o (λ k. k < length ts.signals)) p.slots slot (Some (length ts.signals)) h.slots e in omega arith

apart_more : (signals : List OpenSignal) (handle start : ℕ) → AllPairs (λ h g. h ≢ g) (handles signals) → ¬ IsOpen signals handle → AllPairs (λ h g. h ≢ g) (handles (signals ++ opened handle start ∷ []))
apart_more signals handle start apart closed =
    subst (AllPairs (λ h g. h ≢ g)) (sym (handles-opened signals handle start))
    (all_pairs_push (λ h g. h ≢ g) (handles signals) handle apart (λ k d l e. closed (k, l, get_or_default (handles signals) k handle d l ∙ e)))

signal_kept : (ts : Tables) (name : Name) (handle start : ℕ) → 0 < handle → TablesFit ts → NoneApplies (tests ts (says.Signal name handle start)) → TablesFit (added ts (says.Signal name handle start))
signal_kept ts name handle start some fits none =
    let w = fits.within in
    let us : Tables = added ts (says.Signal name handle start) in
    let s : OpenSignal = opened handle start in
    let count : length us.signals ≡ length ts.signals + 1 = length-append ts.signals (s ∷ []) in
    record {
      within = record { agents = w.agents; buffers = w.buffers; bytes = w.bytes; arguments = w.arguments; signals = one_more ts.signals s 1024 none.0; kernels = w.kernels; queues = w.queues; packets = w.packets };
      current = fits.current;
      agents = fits.agents;
      sizes = fits.sizes;
      handles_apart = apart_more ts.signals handle start fits.handles_apart none.1.1.0;
      handles_some = All-push (λ (t : OpenSignal). 0 < t.handle) ts.signals s fits.handles_some some;
      packets = All-weaker (PacketFits ts) (PacketFits us) (grown ts us (omega arith) (omega arith) (omega arith)) ts.placed fits.packets;
      last = fits.last;
      rises = fits.rises;
      signals = each_push (SignalFits us) ts.signals s (λ k t e. let h = fits.signals k t e in record { decrementers = h.decrementers; waited = h.waited }) (opened_fits ts us handle start refl fits);
    }

-- ---- queues

-- an agent's number, where it is declared
number_declared : (names : List Name) (name : Name) → ¬ (¬ Contains names name) → unwrap_or (number_of_name names name) 0 < length names
number_declared names name there = go (number_of_name names name) (position_low _ names)
  where
    some_name : 0 < length names
    some_name = elim (cases_lt 0 (length names)) [
      | inl some ↦ some
      | inr none ↦ absurd (there (λ found. omega (arith, found.1)))
    ]

    go : (o : Option ℕ) → IfSome o (λ k. k < length names) → unwrap_or o 0 < length names
    go None low = some_name
    go (Some k) low = low

queue_kept : (ts : Tables) (name agent : Name) (size : ℕ) → 0 < size → TablesFit ts → NoneApplies (tests ts (says.Queue name agent size)) → TablesFit (added ts (says.Queue name agent size))
queue_kept ts name agent size some fits none =
    let w = fits.within in
    let us : Tables = added ts (says.Queue name agent size) in
    let q : Queue = record { name = name; agent = unwrap_or (number_of_name ts.agents agent) 0; size = size } in
    let count : length us.queues ≡ length ts.queues + 1 = length-append ts.queues (q ∷ []) in
    record {
      within = record { agents = w.agents; buffers = w.buffers; bytes = w.bytes; arguments = w.arguments; signals = w.signals; kernels = w.kernels; queues = one_more ts.queues q 32 none.0; packets = w.packets };
      current = omega arith;
      agents = All-push (λ (e : Queue). e.agent < length ts.agents) ts.queues q fits.agents (number_declared ts.agents agent none.1.1.0);
      sizes = All-push (λ (e : Queue). 0 < e.size) ts.queues q fits.sizes some;
      handles_apart = fits.handles_apart;
      handles_some = fits.handles_some;
      packets = All-weaker (PacketFits ts) (PacketFits us) (grown ts us (omega arith) (omega arith) (omega arith)) ts.placed fits.packets;
      last = λ e. omega (arith, count);
      rises = fits.rises;
      signals = λ k s e. let h = fits.signals k s e in record { decrementers = h.decrementers; waited = h.waited };
    }

to_kept : (ts : Tables) (name : Name) → TablesFit ts → NoneApplies (tests ts (says.To name)) → TablesFit (added ts (says.To name))
to_kept ts name fits none =
    let w = fits.within in
    let us : Tables = added ts (says.To name) in
    record {
      within = record { agents = w.agents; buffers = w.buffers; bytes = w.bytes; arguments = w.arguments; signals = w.signals; kernels = w.kernels; queues = w.queues; packets = w.packets };
      current = subst (λ n. IfSome (number_of_name (queue_names ts) name) (λ k. k < n)) (length-map ts.queues (λ q. q.name)) (position_low _ (queue_names ts));
      agents = fits.agents;
      sizes = fits.sizes;
      handles_apart = fits.handles_apart;
      handles_some = fits.handles_some;
      packets = All-weaker (PacketFits ts) (PacketFits us) (grown ts us (omega arith) (omega arith) (omega arith)) ts.placed fits.packets;
      last = λ e. absurd (none.0 e);
      rises = fits.rises;
      signals = λ k s e. let h = fits.signals k s e in record { decrementers = h.decrementers; waited = h.waited };
    }

-- ---- each line

said_fits : (line : List ℕ) (m : Meaning) → SaysLine line m → ranges.Fits m
said_fits line m h = found_fits (λ (n : Meaning). n) (Ok m) line h

kept : (ts : Tables) (m : Meaning) → ranges.Fits m → TablesFit ts → NoneApplies (tests ts m) → TablesFit (added ts m)
kept ts (says.Agent name) in_range fits none = agent_kept ts name fits none
kept ts (says.Buffer name at bytes) in_range fits none = buffer_kept ts name at bytes fits none
kept ts (says.Args name at bytes) in_range fits none = args_kept ts name at bytes fits none
kept ts (says.Signal name handle start) in_range fits none = signal_kept ts name handle start (omega (arith, in_range.1.from)) fits none
kept ts (says.Kernel name object code) in_range fits none = kernel_kept ts name object code fits none
kept ts (says.Queue name agent size) in_range fits none = queue_kept ts name agent size (omega (arith, in_range.2.from)) fits none
kept ts (says.To name) in_range fits none = to_kept ts name fits none
kept ts (says.Packet p) in_range fits none = packet_kept ts p fits none
kept ts says.End in_range fits none = fits

pub fits_added : (ts : Tables) (m : Meaning) (line : List ℕ) → SaysLine line m → TablesFit ts → NoneApplies (tests ts m) → TablesFit (added ts m)
fits_added ts m line says_it fits none = kept ts m (said_fits line m says_it) fits none
