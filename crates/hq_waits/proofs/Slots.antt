-- The slots of a packet and the signals in them.
use Rattle.std.proofs.Common.{◌≡◌, ℕ, ◌<◌, inl, inr, List, [], ◌∷◌, length, sym, ◌∙◌, ap, subst, arith, slice_get, slice_index_or, Option, Some, None, IfSome, All}
use Rattle.std.proofs.lemmas.Bool.{cases_lt}
use Rattle.std.proofs.lemmas.List.{get_or_default, get_or_past}
use Rattle.std.proofs.lemmas.List.Elements.{All-get_or}
use Rattle.std.proofs.lemmas.Option.{slice_get-get_or, get_or_from_slice_get}
use Rattle.hq_tables.specs.declared.rows.Placed.{Placed}
use Rattle.hq_job.specs.Value.{JobValue}
use Rattle.hq_job.specs.View.{PacketIsRead}
use Rattle.hq_job.specs.Plan.{plan}
use Rattle.hq_model.specs.Job.{packet, Dependency}
use Rattle.hq_waits.proofs.Packets.{packet_at, packets_count}

inside : (slots : List (Option ℕ)) (i s : ℕ) → slice_index_or slots i None ≡ Some s → i < length slots
inside slots i s is = elim (cases_lt i (length slots)) [
  | inl low ↦ low
  | inr past ↦ let none : slice_index_or slots i None ≡ None = get_or_past slots i None past in let never : ⊥ = cc in absurd never
]

-- a slot of the list is one of the plan's packet
pub slot_is : (v : JobValue) (p i s : ℕ) (slots : List (Option ℕ)) → p < length v.packets → slots ≡ (packet (plan v) p).deps → slice_index_or slots i None ≡ Some s → Dependency (plan v) p i s
slot_is v p i s slots low e is = record {
  is_packet = omega (arith, low, packets_count v);
  signal = ap (λ q. slice_get q i) (sym e) ∙ slice_get-get_or slots i None (inside slots i s is) ∙ ap Some is;
}

-- and the other way
pub slot_of : (v : JobValue) (p i s : ℕ) (slots : List (Option ℕ)) → slots ≡ (packet (plan v) p).deps → Dependency (plan v) p i s → slice_index_or slots i None ≡ Some s
slot_of v p i s slots e d = get_or_from_slice_get slots i (Some s) None (ap (λ q. slice_get q i) e ∙ d.signal)

pub slot_low : (v : JobValue) (p i s : ℕ) (slots : List (Option ℕ)) → slots ≡ (packet (plan v) p).deps → Dependency (plan v) p i s → i < length slots
slot_low v p i s slots e d = inside slots i s (slot_of v p i s slots e d)

-- its signal is there
pub signal_there : (v : JobValue) (p i s : ℕ) (slots : List (Option ℕ)) → All (PacketIsRead v) v.packets → p < length v.packets → slots ≡ (packet (plan v) p).deps → slice_index_or slots i None ≡ Some s → s < length v.signals
signal_there v p i s slots read low e is = with_one (first v.packets low)
  where
    first : (xs : List Placed) → p < length xs → Placed
    first [] l = absurd (omega arith)
    first (x ∷ xs) l = x

    with_one : Placed → s < length v.signals
    with_one none =
        let y : Placed = slice_index_or v.packets p none in
        let same : slots ≡ y.slots = e ∙ ap (λ q. q.deps) (packet_at v p y low (get_or_default v.packets p none y low)) in
        let there : IfSome (slice_index_or y.slots i None) (λ k. k < length v.signals) = All-get_or (λ slot. IfSome slot (λ k. k < length v.signals)) y.slots i None (omega (arith, inside slots i s is, ap length same)) (All-get_or (PacketIsRead v) v.packets p none low read).slots in
        subst (λ o. IfSome o (λ k. k < length v.signals)) (ap (λ ys. slice_index_or ys i None) (sym same) ∙ is) there
