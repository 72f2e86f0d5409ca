-- The wait of a packet is over by the slots that it has observed exactly where the machine says so.
use Rattle.std.proofs.Common.{◌≡◌, ◌↔◌, ℕ, Bool, List, refl, sym, ◌∙◌, Option}
use Rattle.hq_model.specs.Job.{Job, packet, IsPacket, Kind}
use Rattle.hq_model.specs.Job.Kind.{Work, BarrierAnd, BarrierOr}
use Rattle.hq_model.specs.Machine.{State, WaitOver}
use Rattle.hq_events.specs.Waits.{AllObserved, AreObserved, OneObserved, Over}

over_parts : (kind : Kind) (deps : List (Option ℕ)) (row : List Bool) → Over kind deps row → (kind ≡ BarrierAnd → AllObserved deps row) × (kind ≡ BarrierOr → OneObserved deps row)
over_parts Work deps row o = (λ e. absurd cc, λ e. absurd cc)
over_parts BarrierAnd deps row o = (λ e. o, λ e. absurd cc)
over_parts BarrierOr deps row o = (λ e. absurd cc, λ e. o)

over_from : (kind : Kind) (deps : List (Option ℕ)) (row : List Bool) → (kind ≡ BarrierAnd → AllObserved deps row) → (kind ≡ BarrierOr → OneObserved deps row) → Over kind deps row
over_from Work deps row f g = tt
over_from BarrierAnd deps row f g = f refl
over_from BarrierOr deps row f g = g refl

pub over_waits : (job : Job) (a : State) (p : ℕ) (row : List Bool) → IsPacket job p → AreObserved a p row → Over (packet job p).kind (packet job p).deps row ↔ WaitOver job a p
over_waits job a p row there same = (
  λ o. let parts = over_parts (packet job p).kind (packet job p).deps row o in record {
    each = λ k slot s d. sym (same slot) ∙ parts.0 k slot (s, d.signal);
    one = λ k. let (slot, (s, d), e) = parts.1 k in (slot, s, record { is_packet = there; signal = d }, sym (same slot) ∙ e);
  },
  λ w. over_from (packet job p).kind (packet job p).deps row
      (λ k slot d. same slot ∙ w.each k slot d.0 (record { is_packet = there; signal = d.1 }))
      (λ k. let (slot, s, d, e) = w.one k in (slot, (s, d.signal), same slot ∙ e)),
)
