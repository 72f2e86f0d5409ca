-- What is seen through a lane, byte by byte and as a list.
use Rattle.std.proofs.Common.{◌≡◌, ℕ, ◌+◌, ◌<◌, List, length, slice_index, sym, ◌∙◌, ap, arith}
use Rattle.std.proofs.Math.Seq.{take-length}
use Rattle.std.specs.FinMap as finite
use Rattle.hq_model.specs.Machine.{value_or}
use Rattle.hq_model.specs.View.{Held}
use Rattle.hq_model.proofs.Given.{listed_is}
use Rattle.hq_copies.specs.Copies.{CopiesValue, held, agent_byte, lane_byte, lane_bytes}

pub seen_at : (c : CopiesValue) (p a b number i byte : ℕ) (lane agent : Held) → a ≡ slice_index c.lane_agents p → lane ≡ held c.lanes p → agent ≡ held c.agents a → number ≡ b
    → byte ≡ value_or (finite.get lane (number + i)) (value_or (finite.get agent (number + i)) (slice_index c.memory (b + i))) → byte ≡ lane_byte c p (b + i)
seen_at c p a b number i byte lane agent of here there same is =
    let below = slice_index c.memory (b + i) in
    is
    ∙ ap (λ k. value_or (finite.get lane (k + i)) (value_or (finite.get agent (k + i)) below)) same
    ∙ ap (λ t. value_or (finite.get t (b + i)) (value_or (finite.get agent (b + i)) below)) here
    ∙ ap (λ t. value_or (finite.get (held c.lanes p) (b + i)) (value_or (finite.get t (b + i)) below)) there
    ∙ ap (λ k. value_or (finite.get (held c.lanes p) (b + i)) (agent_byte c k (b + i))) of

pub all_seen : (c : CopiesValue) (p b : ℕ) (bytes : List ℕ) → ((i : ℕ) → i < length bytes → slice_index bytes i ≡ lane_byte c p (b + i)) → bytes ≡ lane_bytes c p b (length bytes)
all_seen c p b bytes at = sym (listed_is (length bytes) (λ i. lane_byte c p (b + i)) bytes (omega arith) (λ i l. sym (at i l)) ∙ take-length bytes)
