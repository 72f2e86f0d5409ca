use Rattle.std.proofs.Common.{◌≡◌, ◌↔◌, ◌<◌, ◌+◌, ◌∙◌, ℕ, length, slice_index, Some, IsTrue, ap, subst}
use Rattle.hq_machine.specs.State.{StateValue}
use Rattle.hq_machine.specs.View.{state_of}
use Rattle.hq_hall.specs.View.{HallValue, job_of, state_in}
use Rattle.hq_hall.proofs.Keeping.{read_piece_is}
use Rattle.hq_hall.proofs.hall.Hall.is_read.Goals as goal

pub returns-then-is_piece : goal.returns-then-is_piece
returns-then-is_piece c =
    let same : c.state.result.now ≡ c.args.self.now.state = c.state.ensures ∙ ap (λ (h : HallValue). h.state) c.self.view_is in
    read_piece_is (state_in c.args.self.now) c.args.packet c.args.place c.args.range c.args.first c.args.piece.now c.bytes.result.now c.has_read.result (c.is_piece.ensures.0 c.if-is_piece.true) c.bytes.ensures
    (subst (λ (v : StateValue). IsTrue c.has_read.result ↔ ((i : ℕ) → i < length c.bytes.result.now → (state_of (job_of c.args.self.now) v).read c.args.packet (c.args.first + i) ≡ Some (slice_index c.bytes.result.now i))) same
    (c.has_read.ensures (job_of c.args.self.now)))
