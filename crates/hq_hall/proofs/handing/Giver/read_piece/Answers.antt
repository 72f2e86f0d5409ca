use Rattle.std.proofs.Common.{◌≡◌, ℕ, List, IfOk, ◌∙◌, subst}
use Rattle.hq_machine.proofs.Seen.{range_listed}
use Rattle.hq_machine.specs.View.{state_of}
use Rattle.hq_model.specs.Machine.{lane_sees}
use Rattle.hq_hall.specs.Handing.{piece}
use Rattle.hq_hall.proofs.handing.Giver.read_piece.Goals as goal

pub returns : goal.returns
returns c = λ job is.
    let see = lane_sees job (state_of job c.args.self.state.now) c.args.packet in
    subst (λ (bytes : List ℕ). IfOk c.new.result (λ made. made ≡ piece c.args.packet c.args.place c.args.at bytes)) (c.in_ok-bytes.ensures job is ∙ range_listed see c.args.from) c.new.ensures
