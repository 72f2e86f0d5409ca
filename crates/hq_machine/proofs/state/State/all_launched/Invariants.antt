use Rattle.std.proofs.Common.{◌≡◌, ℕ, ◌<◌, ◌≤◌, ◌↔◌, ◌⊎◌, IsTrue, true}
use Rattle.hq_model.specs.Machine as machine
use Rattle.hq_model.specs.Machine.{is_launched}
use Rattle.hq_model.specs.View.{phases_of}
use Rattle.hq_machine.proofs.state.State.all_launched.Given as goal

abbrev pub invariant-loop-packet : goal.invariant-loop-packet
invariant-loop-packet l = ((first : machine.Phase) → IsTrue l.all ↔ ((e : ℕ) → l.fn.numbers.start ≤ e → e < l.packet → is_launched (phases_of first l.self.phases e) ≡ true))
    × ((l.packet ≡ l.fn.numbers.start) ⊎ (l.packet ≤ l.fn.numbers.end))
