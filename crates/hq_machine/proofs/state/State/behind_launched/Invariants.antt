use Rattle.std.proofs.Common.{◌≡◌, ℕ, ◌-◌, ◌<◌, ◌≤◌, true}
use Rattle.hq_model.specs.Machine as machine
use Rattle.hq_model.specs.Machine.{is_launched}
use Rattle.hq_model.specs.View.{phases_of}
use Rattle.hq_machine.proofs.state.State.behind_launched.Given as goal

abbrev pub invariant-loop-numbers : goal.invariant-loop-numbers
invariant-loop-numbers l = (l.fn.numbers.start ≤ l.from)
    × ((first : machine.Phase) (e : ℕ) → l.fn.numbers.start ≤ e → e < l.from → is_launched (phases_of first l.self.phases e) ≡ true)

abbrev pub decreases-loop-numbers : goal.decreases-loop-numbers
decreases-loop-numbers l = l.fn.numbers.end - l.from
