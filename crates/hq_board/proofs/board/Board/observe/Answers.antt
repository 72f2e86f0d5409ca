use Rattle.std.proofs.Common.{subst, MatchResult}
use Rattle.hq_job.specs.Plan.{plan}
use Rattle.hq_board.specs.Calls.{Observes, ObserveRefused, job_of, BoardValue}
use Rattle.hq_board.proofs.board.Board.observe.Goals as goal

pub returns-clause-list : goal.returns-clause-list
returns-clause-list c =
    subst (λ k. MatchResult c.observe.result (λ x. Observes (job_of c.args.self.now) k c.observe.new.known c.args.packet c.args.slot) (ObserveRefused (job_of c.args.self.now) k c.observe.new.known c.args.packet c.args.slot)) c.seat.view_is (
    subst (λ (b : BoardValue). MatchResult c.observe.result (λ x. Observes (job_of b) c.seat.inside.known c.observe.new.known c.args.packet c.args.slot) (ObserveRefused (job_of b) c.seat.inside.known c.observe.new.known c.args.packet c.args.slot)) c.self.view_is (
    subst (λ j. MatchResult c.observe.result (λ x. Observes (plan j) c.seat.inside.known c.observe.new.known c.args.packet c.args.slot) (ObserveRefused (plan j) c.seat.inside.known c.observe.new.known c.args.packet c.args.slot)) c.self.invariant c.observe.ensures.list
    )
    )
