use Rattle.std.proofs.Common.{refl, ◌∙◌, ap, subst, arith, ◌∷◌}
use Rattle.hq_job.specs.Plan.{plan}
use Rattle.hq_model.specs.Job.{packet}
use Rattle.hq_board.specs.Known.{log_of}
use Rattle.hq_board.specs.Rule.{IsSettled}
use Rattle.hq_board.proofs.Knowing.{own_packet}
use Rattle.hq_board.proofs.Steps.{looked, one_signal}
use Rattle.hq_board.proofs.words.Words.observe.Goals as goal

pub returns-then-found-gt0-clause-list : goal.returns-then-found-gt0-clause-list
returns-then-found-gt0-clause-list c =
    let job = plan c.args.self.now.job.now in
    let old = c.args.known.now in
    let n = c.step_look-found.result in
    let (is, below, slot_low, dependency, may) = c.in-Some.ensures in (
      record {
        table = c.step_look-found.ensures.table.0;
        queue = refl;
        log = ap (λ me. me.0.log) c.step_look-found.ensures.list ∙ ap (λ x. x ∷ log_of old) (looked c.args.packet c.args.slot n c.if-found-gt0.true);
      },
      c.if-found-gt0.true,
      (ap (λ p. (packet job p).queue) is ∙ (own_packet job old c.in-Some.place c.requires.tied below).1, may),
      λ s d settled. omega (arith, c.if-found-gt0.true, c.step_look-found.ensures.told (subst (IsSettled job old.token.me.0) (one_signal job c.args.packet c.args.slot s c.in-Some.signal d dependency) settled)),
    )
