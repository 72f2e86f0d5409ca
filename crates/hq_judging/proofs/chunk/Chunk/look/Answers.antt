use Rattle.std.proofs.Common.{◌≡◌, ◌∙◌, List, length, sym, ap, subst}
use Rattle.std.proofs.lemmas.List.{length-map}
use Rattle.hq_cert.specs.View.{line_of}
use Rattle.hq_job.specs.Plan.{plan}
use Rattle.hq_model.specs.Certificate.{Line}
use Rattle.hq_certread.specs.Ahead.{lines_ahead}
use Rattle.hq_certcheck.specs.Listed.{BadLineOf, StandAt}
use Rattle.hq_judging.specs.Checking.{block_of}
use Rattle.hq_judging.proofs.chunk.Chunk.look.Goals as goal

pub returns-clause-judged : goal.returns-clause-judged
returns-clause-judged c lines said held =
    let job = plan c.args.checking.now.job in
    let found = c.lines.result.now in
    let from = c.before-from.ensures in
    let count : length found ≡ (block_of c.args.self.now).count = sym (length-map found line_of) ∙ ap length c.lines.ensures in
    let stand = subst (λ (ls : List Line). StandAt lines c.before-from.result ls) (sym c.lines.ensures) (subst (λ n. StandAt lines n (lines_ahead c.args.self.now.ahead)) (sym from) held) in
    let bad = c.first_bad_line-self.ensures lines (said ∙ sym c.lines-lines.ensures) stand in
    subst (λ n. BadLineOf job lines (record { from = n; count = (block_of c.args.self.now).count }) c.first_bad_line-self.result) from
    (subst (λ n. BadLineOf job lines (record { from = c.before-from.result; count = n }) c.first_bad_line-self.result) count bad)
