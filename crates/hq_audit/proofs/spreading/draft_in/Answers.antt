use Rattle.std.proofs.Common.{◌≡◌, ◌≤◌, ◌∙◌, subst, length, arith}
use Rattle.hq_audit.specs.Rowed.{DraftsUpto, start_of}
use Rattle.hq_audit.proofs.Rowing.{all_drafted, all_judged}
use Rattle.hq_audit.proofs.spreading.draft_in.Goals as goal

pub join-requires-clause-parts : goal.join-requires-clause-parts
join-requires-clause-parts g c = all_judged c.args.before.now c.judge_parts.new.rooms c.judge_parts.ensures.judged

pub returns-then-join : goal.returns-then-join
returns-then-join g c =
    let job = c.args.before.now in
    let count : length c.judge_parts.new.rooms ≡ 4 = c.judge_parts.ensures.count ∙ c.requires.count in
    let all : length job.packets ≤ start_of job 4 = omega arith in
    all_drafted job c.join.new.all (start_of job 4) all (subst (λ n. DraftsUpto job (start_of job n) c.join.new.all) count (c.join.ensures c.if-join.true))
