use Rattle.std.proofs.Common.{sym, subst}
use Rattle.hq_job.specs.Plan.{plan}
use Rattle.hq_job.specs.Value.{JobValue}
use Rattle.hq_judging.specs.Chunks.{AreLookedAt}
use Rattle.hq_judging.proofs.InChunks.{looked_as, on_err, on_ok}
use Rattle.hq_judging.proofs.checking.Checking.take_meanwhile.Goals as goal

pub returns-then-text-lt-ENOUGH-clause-took : goal.returns-then-text-lt-ENOUGH-clause-took
returns-then-text-lt-ENOUGH-clause-took g c = on_ok c.take_text.result c.take_text.ensures.took (λ took from lines h. (took from c.args.chunks.now lines h).0)

pub returns-then-text-lt-ENOUGH-clause-fault : goal.returns-then-text-lt-ENOUGH-clause-fault
returns-then-text-lt-ENOUGH-clause-fault g c = on_err c.take_text.result c.take_text.ensures.fault (λ f fault from lines more h. fault from c.args.chunks.now lines more h)

pub take_chunks-requires : goal.take_chunks-requires
take_chunks-requires g c =
    let chunks = c.look_meanwhile-answer.new.chunks in
    subst (λ (j : JobValue). AreLookedAt (plan j) c.note.new.self chunks c.args.text.now) (sym c.note.ensures.job)
    (looked_as (plan c.args.self.now.job) c.args.self.now c.note.new.self chunks c.args.text.now c.note.ensures.progress c.note.ensures.lines c.look_meanwhile-answer.ensures.looked)

pub returns-clause-took : goal.returns-clause-took
returns-clause-took g c = on_ok c.take_chunks.result c.take_chunks.ensures.took (λ took from lines h. took from lines (c.note.ensures.noted from c.args.chunks.now lines h c.look_meanwhile-answer.ensures.judged))

pub returns-clause-fault : goal.returns-clause-fault
returns-clause-fault g c = on_err c.take_chunks.result c.take_chunks.ensures.fault (λ f fault from lines more h. fault from lines more (c.note.ensures.noted from c.args.chunks.now lines h c.look_meanwhile-answer.ensures.judged))
