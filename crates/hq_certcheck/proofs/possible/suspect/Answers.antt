use Rattle.std.proofs.Common.{arith}
use Rattle.hq_certcheck.proofs.Conflicting.{one_word_more}
use Rattle.hq_certcheck.proofs.possible.suspect.Goals as goal

pub loop-place-preserved : goal.loop-place-preserved
loop-place-preserved c = one_word_more c.args.found.now c.args.others.now c.args.able.now c.args.flagged.now c.loop-place.place c.less.result c.loop-place.found (omega (arith, c.loop-place-test.true, c.loop-place.invariant.len, c.requires.found)) c.less.ensures c.loop-place.invariant
