use Rattle.std.proofs.Common.{refl, arith}
use Rattle.hq_signals.proofs.Places.{agree_further}
use Rattle.hq_tables.specs.Blocks.{blocks_of}
use Rattle.hq_job.proofs.BlockRows.{places_tested, apart_there, blocks_to_the_end}
use Rattle.hq_job.proofs.same.same_blocks.Goals as goal

pub returns-then-not-same_block : goal.returns-then-not-same_block
returns-then-not-same_block c =
    let xs = c.args.first.now in
    let ys = c.args.second.now in
    let tells = places_tested xs ys c.loop-i.i _ _ c.same_block.result c.loop-i-test.true (omega (arith, c.if-first-second.false, c.loop-i-test.true)) c.index-first-i.is c.index-second-i.is c.same_block.ensures in
    apart_there xs ys c.loop-i.i c.same_block.result tells c.if-not-same_block.true

pub loop-i-preserved : goal.loop-i-preserved
loop-i-preserved c =
    let xs = c.args.first.now in
    let ys = c.args.second.now in
    let tells = places_tested xs ys c.loop-i.i _ _ c.same_block.result c.loop-i-test.true (omega (arith, c.if-first-second.false, c.loop-i-test.true)) c.index-first-i.is c.index-second-i.is c.same_block.ensures in
    agree_further (blocks_of xs) (blocks_of ys) c.loop-i.i c.loop-i.invariant (tells.0 c.if-not-same_block.false)

pub returns : goal.returns
returns c = (
  λ _. blocks_to_the_end c.args.first.now c.args.second.now c.loop-i.i (omega (arith, c.if-first-second.false)) c.loop-i-test.false c.loop-i.invariant,
  λ _. refl,
)
