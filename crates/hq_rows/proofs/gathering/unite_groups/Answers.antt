use Rattle.std.proofs.Common.{◌*◌, IsTrue, arith}
use Rattle.hq_bits.specs.Bits.{has}
use Rattle.hq_bits.proofs.Words.{grown_more}
use Rattle.hq_rows.proofs.Gathered.{word_done}
use Rattle.hq_rows.proofs.Quartets.{groups_more}
use Rattle.hq_rows.proofs.gathering.unite_groups.Goals as goal

pub loop-quarter-preserved : goal.loop-quarter-preserved
loop-quarter-preserved c =
    let l = c.loop-quarter in
    record {
      grown = grown_more c.args.new.now l.new c.unite_choices.new.new l.invariant.grown c.unite_choices.ensures.grown;
      exact = λ p. groups_more (IsTrue (has c.args.new.now p)) (IsTrue (has l.new p)) (IsTrue (has c.unite_choices.new.new p)) c.args.known.now.rows.now c.args.place c.args.word p l.quarter
          c.choice_of.result c.choice_of-in-loop-quarter.result c.choice_of-in-loop-quarter-2.result c.choice_of-in-loop-quarter-3.result c.choice_of.ensures.choice c.choice_of-in-loop-quarter.ensures.choice c.choice_of-in-loop-quarter-2.ensures.choice c.choice_of-in-loop-quarter-3.ensures.choice
          (l.invariant.exact p) (c.unite_choices.ensures.exact p);
    }

pub returns-clause-exact : goal.returns-clause-exact
returns-clause-exact c = λ p. word_done (IsTrue (has c.args.new.now p)) (IsTrue (has c.loop-quarter.new p)) c.args.known.now.rows.now c.args.place c.args.word p (4 * c.loop-quarter.quarter) (omega arith) (omega arith) (c.loop-quarter.invariant.exact p)
