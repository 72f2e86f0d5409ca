use Rattle.std.proofs.Common.{IsTrue, arith}
use Rattle.hq_bits.specs.Bits.{has}
use Rattle.hq_rows.specs.Uniting.{is_fresh}
use Rattle.hq_bits.proofs.Words.{grown_more}
use Rattle.hq_rows.proofs.Rows.{gather_more, gather_skip}
use Rattle.hq_rows.proofs.Gathered.{OfFresh, fresh_bits, fresh_none, fresh_done}
use Rattle.hq_rows.proofs.gathering.unite_fresh.Goals as goal
use Rattle.hq_rows.proofs.gathering.unite_fresh.Goals.{then-word-ne0, else-word-ne0}

pub loop-place-preserved : goal.loop-place-preserved
loop-place-preserved c =
    let rows = c.args.known.now.rows.now in
    let fresh = is_fresh c.args.set.now c.args.earlier.now c.args.renewed.now in
    let place = c.loop-place.place in
    let word = c.fresh_word-word.result in
    elim c.if-word-ne0.branch [
      | then-word-ne0 w ↦ rw w.new-is (record {
        grown = grown_more c.args.new.now c.loop-place.new w.unite_word.new.new c.loop-place.invariant.grown w.unite_word.ensures.grown;
        exact = λ p. gather_more (IsTrue (has c.args.new.now p)) (IsTrue (has c.loop-place.new p)) (IsTrue (has w.unite_word.new.new p)) (OfFresh rows fresh p) place (c.loop-place.invariant.exact p)
            (fresh_bits rows fresh place word p (IsTrue (has c.loop-place.new p)) (IsTrue (has w.unite_word.new.new p)) c.fresh_word-word.ensures (w.unite_word.ensures.exact p));
      })
      | else-word-ne0 w ↦ rw w.new-is (record {
        grown = c.loop-place.invariant.grown;
        exact = λ p. gather_skip (IsTrue (has c.args.new.now p)) (IsTrue (has c.loop-place.new p)) (OfFresh rows fresh p) place (c.loop-place.invariant.exact p) (fresh_none rows fresh place word p w.if-word-ne0.false c.fresh_word-word.ensures);
      })
    ]

pub returns-clause-exact : goal.returns-clause-exact
returns-clause-exact c = λ p. fresh_done (IsTrue (has c.args.new.now p)) (IsTrue (has c.loop-place.new p)) c.args.known.now.rows.now c.args.set.now c.args.earlier.now c.args.renewed.now p c.loop-place.place (omega arith) (c.loop-place.invariant.exact p)
