use Rattle.std.proofs.Common.{◌≤◌, ◌++◌, List, map, take, length, arith, ◌∙◌, sym, subst, append-nil}
use Rattle.std.proofs.lemmas.List.{length-map, take_all}
use Rattle.hq_cert.specs.View.{pair_of}
use Rattle.hq_model.specs.Certificate as model
use Rattle.hq_certcheck.specs.Covering.{AreListed}
use Rattle.hq_certcheck.proofs.Saying.{meant_at}
use Rattle.hq_certcheck.proofs.Flagged.{listed_next}
use Rattle.hq_certcheck.proofs.Seeing.{with_next}
use Rattle.hq_certcheck.proofs.flags.mark_each.Goals as goal

pub loop-pair-init : goal.loop-pair-init
loop-pair-init c = record {
  len = c.requires.len;
  marked = λ before h. subst (λ (ps : List model.Pair). AreListed ps c.args.count c.args.flags.now) (sym (append-nil before)) h;
}

pub loop-pair-preserved : goal.loop-pair-preserved
loop-pair-preserved c =
    let found = map pair_of c.args.pairs.now in
    let i = c.loop-pair.pair-index in
    let pair = pair_of c.pair-item.result in record {
      len = c.mark.ensures.len ∙ c.loop-pair.invariant.len;
      marked = λ before h.
          subst (λ (ps : List model.Pair). AreListed ps c.args.count c.mark.new.flags)
          (sym (with_next before found i pair (meant_at pair_of c.args.pairs.now i c.pair-item.result c.loop-pair-test.true c.pair-item.is)))
          (listed_next (before ++ take i found) c.args.count c.loop-pair.flags c.mark.new.flags pair (c.loop-pair.invariant.marked before h) c.mark.ensures.marked);
    }

pub returns-clause-marked : goal.returns-clause-marked
returns-clause-marked c before h =
    let found = map pair_of c.args.pairs.now in
    let i = c.loop-pair.pair-index in
    let all : length found ≤ i = omega (arith, c.loop-pair-test.false, length-map c.args.pairs.now pair_of) in
    subst (λ (ps : List model.Pair). AreListed (before ++ ps) c.args.count c.loop-pair.flags) (take_all i found all) (c.loop-pair.invariant.marked before h)
