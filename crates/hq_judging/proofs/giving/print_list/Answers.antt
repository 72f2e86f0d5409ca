use Rattle.std.proofs.Common.{◌≡◌, ◌+◌, ◌<◌, ◌≤◌, length, take, arith, subst}
use Rattle.std.proofs.lemmas.List.{take_all}
use Rattle.hq_text.specs.Printed.{line_text}
use Rattle.hq_job.specs.Plan.{plan}
use Rattle.hq_cert.specs.View.{pair_of}
use Rattle.hq_audit.specs.Audited.{list_in}
use Rattle.hq_certtext.specs.Grammar.{pair_words}
use Rattle.hq_judging.specs.Giving.{IsPairsText, PrintsSuch}
use Rattle.hq_judging.proofs.Audited.{pairs_none, pairs_more, such_none, such_both, this_one}
use Rattle.hq_judging.proofs.giving.print_list.Goals as goal

pub loop-k-init : goal.loop-k-init
loop-k-init g c =
    let job = plan c.args.job.now in
    let a = c.args.audited.now in
    record {
      ready = c.requires.ready;
      prints = such_none (IsPairsText job a (take 0 (list_in a c.args.list))) _ _ (pairs_none job a);
    }

pub loop-k-preserved : goal.loop-k-preserved
loop-k-preserved g c =
    let job = plan c.args.job.now in
    let a = c.args.audited.now in
    let i = c.args.list in
    let k = c.loop-k.k in
    let pair = pair_of c.pair.result in
    let low : k < length (list_in a i) = omega (arith, c.loop-k-test.true, c.count-k-end.ensures) in
    let line = line_text (pair_words pair) in
    record {
      ready = c.in_ok-pair.ensures.ready;
      prints = such_both (IsPairsText job a (take k (list_in a i))) (λ s. s ≡ line) (IsPairsText job a (take (k + 1) (list_in a i))) (λ t s h e. pairs_more job a i k pair t s low c.pair.ensures h e) c.loop-k.invariant.prints
          (this_one line c.in_ok-pair.ensures.prints);
    }

pub returns-clause-prints : goal.returns-clause-prints
returns-clause-prints g c =
    let contents = g.W.Write.contents in
    let job = plan c.args.job.now in
    let a = c.args.audited.now in
    let ds = list_in a c.args.list in
    let all : length ds ≤ c.loop-k.k = omega (arith, c.loop-k-test.false, c.count-k-end.ensures) in
    subst (λ es. PrintsSuch (IsPairsText job a es) (contents c.args.writer.now) c.args.printer.now (contents c.loop-k.writer) c.loop-k.printer) (take_all c.loop-k.k ds all) c.loop-k.invariant.prints
