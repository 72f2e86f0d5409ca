use Rattle.std.proofs.Common.{◌∙◌}
use Rattle.hq_text.specs.Lines.{lines_of}
use Rattle.hq_certread.specs.DraftView.{state_of}
use Rattle.hq_certread.proofs.Taking.{more_taken, all_taken}
use Rattle.hq_text.proofs.LineByLine.{one_taken}
use Rattle.hq_certread.specs.TextFaults.{added}
use Rattle.hq_certread.proofs.Turns.{none_more}
use Rattle.hq_certread.proofs.reading.take_split.Goals as goal

pub returns-then-is_empty-clause-takes : goal.returns-then-is_empty-clause-takes
returns-then-is_empty-clause-takes c =
    let text = c.args.text.now in
    let old = state_of c.args.draft.now in
    let taken = more_taken text c.loop-rest.rest.now c.in-Ok.found.1.now c.args.before c.loop-rest.count c.in-Ok.found.0 c.in_ok-count.count old (state_of c.loop-rest.draft) (state_of c.take.new.self) c.loop-rest.invariant.taken c.in-Ok.ensures.taken c.in_ok-count.ensures.found in
    all_taken text c.in-Ok.found.1.now c.args.before c.in_ok-count.count old (state_of c.take.new.self) taken c.if-is_empty.ensures

pub returns-in-Err-take_words-clause-takes : goal.returns-in-Err-take_words-clause-takes
returns-in-Err-take_words-clause-takes c =
    let text = c.args.text.now in
    let old = state_of c.args.draft.now in
    let taken = more_taken text c.loop-rest.rest.now c.in-Ok.found.1.now c.args.before c.loop-rest.count c.in-Ok.found.0 c.in_ok-count.count old (state_of c.loop-rest.draft) (state_of c.take.new.self) c.loop-rest.invariant.taken c.in-Ok.ensures.taken c.in_ok-count.ensures.found in
    none_more (lines_of text) (lines_of c.in-Ok.found.1.now) (lines_of c.first_line.result.1.now) c.first_line.result.0.now c.args.before c.in_ok-count.count c.in_ok-count-2.count old (state_of c.take.new.self) (state_of c.take_words.new.draft) c.in-Err-take_words.reason
    c.fault_at-in-Err-take_words.result taken c.first_line.ensures.cut c.in_ok-count-2.ensures.found c.in-Err-take_words.ensures.adds c.fault_at-in-Err-take_words.ensures

pub loop-rest-preserved : goal.loop-rest-preserved
loop-rest-preserved c =
    let text = c.args.text.now in
    let old = state_of c.args.draft.now in
    let taken = more_taken text c.loop-rest.rest.now c.in-Ok.found.1.now c.args.before c.loop-rest.count c.in-Ok.found.0 c.in_ok-count.count old (state_of c.loop-rest.draft) (state_of c.take.new.self) c.loop-rest.invariant.taken c.in-Ok.ensures.taken c.in_ok-count.ensures.found in
    record {
      taken = one_taken added (lines_of text) (lines_of c.in-Ok.found.1.now) (lines_of c.first_line.result.1.now) c.first_line.result.0.now c.args.before c.in_ok-count.count c.in_ok-count-2.count old (state_of c.take.new.self) (state_of c.take_words.new.draft) taken c.first_line.ensures.cut c.in_ok-count-2.ensures.found c.in_default.ensures.adds;
      gone = c.in_default.ensures.gone ∙ c.in-Ok.ensures.gone ∙ c.loop-rest.invariant.gone;
    }
