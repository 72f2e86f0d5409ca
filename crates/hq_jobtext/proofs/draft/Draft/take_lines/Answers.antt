use Rattle.std.proofs.Common.{sym, ◌∙◌}
use Rattle.std.proofs.lemmas.Result.{err_from_is_err_and}
use Rattle.hq_text.specs.Lines.{lines_of}
use Rattle.hq_jobtext.specs.DraftView.{so_far}
use Rattle.hq_jobtext.proofs.Leads.{one_more, none_more, all_taken, no_lines}
use Rattle.hq_jobtext.proofs.draft.Draft.take_lines.Goals as goal

pub returns-in_err-take_next-clause-all : goal.returns-in_err-take_next-clause-all
returns-in_err-take_next-clause-all c =
    let p = err_from_is_err_and c.from_residual.result c.from_residual.ensures.1 in
    rw (p.1, p.2)
    (none_more (lines_of c.args.text.now) (lines_of c.loop-rest.rest.now) (lines_of c.first_line.result.1.now) c.first_line.result.0.now (so_far c.args.self.now) (so_far c.loop-rest.self) (so_far c.take_next.new.self) c.in_err-take_next.field-0.0
    c.loop-rest.invariant.partly c.first_line.ensures.cut c.in_err-take_next.ensures.fault)

pub loop-rest-preserved : goal.loop-rest-preserved
loop-rest-preserved c = record {
  fit = c.take_next.ensures.fit;
  partly = one_more (lines_of c.args.text.now) (lines_of c.loop-rest.rest.now) (lines_of c.first_line.result.1.now) c.first_line.result.0.now (so_far c.args.self.now) (so_far c.loop-rest.self) (so_far c.take_next.new.self) c.loop-rest.invariant.partly c.first_line.ensures.cut c.in_ok-take_next.ensures.taken;
}

pub returns-clause-all : goal.returns-clause-all
returns-clause-all c = all_taken (lines_of c.args.text.now) (lines_of c.loop-rest.rest.now) (so_far c.args.self.now) (so_far c.loop-rest.self) c.loop-rest.invariant.partly (no_lines c.loop-rest.rest.now (sym c.loop-rest-test.false ∙ c.is_empty.ensures))
