use Rattle.std.proofs.Common.{[]}
use Rattle.std.proofs.lemmas.Result.{err_from_is_err_and}
use Rattle.hq_text.specs.Lines.{lines_of}
use Rattle.hq_jobtext.proofs.Leads.{wrong_alone}
use Rattle.hq_jobtext.proofs.reader.read_all.Goals as goal

pub returns-in_err-take_lines : goal.returns-in_err-take_lines
returns-in_err-take_lines c =
    let p = err_from_is_err_and c.from_residual.result c.from_residual.ensures.1 in
    rw (p.1, p.2) (wrong_alone (lines_of c.args.text.now) c.in_err-take_lines.field-0.0 (c.in_err-take_lines.ensures.fault c.new-progress.result [] [] c.new-progress.ensures))

pub returns : goal.returns
returns c = c.finish.ensures (lines_of c.args.text.now) (c.in_ok-take_lines.ensures.took c.new-progress.result [] c.new-progress.ensures)
