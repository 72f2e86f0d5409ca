use Rattle.std.proofs.lemmas.Result.{err_from_is_err_and}
use Rattle.hq_text.specs.Lines.{lines_of}
use Rattle.hq_certread.proofs.Wholes.{fault_from_start}
use Rattle.hq_certread.specs.DraftView.{state_of}
use Rattle.hq_certread.proofs.reading.read_all.Goals as goal

pub returns-in_err-count : goal.returns-in_err-count
returns-in_err-count c =
    let p = err_from_is_err_and c.from_residual.result c.from_residual.ensures.1 in
    rw (p.1, p.2) (fault_from_start (lines_of c.args.text.now) (state_of c.new-draft.result) c.in_err-count.field-0.0 c.new-draft.ensures.start c.in_err-count.ensures.takes)
