use Rattle.std.proofs.lemmas.Result.{err_from_is_err_and}
use Rattle.hq_text.specs.Lines.{lines_of}
use Rattle.hq_timeline.specs.DraftView.{state_of}
use Rattle.hq_timeline.proofs.Faults.{fault_behind}
use Rattle.hq_timeline.proofs.Turns.{lines_behind}
use Rattle.hq_timeline.proofs.progress.ProgressTakesLines.take_lines.Goals as goal

pub returns-in_err-self-clause-fault : goal.returns-in_err-self-clause-fault
returns-in_err-self-clause-fault c =
    let p = err_from_is_err_and c.from_residual.result c.from_residual.ensures.1 in
    rw (p.1, p.2) (λ _ lines more h. fault_behind lines (lines_of c.args.text.now) more c.args.self.now.count (state_of c.args.self.now.draft) c.in_err-self.field-0.0 h.counted h.admitted c.in_err-self.ensures)

pub returns-clause-took : goal.returns-clause-took
returns-clause-took c _ lines h =
    lines_behind c.args.self.now (record { draft = c.take_lines.new.draft; count = c.in_ok-self.field-0 }) lines (lines_of c.args.text.now) c.in_ok-self.ensures.0 c.in_ok-self.ensures.1 h
