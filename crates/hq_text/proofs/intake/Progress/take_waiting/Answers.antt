use Rattle.std.proofs.Common.{sym}
use Rattle.std.proofs.lemmas.Result.{err_from_is_err_and}
use Rattle.hq_text.proofs.Pieces.{waiting_taken, waiting_refused, waiting_stays}
use Rattle.hq_text.proofs.intake.Progress.take_waiting.Goals as goal

pub returns-in_err-take_lines-clause-fault : goal.returns-in_err-take_lines-clause-fault
returns-in_err-take_lines-clause-fault g c =
    let p = err_from_is_err_and c.from_residual.result c.from_residual.ensures.1 in
    rw (p.1, p.2) (λ from. waiting_refused (g.L.TakesLines.Took from) (λ lines. g.L.TakesLines.Refuses lines c.in_err-take_lines.field-0.0) c.args.self.now c.deref.result.now (sym c.deref.ensures.value) (c.in_err-take_lines.ensures.fault from))

pub returns-in_err-take_lines-clause-stays : goal.returns-in_err-take_lines-clause-stays
returns-in_err-take_lines-clause-stays g c =
    let p = err_from_is_err_and c.from_residual.result c.from_residual.ensures.1 in
    rw (p.1, p.2) (λ from. waiting_stays (g.L.TakesLines.Took from) (λ lines. g.L.TakesLines.Refuses lines c.in_err-take_lines.field-0.0) c.args.self.now c.deref.result.now (sym c.deref.ensures.value) (c.in_err-take_lines.ensures.fault from))

pub returns-clause-taken : goal.returns-clause-taken
returns-clause-taken g c from = waiting_taken (g.L.TakesLines.Took from) c.args.self.now c.deref.result.now c.take_lines.new.self (sym c.deref.ensures.value) (c.in_ok-take_lines.ensures.took from)
