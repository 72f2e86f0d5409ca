use Rattle.std.proofs.lemmas.Result.{err_from_is_err_and}
use Rattle.hq_text.proofs.intake.Progress.finish.Goals as goal

pub returns-in_err-take_waiting : goal.returns-in_err-take_waiting
returns-in_err-take_waiting g c =
    let p = err_from_is_err_and c.from_residual.result c.from_residual.ensures.1 in
    rw (p.1, p.2) c.in_err-take_waiting.ensures.fault
