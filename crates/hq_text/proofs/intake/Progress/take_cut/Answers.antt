use Rattle.std.proofs.lemmas.Result.{err_from_is_err_and}
use Rattle.hq_text.proofs.Pieces.{stays_both, cut_in_two}
use Rattle.hq_text.proofs.intake.Progress.take_cut.Goals as goal

pub returns-in_err-take_whole-clause-fault : goal.returns-in_err-take_whole-clause-fault
returns-in_err-take_whole-clause-fault g c =
    let p = err_from_is_err_and c.from_residual.result c.from_residual.ensures.1 in
    let parts = cut_in_two c.args.piece.now c.split_at.result.0.now c.split_at.result.1.now c.args.whole c.split_at.ensures.front c.split_at.ensures.back in
    rw (p.1, p.2)
    (λ from text h. stays_both (λ lines. g.L.TakesLines.Refuses lines c.in_err-take_whole.field-0.0) text c.split_at.result.0.now c.split_at.result.1.now c.args.piece.now parts (c.in_err-take_whole.ensures.fault from text h))
