use Rattle.hq_text.proofs.Pieces.{whole_taken, whole_refused, on_ok_each, on_ok_at, if_err_each, if_err_at}
use Rattle.hq_text.proofs.intake.Progress.take_whole.Goals as goal

pub returns-clause-taken : goal.returns-clause-taken
returns-clause-taken g c =
    on_ok_each _ c.take_waiting.result
    (λ from. whole_taken (g.L.TakesLines.Took from) c.take_waiting.result c.args.self.now c.hold.new.self c.take_waiting.new.self c.args.piece.now c.requires (c.in_ok-hold.ensures.held from) (on_ok_at _ c.take_waiting.result from c.take_waiting.ensures.taken) c.take_waiting.ensures.none)

pub returns-clause-fault : goal.returns-clause-fault
returns-clause-fault g c =
    if_err_each _ c.take_waiting.result
    (λ from. whole_refused (g.L.TakesLines.Took from) g.L.TakesLines.Refuses c.take_waiting.result c.args.self.now c.hold.new.self c.args.piece.now c.requires (c.in_ok-hold.ensures.held from) (if_err_at _ c.take_waiting.result from c.take_waiting.ensures.stays))
