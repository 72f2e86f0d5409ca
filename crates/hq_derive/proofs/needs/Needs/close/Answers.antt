use Rattle.hq_derive.proofs.needs.Needs.close.Goals as goal

pub loop-ahead-init : goal.loop-ahead-init
loop-ahead-init c = record { room = c.requires; needed = λ p r h. h }

pub need_under_round-requires : goal.need_under_round-requires
need_under_round-requires c = c.loop-ahead.invariant.room
