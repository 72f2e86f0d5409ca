use Rattle.std.proofs.Common.{refl}
use Rattle.hq_certread.proofs.ReadAhead.{none_ahead}
use Rattle.hq_certread.proofs.ahead.Ahead.new.Goals as goal

pub returns-clause-any : goal.returns-clause-any
returns-clause-any c text = none_ahead text _ c.new.ensures.items c.new-2.ensures.items refl refl
