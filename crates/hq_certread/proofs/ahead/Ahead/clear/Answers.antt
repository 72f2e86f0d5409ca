use Rattle.std.proofs.Common.{refl}
use Rattle.hq_certread.proofs.ReadAhead.{none_ahead}
use Rattle.hq_certread.proofs.ahead.Ahead.clear.Goals as goal

pub returns-clause-any : goal.returns-clause-any
returns-clause-any c text =
    none_ahead text (record { next = c.args.self.now.next; before = c.args.self.now.before; lines = c.clear.new.self; pairs = c.clear-2.new.self; count = 0; bytes = 0 }) c.clear.ensures.items c.clear-2.ensures.items refl refl
