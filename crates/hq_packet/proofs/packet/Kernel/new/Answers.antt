use Rattle.std.proofs.Common.{refl, rules}
use Rattle.hq_packet.proofs.Dispatches.{none_refused, made_again}
use Rattle.hq_packet.proofs.packet.Kernel.new.Goals as goal

pub returns-in_err-check_sizes-clause-only : goal.returns-in_err-check_sizes-clause-only
returns-in_err-check_sizes-clause-only c k e = absurd (none_refused c.args.fields _ (search rules) (search rules) c.in_err-check_sizes.ensures k e)

pub returns-clause-only : goal.returns-clause-only
returns-clause-only c k e = made_again c.args.fields _ refl k e
