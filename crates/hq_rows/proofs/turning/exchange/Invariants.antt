use Rattle.std.proofs.Common.{◌*◌}
use Rattle.hq_rows.proofs.Exchanging.{ExchangedUpto}
use Rattle.hq_rows.proofs.turning.exchange.Given as goal

abbrev pub invariant-loop-group : goal.invariant-loop-group
invariant-loop-group l = ExchangedUpto l.step (l.group * 2 * l.step) l.fn.block l.block

abbrev pub invariant-loop-k : goal.invariant-loop-k
invariant-loop-k l = ExchangedUpto l.step l.k l.fn.block l.block
