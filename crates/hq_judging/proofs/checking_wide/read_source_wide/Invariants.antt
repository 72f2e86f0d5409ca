use Rattle.std.proofs.Common.{◌*◌}
use Rattle.hq_text.proofs.Taken.{Follows}
use Rattle.hq_judging.specs.Chunks.{HasRead}
use Rattle.hq_judging.proofs.checking_wide.read_source_wide.Given as goal

abbrev pub invariant-loop-step : goal.invariant-loop-step
invariant-loop-step g l = Follows _ g.S.Source.Turned l.initial.source (1000 * l._step) l.source (λ text. HasRead l.fn.checking text l.reading)
