use Rattle.std.proofs.Common.{◌≡◌, ◌++◌, vec_len}
use Rattle.hq_runner.specs.Outcomes.{kits_in}
use Rattle.hq_runner.proofs.finish.kits_of.Given as goal

abbrev pub invariant-loop-all : goal.invariant-loop-all
invariant-loop-all g l = l.kits.items ++ kits_in l.all.items ≡ kits_in l.initial.all.items

abbrev pub decreases-loop-all : goal.decreases-loop-all
decreases-loop-all g l = vec_len l.all
