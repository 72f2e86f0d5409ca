use Rattle.std.proofs.Common.{[]}
use Rattle.hq_judging.specs.Checking.{HasChecked, HasCheckedBut}
use Rattle.hq_judging.proofs.chunks.Chunks.new.Given as goal

abbrev pub invariant-loop-thread : goal.invariant-loop-thread
invariant-loop-thread l = HasChecked l.fn.checking [] l.fn.checking → HasCheckedBut l.fn.checking l.chunks.items [] l.fn.checking
