use Rattle.std.proofs.Common.{[], refl, ap}
use Rattle.hq_certread.specs.TextFaults.{State}
use Rattle.hq_judging.proofs.checking.Checking.new.Goals as goal

pub returns-clause-checked : goal.returns-clause-checked
returns-clause-checked c = record {
  same = refl;
  front = [];
  gone = [];
  taken = c.new.ensures;
  seen = c.new-seen.ensures;
  held = tt;
  no_lines = ap (λ (s : State). s.lines) c.new.ensures.admitted;
  no_pairs = ap (λ (s : State). s.pairs) c.new.ensures.admitted;
}
