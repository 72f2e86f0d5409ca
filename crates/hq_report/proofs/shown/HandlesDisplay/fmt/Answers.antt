use Rattle.std.proofs.Common.{subst}
use Rattle.std.specs.Fmt.{HasWritten}
use Rattle.hq_report.proofs.Joined.{five_joined}
use Rattle.hq_report.proofs.shown.HandlesDisplay.fmt.Goals as goal

pub returns-clause-writes : goal.returns-clause-writes
returns-clause-writes g c plain ok =
    subst (λ text. HasWritten g.W.Write.write_str_gives c.args.f.now text c.write.new.self)
    (five_joined _ _ _ _ _ _ _ _ _ _ _ c.five-a.ensures c.has_handle-second.ensures c.has_handle-third.ensures c.has_handle-fourth.ensures c.has_handle-fifth.ensures c.has_handle.ensures c.if-not-has_handle.false)
    (c.write.ensures.writes plain ok)
