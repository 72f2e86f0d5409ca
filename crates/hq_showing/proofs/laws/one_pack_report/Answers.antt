use Rattle.hq_showing.proofs.laws.one_pack_report.Goals as goal
use Rattle.hq_showing.proofs.PackReports.{one_report}

pub returns : goal.returns
returns c = one_report
