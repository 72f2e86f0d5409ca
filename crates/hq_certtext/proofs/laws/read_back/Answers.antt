use Rattle.hq_certtext.proofs.Split.{printed_is_text}
use Rattle.hq_certtext.proofs.laws.read_back.Goals as goal

pub returns : goal.returns
returns c = printed_is_text
