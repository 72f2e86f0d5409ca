use Rattle.std.proofs.Common.{arith}
use Rattle.hq_certtext.proofs.Placed.{put_four}
use Rattle.hq_certtext.proofs.placing.put_word.Goals as goal

pub returns-clause-put : goal.returns-clause-put
returns-clause-put c = put_four c.args.bytes.now c.args.word.now c.args.at c.args.count (omega arith) c.requires.few c.requires.room
