use Rattle.std.proofs.lemmas.Result.{on_ok_weaker}
use Rattle.hq_audit.proofs.Pairing.{go_more}
use Rattle.hq_audit.proofs.drafting.Drafts.add_row.Goals as goal

pub returns-clause-goes : goal.returns-clause-goes
returns-clause-goes c = on_ok_weaker c.add_others.result (go_more c.args.before.now c.args.self.now c.turn.new.self c.add_others.new.self c.in_ok-turn.ensures) c.add_others.ensures.goes
