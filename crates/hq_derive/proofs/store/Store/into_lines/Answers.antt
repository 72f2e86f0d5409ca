use Rattle.hq_derive.specs.Short.{told}
use Rattle.hq_derive.proofs.Storing.{told_more}
use Rattle.hq_derive.proofs.store.Store.into_lines.Goals as goal

pub loop-k-preserved : goal.loop-k-preserved
loop-k-preserved c = told_more c.args.self c.loop-k.k _ _ _ (told c.line.result) c.in_ok-push.ensures.items c.loop-k.invariant c.line.ensures c.in_ok-into_line.ensures
