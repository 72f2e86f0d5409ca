use Rattle.hq_graph.proofs.Reasons.{conflict_found, ordered_found}
use Rattle.hq_graph.proofs.judging.found_of.Goals as goal

pub returns-in-Ok : goal.returns-in-Ok
returns-in-Ok c = ordered_found c.args.before.now (c.requires.stuck.ordered c.if-stuck.false) c.in-Ok.ensures.shown

pub returns-in-Err : goal.returns-in-Err
returns-in-Err c = conflict_found c.args.before.now c.in-Err.field-0 (c.requires.stuck.ordered c.if-stuck.false) c.in-Err.ensures.unshown
