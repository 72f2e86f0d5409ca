use Rattle.std.proofs.Common.{bit_and}
use Rattle.std.proofs.lemmas.Bool.{eqb-true}
use Rattle.hq_parts.proofs.Parting.{apart_by}
use Rattle.hq_parts.proofs.parts.is_apart.Goals as goal

pub returns-then-left-right-eq0 : goal.returns-then-left-right-eq0
returns-then-left-right-eq0 c = λ t. apart_by c.args.left c.args.right c.if-left-right-eq0.true (eqb-true (bit_and c.args.left.touched c.args.right.written) 0 t)
