use Rattle.std.proofs.Common.{rules, subst}
use Rattle.std.proofs.lemmas.List.{take_all}
use Rattle.hq_ledger.specs.Grants.{IsClear}
use Rattle.hq_ledger.proofs.Clear.{clear_more}
use Rattle.hq_ledger.proofs.grants.first_clash.Goals as goal

pub loop-other-preserved : goal.loop-other-preserved
loop-other-preserved c = clear_more c.args.out.now c.args.grant.now _ c.loop-other.other-index _ (search rules) c.loop-other.invariant c.if-clashes.false c.clashes.ensures

pub returns : goal.returns
returns c = subst (λ xs. IsClear xs c.args.grant.now) (take_all c.loop-other.other-index c.args.out.now (search rules)) c.loop-other.invariant
