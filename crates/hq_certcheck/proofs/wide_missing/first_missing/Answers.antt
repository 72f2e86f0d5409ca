use Rattle.std.proofs.Common.{ℕ, List, sym, subst}
use Rattle.hq_certcheck.specs.Covering.{AreListed, HasRows}
use Rattle.hq_certcheck.proofs.wide_missing.first_missing.Goals as goal

pub missing_by-requires-clause-rows : goal.missing_by-requires-clause-rows
missing_by-requires-clause-rows g c κs lives = subst (λ n. HasRows n c.flags-flags.result.now) c.requires.count c.flags-flags.ensures.rows

pub returns : goal.returns
returns g c cert h =
    c.missing_by.ensures cert (subst (λ n. AreListed cert.pairs n c.flags-flags.result.now) c.requires.count
    (subst (λ (flags : List ℕ). AreListed cert.pairs c.args.seen.now.count flags) (sym c.flags-flags.ensures.flags) h.listed))
