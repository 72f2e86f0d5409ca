use Rattle.std.proofs.Common.{ℕ, ◌<◌, length, sym, subst, MatchOption}
use Rattle.hq_job.specs.Plan.{plan}
use Rattle.hq_certcheck.specs.Covering.{AreListed, RowFlagged, FirstUnflagged, NoneMissing, FirstMissing}
use Rattle.hq_ordercheck.proofs.Packets.{packets_count}
use Rattle.hq_certcheck.proofs.Flagged.{match_change, none_missing, first_missing}
use Rattle.hq_certcheck.proofs.wide_missing.missing_by.Goals as goal

pub returns : goal.returns
returns g c cert given =
    let job = plan c.args.job.now in
    let flags = c.args.flags.now in
    let n = sym (packets_count c.args.job.now) in
    let listed : AreListed cert.pairs (length job.packets) flags = subst (λ k. AreListed cert.pairs k flags) n given in
    let found = subst (λ k. MatchOption c.first_unflagged.result ((p : ℕ) → p < k → RowFlagged job flags p) (λ f. FirstUnflagged job flags f.0 f.1)) n c.first_unflagged.ensures in
    match_change c.first_unflagged.result ((p : ℕ) → p < length job.packets → RowFlagged job flags p) (NoneMissing job cert.pairs)
    (λ f. FirstUnflagged job flags f.0 f.1) (λ f. FirstMissing job cert.pairs f.0 f.1)
    (none_missing job cert.pairs flags listed)
    (λ f h. first_missing job cert.pairs flags listed f.0 f.1 h)
    found
