use Rattle.std.proofs.Common.{◌≡◌, ◌<◌, ◌-◌, ℕ, length, ap, subst, sym, ◌∙◌, arith, MatchOption}
use Rattle.std.specs.List.{range_with_len, AllZip}
use Rattle.rayon.specs.Lists.{range_start, range_end}
use Rattle.rayon.specs.Numbers.{nat_range}
use Rattle.rayon.proofs.ToStd.{nat_range-All}
use Rattle.hq_job.specs.Plan.{plan}
use Rattle.hq_certcheck.specs.Covering.{HasRows, IsPossible, RowFlagged, FirstUnflaggedRow}
use Rattle.hq_ordercheck.proofs.Packets.{packets_count}
use Rattle.hq_certcheck.proofs.Flagged.{match_change}
use Rattle.hq_certcheck.proofs.Leasts.{Tells, IsLeastOf, least_told}
use Rattle.hq_certcheck.proofs.wide_missing.first_row.Goals as goal

pub position_first-requires-clause-items : goal.position_first-requires-clause-items
position_first-requires-clause-items g c κs lives =
    let ends = c.into_par_iter.ensures in
    let n = length c.args.job.now.packets in
    rw (c.with_min_len-rows.ensures.base, ends.0, ends.1)
    (nat_range-All (λ p. IsPossible (plan c.args.job.now) c.args.possible.now × HasRows n c.args.flags.now × (p < n)) 0 (length c.packets.result.now)
    (λ i low high. (c.requires.possible, c.requires.rows, subst (λ xs. i < length xs) c.packets.ensures high)))

pub returns : goal.returns
returns g c =
    let done = c.position_first.ensures in
    let ends = c.into_par_iter.ensures in
    let n = length c.packets.result.now in
    let count = length c.args.job.now.packets in
    let job = plan c.args.job.now in
    let flags = c.args.flags.now in
    let same : n ≡ count = ap length c.packets.ensures in
    let P = λ (p : ℕ). RowFlagged job flags p in
    let whole : n - 0 ≡ n = omega arith in
    let base = c.with_min_len-rows.ensures.base in
    let places = done.2 ∙ (λ i. nat_range (range_start (base i)) (range_end (base i))) ∙ (λ i. nat_range (ends.0 i) (ends.1 i)) ∙ ap (range_with_len 0) whole in
    let told : AllZip (Tells P) (range_with_len 0 n) done.1 = subst (λ xs. AllZip (Tells P) xs done.1) places done.3 in
    match_change c.position_first.result ((p : ℕ) → p < n → P p) ((p : ℕ) → p < count → P p) (IsLeastOf P n) (FirstUnflaggedRow job flags)
    (λ all p l. all p (omega (arith, l, same)))
    (λ p f. record { is_packet = omega (arith, f.low, same, packets_count c.args.job.now); missing = f.bad; first = f.first })
    (subst (λ r. MatchOption r ((p : ℕ) → p < n → P p) (IsLeastOf P n)) (sym done.4) (least_told P n done.1 told (omega (arith, c.into_par_iter.type_inv))))
