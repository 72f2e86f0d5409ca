use Rattle.std.proofs.Common.{◌≡◌, ◌<◌, ◌-◌, ℕ, length, map, ap, subst, sym, ◌∙◌, arith, MatchOption}
use Rattle.std.specs.List.{range_with_len, AllZip}
use Rattle.std.proofs.lemmas.List.{length-map}
use Rattle.rayon.specs.Lists.{range_start, range_end}
use Rattle.rayon.specs.Numbers.{nat_range}
use Rattle.rayon.proofs.ToStd.{nat_range-All}
use Rattle.hq_cert.specs.View.{pair_of}
use Rattle.hq_job.specs.Plan.{plan}
use Rattle.hq_certcheck.specs.Listed.{PairHoldsAt, FirstBadPlace}
use Rattle.hq_certcheck.proofs.Saying.{meant_within}
use Rattle.hq_certcheck.proofs.Flagged.{match_change}
use Rattle.hq_certcheck.proofs.Leasts.{Tells, IsLeastOf, least_told}
use Rattle.hq_certcheck.specs.Concluded.{bare}
use Rattle.hq_certcheck.proofs.wide_pairs.first_bad_place.Goals as goal

pub position_first-requires-clause-items : goal.position_first-requires-clause-items
position_first-requires-clause-items g c κs lives =
    let ends = c.into_par_iter.ensures in
    rw (c.with_min_len-places.ensures.base, ends.0, ends.1) (nat_range-All (λ k. k < length c.args.pairs.now) 0 (length c.args.pairs.now) (λ i low high. high))

pub returns : goal.returns
returns g c =
    let done = c.position_first.ensures in
    let ends = c.into_par_iter.ensures in
    let n = length c.args.pairs.now in
    let job = plan c.args.job.now in
    let lines = map bare c.args.lines.now in
    let pairs = map pair_of c.args.pairs.now in
    let P = PairHoldsAt job lines pairs in
    let whole : n - 0 ≡ n = omega arith in
    let base = c.with_min_len-places.ensures.base in
    let places = done.2 ∙ (λ i. nat_range (range_start (base i)) (range_end (base i))) ∙ (λ i. nat_range (ends.0 i) (ends.1 i)) ∙ ap (range_with_len 0) whole in
    let told : AllZip (Tells P) (range_with_len 0 n) done.1 = subst (λ xs. AllZip (Tells P) xs done.1) places done.3 in
    match_change c.position_first.result ((k : ℕ) → k < n → P k) ((k : ℕ) → P k) (IsLeastOf P n) (FirstBadPlace job lines pairs)
    (λ all k pair e. all k (meant_within pair_of c.args.pairs.now k pair e) pair e)
    (λ k f. record { there = omega (arith, f.low, length-map c.args.pairs.now pair_of); bad = f.bad; first = f.first })
    (subst (λ r. MatchOption r ((k : ℕ) → k < n → P k) (IsLeastOf P n)) (sym done.4) (least_told P n done.1 told (omega (arith, c.into_par_iter.type_inv))))
