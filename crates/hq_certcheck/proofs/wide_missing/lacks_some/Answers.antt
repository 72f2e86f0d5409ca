use Rattle.std.proofs.Common.{◌≡◌, Bool, false, IsTrue, subst, sym}
use Rattle.hq_job.specs.Plan.{plan}
use Rattle.hq_certcheck.specs.Covering.{RowFlagged, FirstUnflaggedAfter}
use Rattle.hq_certcheck.proofs.FirstPlaces.{told_by}
use Rattle.hq_certcheck.proofs.wide_missing.lacks_some.Goals as goal

pub returns : goal.returns
returns c =
    let job = plan c.args.job.now in
    let All = RowFlagged job c.args.flags.now c.args.p in
    subst (λ (b : Bool). (b ≡ false → All) × (IsTrue b → All → ⊥)) (sym c.is_some.ensures)
    (told_by c.first_unflagged_after.result All (FirstUnflaggedAfter job c.args.flags.now c.args.p) (λ r f all. f.missing (all r f.ahead f.is_packet)) c.first_unflagged_after.ensures)
