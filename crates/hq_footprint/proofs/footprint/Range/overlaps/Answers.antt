use Rattle.hq_footprint.proofs.Overlaps.{overlap_shared, shared_overlap}
use Rattle.hq_footprint.proofs.footprint.Range.overlaps.Goals as goal

pub returns : goal.returns
returns c = (λ t. overlap_shared c.args.self c.args.other (c.meets.ensures.0 t), λ s. c.meets.ensures.1 (shared_overlap c.args.self c.args.other s))
