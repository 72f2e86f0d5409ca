use Rattle.hq_footprint.specs.Bytes.{bytes_of}
use Rattle.hq_footprint.proofs.Overlaps.{any_shares, shares_any}
use Rattle.hq_footprint.proofs.conflicts.reads_overlap.Goals as goal

pub returns : goal.returns
returns c = (λ t. any_shares (bytes_of c.args.other) c.args.reads.now (c.some_overlaps.ensures.0 t), λ s. c.some_overlaps.ensures.1 (shares_any (bytes_of c.args.other) c.args.reads.now s))
