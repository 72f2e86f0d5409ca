use Rattle.std.proofs.Common.{arith, slice_index}
use Rattle.hq_ordercheck.proofs.Packets.{packets_count}
use Rattle.hq_ordercheck.proofs.rings.has_slot.Goals as goal

pub returns : goal.returns
returns c = (
  λ t p r f is turn. (c.least_from.ensures (slice_index c.args.places.now p)).0 (c.free_below.ensures.0 t p f) r (omega (arith, is, packets_count c.args.job.now, c.requires.count)) turn,
  λ h. c.free_below.ensures.1 (λ p f. (c.least_from.ensures (slice_index c.args.places.now p)).1 (λ r low turn. h p r f (omega (arith, low, packets_count c.args.job.now, c.requires.count)) turn)),
)
