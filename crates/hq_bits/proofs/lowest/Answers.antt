use Rattle.std.proofs.Common.{w64}
use Rattle.std.proofs.lemmas.Nat.Bits.{bit_at-trailing_zeros}
use Rattle.hq_bits.proofs.lowest.Goals as goal

pub returns : goal.returns
returns c = let t = bit_at-trailing_zeros w64 c.args.word c.requires c.ranges.word.fits in record { low = t.0; has = t.1; lowest = t.2 }
