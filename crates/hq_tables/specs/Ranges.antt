-- What is known of the ranges of a packet of a job that was read.
use Rattle.std.specs.Prelude.{◌≡◌, [], ◌∷◌, map}
use Rattle.hq_footprint.specs.Tasks.{SuitsTwo}
use Rattle.hq_footprint.specs.declared.footprint.Range.{Range}
use Rattle.hq_tables.specs.declared.rows.Placed.{Placed}

-- They have the lengths that the packet's task asks for, in addresses and in byte numbers alike.
pub record RangesSuit (p : Placed) : Type 0 where
  pub reads : map (λ r. r.len) p.bytes.reads ≡ map (λ r. r.len) p.work.foot.reads
  pub write : p.bytes.write.len ≡ p.work.foot.write.len
  pub each : (first second : Range) → p.work.foot.reads ≡ first ∷ second ∷ []
      → SuitsTwo p.work.task first.len second.len p.work.foot.write.len
