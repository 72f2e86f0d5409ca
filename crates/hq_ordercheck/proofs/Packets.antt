-- How many packets a plan has.
use Rattle.std.proofs.Common.{◌≡◌, length}
use Rattle.std.proofs.lemmas.List.{length-map}
use Rattle.hq_job.specs.Value.{JobValue}
use Rattle.hq_job.specs.Plan.{plan, planned}

pub packets_count : (v : JobValue) → length (plan v).packets ≡ length v.packets
packets_count v = length-map v.packets planned
