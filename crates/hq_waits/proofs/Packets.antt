-- The packets of a plan.
use Rattle.std.proofs.Common.{◌≡◌, ℕ, ◌<◌, length, sym, ◌∙◌, ap, slice_index_or}
use Rattle.std.proofs.lemmas.List.{get_or-map, length-map}
use Rattle.hq_tables.specs.declared.rows.Placed.{Placed}
use Rattle.hq_job.specs.Value.{JobValue}
use Rattle.hq_job.specs.Plan.{plan, planned}
use Rattle.hq_model.specs.Job.{packet, no_packet}

-- a packet of the plan is that of the job's list
pub packet_at : (v : JobValue) (p : ℕ) (x : Placed) → p < length v.packets → x ≡ slice_index_or v.packets p x → packet (plan v) p ≡ planned x
packet_at v p x l e = get_or-map planned v.packets p x no_packet l ∙ ap planned (sym e)

pub packets_count : (v : JobValue) → length (plan v).packets ≡ length v.packets
packets_count v = length-map v.packets planned
