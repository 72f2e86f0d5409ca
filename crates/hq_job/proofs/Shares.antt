-- Bytes that two packets of a plan share are those that their footprints share.
use Rattle.std.proofs.Common.{◌≡◌, ℕ, ◌<◌, ◌↔◌, IsTrue, length, sym, ◌∙◌, ap, subst, slice_index_or}
use Rattle.std.proofs.lemmas.List.{get_or-map}
use Rattle.hq_footprint.specs.declared.conflicts.Kinds.{Kinds}
use Rattle.hq_footprint.specs.Bytes.{Share}
use Rattle.hq_footprint.specs.Conflicts.{HasKinds}
use Rattle.hq_tables.specs.declared.rows.Placed.{Placed}
use Rattle.hq_job.specs.Value.{JobValue}
use Rattle.hq_job.specs.Plan.{plan, planned}
use Rattle.hq_job.specs.Conflicts.{HasConflicts}
use Rattle.hq_model.specs.Job.{Job, packet, no_packet}

pub packet_at : (v : JobValue) (p : ℕ) (x : Placed) → p < length v.packets → x ≡ slice_index_or v.packets p x → packet (plan v) p ≡ planned x
packet_at v p x l e = get_or-map planned v.packets p x no_packet l ∙ ap planned (sym e)

-- where these are the packets, the flags of their footprints are theirs
pub flags : (job : Job) (p r : ℕ) (x y : Placed) (kinds : Kinds) → packet job p ≡ planned x → packet job r ≡ planned y → HasKinds x.bytes y.bytes kinds → HasConflicts job p r kinds
flags job p r x y kinds e f h =
    record {
      wr = subst (λ q. IsTrue kinds.wr ↔ Share q.writes (packet job r).reads) (sym e) (subst (λ q. IsTrue kinds.wr ↔ Share (planned x).writes q.reads) (sym f) h.wr);
      ww = subst (λ q. IsTrue kinds.ww ↔ Share q.writes (packet job r).writes) (sym e) (subst (λ q. IsTrue kinds.ww ↔ Share (planned x).writes q.writes) (sym f) h.ww);
      rw = subst (λ q. IsTrue kinds.rw ↔ Share q.reads (packet job r).writes) (sym e) (subst (λ q. IsTrue kinds.rw ↔ Share (planned x).reads q.writes) (sym f) h.rw);
    }
