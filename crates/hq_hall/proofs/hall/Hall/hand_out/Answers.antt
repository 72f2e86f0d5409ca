use Rattle.std.proofs.Common.{◌≡◌, ◌∙◌, ◌<◌, ℕ, ap, sym, subst, All, length, List, map, replicate}
use Rattle.hq_footprint.specs.Bytes.{read_entries}
use Rattle.hq_footprint.specs.declared.footprint.Work.{Work}
use Rattle.hq_job.specs.Plan.{plan}
use Rattle.hq_job.specs.Value.{JobValue}
use Rattle.hq_job.specs.View.{PacketIsRead}
use Rattle.hq_machine.specs.State.{StateValue}
use Rattle.hq_machine.specs.View.{IsStateOf, state_of}
use Rattle.hq_model.specs.Job.{Packet, packet}
use Rattle.hq_model.specs.Machine.{lane_sees}
use Rattle.hq_hall.specs.Handing.{pieces_of, work_of}
use Rattle.hq_hall.specs.View.{HallValue, job_of, state_in, work_in}
use Rattle.hq_hall.proofs.Packets.{memory_reads}
use Rattle.hq_hall.proofs.hall.Hall.hand_out.Goals as goal

pub hand_out-requires-clause-memory : goal.hand_out-requires-clause-memory
hand_out-requires-clause-memory c =
    let x = c.placed-placed.result.now in
    let same : c.job-job.result.now ≡ c.self.inside.history.job.job = c.job-job.ensures ∙ sym (ap (λ (h : HallValue). h.job.job) c.self.view_is) in
    subst (λ (st : StateValue). All (λ b. b < length st.copies.memory) (read_entries x.bytes)) (sym c.state.ensures)
    (memory_reads c.self.inside.history.job.job x c.self.inside.history.state (subst (λ (v : JobValue). PacketIsRead v x) same c.placed-placed.ensures.read) c.run_so_far.ensures.is)

pub returns-clause-ok : goal.returns-clause-ok
returns-clause-ok c =
    let x = c.placed-placed.result.now in
    let p = c.args.packet in
    let hall = c.args.self.now in
    let items = c.in_ok-pieces.pieces.items in
    let st : c.state.result.now ≡ hall.state = c.state.ensures ∙ ap (λ (h : HallValue). h.state) c.self.view_is in
    let is : IsStateOf (job_of hall) c.state.result.now = subst (λ (v : StateValue). IsStateOf (job_of hall) v) (sym st) (subst (λ (h : HallValue). IsStateOf (job_of h) h.state) c.self.view_is c.run_so_far.ensures.is) in
    let work : x.work ≡ work_in hall p = c.placed-placed.ensures.work ∙ ap (λ (v : JobValue). work_of v.packets p) c.job-job.ensures in
    let reads : read_entries x.bytes ≡ (packet (job_of hall) p).reads = ap (λ (y : Packet). y.reads) c.placed-placed.ensures.planned ∙ ap (λ (v : JobValue). (packet (plan v) p).reads) c.job-job.ensures in
    subst (λ (w : Work). items ≡ pieces_of p w (map (lane_sees (job_of hall) (state_in hall) p) (packet (job_of hall) p).reads) (replicate w.foot.write.len 0)) work
    (subst (λ (rs : List ℕ). items ≡ pieces_of p x.work (map (lane_sees (job_of hall) (state_in hall) p) rs) (replicate x.work.foot.write.len 0)) reads
    (subst (λ (v : StateValue). items ≡ pieces_of p x.work (map (lane_sees (job_of hall) (state_of (job_of hall) v) p) (read_entries x.bytes)) (replicate x.work.foot.write.len 0)) st
    (c.in_ok-pieces.ensures (job_of hall) is)))
