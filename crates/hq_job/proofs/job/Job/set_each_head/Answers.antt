use Rattle.std.proofs.Common.{refl, sym, ◌∙◌, ap, subst, List}
use Rattle.std.specs.Vec.{with_items}
use Rattle.hq_tables.specs.declared.rows.Placed.{Placed}
use Rattle.hq_job.specs.Heads.{job_with_each, SameButHeads}
use Rattle.hq_job.specs.Plan.{plan}
use Rattle.hq_job.specs.Value.{JobValue}
use Rattle.hq_job.specs.View.{value_of}
use Rattle.hq_job.proofs.GivenHeads.{SamePackets, with_packets, fit_kept, written_back, same_each, plan_each, each_with, length_each}
use Rattle.hq_job.proofs.job.Job.set_each_head.Goals as goal

abbrev given : goal.After-self-1 → List Placed → List Placed
given c xs = each_with c.args.head xs

pub invariant_of-self : goal.invariant_of-self
invariant_of-self c =
    let changed = written_back c.self.inside.packets c.deref_mut.result.now c.set_each_head.new.packets (given c) (length_each c.args.head) c.deref_mut.ensures.value c.set_each_head.ensures in
    fit_kept c.self.inside _ refl refl refl (subst (SamePackets c.self.inside.packets.items) (sym changed) (same_each c.self.inside.packets.items c.args.head)) c.self.invariant

pub returns-clause-plan : goal.returns-clause-plan
returns-clause-plan c =
    let changed = written_back c.self.inside.packets c.deref_mut.result.now c.set_each_head.new.packets (given c) (length_each c.args.head) c.deref_mut.ensures.value c.set_each_head.ensures in
    ap (λ ys. plan (with_packets (value_of c.self.inside) ys)) changed ∙ ap (λ (job : JobValue). plan (job_with_each job c.args.head)) c.self.view_is ∙ plan_each c.args.self.now c.args.head

pub returns-clause-same : goal.returns-clause-same
returns-clause-same c =
    let xs = c.self.inside.packets.items in
    let changed = written_back c.self.inside.packets c.deref_mut.result.now c.set_each_head.new.packets (given c) (length_each c.args.head) c.deref_mut.ensures.value c.set_each_head.ensures in
    let new = (with_items c.self.inside.packets c.set_each_head.new.packets).items in
    let same : SamePackets xs new = subst (SamePackets xs) (sym changed) (same_each xs c.args.head) in
    subst (λ (job : JobValue). SameButHeads job (with_packets (value_of c.self.inside) new)) c.self.view_is (ap (with_packets (value_of c.self.inside)) same)
