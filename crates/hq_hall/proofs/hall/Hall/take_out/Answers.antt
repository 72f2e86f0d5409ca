use Rattle.std.proofs.Common.{◌≡◌, ◌∙◌, ap, ap₂, sym, subst, List, OnOk, IfErr, set}
use Rattle.hq_certcheck.specs.View.{AcceptedJob}
use Rattle.hq_job.specs.Plan.{plan}
use Rattle.hq_job.specs.Value.{JobValue}
use Rattle.hq_ledger.specs.declared.grants.Grant.{Grant}
use Rattle.hq_ledger.specs.declared.fault.GrantFault.TheVariants as grant_fault
use Rattle.hq_ledger.specs.Grants.{IsOut, without}
use Rattle.hq_model.specs.Fence.{Ordered}
use Rattle.hq_model.specs.Theorems.{Valid}
use Rattle.hq_hall.specs.declared.stage.Stage.TheVariants as stage
use Rattle.hq_hall.specs.Handing.{foot_of}
use Rattle.hq_hall.specs.Histories.{HistoryValue}
use Rattle.hq_hall.specs.View.{HallValue, IsReady, Stood}
use Rattle.hq_hall.proofs.Keeping.{fetched_stood, let_back}
use Rattle.hq_hall.proofs.Packets.{clear_out}
use Rattle.hq_hall.proofs.hall.Hall.take_out.Goals as goal

pub let_out-requires : goal.let_out-requires
let_out-requires c =
    let h = c.self.inside.history in
    let p = c.args.packet in
    let same : c.accepted-accepted.result.now ≡ h.job = c.accepted-accepted.ensures in
    let ready : IsReady (record { job = h.job; state = h.state; events = h.events; out = c.self.inside.grants; home = c.self.inside.tray }) p = subst (λ (hall : HallValue). IsReady hall p) (sym c.self.view_is) c.requires in
    let own : c.placed.result.now.bytes ≡ foot_of h.job.job.packets p = c.placed.ensures.foot ∙ ap (λ (v : JobValue). foot_of v.packets p) c.job.ensures ∙ ap (λ (j : AcceptedJob). foot_of j.job.packets p) same in
    record {
      clear = clear_out h.job.job h.events h.state c.self.inside.grants c.self.inside.stages.items p c.placed.result.now.bytes
          (subst (λ (j : AcceptedJob). Valid (plan j.job)) same c.ordered.ensures.valid)
          (subst (λ (j : AcceptedJob). Ordered (plan j.job)) same c.ordered.ensures.ordered)
          c.run_so_far.ensures c.self.invariant.0 ready.is_packet ready.active ready.fresh own;
    }

pub invariant_of-self-in-Ok : goal.invariant_of-self-in-Ok
invariant_of-self-in-Ok c =
    let h = c.self.inside.history in
    let p = c.args.packet in
    let same : c.accepted-accepted.result.now ≡ h.job = c.accepted-accepted.ensures in
    let ready : IsReady (record { job = h.job; state = h.state; events = h.events; out = c.self.inside.grants; home = c.self.inside.tray }) p = subst (λ (hall : HallValue). IsReady hall p) (sym c.self.view_is) c.requires in
    let own : c.placed.result.now.bytes ≡ foot_of h.job.job.packets p = c.placed.ensures.foot ∙ ap (λ (v : JobValue). foot_of v.packets p) c.job.ensures ∙ ap (λ (j : AcceptedJob). foot_of j.job.packets p) same in
    subst (λ (out : List Grant). Stood c.take.new.self out (set c.self.inside.stages.items p stage.Out) c.self.inside.tray.packets) (sym c.in_ok-let_out.ensures.ok)
    (fetched_stood h c.take.new.self p c.self.inside.grants c.self.inside.stages.items c.self.inside.tray.packets ready.is_packet ready.work ready.active ready.fresh c.placed.result.now.bytes own c.in-Ok.ensures.ok c.self.invariant)

back : (c : goal.After-home-home) → c.home-home.new.self ≡ c.self.inside.grants
back c =
    let h = c.self.inside.history in
    let p = c.args.packet in
    let grant : Grant = record { packet = p; foot = c.placed.result.now.bytes } in
    let ready : IsReady (record { job = h.job; state = h.state; events = h.events; out = c.self.inside.grants; home = c.self.inside.tray }) p = subst (λ (hall : HallValue). IsReady hall p) (sym c.self.view_is) c.requires in
    let_back c.home-home.result c.self.inside.grants c.home-home.new.self grant
    (subst (λ (out : List Grant). OnOk c.home-home.result (c.home-home.new.self ≡ without p out)) c.in_ok-let_out.ensures.ok c.home-home.ensures.home)
    (subst (λ (out : List Grant). IfErr c.home-home.result (λ e. (e ≡ grant_fault.NotOut) × (IsOut out p → ⊥))) c.in_ok-let_out.ensures.ok c.home-home.ensures.not_out)
    (λ is. let never : stage.Unfetched ≡ stage.Out = sym ready.fresh ∙ ((c.self.invariant.0.are_out p).0 is).1 in absurd (cc))

pub invariant_of-self-in-Err : goal.invariant_of-self-in-Err
invariant_of-self-in-Err c =
    subst (λ (h : HistoryValue). Stood h c.home-home.new.self c.self.inside.stages.items c.self.inside.tray.packets) (sym c.in-Err.ensures.err)
    (subst (λ (out : List Grant). Stood c.self.inside.history out c.self.inside.stages.items c.self.inside.tray.packets) (sym (back c)) c.self.invariant)

hall_of : goal.After-home-home → HistoryValue → List Grant → HallValue
hall_of c h out = record { job = h.job; state = h.state; events = h.events; out = out; home = c.self.inside.tray }

pub returns-in-Err-clause-err : goal.returns-in-Err-clause-err
unfolding hall_of
returns-in-Err-clause-err c = ap₂ (hall_of c) c.in-Err.ensures.err (back c) ∙ c.self.view_is
