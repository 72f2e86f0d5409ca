-- The write-backs of a packet's release fence are the pushes that its completion asks for.
use Rattle.std.proofs.Common.{◌≡◌, ℕ, ◌+◌, ◌<◌, ◌≤◌, true, false, length, slice_index, refl, sym, ◌∙◌, ap, subst, arith}
use Rattle.std.proofs.lemmas.Bool.{true≢false}
use Rattle.hq_packet.specs.declared.packet.Scope.{Scope}
use Rattle.hq_packet.specs.declared.packet.Scope.TheVariants as scope
use Rattle.hq_job.specs.Access.{AreOfQueue}
use Rattle.hq_model.specs.Job.{Job, packet, IsPacket, agent_of}
use Rattle.hq_packet.specs.Scopes.{reaches}
use Rattle.hq_model.specs.Theorems.{Valid}
use Rattle.hq_copies.specs.Copies.{CopiesValue, Released, LanesReleased}
use Rattle.hq_machine.specs.State.{StateValue}
use Rattle.hq_machine.specs.Pushes.Holders.{Lanes, Agents}
use Rattle.hq_machine.specs.Pushes.{Swept, WrittenBack, AreCopiesOf}
use Rattle.hq_machine.specs.View.{IsStateOf}
use Rattle.hq_events.proofs.Jobs.{agent_below}
use Rattle.hq_machine.proofs.PushLists.{sweep_starts}
use Rattle.hq_machine.proofs.Released.{lanes_swept, queue_swept, agent_swept}
use Rattle.hq_machine.proofs.Releases.{AgentsOf, LanesOf, within_of}

-- the lanes and agents that p's release fence reaches
pub record Reached (job : Job) (p : ℕ) : Type 0 where
  pub lane : ℕ
  pub lanes : ℕ
  pub agent : ℕ
  pub agents : ℕ
  pub of : LanesOf job p lane lanes
  pub on : AgentsOf job p agent agents

pub no_lanes : (job : Job) (p : ℕ) → reaches (packet job p).release scope.Agent ≡ false → LanesOf job p 0 0
no_lanes job p e = record { rising = omega arith; within = omega arith; some = λ h. absurd (true≢false (sym h ∙ e)); none = λ _. refl }

pub all_lanes : (job : Job) (p start stop : ℕ) → AreOfQueue job (packet job p).queue start stop → start ≤ stop → stop ≤ length job.packets → reaches (packet job p).release scope.Agent ≡ true → LanesOf job p start stop
all_lanes job p start stop are rising within e = record { rising = rising; within = within; some = λ _. are; none = λ h. absurd (true≢false (sym e ∙ h)) }

pub no_agents : (job : Job) (p : ℕ) → reaches (packet job p).release scope.System ≡ false → AgentsOf job p 0 0
no_agents job p e = record { rising = omega arith; within = omega arith; some = λ h. absurd (true≢false (sym h ∙ e)); none = λ _. refl }

pub own_agent : (job : Job) (p : ℕ) → Valid job → IsPacket job p → reaches (packet job p).release scope.System ≡ true → AgentsOf job p (agent_of job p) (agent_of job p + 1)
own_agent job p valid there e = let low = agent_below job p valid there in record { rising = omega arith; within = omega arith; some = λ _. (refl, refl); none = λ h. absurd (true≢false (sym e ∙ h)) }

abbrev pub reached : (job : Job) (p start stop : ℕ) (s : Scope) → Valid job → IsPacket job p → AreOfQueue job (packet job p).queue start stop → start ≤ stop → stop ≤ length job.packets → (packet job p).release ≡ s → Reached job p
reached job p start stop scope.None valid there are rising within e = record { lane = 0; lanes = 0; agent = 0; agents = 0; of = no_lanes job p (ap (λ s. reaches s scope.Agent) e); on = no_agents job p (ap (λ s. reaches s scope.System) e) }
reached job p start stop scope.Agent valid there are rising within e = record { lane = start; lanes = stop; agent = 0; agents = 0; of = all_lanes job p start stop are rising within (ap (λ s. reaches s scope.Agent) e); on = no_agents job p (ap (λ s. reaches s scope.System) e) }
reached job p start stop scope.System valid there are rising within e =
    record { lane = start; lanes = stop; agent = agent_of job p; agents = agent_of job p + 1; of = all_lanes job p start stop are rising within (ap (λ s. reaches s scope.Agent) e); on = own_agent job p valid there (ap (λ s. reaches s scope.System) e) }

-- all lanes of a queue stand on its agent
same_agent : (job : Job) (v : StateValue) (p start stop : ℕ) → IsStateOf job v → AreOfQueue job (packet job p).queue start stop → (l : ℕ) → start ≤ l → l < stop → slice_index v.copies.lane_agents l ≡ agent_of job p
same_agent job v p start stop k are l a b =
    let (there, same) = are.of_queue l a b in
    k.lengths.lane_agents l there ∙ ap (λ q. slice_index job.queues q) same

lanes_back : (job : Job) (v : StateValue) (p start stop : ℕ) (mid : CopiesValue) → Valid job → IsStateOf job v → IsPacket job p → AreOfQueue job (packet job p).queue start stop → start ≤ stop → stop ≤ length job.packets → LanesReleased v.copies start stop (agent_of job p) mid → Swept Lanes v.copies start stop mid
lanes_back job v p start stop mid valid k there are rising within r =
    let low = agent_below job p valid there in
    lanes_swept v.copies start stop (agent_of job p) mid (within_of job v valid k) rising (omega (arith, k.lengths.lanes)) (omega (arith, k.lengths.agents)) (same_agent job v p start stop k are) r

-- the lanes of a queue, from one of them on, behind the lanes before it
pub queue_back : (job : Job) (old cur : CopiesValue) (lane start stop : ℕ) (new : CopiesValue) → AreCopiesOf job old → IsPacket job lane → AreOfQueue job (packet job lane).queue start stop → stop ≤ length job.packets → Swept Lanes old 0 lane cur → LanesReleased cur lane stop (agent_of job lane) new → Swept Lanes old 0 stop new
queue_back job old cur lane start stop new copies there are within s r =
    let (from, before) = are.within lane there refl in
    let on = copies.lane_agents lane there in
    let low = copies.within.agents_there lane (omega (arith, copies.lanes)) in
    queue_swept old cur lane stop (agent_of job lane) new copies.within (omega arith) (omega (arith, copies.lanes)) (omega (arith, on, low))
    (λ l x y. let (packet', same) = are.of_queue l (omega arith) y in copies.lane_agents l packet' ∙ ap (λ q. slice_index job.queues q) same) s r

pub written : (job : Job) (v : StateValue) (p start stop : ℕ) (c : CopiesValue) (s : Scope) (valid : Valid job) → IsStateOf job v → (there : IsPacket job p) (are : AreOfQueue job (packet job p).queue start stop) (rising : start ≤ stop) (within : stop ≤ length job.packets) (e : (packet job p).release ≡ s)
    → Released v.copies start stop (agent_of job p) s c → let r = reached job p start stop s valid there are rising within e in WrittenBack v.copies r.lane r.lanes r.agent r.agents c
written job v p start stop c scope.None valid k there are rising within e r =
    let inside = within_of job v valid k in
    record { mid = v.copies; lanes_swept = sweep_starts Lanes v.copies 0 inside; agents_swept = subst (Swept Agents v.copies 0 0) (sym r) (sweep_starts Agents v.copies 0 inside) }
written job v p start stop c scope.Agent valid k there are rising within e r =
    let swept = lanes_back job v p start stop c valid k there are rising within r in
    record { mid = c; lanes_swept = swept; agents_swept = sweep_starts Agents c 0 swept.kept.within }
written job v p start stop c scope.System valid k there are rising within e (mid, lanes, agent) =
    let swept = lanes_back job v p start stop mid valid k there are rising within lanes in
    let low = agent_below job p valid there in
    record { mid = mid; lanes_swept = swept; agents_swept = agent_swept mid (agent_of job p) c swept.kept.within (omega (arith, swept.kept.counts.agents, k.lengths.agents)) agent }
