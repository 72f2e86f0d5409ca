-- What work is left.
use Rattle.std.proofs.Common.{◌≡◌, ℕ, ◌+◌, ◌<◌, inl, inr, true, false, Option, Some, None, length, refl, sym, ◌∙◌, ap, subst, arith}
use Rattle.std.proofs.lemmas.Bool.{cases_lt, true≢false}
use Rattle.hq_model.specs.Job.{Job, packet, IsPacket}
use Rattle.hq_model.specs.Machine as machine
use Rattle.hq_model.specs.Machine.{State, Copy, Event, MaySubmit, MayLaunch, NoWorkLeft, is_dirty, dirty}
use Rattle.hq_model.specs.Machine.Event.{Submit, Launch, Observe, Enter, Read, Store, PushLane, PushAgent}
use Rattle.hq_model.specs.Theorems.{Valid}
use Rattle.hq_model.proofs.Bound.{slot_there}
use Rattle.hq_machine.specs.Enabled.{Enabled, MayObserve, MayEnter, ReadOpen, MayStore, MayFinish}
use Rattle.hq_machine.specs.State.{StateValue}
use Rattle.hq_machine.specs.View.{IsStateOf, state_of}
use Rattle.hq_machine.specs.WorkLeft.{IsLeft, NoneOf, WaitIdle, ActiveIdle, PacketIdle}
use Rattle.hq_events.specs.declared.event.Event.TheVariants as event

-- ---- one number more

pub each_more : (P : ℕ → Type 0) (n : ℕ) → ((k : ℕ) → k < n → P k) → P n → (k : ℕ) → k < n + 1 → P k
each_more P n all one k l = elim (cases_lt k n) [
  | inl below ↦ all k below
  | inr above ↦ let e : n ≡ k = omega arith in subst P e one
]

-- ---- a step that is enabled

pub submit_left : (job : Job) (v : StateValue) (p : ℕ) → MaySubmit job (state_of job v) p → IsLeft job v event.Submit
submit_left job v p may = (Submit, refl, refl, (_, (p, may, refl)))

pub launch_left : (job : Job) (v : StateValue) (q p : ℕ) → MayLaunch job (state_of job v) q p → IsLeft job v (event.Launch q)
launch_left job v q p may = (Launch q, refl, refl, (_, (p, may, refl)))

pub observe_left : (job : Job) (v : StateValue) (p slot : ℕ) → MayObserve job (state_of job v) p slot → IsLeft job v (event.Observe p slot)
observe_left job v p slot m = (Observe p slot, refl, refl, (_, (m.signal, m.dependency, m.observes.barrier, m.observes.launched, m.observes.over, m.observes.fresh, refl)))

pub enter_left : (job : Job) (v : StateValue) (p : ℕ) → MayEnter job (state_of job v) p → IsLeft job v (event.Enter p)
enter_left job v p m = (Enter p, refl, refl, (_, (m.is_packet, m.launched, m.over, refl)))

pub read_left : (job : Job) (v : StateValue) (p i : ℕ) → ReadOpen job (state_of job v) p i → i < length (packet job p).reads → IsLeft job v (event.Read p i)
read_left job v p i m few = (Read p i, refl, refl, (_, (m.is_packet, m.active, few, m.fresh, refl)))

pub store_left : (job : Job) (v : StateValue) (p i : ℕ) → MayStore job (state_of job v) p i → IsLeft job v (event.Store p i)
store_left job v p i m = (Store p i, refl, refl, (_, (m.is_packet, m.active, m.read, m.few, m.fresh, refl)))

pub finish_left : (job : Job) (v : StateValue) (p : ℕ) → MayFinish job (state_of job v) p → IsLeft job v (event.Finish p)
finish_left job v p m = (Event.Finish p, refl, refl, (_, (m.worked.is_packet, m.worked.active, m.worked.read, m.worked.stored, m.released, refl)))

dirty_value : (copy : Option Copy) → is_dirty copy ≡ true → (value : ℕ) × (copy ≡ dirty value)
dirty_value None e = absurd (true≢false (sym e))
dirty_value (Some copy) e = (copy.value, λ i. Some (record { value = copy.value; dirty = e i }))

pub push_lane_left : (job : Job) (v : StateValue) (p b : ℕ) → IsStateOf job v → IsPacket job p → is_dirty ((state_of job v).lane p b) ≡ true → IsLeft job v (event.PushLane p b)
push_lane_left job v p b k there e =
    let d = dirty_value ((state_of job v).lane p b) e in
    (PushLane p b, refl, refl, (_, (d.0, there, k.dirty.lanes p b e, d.1, refl)))

pub push_agent_left : (job : Job) (v : StateValue) (a b : ℕ) → IsStateOf job v → a < job.agents → is_dirty ((state_of job v).agent a b) ≡ true → IsLeft job v (event.PushAgent a b)
push_agent_left job v a b k there e =
    let d = dirty_value ((state_of job v).agent a b) e in
    (PushAgent a b, refl, refl, (_, (d.0, there, k.dirty.agents a b e, d.1, refl)))

-- ---- steps that aren't

pub not_submit : (job : Job) (v : StateValue) → ((p : ℕ) → MaySubmit job (state_of job v) p → ⊥) → Enabled job v Submit → ⊥
not_submit job v n (new, step) = n step.0 step.1

pub not_launch : (job : Job) (v : StateValue) (q : ℕ) → ((p : ℕ) → MayLaunch job (state_of job v) q p → ⊥) → Enabled job v (Launch q) → ⊥
not_launch job v q n (new, step) = n step.0 step.1

pub not_enter : (job : Job) (v : StateValue) (p : ℕ) → (MayEnter job (state_of job v) p → ⊥) → Enabled job v (Enter p) → ⊥
not_enter job v p n (new, step) = n (record { is_packet = step.0; launched = step.1; over = step.2 })

pub not_read : (job : Job) (v : StateValue) (p i : ℕ) → (ReadOpen job (state_of job v) p i → ⊥) → Enabled job v (Read p i) → ⊥
not_read job v p i n (new, step) = n (record { is_packet = step.0; active = step.1; fresh = step.3 })

pub not_store : (job : Job) (v : StateValue) (p i : ℕ) → (MayStore job (state_of job v) p i → ⊥) → Enabled job v (Store p i) → ⊥
not_store job v p i n (new, step) = n (record { is_packet = step.0; active = step.1; read = step.2; few = step.3; fresh = step.4 })

pub not_push_lane : (job : Job) (v : StateValue) (p : ℕ) → ((b : ℕ) → is_dirty ((state_of job v).lane p b) ≡ false) → NoneOf job v (PushLane p)
not_push_lane job v p n b (new, step) = true≢false (sym (ap is_dirty step.3) ∙ n b)

pub not_push_agent : (job : Job) (v : StateValue) (a : ℕ) → ((b : ℕ) → is_dirty ((state_of job v).agent a b) ≡ false) → NoneOf job v (PushAgent a)
not_push_agent job v a n b (new, step) = true≢false (sym (ap is_dirty step.3) ∙ n b)

-- ---- where the numbers end

pub launch_below : (job : Job) (v : StateValue) (q : ℕ) → Valid job → Enabled job v (Launch q) → q < length job.queues
launch_below job v q valid (new, step) = subst (λ n. n < length job.queues) step.1.queue (valid.queues step.0 step.1.is_packet)

pub observe_below : (job : Job) (v : StateValue) (p slot : ℕ) → Enabled job v (Observe p slot) → slot < length (packet job p).deps
observe_below job v p slot (new, step) = (slot_there (packet job p).deps slot step.0 step.1.signal).0

pub read_below : (job : Job) (v : StateValue) (p i : ℕ) → Enabled job v (Read p i) → i < length (packet job p).reads
read_below job v p i (new, step) = step.2

pub store_below : (job : Job) (v : StateValue) (p i : ℕ) → Enabled job v (Store p i) → i < length (packet job p).writes
store_below job v p i (new, step) = step.3

pub agent_below : (job : Job) (v : StateValue) (a b : ℕ) → Enabled job v (PushAgent a b) → a < job.agents
agent_below job v a b (new, step) = step.1

observe_packet : (job : Job) (v : StateValue) (p slot : ℕ) → Enabled job v (Observe p slot) → IsPacket job p
observe_packet job v p slot (new, step) = step.1.is_packet

-- a packet that isn't active, and one that isn't launched
pub not_active : (job : Job) (v : StateValue) (p : ℕ) → ((state_of job v).phase p ≡ machine.Phase.Active → ⊥) → ActiveIdle job v p
not_active job v p n = record { read = λ i (new, step). n step.1; store = λ i (new, step). n step.1; complete = λ (new, step). n step.1 }

observe_launched : (job : Job) (v : StateValue) (p slot : ℕ) → Enabled job v (Observe p slot) → (state_of job v).phase p ≡ machine.Phase.Launched
observe_launched job v p slot (new, step) = step.3

pub not_launched : (job : Job) (v : StateValue) (p : ℕ) → ((state_of job v).phase p ≡ machine.Phase.Launched → ⊥) → WaitIdle job v p
not_launched job v p n = record { observe = λ slot e. n (observe_launched job v p slot e); enter = λ (new, step). n step.1 }

-- a packet that the job lacks
pub idle_past : (job : Job) (v : StateValue) (p : ℕ) → (IsPacket job p → ⊥) → PacketIdle job v p
idle_past job v p n = record {
  wait = record { observe = λ slot e. n (observe_packet job v p slot e); enter = λ (new, step). n step.0 };
  active = record { read = λ i (new, step). n step.0; store = λ i (new, step). n step.0; complete = λ (new, step). n step.0 };
  push = λ b (new, step). n step.1;
}

-- ---- all kinds

pub no_work_left : (job : Job) (v : StateValue) → (Enabled job v Submit → ⊥) → NoneOf job v Launch → ((p : ℕ) → PacketIdle job v p) → ((a : ℕ) → NoneOf job v (PushAgent a)) → NoWorkLeft job (state_of job v)
no_work_left job v submit launch packets agents Submit new work step = submit (new, step)
no_work_left job v submit launch packets agents (Launch q) new work step = launch q (new, step)
no_work_left job v submit launch packets agents (Observe p slot) new work step = (packets p).wait.observe slot (new, step)
no_work_left job v submit launch packets agents (Enter p) new work step = (packets p).wait.enter (new, step)
no_work_left job v submit launch packets agents (Event.Finish p) new work step = (packets p).active.complete (new, step)
no_work_left job v submit launch packets agents (Read p i) new work step = (packets p).active.read i (new, step)
no_work_left job v submit launch packets agents (Store p i) new work step = (packets p).active.store i (new, step)
no_work_left job v submit launch packets agents (PushLane p b) new work step = (packets p).push b (new, step)
no_work_left job v submit launch packets agents (PushAgent a b) new work step = agents a b (new, step)
no_work_left job v submit launch packets agents (Event.FillLane p b) new work step = true≢false (sym work)
no_work_left job v submit launch packets agents (Event.FillAgent a b) new work step = true≢false (sym work)
no_work_left job v submit launch packets agents (Event.DropLane p b) new work step = true≢false (sym work)
no_work_left job v submit launch packets agents (Event.DropAgent a b) new work step = true≢false (sym work)
