-- What work is left.
use Rattle.std.specs.Prelude.{◌≡◌, ℕ, IsTrue}
use Rattle.hq_model.specs.Job.{Job}
use Rattle.hq_model.specs.Machine as machine
use Rattle.hq_model.specs.Machine.{is_work}
use Rattle.hq_model.specs.Journal.Coarse.{One}
use Rattle.hq_machine.specs.Enabled.{Enabled}
use Rattle.hq_machine.specs.State.{StateValue}
use Rattle.hq_events.specs.Events.{coarse_of}
use Rattle.hq_events.specs.declared.event.Event.{Event}

-- The event is a single step of work that is enabled.
abbrev pub IsLeft : Job → StateValue → Event → Type 0
IsLeft job v event = (step : machine.Event) × (coarse_of event ≡ One step) × IsTrue (is_work step) × Enabled job v step

-- None of these steps is enabled.
abbrev pub NoneOf : Job → StateValue → (ℕ → machine.Event) → Type 0
NoneOf job v step = (n : ℕ) → Enabled job v (step n) → ⊥

-- No step that ends the packet's wait is enabled.
pub record WaitIdle (job : Job) (v : StateValue) (p : ℕ) : Type 0 where
  pub observe : NoneOf job v (machine.Event.Observe p)
  pub enter : Enabled job v (machine.Event.Enter p) → ⊥

-- No read and no store of the packet is enabled, nor its completion.
pub record ActiveIdle (job : Job) (v : StateValue) (p : ℕ) : Type 0 where
  pub read : NoneOf job v (machine.Event.Read p)
  pub store : NoneOf job v (machine.Event.Store p)
  pub complete : Enabled job v (machine.Event.Finish p) → ⊥

-- No step of the packet's own is enabled, nor a push from its lane.
pub record PacketIdle (job : Job) (v : StateValue) (p : ℕ) : Type 0 where
  pub wait : WaitIdle job v p
  pub active : ActiveIdle job v p
  pub push : NoneOf job v (machine.Event.PushLane p)
