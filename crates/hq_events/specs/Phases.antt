-- The phases of the code as those of the model.
use Rattle.std.specs.Prelude.{◌≡◌, ℕ, zero, suc, refl}
use Rattle.std.specs.Coded.{Coded, code_by, coded_ℕ}
use Rattle.hq_events.specs.declared.phase.Phase.{Phase}
use Rattle.hq_events.specs.declared.phase.Phase.TheVariants as own
use Rattle.hq_model.specs.Machine as machine

-- a phase of the code is one of the model
abbrev pub named : Phase → machine.Phase
named own.Waiting = machine.Phase.Waiting
named own.InQueue = machine.Phase.InQueue
named own.Launched = machine.Phase.Launched
named own.Active = machine.Phase.Active
named own.Complete = machine.Phase.Complete

-- ---- how the phases are told apart

-- the number of a phase
abbrev pub phase_number : machine.Phase → ℕ
phase_number machine.Phase.Waiting = 0
phase_number machine.Phase.InQueue = 1
phase_number machine.Phase.Launched = 2
phase_number machine.Phase.Active = 3
phase_number machine.Phase.Complete = 4

-- the phase of a number; every number past the fourth is the last one's
abbrev pub numbered_phase : ℕ → machine.Phase
numbered_phase zero = machine.Phase.Waiting
numbered_phase (suc zero) = machine.Phase.InQueue
numbered_phase (suc (suc zero)) = machine.Phase.Launched
numbered_phase (suc (suc (suc zero))) = machine.Phase.Active
numbered_phase (suc (suc (suc (suc n)))) = machine.Phase.Complete

-- The phase of a phase's number is that phase.
pub phase_again : (phase : machine.Phase) → numbered_phase (phase_number phase) ≡ phase
phase_again machine.Phase.Waiting = refl
phase_again machine.Phase.InQueue = refl
phase_again machine.Phase.Launched = refl
phase_again machine.Phase.Active = refl
phase_again machine.Phase.Complete = refl

-- phases are told apart by their numbers
abbrev pub phase_code : Coded machine.Phase
phase_code = code_by ℕ coded_ℕ phase_number numbered_phase phase_again
