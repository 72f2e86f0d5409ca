-- One signal, as contracts see it.
-- Restates "Signaling and synchronization" of the HSA Platform System Architecture Specification 1.2, for signals that
-- start at 0 or more and that only completions change: each takes one from the value.
use Rattle.std.specs.Prelude.{ℕ, ◌+◌, ◌-◌}

-- the value that a signal started with, and how often it was decremented
pub record SignalState : Type 0 where
  pub start : ℕ
  pub decrements : ℕ

-- a signal that was not decremented yet
abbrev pub started : ℕ → SignalState
started start = record { start = start; decrements = 0 }

-- its value: the start less the decrements
abbrev pub value_of : SignalState → ℕ
value_of s = s.start - s.decrements

-- the signal after one decrement more
abbrev pub decremented : SignalState → SignalState
decremented s = record s { decrements = s.decrements + 1 }
