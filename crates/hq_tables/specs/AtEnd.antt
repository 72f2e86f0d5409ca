-- What the signals have against the tables that stand at the end of a text.
use Rattle.std.specs.Prelude.{ℕ, List, All}
use Rattle.hq_signals.specs.Table.{OpenSignal, IsUndershot, NeverReachesZero, IsFirst as IsFirstSignal}
use Rattle.hq_signals.specs.declared.fault.SignalFault.{SignalFault}
use Rattle.hq_signals.specs.declared.fault.SignalFault.TheVariants as signal
use Rattle.hq_tables.specs.declared.fault.Reason.{Reason}
use Rattle.hq_tables.specs.declared.fault.Reason.TheVariants as reason

-- What the signals have against a text that ends: one has too many decrementers, or else one that is waited on too few.
pub data RefusedAtEnd (signals : List OpenSignal) : Reason → Type 0 where
  undershoot : (handle : ℕ) → IsFirstSignal IsUndershot signals handle → RefusedAtEnd signals (reason.Undershoot handle)
  never_zero : (handle : ℕ) → All (λ s. ¬ IsUndershot s) signals → IsFirstSignal NeverReachesZero signals handle
      → RefusedAtEnd signals (reason.NeverZero handle)

-- a fault of the signals, as one of the text
abbrev pub signal_reason : SignalFault → Reason
signal_reason (signal.Undershoot handle) = reason.Undershoot handle
signal_reason (signal.NeverZero handle) = reason.NeverZero handle
