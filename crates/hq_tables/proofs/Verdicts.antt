-- What the table of signals answers, as a fault at the end of a text.
use Rattle.std.proofs.Common.{◌≡◌, ℕ, List, Result, Ok, Err, refl}
use Rattle.std.specs.Prelude.{All, IfErr, ◌↔◌}
use Rattle.hq_signals.specs.Table.{OpenSignal, IsUndershot, NeverReachesZero, IsFirst as IsFirstSignal}
use Rattle.hq_signals.specs.declared.fault.SignalFault.{SignalFault}
use Rattle.hq_signals.specs.declared.fault.SignalFault.TheVariants as signal
use Rattle.hq_tables.specs.AtEnd.{RefusedAtEnd, undershoot, never_zero, signal_reason}

pub told : (r : Result (Unit {0}) SignalFault) (signals : List OpenSignal) → ((handle : ℕ) → (r ≡ Err (signal.Undershoot handle)) ↔ IsFirstSignal IsUndershot signals handle)
    → ((handle : ℕ) → (r ≡ Err (signal.NeverZero handle)) ↔ (All (λ s. ¬ IsUndershot s) signals × IsFirstSignal NeverReachesZero signals handle)) → IfErr r (λ f. RefusedAtEnd signals (signal_reason f))
told (Ok u) signals under never = tt
told (Err (signal.Undershoot h)) signals under never = undershoot h ((under h).0 refl)
told (Err (signal.NeverZero h)) signals under never = let x = (never h).0 refl in never_zero h x.0 x.1
