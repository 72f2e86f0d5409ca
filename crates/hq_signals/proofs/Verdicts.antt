-- What two searches say of the verdict.
use Rattle.std.proofs.Common.{◌≡◌, ℕ, ◌↔◌, List, Option, Some, None, Result, Ok, Err, All, refl, ap, true≢false}
use Rattle.hq_signals.specs.Table.{OpenSignal, IsUndershot, NeverReachesZero, IsFirst, Finds}
use Rattle.hq_signals.specs.declared.fault.SignalFault.{SignalFault}
use Rattle.hq_signals.specs.declared.fault.SignalFault.TheVariants.{Undershoot, NeverZero}

-- the verdict, by the first undershot signal and the first that never reaches 0
abbrev pub verdict_by : Option ℕ → Option ℕ → Result (Unit {0}) SignalFault
verdict_by (Some h) short = Err (Undershoot h)
verdict_by None (Some h) = Err (NeverZero h)
verdict_by None None = Ok tt

pub undershoot : (table : List OpenSignal) (over short : Option ℕ) → Finds IsUndershot table over → (h : ℕ) → (verdict_by over short ≡ Err (Undershoot h)) ↔ IsFirst IsUndershot table h
undershoot table (Some k) short found h = (
  λ e. (found.first h).0 (let same : k ≡ h = cc in ap (λ n. Some n) same),
  λ f. let e = (found.first h).1 f in let same : k ≡ h = cc in ap (λ n. Err (Undershoot n)) same,
)
undershoot table None (Some k) found h = (λ e. absurd cc, λ f. let e = (found.first h).1 f in absurd cc)
undershoot table None None found h = (λ e. absurd cc, λ f. let e = (found.first h).1 f in absurd cc)

pub never_zero : (table : List OpenSignal) (over short : Option ℕ) → Finds IsUndershot table over → Finds NeverReachesZero table short → (h : ℕ)
    → (verdict_by over short ≡ Err (NeverZero h)) ↔ (All (λ s. ¬ (IsUndershot s)) table × IsFirst NeverReachesZero table h)
never_zero table (Some k) short found shorts h = (λ e. absurd cc, λ p. absurd (true≢false (found.none.1 p.0)))
never_zero table None (Some k) found shorts h = (
  λ e. (found.none.0 refl, (shorts.first h).0 (let same : k ≡ h = cc in ap (λ n. Some n) same)),
  λ p. let e = (shorts.first h).1 p.1 in let same : k ≡ h = cc in ap (λ n. Err (NeverZero n)) same,
)
never_zero table None None found shorts h = (λ e. absurd cc, λ p. let e = (shorts.first h).1 p.1 in absurd cc)
