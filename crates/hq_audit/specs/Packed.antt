-- Drafts in one number each.
use Rattle.std.specs.Prelude.{ℕ, ◌/◌, ◌%◌, ◌<◌, zero, suc}
use Rattle.hq_model.specs.declared.limits.TheConstants.{PACKETS}
use Rattle.hq_fence.specs.declared.shown.Release.{Release}
use Rattle.hq_fence.specs.declared.shown.Release.TheVariants as release
use Rattle.hq_fence.specs.declared.shown.Acquire.{Acquire}
use Rattle.hq_fence.specs.declared.shown.Acquire.TheVariants as acquire
use Rattle.hq_audit.specs.declared.draft.Draft.{Draft}
use Rattle.hq_audit.specs.declared.draft.Means.{Means}
use Rattle.hq_audit.specs.declared.draft.Means.TheVariants.{ReadWrite, WriteWrite, WriteRead}
use Rattle.hq_audit.specs.declared.packed.Packed.{Packed}

-- the numbers fit in ten bits
abbrev pub IsSmallRelease : Release → Type 0
IsSmallRelease (release.Alone x) = x < PACKETS
IsSmallRelease (release.Chained x x2) = (x < PACKETS) × (x2 < PACKETS)

-- so do those of an acquire
abbrev pub IsSmallAcquire : Acquire → Type 0
IsSmallAcquire (acquire.Alone y) = y < PACKETS
IsSmallAcquire (acquire.Chained y2 y) = (y2 < PACKETS) × (y < PACKETS)

-- so do those of all fences
abbrev pub AreSmall : Means → Type 0
AreSmall ReadWrite = Unit {0}
AreSmall (WriteWrite release) = IsSmallRelease release
AreSmall (WriteRead release acquire) = IsSmallRelease release × IsSmallAcquire acquire

-- All packets of the draft have numbers that fit in ten bits.
pub record IsSmall (draft : Draft) : Type 0 where
  pub p_is : draft.p < PACKETS
  pub r_is : draft.r < PACKETS
  pub means : AreSmall draft.means

-- what orders a conflict, by its form and the packets of its fences
abbrev pub means_by : (form x y x2 y2 : ℕ) → Means
means_by zero x y x2 y2 = ReadWrite
means_by (suc zero) x y x2 y2 = WriteWrite (release.Alone x)
means_by (suc (suc zero)) x y x2 y2 = WriteWrite (release.Chained x x2)
means_by (suc (suc (suc zero))) x y x2 y2 = WriteRead (release.Alone x) (acquire.Alone y)
means_by (suc (suc (suc (suc zero)))) x y x2 y2 = WriteRead (release.Chained x x2) (acquire.Alone y)
means_by (suc (suc (suc (suc (suc zero))))) x y x2 y2 = WriteRead (release.Alone x) (acquire.Chained y2 y)
means_by (suc (suc (suc (suc (suc (suc form)))))) x y x2 y2 = WriteRead (release.Chained x x2) (acquire.Chained y2 y)

-- the draft of packets in ten bits each
abbrev pub draft_by : (form packets : ℕ) → Draft
draft_by form packets =
    let fences = packets / 1024 / 1024 in
    let chained = fences / 1024 / 1024 in
    record {
      p = packets % 1024;
      r = packets / 1024 % 1024;
      means = means_by form (fences % 1024) (fences / 1024 % 1024) (chained % 1024) (chained / 1024 % 1024);
    }

-- the draft that the number is for
abbrev pub unpacked : Packed → Draft
unpacked packed = draft_by (packed.word % 16) (packed.word / 16)
