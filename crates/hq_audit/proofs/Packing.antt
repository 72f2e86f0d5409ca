-- Drafts are packed in numbers.
use Rattle.std.proofs.Common.{◌≡◌, ℕ, ◌+◌, ◌*◌, ◌/◌, ◌%◌, ◌<◌, ◌≤◌, length, refl, ◌∙◌, ap, arith}
use Rattle.hq_fence.specs.declared.shown.Release.{Release}
use Rattle.hq_fence.specs.declared.shown.Release.TheVariants as release
use Rattle.hq_fence.specs.declared.shown.Acquire.{Acquire}
use Rattle.hq_fence.specs.declared.shown.Acquire.TheVariants as acquire
use Rattle.hq_fence.specs.Judgement.{IsRelease, IsAcquire}
use Rattle.hq_model.specs.Job.{Job, IsPacket}
use Rattle.hq_audit.specs.declared.draft.Draft.{Draft}
use Rattle.hq_audit.specs.declared.draft.Means.{Means}
use Rattle.hq_audit.specs.declared.draft.Means.TheVariants.{ReadWrite, WriteWrite, WriteRead}
use Rattle.hq_audit.specs.declared.packed.Packed.{Packed}
use Rattle.hq_audit.specs.Drafted.{OrderedBy}
use Rattle.hq_audit.specs.Packed.{IsSmallRelease, IsSmallAcquire, AreSmall, IsSmall, means_by, draft_by, unpacked}
use Rattle.hq_audit.proofs.Resting.{released_alone, released_first, released_last, acquired_alone, acquired_first, acquired_last}

-- ---- numbers

-- a packet's number in the last ten bits, with a number ahead of it
abbrev pub ten : ℕ → ℕ → ℕ
ten packet rest = packet + 1024 * rest

last : (k rest : ℕ) → k < 1024 → ten k rest % 1024 ≡ k
last k rest low = omega arith

ahead : (k rest : ℕ) → k < 1024 → ten k rest / 1024 ≡ rest
ahead k rest low = omega arith

pub draft_is : (form p r x y x2 y2 : ℕ) → p < 1024 → r < 1024 → x < 1024 → y < 1024 → x2 < 1024 → y2 < 1024
    → draft_by form (ten p (ten r (ten x (ten y (ten x2 y2))))) ≡ record { p = p; r = r; means = means_by form x y x2 y2 }
draft_is form p r x y x2 y2 lp lr lx ly lx2 ly2 =
    let fences = ten x (ten y (ten x2 y2)) in
    let second = ahead p (ten r fences) lp in
    let third = ap (λ n. n / 1024) second ∙ ahead r fences lr in
    let fourth = ap (λ n. n / 1024) third ∙ ahead x (ten y (ten x2 y2)) lx in
    let fifth = ap (λ n. n / 1024) fourth ∙ ahead y (ten x2 y2) ly in
    let sixth = ap (λ n. n / 1024) fifth ∙ ahead x2 y2 lx2 in
    let whole : y2 % 1024 ≡ y2 = omega (arith, ly2) in
    same form (last p (ten r fences) lp) (ap (λ n. n % 1024) second ∙ last r fences lr) (ap (λ n. n % 1024) third ∙ last x (ten y (ten x2 y2)) lx) (ap (λ n. n % 1024) fourth ∙ last y (ten x2 y2) ly) (ap (λ n. n % 1024) fifth ∙ last x2 y2 lx2) (ap (λ n. n % 1024) sixth ∙ whole)
  where
    made : (f p r x y x2 y2 : ℕ) → Draft
    made f p r x y x2 y2 = record { p = p; r = r; means = means_by f x y x2 y2 }

    same : (f : ℕ) {a a' b b' c c' d d' e e' g g' : ℕ} → a ≡ a' → b ≡ b' → c ≡ c' → d ≡ d' → e ≡ e' → g ≡ g' → made f a b c d e g ≡ made f a' b' c' d' e' g'
    same f h i j k l m = rw (h, i, j, k, l, m) refl

pub packed_is : (packed : Packed) (form p r x y x2 y2 : ℕ) → form < 16 → p < 1024 → r < 1024 → x < 1024 → y < 1024 → x2 < 1024 → y2 < 1024
    → packed.word ≡ form + 16 * (p + 1024 * (r + 1024 * (x + 1024 * (y + 1024 * (x2 + 1024 * y2))))) → unpacked packed ≡ record { p = p; r = r; means = means_by form x y x2 y2 }
packed_is packed form p r x y x2 y2 low lp lr lx ly lx2 ly2 is =
    let rest = ten p (ten r (ten x (ten y (ten x2 y2)))) in
    let first : packed.word % 16 ≡ form = omega (arith, low, is) in
    let second : packed.word / 16 ≡ rest = omega (arith, low, is) in
    ap (λ f. draft_by f (packed.word / 16)) first ∙ ap (draft_by form) second ∙ draft_is form p r x y x2 y2 lp lr lx ly lx2 ly2

-- ---- packets have small numbers

small_release : (job : Job) (p r : ℕ) (x : Release) → length job.packets ≤ 1024 → IsPacket job p → IsRelease job p r x → IsSmallRelease x
small_release job p r (release.Alone x) few is h = let low : x < length job.packets = released_alone job p r x h is in omega (arith, few, low)
small_release job p r (release.Chained x x2) few is h =
    let low : x < length job.packets = released_first job p r x x2 h is in
    let low2 : x2 < length job.packets = released_last job p r x x2 h in
    (omega (arith, few, low), omega (arith, few, low2))

small_acquire : (job : Job) (p r : ℕ) (y : Acquire) → length job.packets ≤ 1024 → IsPacket job r → IsAcquire job p r y → IsSmallAcquire y
small_acquire job p r (acquire.Alone y) few is h = let low : y < length job.packets = acquired_alone job p r y h is in omega (arith, few, low)
small_acquire job p r (acquire.Chained y2 y) few is h =
    let low2 : y2 < length job.packets = acquired_first job p r y2 y h in
    let low : y < length job.packets = acquired_last job p r y2 y h is in
    (omega (arith, few, low2), omega (arith, few, low))

small_means : (job : Job) (p r : ℕ) (means : Means) → length job.packets ≤ 1024 → IsPacket job p → IsPacket job r → OrderedBy job p r means → AreSmall means
small_means job p r ReadWrite few p_is r_is o = tt
small_means job p r (WriteWrite released) few p_is r_is o = small_release job p r released few p_is o.release
small_means job p r (WriteRead released acquired) few p_is r_is o = (small_release job p r released few p_is o.release, small_acquire job p r acquired few r_is o.acquire)

pub small_draft : (job : Job) (draft : Draft) → length job.packets ≤ 1024 → IsPacket job draft.p → IsPacket job draft.r → OrderedBy job draft.p draft.r draft.means → IsSmall draft
small_draft job draft few p_is r_is o = record {
  p_is = let low : draft.p < length job.packets = p_is in omega (arith, few, low);
  r_is = let low : draft.r < length job.packets = r_is in omega (arith, few, low);
  means = small_means job draft.p draft.r draft.means few p_is r_is o;
}
