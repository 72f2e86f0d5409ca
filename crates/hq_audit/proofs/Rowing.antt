-- Drafts that are made part by part.
use Rattle.std.proofs.Common.{◌≡◌, ℕ, zero, suc, ◌+◌, ◌<◌, ◌≤◌, ◌⊎◌, inl, inr, List, [], ◌∷◌, ◌++◌, length, sym, ◌∙◌, subst, arith, slice_index_or}
use Rattle.std.proofs.lemmas.Bool.{cases_eq, cases_lt}
use Rattle.hq_job.proofs.Grouped.{get_after}
use Rattle.hq_model.specs.Job.{Job}
use Rattle.hq_model.specs.Fence.{Conflict}
use Rattle.hq_audit.specs.declared.draft.Draft.{Draft}
use Rattle.hq_audit.specs.declared.drafting.Drafts.{Drafts}
use Rattle.hq_audit.specs.Drafted.{drafts_of, AreDrafts, Longer, DraftsJoin}
use Rattle.hq_audit.specs.Paired.{HasDraft, HasAll, RowPaired, RowsPaired}
use Rattle.hq_audit.specs.Refused.{ShownOneWay, RowShown}
use Rattle.hq_audit.specs.declared.spreading.Part.{Part}
use Rattle.hq_audit.specs.Rowed.{RowsBetween, ShownBetween, DraftsRows, AllMayDraft, MayDraft, AreJudged, AreRooms, DraftsUpto, DraftsAll}
use Rattle.hq_audit.proofs.Pairing.{one_later, longer_front}

-- ---- a part

pub rows_next : (job : Job) (from a : ℕ) (ps qs : List Draft) → RowsBetween job ps from a → Longer ps qs → RowPaired job qs a (length job.packets) → RowsBetween job qs from (a + 1)
rows_next job from a ps qs h l o = λ q s low upto above is. elim (cases_eq q a) [
  | inl e ↦ let above' : a < s = omega arith in subst (λ x. HasAll job qs x s ⊎ HasAll job qs s x) (sym e) (o s above' is is)
  | inr apart ↦ one_later job ps qs q s l (h q s low (omega arith) above is)
]

pub shown_next : (job : Job) (from a : ℕ) → ShownBetween job from a → RowShown job a (length job.packets) → ShownBetween job from (a + 1)
shown_next job from a h o = λ q s low upto above is. elim (cases_eq q a) [
  | inl e ↦ let above' : a < s = omega arith in subst (λ x. ShownOneWay job x s) (sym e) (o s above' is is)
  | inr apart ↦ h q s low (omega arith) above is
]

-- ---- one part behind another

pub upto_none : (job : Job) (drafts : Drafts) → AreDrafts job drafts → DraftsUpto job 0 drafts
upto_none job drafts are = record {
  are = are;
  paired = λ q s low above is. absurd (omega (arith, low));
  shown = λ q s low above is. absurd (omega (arith, low));
}

-- what is known of each part in a row
pub each_judged : (job : Job) (n : ℕ) (parts : List Part) (i : ℕ) (d : Part) → AreJudged job n parts → i < length parts → MayDraft job (n + i) (slice_index_or parts i d)
each_judged job n [] i d are low = absurd (omega (arith, low))
each_judged job n (p ∷ ps) zero d are low = let same : n ≡ n + 0 = omega arith in subst (λ k. MayDraft job k p) same are.0
each_judged job n (p ∷ ps) (suc i) d are low = let same : n + 1 + i ≡ n + suc i = omega arith in subst (λ k. MayDraft job k (slice_index_or ps i d)) same (each_judged job (n + 1) ps i d are.1 (omega (arith, low)))

pub all_judged : (job : Job) (parts : List Part) → AreJudged job 0 parts → AllMayDraft job parts
all_judged job parts are k d low = let same : 0 + k ≡ k = omega arith in subst (λ i. MayDraft job i (slice_index_or parts k d)) same (each_judged job 0 parts k d are low)

-- one more room
pub one_room : (job : Job) (ps : List Part) (p : Part) → AreRooms job ps → AreDrafts job p.drafts → AreRooms job (ps ++ p ∷ [])
one_room job [] p are is = (is, tt)
one_room job (q ∷ ps) p are is = (are.0, one_room job ps p are.1 is)

has_behind : (xs ys : List Draft) (p r : ℕ) (kind : Conflict) → HasDraft ys p r kind → HasDraft (xs ++ ys) p r kind
has_behind xs ys p r kind h = record { k = length xs + h.k; draft = h.draft; there = get_after xs ys h.k ∙ h.there; first = h.first; second = h.second; kind_is = h.kind_is }

one_behind : (job : Job) (xs ys : List Draft) (p r : ℕ) → HasAll job ys p r ⊎ HasAll job ys r p → HasAll job (xs ++ ys) p r ⊎ HasAll job (xs ++ ys) r p
one_behind job xs ys p r (inl h) = inl (λ kind c. has_behind xs ys p r kind (h kind c))
one_behind job xs ys p r (inr h) = inr (λ kind c. has_behind xs ys r p kind (h kind c))

rows_joined : (job : Job) (from to : ℕ) (xs ys : List Draft) → RowsPaired job xs from → RowsBetween job ys from to → RowsPaired job (xs ++ ys) to
rows_joined job from to xs ys h o = λ q s low above is. elim (cases_lt q from) [
  | inl below ↦ one_later job xs (xs ++ ys) q s (longer_front xs ys) (h q s below above is)
  | inr behind ↦ one_behind job xs ys q s (o q s behind low above is)
]

pub upto_joined : (job : Job) (from to : ℕ) (old part new : Drafts) → DraftsUpto job from old → DraftsRows job from to part → DraftsJoin job old part new → DraftsUpto job to new
upto_joined job from to old part new u c j = record {
  are = j.are;
  paired = subst (λ ds. RowsPaired job ds to) (sym j.joined) (rows_joined job from to (drafts_of old) (drafts_of part) u.paired c.paired);
  shown = λ q s low above is. elim (cases_lt q from) [
    | inl below ↦ u.shown q s below above is
    | inr behind ↦ c.shown q s behind low above is
  ];
}

-- those up to the last packet are all that there are
pub all_drafted : (job : Job) (drafts : Drafts) (to : ℕ) → length job.packets ≤ to → DraftsUpto job to drafts → DraftsAll job drafts
all_drafted job drafts to whole h = record {
  are = h.are;
  paired = λ q s above is. let low : s < length job.packets = is in h.paired q s (omega arith) above is;
  shown = λ q s above is. let low : s < length job.packets = is in h.shown q s (omega arith) above is;
}
