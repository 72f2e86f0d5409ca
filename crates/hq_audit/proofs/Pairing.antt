-- Drafts are added.
use Rattle.std.proofs.Common.{◌≡◌, ℕ, ◌+◌, ◌<◌, ◌⊎◌, inl, inr, List, [], ◌∷◌, ◌++◌, length, refl, sym, ◌∙◌, ap, subst, arith, Some, slice_get, Bool, true, false, ◌||◌}
use Rattle.std.specs.Prelude.{IsTrue, IsSome}
use Rattle.std.proofs.lemmas.Bool.{cases_eq}
use Rattle.std.proofs.lemmas.List.Elements.{All-push, All-append, All-nil}
use Rattle.std.proofs.lemmas.List.Folds.{list_any-append}
use Rattle.std.proofs.lemmas.Option.{slice_get_within}
use Rattle.hq_job.proofs.Grouped.{get_before, get_after}
use Rattle.hq_fence.specs.Judgement.{Shows}
use Rattle.hq_fence.specs.declared.shown.Shown.{Shown}
use Rattle.hq_model.specs.Job.{Job}
use Rattle.hq_model.specs.Fence.{Conflict, Conflicts}
use Rattle.hq_model.specs.Fence.Conflict.{WriteRead, WriteWrite, ReadWrite}
use Rattle.hq_derive.specs.Needed.{IsNeeded, Widens}
use Rattle.hq_audit.specs.declared.directed.Directed.{Directed}
use Rattle.hq_audit.specs.declared.draft.Draft.{Draft}
use Rattle.hq_audit.specs.declared.drafting.Drafts.{Drafts}
use Rattle.hq_audit.specs.Drafted.{drafts_of, any_chained, kind_by, is_chained, IsDraft, AllDrafts, AreDrafts, Longer, DraftsGo}
use Rattle.hq_audit.specs.Paired.{HasDraft, HasAll, RowPaired, RowsPaired}
use Rattle.hq_audit.specs.Refused.{IsDirected}
use Rattle.hq_audit.proofs.Resting.{drafts_more}

pub longer_same : (ps : List Draft) → Longer ps ps
longer_same ps = record { drafts = λ k draft e. e }

pub longer_more : (a b c : List Draft) → Longer a b → Longer b c → Longer a c
longer_more a b c g h = record { drafts = λ k draft e. h.drafts k draft (g.drafts k draft e) }

pub go_same : (job : Job) (d : Drafts) → AreDrafts job d → DraftsGo job d d
go_same job d h = record { are = h; longer = longer_same (drafts_of d) }

pub go_more : (job : Job) (a b c : Drafts) → DraftsGo job a b → DraftsGo job b c → DraftsGo job a c
go_more job a b c g h = record { are = h.are; longer = longer_more (drafts_of a) (drafts_of b) (drafts_of c) g.longer h.longer }

-- ---- one more

or_none : (b : Bool) → (b || false) ≡ b
or_none true = refl
or_none false = refl

-- more drafts stand behind those that were there
pub drafts_behind : (job : Job) (old new : Drafts) (more : List Draft) → AreDrafts job old → Widens job old.needs new.needs → AllDrafts job (IsNeeded new.needs) more
    → drafts_of new ≡ drafts_of old ++ more → new.chained ≡ (old.chained || any_chained more) → AreDrafts job new
drafts_behind job old new more are w is e f = record {
  room = w.room;
  each = subst (AllDrafts job (IsNeeded new.needs)) (sym e)
      (All-append (IsDraft job (IsNeeded new.needs)) (drafts_of old) more (drafts_more (IsNeeded old.needs) (IsNeeded new.needs) w.needed job (drafts_of old) are.each) is);
  chained = f ∙ ap (λ b. b || any_chained more) are.chained ∙ sym (list_any-append (λ (d : Draft). is_chained d.means) (drafts_of old) more) ∙ ap any_chained (sym e);
}

pub longer_front : (xs ys : List Draft) → Longer xs (xs ++ ys)
longer_front xs ys = record { drafts = λ k draft t. let low : k < length xs = slice_get_within xs k draft t in get_before xs ys k low ∙ t }

pub pushed_goes : (job : Job) (old new : Drafts) (draft : Draft) → AreDrafts job old → Widens job old.needs new.needs → IsDraft job (IsNeeded new.needs) draft
    → drafts_of new ≡ drafts_of old ++ draft ∷ [] → new.chained ≡ (old.chained || is_chained draft.means) → DraftsGo job old new
pushed_goes job old new draft are w is e f = record {
  are = drafts_behind job old new (draft ∷ []) are w (All-push (IsDraft job (IsNeeded new.needs)) [] draft (All-nil (IsDraft job (IsNeeded new.needs))) is) e (f ∙ ap (λ b. old.chained || b) (sym (or_none (is_chained draft.means))));
  longer = subst (Longer (drafts_of old)) (sym e) (longer_front (drafts_of old) (draft ∷ []));
}

last_there : (ps : List Draft) (x : Draft) → slice_get (ps ++ x ∷ []) (length ps) ≡ Some x
last_there ps x = let e : length ps ≡ length ps + 0 = omega arith in ap (slice_get (ps ++ x ∷ [])) e ∙ get_after ps (x ∷ []) 0

pub pushed_has : (ps qs : List Draft) (draft : Draft) → qs ≡ ps ++ draft ∷ [] → HasDraft qs draft.p draft.r (kind_by draft.means)
pushed_has ps qs draft e = record {
  k = length ps;
  draft = draft;
  there = ap (λ ds. slice_get ds (length ps)) e ∙ last_there ps draft;
  first = refl;
  second = refl;
  kind_is = refl;
}

pub has_later : (ps qs : List Draft) (p r : ℕ) (kind : Conflict) → Longer ps qs → HasDraft ps p r kind → HasDraft qs p r kind
has_later ps qs p r kind l h = record { k = h.k; draft = h.draft; there = l.drafts h.k h.draft h.there; first = h.first; second = h.second; kind_is = h.kind_is }

pub all_later : (job : Job) (ps qs : List Draft) (p r : ℕ) → Longer ps qs → HasAll job ps p r → HasAll job qs p r
all_later job ps qs p r l h = λ kind conflict. has_later ps qs p r kind l (h kind conflict)

pub shown_all : (job : Job) (ps qs rs : List Draft) (p r : ℕ) (shown : Shown) → Shows job p r shown
    → (IsSome shown.wr → HasDraft ps p r WriteRead) → Longer ps qs
    → (IsSome shown.ww → HasDraft qs p r WriteWrite) → Longer qs rs
    → (IsTrue shown.rw → HasDraft rs p r ReadWrite) → HasAll job rs p r
shown_all job ps qs rs p r shown s wr l ww m rw = λ kind. all kind
  where
    all : (kind : Conflict) → Conflicts job kind p r → HasDraft rs p r kind
    all WriteRead c = has_later qs rs p r WriteRead m (has_later ps qs p r WriteRead l (wr (s.has_wr.1 c)))
    all WriteWrite c = has_later qs rs p r WriteWrite m (ww (s.has_ww.1 c))
    all ReadWrite c = rw (s.has_rw.1 c)

-- ---- in one direction

pub one_of : (job : Job) (a b : ℕ) (d : Directed) (ps : List Draft) → IsDirected job a b d → HasAll job ps d.first d.second → HasAll job ps a b ⊎ HasAll job ps b a
one_of job a b d ps i h = elim i.which [
  | inl w ↦ inl (subst (λ x. HasAll job ps x b) w.0 (subst (λ x. HasAll job ps d.first x) w.1 h))
  | inr w ↦ inr (subst (λ x. HasAll job ps x a) w.0 (subst (λ x. HasAll job ps d.first x) w.1 h))
]

pub one_later : (job : Job) (ps qs : List Draft) (p r : ℕ) → Longer ps qs → HasAll job ps p r ⊎ HasAll job ps r p → HasAll job qs p r ⊎ HasAll job qs r p
one_later job ps qs p r l (inl h) = inl (all_later job ps qs p r l h)
one_later job ps qs p r l (inr h) = inr (all_later job ps qs r p l h)

pub row_paired_next : (job : Job) (a b : ℕ) (ps qs : List Draft) → RowPaired job ps a b → Longer ps qs → HasAll job qs a b ⊎ HasAll job qs b a → RowPaired job qs a (b + 1)
row_paired_next job a b ps qs h l o = λ s above low is. elim (cases_eq s b) [
  | inl e ↦ subst (λ x. HasAll job qs a x ⊎ HasAll job qs x a) (sym e) o
  | inr apart ↦ one_later job ps qs a s l (h s above (omega arith) is)
]

pub rows_paired_next : (job : Job) (a : ℕ) (ps qs : List Draft) → RowsPaired job ps a → Longer ps qs → RowPaired job qs a (length job.packets) → RowsPaired job qs (a + 1)
rows_paired_next job a ps qs h l o = λ q s low above is. elim (cases_eq q a) [
  | inl e ↦ let above' : a < s = omega arith in subst (λ x. HasAll job qs x s ⊎ HasAll job qs s x) (sym e) (o s above' is is)
  | inr apart ↦ one_later job ps qs q s l (h q s (omega arith) above is)
]
