-- Drafts get the numbers of the lines that they cite, one by one.
use Rattle.std.proofs.Common.{◌≡◌, ℕ, ◌+◌, ◌<◌, length, refl, sym, ◌∙◌, ap, subst, List, [], ◌∷◌, ◌++◌, Option, Some, None, slice_get, slice_index_or, take, map, append_assoc, append-nil, arith}
use Rattle.std.specs.Prelude.{All, MatchOption}
use Rattle.std.specs.Option.{IsSomeAnd}
use Rattle.std.proofs.lemmas.List.{take_more, map-append, get_or-map, length-map}
use Rattle.std.proofs.lemmas.Option.{slice_get-get_or}
use Rattle.std.proofs.lemmas.Slice.Zip.{AllZip-left, AllZip-right}
use Rattle.std.specs.Global.{Vec}
use Rattle.hq_cert.specs.declared.certificate.Pair.{Pair}
use Rattle.hq_cert.specs.View.{pair_of}
use Rattle.hq_derive.proofs.Branching.{zip_push}
use Rattle.hq_model.specs.Job.{Job, IsPacket}
use Rattle.hq_model.specs.Fence.{Conflict}
use Rattle.hq_model.specs.Certificate as model
use Rattle.hq_model.specs.Certificate.{FencesHold, PairHolds, HasPair}
use Rattle.hq_audit.specs.declared.draft.Draft.{Draft}
use Rattle.hq_audit.specs.declared.packed.Packed.{Packed}
use Rattle.hq_audit.specs.Packed.{unpacked}
use Rattle.hq_audit.specs.Paired.{pairs_of, HasDraft, IsPairOf, ArePairsOf, PairsGo}

some_and : {X : Type 0} (o : Option X) (P : X → Type 0) → IsSomeAnd o P → (x : X) × (o ≡ Some x) × P x
some_and None P h = absurd h
some_and (Some x) P h = (x, refl, h)

-- the pair line of a draft, and the draft of a pair line
pub pair_at : (job : Job) (lines : List model.Line) (drafts : List Draft) (pairs : List model.Pair) (k : ℕ) (draft : Draft) → ArePairsOf job lines drafts pairs → slice_get drafts k ≡ Some draft
    → (pair : model.Pair) × (slice_get pairs k ≡ Some pair) × IsPairOf job lines draft pair
pair_at job lines drafts pairs k draft h e =
    some_and (slice_get pairs k) (IsPairOf job lines draft)
    (subst (λ o. MatchOption o (Unit {0}) (λ x. IsSomeAnd (slice_get pairs k) (IsPairOf job lines x))) e (AllZip-left (IsPairOf job lines) drafts pairs h k))

draft_at : (job : Job) (lines : List model.Line) (drafts : List Draft) (pairs : List model.Pair) (k : ℕ) (pair : model.Pair) → ArePairsOf job lines drafts pairs → slice_get pairs k ≡ Some pair
    → (draft : Draft) × (slice_get drafts k ≡ Some draft) × IsPairOf job lines draft pair
draft_at job lines drafts pairs k pair h e =
    some_and (slice_get drafts k) (λ x. IsPairOf job lines x pair)
    (subst (λ o. MatchOption o (Unit {0}) (λ y. IsSomeAnd (slice_get drafts k) (λ x. IsPairOf job lines x y))) e (AllZip-right (IsPairOf job lines) drafts pairs h k))

hold_of : (job : Job) (lines : List model.Line) (draft : Draft) (pair : model.Pair) → IsPairOf job lines draft pair → PairHolds job lines pair
hold_of job lines draft pair i = (
  subst (IsPacket job) (sym i.first) i.p_is,
  subst (IsPacket job) (sym i.second) i.r_is,
  subst (λ p. FencesHold job lines p pair.r pair.fences) (sym i.first) (subst (λ r. FencesHold job lines draft.p r pair.fences) (sym i.second) i.holds.hold),
)

pub all_hold : (job : Job) (lines : List model.Line) (drafts : List Draft) (pairs : List model.Pair) → ArePairsOf job lines drafts pairs → All (PairHolds job lines) pairs
all_hold job lines drafts pairs h = λ k d low.
    let pair = slice_index_or pairs k d in
    let f = draft_at job lines drafts pairs k pair h (slice_get-get_or pairs k d low) in
    hold_of job lines f.0 pair f.2

pub has_pair : (job : Job) (lines : List model.Line) (drafts : List Draft) (pairs : List model.Pair) (p r : ℕ) (kind : Conflict) → ArePairsOf job lines drafts pairs
    → HasDraft drafts p r kind → HasPair pairs p r kind
has_pair job lines drafts pairs p r kind h d =
    let f = pair_at job lines drafts pairs d.k d.draft h d.there in
    record {
      k = d.k;
      pair = f.0;
      there = f.1;
      is_for = record { first = f.2.first ∙ d.first; second = f.2.second ∙ d.second; kind_is = f.2.holds.kind_is ∙ d.kind_is };
    }

-- ---- one more

pub pairs_push : (v w : Vec Pair) (x : Pair) → w.items ≡ v.items ++ x ∷ [] → pairs_of w ≡ pairs_of v ++ pair_of x ∷ []
pairs_push v w x e = ap (map pair_of) e ∙ map-append pair_of v.items (x ∷ [])

pub cited_more : (job : Job) (lines : List model.Line) (drafts : List Draft) (pairs : List model.Pair) (i : ℕ) (d : Draft) (pair : model.Pair) → i < length drafts → ArePairsOf job lines (take i drafts) pairs
    → IsPairOf job lines (slice_index_or drafts i d) pair → ArePairsOf job lines (take (i + 1) drafts) (pairs ++ pair ∷ [])
cited_more job lines drafts pairs i d pair low h is =
    subst (λ ds. ArePairsOf job lines ds (pairs ++ pair ∷ [])) (sym (take_more drafts i d low))
    (zip_push (IsPairOf job lines) (take i drafts) pairs (slice_index_or drafts i d) pair h is)

-- the pair line of a draft that stands in one number
pub packed_pair : (job : Job) (lines : List model.Line) (drafts : List Packed) (i : ℕ) (d : Packed) (x : Draft) (pair : model.Pair) → i < length drafts → x ≡ unpacked (slice_index_or drafts i d) → IsPairOf job lines x pair
    → IsPairOf job lines (slice_index_or (map unpacked drafts) i x) pair
packed_pair job lines drafts i d x pair low e is = subst (λ y. IsPairOf job lines y pair) (e ∙ sym (get_or-map unpacked drafts i d x low)) is

pub packed_draft : (P : Draft → Type 0) (drafts : List Packed) (i : ℕ) (d : Packed) (x : Draft) → i < length drafts → x ≡ unpacked (slice_index_or drafts i d) → All P (map unpacked drafts) → P x
packed_draft P drafts i d x low e all =
    subst P (get_or-map unpacked drafts i d x low ∙ sym e) (all i x (omega (arith, low, length-map drafts unpacked)))

pub pairs_none : (job : Job) (lines : List model.Line) (v : Vec Pair) → PairsGo job lines [] v v
pairs_none job lines v = λ others are. subst (λ ds. ArePairsOf job lines ds (pairs_of v)) (sym (append-nil others)) are

pub pairs_go : (job : Job) (lines : List model.Line) (drafts : List Draft) (i : ℕ) (d : Draft) (x : Pair) (u v w : Vec Pair) → i < length drafts → PairsGo job lines (take i drafts) u v
    → IsPairOf job lines (slice_index_or drafts i d) (pair_of x) → w.items ≡ v.items ++ x ∷ [] → PairsGo job lines (take (i + 1) drafts) u w
pairs_go job lines drafts i d x u v w low go is e = λ others are.
    let last = slice_index_or drafts i d in
    let all : (others ++ take i drafts) ++ last ∷ [] ≡ others ++ take (i + 1) drafts = append_assoc others (take i drafts) (last ∷ []) ∙ ap (λ ds. others ++ ds) (sym (take_more drafts i d low)) in
    subst (ArePairsOf job lines (others ++ take (i + 1) drafts)) (sym (pairs_push v w x e))
    (subst (λ ds. ArePairsOf job lines ds (pairs_of v ++ pair_of x ∷ [])) all (zip_push (IsPairOf job lines) (others ++ take i drafts) (pairs_of v) last (pair_of x) (go others are) is))
