-- Lines that conclude the same, by whatever rules: what follows from the ones follows from the others.
use Rattle.std.proofs.Common.{◌≡◌, ℕ, zero, suc, ◌<◌, List, [], ◌∷◌, length, map, refl, sym, ◌∙◌, ap, subst, Option, None, Some, MatchOption, slice_get, All, slice_index_or}
use Rattle.std.specs.List.{AllZip}
use Rattle.std.proofs.lemmas.List.{length-map}
use Rattle.hq_model.specs.Job.{Job, Decrements, packet}
use Rattle.hq_model.specs.Certificate.{Line, Rule, Fences, Pair, Says, Cites, Follows, ReleaseHolds, AcquireHolds, FencesHold, signals, PairHolds}
use Rattle.hq_model.specs.Certificate.Rule.{Bit, Queue, And, Or, Through}
use Rattle.hq_model.specs.Certificate.Fences.{ForReadWrite, ForWriteWrite, ForWriteRead, ForWriteWriteChained, ForWriteReadChained}
use Rattle.hq_certcheck.specs.declared.conclusion.Conclusion.{Conclusion}
use Rattle.hq_certcheck.specs.Concluded.{conclusion_of, bare}
use Rattle.hq_ordercheck.proofs.Options.{some_same}
use Rattle.hq_certcheck.specs.Listed.{FirstBadPair}

-- ---- what is concluded, and lines that conclude it

pub bare_concludes : (cs : List Conclusion) → map conclusion_of (map bare cs) ≡ cs
bare_concludes [] = refl
bare_concludes (c ∷ cs) = ap (λ rest. c ∷ rest) (bare_concludes cs)

head_or : Conclusion → List Conclusion → Conclusion
head_or d [] = d
head_or d (c ∷ cs) = c

others_of : List Conclusion → List Conclusion
others_of [] = []
others_of (c ∷ cs) = cs

pub record There (others : List Line) (k : ℕ) (line : Line) : Type 0 where
  pub other : Line
  pub there : slice_get others k ≡ Some other
  pub same : conclusion_of line ≡ conclusion_of other

-- the line at the same place concludes the same
line_there : (lines others : List Line) (k : ℕ) (line : Line) → map conclusion_of lines ≡ map conclusion_of others → slice_get lines k ≡ Some line → There others k line
unfolding head_or others_of
line_there [] others k line e h = absurd cc
line_there (x ∷ lines) [] k line e h = absurd cc
line_there (x ∷ lines) (y ∷ others) zero line e h =
    record {
      other = y;
      there = refl;
      same = subst (λ z. conclusion_of z ≡ conclusion_of y) (some_same x line h) (ap (head_or (conclusion_of x)) e);
    }
line_there (x ∷ lines) (y ∷ others) (suc k) line e h =
    let t = line_there lines others k line (ap others_of e) h in record { other = t.other; there = t.there; same = t.same }

pub as_long : (lines others : List Line) → map conclusion_of lines ≡ map conclusion_of others → length lines ≡ length others
as_long lines others e = sym (length-map lines conclusion_of) ∙ ap length e ∙ length-map others conclusion_of

-- what lines conclude that stand below a limit, these conclude too
abbrev pub Agree : List Line → List Line → ℕ → Type 0
Agree lines others limit = (k : ℕ) (line : Line) → k < limit → slice_get lines k ≡ Some line → There others k line

module _ (lines others : List Line) (limit : ℕ) (agree : Agree lines others limit) where
  pub says_agreed : (k p r : ℕ) → Says lines limit k p r → Says others limit k p r
  says_agreed k p r s =
      let t = agree k s.line s.lower s.there in record {
        lower = s.lower;
        line = t.other;
        there = t.there;
        first = ap (λ (c : Conclusion). c.p) (sym t.same) ∙ s.first;
        second = ap (λ (c : Conclusion). c.r) (sym t.same) ∙ s.second;
      }

  cites_agreed : (citation : Option ℕ) (p r : ℕ) → Cites lines limit citation p r → Cites others limit citation p r
  cites_agreed None p r h = h
  cites_agreed (Some k) p r h = says_agreed k p r h

  branches_agreed : (job : Job) (p : ℕ) (ss : List ℕ) (branches : List (Option ℕ)) → AllZip (λ s branch. (d : ℕ) × Decrements job d s × Cites lines limit branch p d) ss branches
      → AllZip (λ s branch. (d : ℕ) × Decrements job d s × Cites others limit branch p d) ss branches
  branches_agreed job p [] [] h = h
  branches_agreed job p [] (b ∷ bs) h = h
  branches_agreed job p (s ∷ ss) [] h = h
  branches_agreed job p (s ∷ ss) (b ∷ bs) h = ((h.0.0, h.0.1, cites_agreed b p h.0.0 h.0.2), branches_agreed job p ss bs h.1)

  pub follows_agreed : (job : Job) (p r : ℕ) (rule : Rule) → Follows job lines limit p r rule → Follows job others limit p r rule
  follows_agreed job p r (Bit j) h = h
  follows_agreed job p r Queue h = h
  follows_agreed job p r (And slot) h = h
  follows_agreed job p r (Or branches) h = (h.0, h.1, branches_agreed job p (signals (packet job r).deps) branches h.2)
  follows_agreed job p r (Through first second) h = (h.0, says_agreed first p h.0 h.1, says_agreed second h.0 r h.2)

-- ---- lines that conclude the same

module _ (lines others : List Line) (alike : map conclusion_of lines ≡ map conclusion_of others) where
  pub they_agree : (limit : ℕ) → Agree lines others limit
  they_agree limit k line low there = line_there lines others k line alike there

  -- by all lines
  said : (k p r : ℕ) → Says lines (length lines) k p r → Says others (length others) k p r
  said k p r s = subst (λ n. Says others n k p r) (as_long lines others alike) (says_agreed lines others (length lines) (they_agree (length lines)) k p r s)

  cited : (citation : Option ℕ) (p r : ℕ) → Cites lines (length lines) citation p r → Cites others (length others) citation p r
  cited None p r h = h
  cited (Some k) p r h = said k p r h

  released : (job : Job) (p r x x2 : ℕ) (link : Option ℕ) → ReleaseHolds job lines p r x x2 link → ReleaseHolds job others p r x x2 link
  released job p r x x2 None h = h
  released job p r x x2 (Some link) h = (h.0, h.1, said link x x2 h.2, h.3)

  acquired : (job : Job) (p r y2 y : ℕ) (link : Option ℕ) → AcquireHolds job lines p r y2 y link → AcquireHolds job others p r y2 y link
  acquired job p r y2 y None h = h
  acquired job p r y2 y (Some link) h = (h.0, h.1, said link y2 y h.2, h.3)

  fences_alike : (job : Job) (p r : ℕ) (fences : Fences) → FencesHold job lines p r fences → FencesHold job others p r fences
  fences_alike job p r (ForReadWrite line) h = said line p r h
  fences_alike job p r (ForWriteWrite x from on) h = (h.0, cited from p x h.1, said on x r h.2)
  fences_alike job p r (ForWriteRead x y from between to) h = (h.0, h.1, cited from p x h.2, said between x y h.3, cited to y r h.4)
  fences_alike job p r (ForWriteWriteChained x x2 from link on) h = (released job p r x x2 (Some link) h.0, cited from p x h.1, said on x2 r h.2)
  fences_alike job p r (ForWriteReadChained x x2 y2 y from link between link2 to) h =
      (h.0, released job p r x x2 link h.1, acquired job p r y2 y link2 h.2, cited from p x h.3, said between x2 y2 h.4, cited to y r h.5)

  pub pair_alike : (job : Job) (pair : Pair) → PairHolds job lines pair → PairHolds job others pair
  pair_alike job pair h = (h.0, h.1, fences_alike job pair.p pair.r pair.fences h.2)

-- ---- the first pair line that doesn't hold

-- it is the same by lines that conclude the same
pub bad_pair_alike : (job : Job) (lines others : List Line) (pairs : List Pair) (found : Option (ℕ × ℕ)) → map conclusion_of lines ≡ map conclusion_of others → MatchOption found (All (PairHolds job lines) pairs) (λ f. FirstBadPair job lines pairs f.0 f.1)
    → MatchOption found (All (PairHolds job others) pairs) (λ f. FirstBadPair job others pairs f.0 f.1)
bad_pair_alike job lines others pairs None e h = λ i d l. pair_alike lines others e job (slice_index_or pairs i d) (h i d l)
bad_pair_alike job lines others pairs (Some f) e h = record {
  k = h.k;
  pair = h.pair;
  there = h.there;
  first_is = h.first_is;
  second_is = h.second_is;
  bad = λ holds. h.bad (pair_alike others lines (sym e) job h.pair holds);
  first = λ j other l there. pair_alike lines others e job other (h.first j other l there);
}
