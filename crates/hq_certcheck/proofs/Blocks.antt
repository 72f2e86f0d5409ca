-- Lines that come block by block, and of which some are left to be checked.
use Rattle.std.proofs.Common.{◌≡◌, ℕ, ◌+◌, ◌-◌, ◌<◌, ◌≤◌, ◌⊎◌, inl, inr, List, [], ◌∷◌, ◌++◌, length, map, refl, sym, ◌∙◌, ap, subst, arith, Option, None, Some, slice_get, slice_index_or, length-append}
use Rattle.std.proofs.lemmas.Bool.{cases_lt}
use Rattle.std.proofs.lemmas.Option.{slice_get_within}
use Rattle.hq_cert.specs.declared.certificate.Line.{Line as CertLine}
use Rattle.hq_cert.specs.View.{line_of}
use Rattle.hq_model.specs.Job.{Job}
use Rattle.hq_model.specs.Certificate.{Line, LineHolds}
use Rattle.hq_certcheck.specs.Listed.{Block, BadLineBut, BadLineIs, BadLineOf, IsBad, IsLeft, IsUpTo, IsWithin, StandAt}
use Rattle.hq_certcheck.proofs.Alike.{Agree, follows_agreed}
use Rattle.hq_certcheck.proofs.Saying.{meant_at}
use Rattle.hq_certcheck.proofs.Behind.{got_left, got_right}

-- ---- lines with more behind them

-- lines agree with those that have more behind them, below their end
longer_agree : (lines more : List Line) (limit : ℕ) → limit ≤ length lines → Agree lines (lines ++ more) limit
longer_agree lines more limit few k line low there = record { other = line; there = got_left lines more k (omega (arith, low, few)) ∙ there; same = refl }

shorter_agree : (lines more : List Line) (limit : ℕ) → limit ≤ length lines → Agree (lines ++ more) lines limit
shorter_agree lines more limit few k line low there = record { other = line; there = sym (got_left lines more k (omega (arith, low, few))) ∙ there; same = refl }

module _ (job : Job) (lines more : List Line) (k : ℕ) (low : k < length lines) where
  pub follows_longer : LineHolds job lines k → LineHolds job (lines ++ more) k
  follows_longer h line there =
      follows_agreed lines (lines ++ more) k (longer_agree lines more k (omega (arith, low))) job line.p line.r line.rule (h line (sym (got_left lines more k low) ∙ there))

  pub follows_shorter : LineHolds job (lines ++ more) k → LineHolds job lines k
  follows_shorter h line there =
      follows_agreed (lines ++ more) lines k (shorter_agree lines more k (omega (arith, low))) job line.p line.r line.rule (h line (got_left lines more k low ∙ there))

bad_longer : (job : Job) (lines more : List Line) (found : Option ℕ) → IsBad job lines found → IsBad job (lines ++ more) found
bad_longer job lines more None h = h
bad_longer job lines more (Some b) h = (omega (arith, h.0, length-append lines more), λ follows. h.1 (follows_shorter job lines more b h.0 follows))

-- ---- blocks

pub left_front : (front behind : List Block) (k : ℕ) → IsLeft front k → IsLeft (front ++ behind) k
left_front [] behind k h = absurd h
left_front (b ∷ front) behind k (inl h) = inl h
left_front (b ∷ front) behind k (inr h) = inr (left_front front behind k h)

pub left_behind : (front behind : List Block) (k : ℕ) → IsLeft behind k → IsLeft (front ++ behind) k
left_behind [] behind k h = h
left_behind (b ∷ front) behind k h = inr (left_behind front behind k h)

-- a line that is left is one of this block, or is left without it
left_or : (front behind : List Block) (block : Block) (k : ℕ) → IsLeft (front ++ block ∷ behind) k → IsWithin block k ⊎ IsLeft (front ++ behind) k
left_or [] behind block k h = h
left_or (b ∷ front) behind block k (inl h) = inr (inl h)
left_or (b ∷ front) behind block k (inr h) = elim (left_or front behind block k h) [ inl here ↦ inl here | inr there ↦ inr (inr there) ]

-- ---- what is known, with more behind it

-- lines were added that are left to be checked
pub but_more : (job : Job) (lines more : List Line) (left : List Block) (count : ℕ) (found : Option ℕ) → count ≡ length more → BadLineBut job lines left found → BadLineBut job (lines ++ more) (left ++ record { from = length lines; count = count } ∷ []) found
but_more job lines more left count found e h = record {
  bad = bad_longer job lines more found h.bad;
  others = λ k l. elim (cases_lt k (length lines)) [
    | inl low ↦ by k low (h.others k low)
    | inr high ↦ inl (left_behind left (record { from = length lines; count = count } ∷ []) k (inl (high, omega (arith, l, e, length-append lines more))))
  ];
}
  where
    by : (k : ℕ) → k < length lines → IsLeft left k ⊎ (LineHolds job lines k ⊎ IsUpTo found k)
        → IsLeft (left ++ record { from = length lines; count = count } ∷ []) k ⊎ (LineHolds job (lines ++ more) k ⊎ IsUpTo found k)
    by k low (inl h) = inl (left_front left (record { from = length lines; count = count } ∷ []) k h)
    by k low (inr (inl h)) = inr (inl (follows_longer job lines more k low h))
    by k low (inr (inr h)) = inr (inr h)

-- a block was checked
pub but_noted : (job : Job) (lines : List Line) (front behind : List Block) (block : Block) (old bad new : Option ℕ) → (new ≡ old) ⊎ (new ≡ bad) → ((k : ℕ) → IsUpTo old k → IsUpTo new k) → ((k : ℕ) → IsUpTo bad k → IsUpTo new k)
    → BadLineBut job lines (front ++ block ∷ behind) old → BadLineOf job lines block bad → BadLineBut job lines (front ++ behind) new
but_noted job lines front behind block old bad new either was is h b = record {
  bad = elim either [ inl e ↦ subst (IsBad job lines) (sym e) h.bad | inr e ↦ subst (IsBad job lines) (sym e) b.bad ];
  others = λ k l. by k (h.others k l);
}
  where
    found : (k : ℕ) → LineHolds job lines k ⊎ IsUpTo bad k → IsLeft (front ++ behind) k ⊎ (LineHolds job lines k ⊎ IsUpTo new k)
    found k (inl h) = inr (inl h)
    found k (inr h) = inr (inr (is k h))

    by : (k : ℕ) → IsLeft (front ++ block ∷ behind) k ⊎ (LineHolds job lines k ⊎ IsUpTo old k) → IsLeft (front ++ behind) k ⊎ (LineHolds job lines k ⊎ IsUpTo new k)
    by k (inl h) = elim (left_or front behind block k h) [ inl here ↦ found k (b.others k here) | inr there ↦ inl there ]
    by k (inr (inl h)) = inr (inl h)
    by k (inr (inr h)) = inr (inr (was k h))

-- nothing is left: it is the least line that doesn't hold
pub but_none : (job : Job) (lines : List Line) (found : Option ℕ) → BadLineBut job lines [] found → BadLineIs job lines found
but_none job lines None h = λ k line there. by k (h.others k (slice_get_within lines k line there)) line there where
  by : (k : ℕ) → ⊥ ⊎ (LineHolds job lines k ⊎ ⊥) → LineHolds job lines k
  by k (inl never) = absurd never
  by k (inr (inl h)) = h
  by k (inr (inr never)) = absurd never
but_none job lines (Some b) h = record {
  there = h.bad.0;
  bad = h.bad.1;
  first = λ j l. by j l (h.others j (omega (arith, l, h.bad.0)));
}
  where
    by : (j : ℕ) → j < b → ⊥ ⊎ (LineHolds job lines j ⊎ (b ≤ j)) → LineHolds job lines j
    by j l (inl never) = absurd never
    by j l (inr (inl h)) = h
    by j l (inr (inr high)) = absurd (omega (arith, l, high))

-- the least line that doesn't hold is that of the block of all
pub block_of_all : (job : Job) (lines : List Line) (count : ℕ) (found : Option ℕ) → count ≡ length lines → BadLineIs job lines found → BadLineOf job lines (record { from = 0; count = count }) found
block_of_all job lines count None e h = record { bad = tt; here = tt; others = λ k l. inl (h k) }
block_of_all job lines count (Some b) e h = record {
  bad = (h.there, h.bad);
  here = (omega arith, omega (arith, e, h.there));
  others = λ k l. elim (cases_lt k b) [ inl low ↦ inl (h.first k low) | inr high ↦ inr high ];
}

-- ---- lines of a list, at their places

pub stand_behind : (before lines : List Line) → StandAt (before ++ lines) (length before) lines
stand_behind before lines i line there = got_right before lines i ∙ there

-- the line that was found at a place of these is the one at its place of all
pub stands_here : (all : List Line) (from k : ℕ) (found : List CertLine) (line : CertLine) → from ≤ k → k - from < length found → line ≡ slice_index_or found (k - from) line → StandAt all from (map line_of found) → slice_get all k ≡ Some (line_of line)
stands_here all from k found line high low is stand =
    let e : from + (k - from) ≡ k = omega (arith, high) in
    ap (slice_get all) (sym e) ∙ stand (k - from) (line_of line) (meant_at line_of found (k - from) line low is)

-- the place of a line that was found among so many from this one on is one of theirs
pub within_here : (from k count : ℕ) → from ≤ k → k - from < count → IsWithin (record { from = from; count = count }) k
within_here from k count high low = (high, omega (arith, high, low))
