-- Lines and pair lines that were seen, with more behind them.
use Rattle.std.proofs.Common.{◌≡◌, ℕ, ◌+◌, ◌-◌, ◌<◌, ◌⊎◌, inl, inr, List, [], ◌∷◌, ◌++◌, length, sym, ◌∙◌, ap, subst, arith, Option, None, Some, MatchOption, slice_get, All, take, map, append-nil, append_assoc}
use Rattle.std.specs.Option.{option_or}
use Rattle.std.proofs.lemmas.Bool.{cases_lt}
use Rattle.std.proofs.lemmas.List.{take_more, map-append}
use Rattle.std.proofs.lemmas.List.Elements.{All-append}
use Rattle.std.proofs.lemmas.Option.{slice_get_within, get_or_from_slice_get}
use Rattle.hq_model.specs.Job.{Job}
use Rattle.hq_model.specs.Certificate.{Line, Pair, PairHolds}
use Rattle.hq_certcheck.specs.Concluded.{bare, conclusion_of}
use Rattle.hq_certcheck.specs.Covering.{AreListed}
use Rattle.hq_certcheck.specs.Listed.{Block, BadLineOf, BadPairIs, IsUpTo, FirstBadPair}
use Rattle.hq_certcheck.specs.Seen.{SeenValue, HasSeen}
use Rattle.hq_certcheck.proofs.Alike.{bare_concludes, bad_pair_alike}
use Rattle.hq_certcheck.proofs.Behind.{got_left, got_right}
use Rattle.hq_certcheck.proofs.Blocks.{but_more, but_noted, left_front}

-- ---- lists, with more behind them

-- each item of a list is one of the first, or one of those behind them
pub each_in : {X : Type 0} (P : X → Type 0) (xs ys : List X) (k : ℕ) (x : X) → slice_get (xs ++ ys) k ≡ Some x
    → (k < length xs → slice_get xs k ≡ Some x → P x) → ((j : ℕ) → k ≡ length xs + j → slice_get ys j ≡ Some x → P x) → P x
each_in P xs ys k x e front back = elim (cases_lt k (length xs)) [
  | inl low ↦ front low (sym (got_left xs ys k low) ∙ e)
  | inr high ↦ (let at : k ≡ length xs + (k - length xs) = omega (arith, high) in back (k - length xs) at (sym (got_right xs ys (k - length xs)) ∙ ap (slice_get (xs ++ ys)) (sym at) ∙ e))
]

-- the first so many of a list, behind others, with the next one
pub with_next : {X : Type 0} (before found : List X) (i : ℕ) (x : X) → slice_get found i ≡ Some x → before ++ take (i + 1) found ≡ before ++ take i found ++ x ∷ []
with_next before found i x e =
    ap (λ ys. before ++ ys) (take_more found i x (slice_get_within found i x e) ∙ ap (λ y. take i found ++ y ∷ []) (get_or_from_slice_get found i x x e))
    ∙ sym (append_assoc before (take i found) (x ∷ []))

-- ---- the first pair line that doesn't hold

module _ (job : Job) (lines : List Line) (pairs more : List Pair) where
  all_follow : All (PairHolds job lines) pairs → (k : ℕ) (x : Pair) → slice_get pairs k ≡ Some x → PairHolds job lines x
  all_follow h k x e = subst (PairHolds job lines) (get_or_from_slice_get pairs k x x e) (h k x (slice_get_within pairs k x e))

  none_more : All (PairHolds job lines) pairs → All (PairHolds job lines) more → All (PairHolds job lines) (pairs ++ more)
  none_more front back = All-append (PairHolds job lines) pairs more front back

  first_before : (p r : ℕ) → FirstBadPair job lines pairs p r → FirstBadPair job lines (pairs ++ more) p r
  first_before p r f =
      let low : f.k < length pairs = slice_get_within pairs f.k f.pair f.there in record {
        k = f.k;
        pair = f.pair;
        there = got_left pairs more f.k low ∙ f.there;
        first_is = f.first_is;
        second_is = f.second_is;
        bad = f.bad;
        first = λ j other l e. f.first j other l (sym (got_left pairs more j (omega (arith, l, low))) ∙ e);
      }

  first_behind : All (PairHolds job lines) pairs → (p r : ℕ) → FirstBadPair job lines more p r → FirstBadPair job lines (pairs ++ more) p r
  first_behind all p r f = record {
    k = length pairs + f.k;
    pair = f.pair;
    there = got_right pairs more f.k ∙ f.there;
    first_is = f.first_is;
    second_is = f.second_is;
    bad = f.bad;
    first = λ j other l e. each_in (PairHolds job lines) pairs more j other e
        (λ low there. all_follow all j other there)
        (λ i at there. f.first i other (omega (arith, l, at)) there);
  }

  -- where none of the first ones fails, it is what is found behind them
  pub bad_behind : (found : Option (ℕ × ℕ)) → All (PairHolds job lines) pairs → MatchOption found (All (PairHolds job lines) more) (λ f. FirstBadPair job lines more f.0 f.1)
      → MatchOption found (All (PairHolds job lines) (pairs ++ more)) (λ f. FirstBadPair job lines (pairs ++ more) f.0 f.1)
  bad_behind None all h = none_more all h
  bad_behind (Some f) all h = first_behind all f.0 f.1 h

  -- and else it is the one that was found
  pub bad_still : (f : ℕ × ℕ) → FirstBadPair job lines pairs f.0 f.1 → FirstBadPair job lines (pairs ++ more) f.0 f.1
  bad_still f h = first_before f.0 f.1 h

-- of no pair lines the same is known whatever the lines are
pub bad_of_any : (job : Job) (pairs : List Pair) (lines others : List Line) (found : Option (ℕ × ℕ)) → (pairs ≡ []) ⊎ (others ≡ lines) → BadPairIs job lines pairs found → BadPairIs job others pairs found
bad_of_any job pairs lines others found (inr same) h = subst (λ (ls : List Line). BadPairIs job ls pairs found) (sym same) h
bad_of_any job pairs lines others found (inl none) h = subst (λ (ps : List Pair). BadPairIs job others ps found) (sym none) (by found (subst (λ (ps : List Pair). BadPairIs job lines ps found) none h))
  where
    by : (found : Option (ℕ × ℕ)) → BadPairIs job lines [] found → BadPairIs job others [] found
    by None all = λ i d l. absurd (omega arith)
    by (Some f) bad = let there : None ≡ Some bad.pair = bad.there in absurd cc

-- what was seen, with the same left to be checked, by another name
pub seen_left : (job : Job) (lines : List Line) (pairs : List Pair) (left others : List Block) (s : SeenValue) → left ≡ others → HasSeen job lines pairs left s → HasSeen job lines pairs others s
seen_left job lines pairs left others s e h = subst (λ (bs : List Block). HasSeen job lines pairs bs s) e h

-- what was seen, where it is forgotten that more blocks were checked
pub seen_but : (job : Job) (lines : List Line) (pairs : List Pair) (left more : List Block) (s : SeenValue) → HasSeen job lines pairs left s → HasSeen job lines pairs (left ++ more) s
seen_but job lines pairs left more s h = record {
  concluded = h.concluded;
  checked = record { bad = h.checked.bad; others = λ k l. elim (h.checked.others k l) [ inl there ↦ inl (left_front left more k there) | inr so ↦ inr so ] };
  count = h.count;
  listed = h.listed;
  bad = h.bad;
}

-- lines behind those that were seen, which are left to be checked
pub seen_lines : (job : Job) (before more : List Line) (pairs : List Pair) (left : List Block) (count : ℕ) (old new : SeenValue) → count ≡ length more → (pairs ≡ []) ⊎ (more ≡ [])
    → new ≡ record { lines = old.lines ++ map conclusion_of more; bad_line = old.bad_line; count = old.count; flags = old.flags; bad_pair = old.bad_pair }
    → HasSeen job before pairs left old → HasSeen job (before ++ more) pairs (left ++ record { from = length before; count = count } ∷ []) new
seen_lines job before more pairs left count old new counted none e h =
    subst (λ (s : SeenValue). HasSeen job (before ++ more) pairs (left ++ record { from = length before; count = count } ∷ []) s) (sym e) (record {
      concluded = map-append conclusion_of before more ∙ ap (λ cs. cs ++ map conclusion_of more) h.concluded;
      checked = but_more job before more left count old.bad_line counted h.checked;
      count = h.count;
      listed = h.listed;
      bad = bad_of_any job pairs before (before ++ more) old.bad_pair (elim none [ inl e ↦ inl e | inr e ↦ inr (ap (λ ls. before ++ ls) e ∙ append-nil before) ]) h.bad;
    })

-- a block that was left was checked
pub seen_noted : (job : Job) (lines : List Line) (pairs : List Pair) (front behind : List Block) (block : Block) (bad : Option ℕ) (old new : SeenValue) (found : Option ℕ)
    → new ≡ record { lines = old.lines; bad_line = found; count = old.count; flags = old.flags; bad_pair = old.bad_pair } → (found ≡ old.bad_line) ⊎ (found ≡ bad)
    → ((k : ℕ) → IsUpTo old.bad_line k → IsUpTo found k) → ((k : ℕ) → IsUpTo bad k → IsUpTo found k)
    → HasSeen job lines pairs (front ++ block ∷ behind) old → BadLineOf job lines block bad → HasSeen job lines pairs (front ++ behind) new
seen_noted job lines pairs front behind block bad old new found e either was is h b =
    subst (λ (s : SeenValue). HasSeen job lines pairs (front ++ behind) s) (sym e) (record {
      concluded = h.concluded;
      checked = but_noted job lines front behind block old.bad_line bad found either was is h.checked b;
      count = h.count;
      listed = h.listed;
      bad = h.bad;
    })

-- pair lines behind those that were seen, of which it is known which is the first that doesn't hold
pub seen_more : (job : Job) (lines : List Line) (before more : List Pair) (left : List Block) (old new : SeenValue) (found : Option (ℕ × ℕ)) → (AreListed before old.count old.flags → AreListed (before ++ more) old.count new.flags)
    → new ≡ record { lines = old.lines; bad_line = old.bad_line; count = old.count; flags = new.flags; bad_pair = option_or old.bad_pair found }
    → BadPairIs job (map bare old.lines) more found → HasSeen job lines before left old → HasSeen job lines (before ++ more) left new
seen_more job lines before more left old new found listed e told h =
    subst (λ (s : SeenValue). HasSeen job lines (before ++ more) left s) (sym e) (record {
      concluded = h.concluded;
      checked = h.checked;
      count = h.count;
      listed = listed h.listed;
      bad = by old.bad_pair h.bad;
    })
  where
    here : BadPairIs job lines more found
    here = bad_pair_alike job (map bare old.lines) lines more found (bare_concludes old.lines ∙ sym h.concluded) told

    by : (b : Option (ℕ × ℕ)) → BadPairIs job lines before b → BadPairIs job lines (before ++ more) (option_or b found)
    by None all = bad_behind job lines before more found all here
    by (Some f) first = bad_still job lines before more f first

-- what was seen, said of the same lists by other names
pub seen_as : (job : Job) (s : SeenValue) (lines others : List Line) (pairs same : List Pair) (left : List Block) → lines ≡ others → pairs ≡ same → HasSeen job lines pairs left s → HasSeen job others same left s
seen_as job s lines others pairs same left e k h = subst (λ (ls : List Line). HasSeen job ls same left s) e (subst (λ (ps : List Pair). HasSeen job lines ps left s) k h)
