-- The first pair line that fails, by its place.
use Rattle.std.proofs.Common.{◌≡◌, ℕ, List, refl, sym, ◌∙◌, subst, Option, Some, None, is_some, IsTrue, false, slice_get, All, MatchOption}
use Rattle.std.proofs.lemmas.Option.{slice_get-get_or}
use Rattle.hq_model.specs.Job.{Job}
use Rattle.hq_model.specs.Certificate.{Line, Pair, PairHolds}
use Rattle.hq_certcheck.specs.Listed.{PairHoldsAt, FirstBadPlace, FirstBadPair}
use Rattle.hq_ordercheck.proofs.Options.{some_same}

pub all_follow : (job : Job) (lines : List Line) (pairs : List Pair) → ((k : ℕ) → PairHoldsAt job lines pairs k) → All (PairHolds job lines) pairs
all_follow job lines pairs h = λ k d l. h k _ (slice_get-get_or pairs k d l)

pub first_named : (job : Job) (lines : List Line) (pairs : List Pair) (k : ℕ) (pair : Pair) → FirstBadPlace job lines pairs k → slice_get pairs k ≡ Some pair → FirstBadPair job lines pairs pair.p pair.r
first_named job lines pairs k pair f there = record {
  k = k;
  pair = pair;
  there = there;
  first_is = refl;
  second_is = refl;
  bad = λ h. f.bad (λ other e. subst (PairHolds job lines) (some_same pair other (sym there ∙ e)) h);
  first = λ j other l e. f.first j l other e;
}

-- what an answer says, by whether it is there
pub told_by : {X : Type 0} (o : Option X) (N : Type 0) (P : X → Type 0) → ((x : X) → P x → N → ⊥) → MatchOption o N P → (is_some o ≡ false → N) × (IsTrue (is_some o) → N → ⊥)
told_by None N P f h = (λ e. h, λ t n. let never : ⊥ = cc in never)
told_by (Some x) N P f h = (λ e. let never : ⊥ = cc in absurd never, λ t n. f x h n)
