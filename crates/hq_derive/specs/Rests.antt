-- Why a packet comes before another: the rule, and what it rests on.
use Rattle.std.specs.Prelude.{◌≡◌, ℕ, ◌<◌, ◌⊎◌, List}
use Rattle.hq_cert.specs.declared.certificate.Rule.{Rule}
use Rattle.hq_cert.specs.View.{rule_of}
use Rattle.hq_model.specs.Job.{Job, Decrements}
use Rattle.hq_model.specs.Order.{ByBit, ByQueue, ByAnd}
use Rattle.hq_model.specs.Certificate.{Line, Follows}
use Rattle.hq_order.specs.Rounds.{Within, ByOr}
use Rattle.hq_derive.specs.declared.grounds.Ground.{Ground}
use Rattle.hq_derive.specs.declared.grounds.Ground.TheVariants.{Alone, Or, Through}

-- p is before r by the rounds below this one
pub record Below (job : Job) (round p r : ℕ) : Type 0 where
  pub k : ℕ
  pub lower : k < round
  pub within : Within job k p r

-- d completes on the signal, and p is d or before it by lower rounds
pub record ByBranch (job : Job) (round p s d : ℕ) : Type 0 where
  pub decrements : Decrements job d s
  pub upto : (p ≡ d) ⊎ Below job round p d

-- m is between p and r by lower rounds
pub record ByMiddle (job : Job) (round p r m : ℕ) : Type 0 where
  pub first : Below job round p m
  pub second : Below job round m r

-- p is before r by the rule, whatever lines there are
abbrev pub FollowsAlone : Job → ℕ → ℕ → Rule → Type 0
FollowsAlone job p r rule = (lines : List Line) (limit : ℕ) → Follows job lines limit p r (rule_of rule)

-- by no bit, no barrier packet ahead and no dependency of a barrier-AND is p before r
pub record NoneAlone (job : Job) (p r : ℕ) : Type 0 where
  pub no_bit : (j : ℕ) → ByBit job p r j → ⊥
  pub no_queue : ByQueue job p r → ⊥
  pub no_slot : (slot s : ℕ) → ByAnd job p r slot s → ⊥

-- p is before r for this reason, and what that rests on comes by lower rounds
abbrev pub IsGround : Job → ℕ → ℕ → ℕ → Ground → Type 0
IsGround job round p r (Alone rule) = FollowsAlone job p r rule
IsGround job round p r Or = ByOr job (Below job round) p r
IsGround job round p r (Through m) = ByMiddle job round p r m
