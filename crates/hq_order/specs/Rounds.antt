-- The order of a job's packets, round by round.
use Rattle.std.specs.Prelude.{◌≡◌, ℕ, zero, suc, ◌<◌, ◌⊎◌, ◌↔◌, List, length}
use Rattle.std.specs.Global.{Vec}
use Rattle.hq_model.specs.Job.{Job, Decrements}
use Rattle.hq_model.specs.Order.{ByBit, ByQueue, ByAnd, AwaitsAny, Whichever}
use Rattle.hq_rows.specs.Matrix.{Marks, IsSquare, matrix, last}

-- p stands before r in a queue, and r waits for it as it is launched.
pub data Precedes (job : Job) (p r : ℕ) : Type 0 where
  by_bit : {j : ℕ} → ByBit job p r j → Precedes job p r
  by_queue : ByQueue job p r → Precedes job p r

-- r waits for signals, and p completes on one of them for a barrier-AND, on each for a barrier-OR.
pub data Awaits (job : Job) (p r : ℕ) : Type 0 where
  by_and : {slot s : ℕ} → ByAnd job p r slot s → Awaits job p r
  by_or : AwaitsAny job r → Whichever job r (Decrements job p) → Awaits job p r

-- p is before r by a rule that rests on no other pair of packets.
abbrev pub Direct : Job → ℕ → ℕ → Type 0
Direct job p r = Precedes job p r ⊎ Awaits job p r

-- p is known to be complete once the signal is over: it is one of the decrementers, or known to be before one.
pub record Reaches (job : Job) (known : ℕ → ℕ → Type 0) (p s : ℕ) : Type 0 where
  pub d : ℕ
  pub decrements : Decrements job d s
  pub upto : (p ≡ d) ⊎ known p d

-- r is a barrier-OR, and whichever dependency is over, p is known to be complete.
pub record ByOr (job : Job) (known : ℕ → ℕ → Type 0) (p r : ℕ) : Type 0 where
  pub any : AwaitsAny job r
  pub each : Whichever job r (Reaches job known p)

-- p is before r by what is known, or by one rule from that.
pub data Next (job : Job) (known : ℕ → ℕ → Type 0) (p r : ℕ) : Type 0 where
  by_known : known p r → Next job known p r
  by_either : ByOr job known p r → Next job known p r
  through : {m : ℕ} → known p m → known m r → Next job known p r

-- p is before r by the rounds up to k.
abbrev pub Within : Job → ℕ → ℕ → ℕ → Type 0
Within job zero p r = Direct job p r
Within job (suc k) p r = Next job (Within job k) p r

-- and by no fewer
pub record IsFirstWithin (job : Job) (k p r : ℕ) : Type 0 where
  pub within : Within job k p r
  pub first : (j : ℕ) → j < k → Within job j p r → ⊥

-- p is before m, and m before r, by a round below this one
pub record Between (job : Job) (round p r m : ℕ) : Type 0 where
  pub k : ℕ
  pub lower : k < round
  pub first : Within job k p m
  pub second : Within job k m r

-- and m is the least such
pub record IsMiddle (job : Job) (round p r m : ℕ) : Type 0 where
  pub between : Between job round p r m
  pub least : (i : ℕ) → i < m → Between job round p r i → ⊥

-- ---- the rounds as rows of bits

-- Round after round, each pair that is within it.
pub record AreRounds (job : Job) (rounds : List (Vec (Vec ℕ))) : Type 0 where
  pub some : 0 < length rounds
  pub square : (k : ℕ) → k < length rounds → IsSquare (length job.packets) (matrix rounds k)
  pub exact : (k p r : ℕ) → k < length rounds → Marks (matrix rounds k) p r ↔ Within job k p r

-- One more round would add nothing.
abbrev pub IsClosed : Job → List (Vec (Vec ℕ)) → Type 0
IsClosed job rounds = (p r : ℕ) → Next job (Marks (last rounds)) p r → Marks (last rounds) p r
