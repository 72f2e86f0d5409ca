-- What one pair says of all.
use Rattle.std.specs.Prelude.{Result, Ok, Err, MatchResult, OnOk, is_ok}
use Rattle.std.proofs.Common.{◌≡◌, ℕ, ◌<◌, false, true}
use Rattle.hq_model.specs.Job.{Job, IsPacket}
use Rattle.hq_model.specs.Fence.{Ordered}
use Rattle.hq_audit.specs.declared.directed.Directed.{Directed}
use Rattle.hq_audit.specs.declared.directed.Unshown.{Unshown}
use Rattle.hq_audit.specs.Refused.{AllShown, IsDirected, IsUnshown}
use Rattle.hq_audit.proofs.Certifying.{unshown_refuses}

pub pair_refuses : (job : Job) (a b : ℕ) (r : Result Directed Unshown) → MatchResult r (λ d. IsDirected job a b d) (λ u. IsUnshown job a b u) → a < b → IsPacket job b → is_ok r ≡ false → ¬ Ordered job
pair_refuses job a b (Ok d) h above is f = let never : ⊥ = cc (f) in absurd never
pair_refuses job a b (Err u) h above is f = unshown_refuses job a b u h above is

pub all_are_shown : {A : Type 0} (job : Job) (r : Result A Unshown) → OnOk r (AllShown job) → is_ok r ≡ true → AllShown job
all_are_shown job (Ok x) h f = h
all_are_shown job (Err u) h f = let never : ⊥ = cc (f) in absurd never
