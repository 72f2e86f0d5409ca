-- Lists of packets that take, at each place, the least packet that may come next.
use Rattle.std.specs.Prelude.{ℕ, ◌<◌, List, [], ◌∷◌, ◌++◌}
use Rattle.hq_model.specs.Job.{Job}
use Rattle.hq_model.specs.Schedule.{MayCome}

-- Each packet of the list may come behind those ahead of it, and no lesser one may.
pub data LeastFirst (job : Job) : List ℕ → Type 0 where
  begins : LeastFirst job []
  goes_on : {list : List ℕ} {p : ℕ} → LeastFirst job list → MayCome job list p
      → ((r : ℕ) → r < p → MayCome job list r → ⊥) → LeastFirst job (list ++ p ∷ [])
