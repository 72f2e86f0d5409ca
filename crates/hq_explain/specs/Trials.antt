-- What is known of copies of a job on which changes are tried.
use Rattle.std.specs.Prelude.{◌≡◌, ℕ, ◌<◌, ◌≤◌, ◌⊎◌, ◌↔◌, IsTrue, true, List}
use Rattle.hq_job.specs.Plan.{plan}
use Rattle.hq_model.specs.Job.{Job}
use Rattle.hq_model.specs.Settings.{SameButHeads, head_at}
use Rattle.hq_bits.specs.Bits.{has}
use Rattle.hq_order.specs.View.{AreOf}
use Rattle.hq_explain.specs.Changes.{Orders}
use Rattle.hq_explain.specs.declared.change.Change.TheVariants as change
use Rattle.hq_explain.specs.declared.scopes.Trial.{Trial}

-- a copy of the job, with the rounds of its order
pub record IsTrial (job : Job) (t : Trial) : Type 0 where
  pub same : plan t.copy ≡ job
  pub rounds : AreOf job t.rounds

-- k is job with the barrier bits of the packets from lo up to, but not with, hi
pub record HasBits (job k : Job) (lo hi : ℕ) : Type 0 where
  pub same : SameButHeads job k
  pub inside : (p : ℕ) → lo ≤ p → p < hi → head_at k p ≡ record (head_at job p) { barrier = true }
  pub outside : (p : ℕ) → (p < lo) ⊎ (hi ≤ p) → head_at k p ≡ head_at job p

-- p is one of the packets from lo up to, but not with, hi whose barrier bit alone orders a and b
pub record BitOrders (job : Job) (a b lo hi p : ℕ) : Type 0 where
  pub above : lo ≤ p
  pub below : p < hi
  pub orders : Orders job a b p change.Bit

-- these came into the set, and nothing else
abbrev pub Noted : Job → ℕ → ℕ → ℕ → ℕ → List ℕ → List ℕ → Type 0
Noted job a b lo hi old new = (p : ℕ) → IsTrue (has new p) ↔ (IsTrue (has old p) ⊎ BitOrders job a b lo hi p)
