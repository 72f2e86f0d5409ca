-- Which single changes order two packets.
use Rattle.std.specs.Prelude.{◌≡◌, ℕ, ◌↔◌, IsTrue, List, length, Option, Some, None, slice_get}
use Rattle.hq_packet.specs.declared.packet.Scope.{Scope}
use Rattle.hq_model.specs.Job.{Job}
use Rattle.hq_explain.specs.declared.advice.Advice.{Advice}
use Rattle.hq_explain.specs.declared.change.Change.TheVariants as change
use Rattle.hq_explain.specs.declared.change.Fence.TheVariants as fence
use Rattle.hq_explain.specs.Changes.{Orders, is_wider}

-- the scope with which something holds, and with none that reaches less far; none, where it holds with no scope
abbrev pub IsLeast : (Scope → Type 0) → Option Scope → Type 0
IsLeast Holds None = (scope : Scope) → ¬ Holds scope
IsLeast Holds (Some scope) = Holds scope × ((less : Scope) → IsTrue (is_wider scope less) → ¬ Holds less)

-- What is said of packet p: whether its barrier bit, once it is set, orders a and b; and for each of its fences the
-- least scope that does.
pub record IsAdvice (job : Job) (a b p : ℕ) (advice : Advice) : Type 0 where
  pub bit : IsTrue advice.bit ↔ Orders job a b p change.Bit
  pub acquire : IsLeast (λ scope. Orders job a b p (change.Scope fence.Acquire scope)) advice.acquire
  pub release : IsLeast (λ scope. Orders job a b p (change.Scope fence.Release scope)) advice.release

-- This is said of each packet, so of every single change that there is.
pub record AreAdvice (job : Job) (a b : ℕ) (list : List Advice) : Type 0 where
  pub len : length list ≡ length job.packets
  pub each : (p : ℕ) (advice : Advice) → slice_get list p ≡ Some advice → IsAdvice job a b p advice
