-- Where two jobs agree.
use Rattle.std.specs.Prelude.{◌≡◌}
use Rattle.hq_job.specs.Value.{JobValue}

-- two jobs declare the same agents, buffers, kernarg blocks, kernels and queues
pub record SameTables (a b : JobValue) : Type 0 where
  pub agents : a.agents ≡ b.agents
  pub buffers : a.buffers ≡ b.buffers
  pub arguments : a.arguments ≡ b.arguments
  pub kernels : a.kernels ≡ b.kernels
  pub queues : a.queues ≡ b.queues
