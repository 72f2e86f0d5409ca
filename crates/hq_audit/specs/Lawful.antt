-- What follows from the definitions.
use Rattle.std.specs.Prelude.{◌≡◌}
use Rattle.hq_model.specs.Job.{Job}
use Rattle.hq_model.specs.Fence.{Ordered}
use Rattle.hq_audit.specs.declared.fault.AuditNo.{AuditNo}
use Rattle.hq_audit.specs.declared.fault.AuditNo.TheVariants.{Memory}
use Rattle.hq_audit.specs.Refused.{IsRefused}

-- An ordered job is refused for want of memory alone.
abbrev pub OrderedIsNotRefused : Type 0
OrderedIsNotRefused = (job : Job) (no : AuditNo) → Ordered job → IsRefused job no → no ≡ Memory
