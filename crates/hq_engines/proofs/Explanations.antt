-- What `explain` writes.
use Rattle.std.proofs.Common.{◌≡◌, ℕ, ◌++◌, inl, inr, List, [], Option, codes}
use Rattle.hq_job.specs.Plan.{plan}
use Rattle.hq_job.specs.Value.{JobValue}
use Rattle.hq_graph.specs.Graph.{Wrote}
use Rattle.hq_finding.specs.declared.found.Found.{Found}
use Rattle.hq_explain.specs.Explained.{Explained}
use Rattle.hq_explain.specs.Told.{Broken}
use Rattle.hq_explain.specs.declared.which.Which.{Which}
use Rattle.hq_engines.specs.Explain.{ExplainReport}
use Rattle.hq_engines.specs.Explain.ExplainReport.{explained, no_memory}
use Rattle.hq_status.specs.Reports.{Reported, Said, with_feed}
use Rattle.hq_status.specs.declared.status.Status.{Status}
use Rattle.hq_status.specs.declared.status.Status.TheVariants.{Memory, File}
use Rattle.hq_status.specs.declared.status.Status.TheVariants as status
use Rattle.hq_status.proofs.Appending.{appends_more}
use Rattle.hq_explain.proofs.Counting.{nothing_told}

pub explain_reported : (job : JobValue) (which : Which) (old new : Option (List ℕ)) (found : Found) (answered : Status) → Wrote old new (Explained job (plan job) which found) → answered ≡ status.Explained found → Reported (ExplainReport which job) old new answered
explain_reported job which old new found answered wrote same = (wrote.text, status.Explained found, explained found wrote.says, inl (same, wrote.appends))

pub explain_broken : (job : JobValue) (which : Which) (old mid new : Option (List ℕ)) (answered : Status) → Wrote old mid (Broken job (plan job)) → Said mid new (with_feed (codes "out of memory")) Memory answered → Reported (ExplainReport which job) old new answered
explain_broken job which old mid new answered wrote (inl said) =
    (wrote.text ++ with_feed (codes "out of memory"), Memory, no_memory wrote.says, inl (said.0, appends_more old mid new wrote.text (with_feed (codes "out of memory")) wrote.appends said.1))
explain_broken job which old mid new answered wrote (inr failed) = (wrote.text ++ with_feed (codes "out of memory"), Memory, no_memory wrote.says, inr failed)

pub explain_unwritten : (job : JobValue) (which : Which) (old new : Option (List ℕ)) (answered : Status) → answered ≡ File → Reported (ExplainReport which job) old new answered
explain_unwritten job which old new answered same = ([] ++ with_feed (codes "out of memory"), Memory, no_memory (nothing_told job (plan job)), inr same)
