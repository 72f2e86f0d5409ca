-- No reason to refuse is true of a certificate that holds, but that there is no memory.
use Rattle.std.proofs.Common.{◌≡◌, refl}
use Rattle.std.specs.Prelude.{Ok, Err}
use Rattle.std.proofs.lemmas.Option.{slice_get_within, get_or_from_slice_get}
use Rattle.std.proofs.Common.{subst}
use Rattle.hq_certcheck.specs.declared.fault.CheckNo.{CheckNo}
use Rattle.hq_certcheck.specs.declared.fault.CheckNo.TheVariants.{BadOrder, BadLine, PairMissing, BadPair, Memory}
use Rattle.hq_model.specs.Job.{Job}
use Rattle.hq_model.specs.Certificate.{Certificate, PairHolds, CertHolds}
use Rattle.hq_certcheck.specs.Refusals.{IsRefused}
use Rattle.hq_certcheck.specs.Seen.{IsChecked}
use Rattle.hq_certcheck.specs.View.{AcceptedJob}
use Rattle.hq_job.specs.Plan.{plan}
use Rattle.hq_job.specs.Value.{JobValue}
use Rattle.hq_model.specs.Fence.{Ordered}
use Rattle.hq_model.specs.Order.{Extends}
use Rattle.hq_model.specs.Theorems.{Headline}

pub only_memory : (job : Job) (c : Certificate) (no_of : CheckNo) → CertHolds job c → IsRefused job c no_of → no_of ≡ Memory
only_memory job c BadOrder h ban = absurd (ban h.order)
only_memory job c (BadLine k) h (order, x) = absurd (x.bad (h.lines k))
only_memory job c (PairMissing p r) h (order, lines, x) = absurd (x.missing (λ kind conflict. h.conflicts p r kind x.ahead x.is_packet conflict))
only_memory job c (BadPair p r) h (order, lines, none, x) =
    absurd (x.bad (subst (PairHolds job c.lines) (get_or_from_slice_get c.pairs x.k x.pair x.pair x.there) (h.pairs x.k x.pair (slice_get_within c.pairs x.k x.pair x.there))))
only_memory job c Memory h u = refl

-- ---- what a check answers

pub accepted_is : (v : JobValue) (c : Certificate) (a : AcceptedJob) → CertHolds (plan v) c → Ordered (plan v) → Extends (plan v) a.order → Headline (plan v) → a.job ≡ v → a.order ≡ c.order → IsChecked v c (Ok a)
accepted_is v c a holds ordered extends headline job order = record { accepted = (holds, job, order); ordered = ordered; extends = extends; headline = headline; refused = tt; only = λ h. tt }

pub refused_is : (v j : JobValue) (c : Certificate) (no_of : CheckNo) → j ≡ v → IsRefused (plan v) c no_of → IsChecked v c (Err (no_of, j))
refused_is v j c no_of job why = record { accepted = tt; ordered = tt; extends = tt; headline = tt; refused = (job, why); only = λ h. only_memory (plan v) c no_of h why }
