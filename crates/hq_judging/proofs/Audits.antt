-- What `audit` writes of a job.
use Rattle.std.proofs.Common.{◌⊎◌, ℕ, inl, inr, List, Option, codes, refl}
use Rattle.hq_model.specs.Job.{Job}
use Rattle.hq_model.specs.Certificate.{Certificate, CertHolds}
use Rattle.hq_model.specs.Theorems.{Valid}
use Rattle.hq_schedule.specs.Placing.{AreStuck}
use Rattle.hq_certtext.specs.Printed.{text_of}
use Rattle.hq_audit.specs.Refused.{IsRefused}
use Rattle.hq_audit.specs.declared.fault.AuditNo.{AuditNo}
use Rattle.hq_audit.specs.declared.fault.AuditNo.TheVariants as no
use Rattle.hq_judging.specs.Audit.{JobReport, NeverComplete, StuckExactly, NoSaid, NotOrdered, stuck_text, conflict_text}
use Rattle.hq_judging.specs.Audit.JobReport.{ordered, not_ordered}
use Rattle.hq_judging.specs.Audit.NotOrdered.{stuck, conflict, no_memory}
use Rattle.hq_judging.specs.Giving.{WritesCertificate}
use Rattle.hq_status.specs.Reports.{Reported, Said, with_feed}
use Rattle.hq_status.specs.declared.status.Status.{Status}
use Rattle.hq_status.specs.declared.status.Status.TheVariants as status

never_complete : StuckExactly → (job : Job) → Valid job → (packets : List ℕ) → AreStuck job packets → NeverComplete job packets
never_complete law job valid packets are = record {
  stuck = are;
  never = λ p there. (
    λ inside. (law.0 job valid p there).0 ((are.stuck p).0 inside),
    λ none. (are.stuck p).1 ((law.0 job valid p there).1 none),
  );
  others = λ p there out events state run over. (law.1 job events state valid run over p there).1 (λ held. out ((are.stuck p).1 held));
}

pub no_reported : StuckExactly → (job : Job) → Valid job → (refusal : AuditNo) (old new : Option (List ℕ)) (answered : Status) → IsRefused job refusal → NoSaid refusal old new answered → Reported (NotOrdered job) old new answered
no_reported law job valid (no.Stuck packets) old new answered refused said = (stuck_text packets.items, status.Stuck, stuck packets.items (never_complete law job valid packets.items refused), said)
no_reported law job valid (no.Conflict p r kind why) old new answered refused said = (with_feed (conflict_text p r kind why), status.Conflict p r kind why, conflict p r kind why refused, said)
no_reported law job valid no.Memory old new answered refused said = (with_feed (codes "out of memory"), status.Memory, no_memory, said)

pub no_certificate : (job : Job) (old new : Option (List ℕ)) (answered : Status) → Reported (NotOrdered job) old new answered → Reported (JobReport job) old new answered
no_certificate job old new answered said = (said.0, said.1, not_ordered said.2, said.3)

pub certificate_reported : (job : Job) (c : Certificate) (old new : Option (List ℕ)) (answered : Status) → CertHolds job c → Said old new (text_of c) status.Done answered ⊎ Said old new (with_feed (codes "out of memory")) status.Memory answered → Reported (JobReport job) old new answered
certificate_reported job c old new answered holds (inl said) = (text_of c, status.Done, ordered c holds, said)
certificate_reported job c old new answered holds (inr said) = (with_feed (codes "out of memory"), status.Memory, not_ordered no_memory, said)

pub memory_reported : (job : Job) (old new : Option (List ℕ)) (answered : Status) → Said old new (with_feed (codes "out of memory")) status.Memory answered → Reported (JobReport job) old new answered
memory_reported job old new answered said = (with_feed (codes "out of memory"), status.Memory, not_ordered no_memory, said)

pub written_reported : (job : Job) (old new : Option (List ℕ)) → WritesCertificate job old new → Reported (JobReport job) old new status.Done
written_reported job old new w = (text_of w.certificate, status.Done, ordered w.certificate w.holds, inl (refl, w.appends))

pub file_reported : (job : Job) (old new : Option (List ℕ)) → Reported (JobReport job) old new status.File
file_reported job old new = (with_feed (codes "out of memory"), status.Memory, not_ordered no_memory, inr refl)
