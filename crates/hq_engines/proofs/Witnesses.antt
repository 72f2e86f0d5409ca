-- What `witness` writes.
use Rattle.std.proofs.Common.{◌≡◌, ◌⊎◌, ℕ, inl, inr, List, [], Option, Some, None, codes, sym, subst}
use Rattle.std.proofs.lemmas.List.{append-nil}
use Rattle.std.specs.Io.KnownBytes.{Appends}
use Rattle.hq_job.specs.Plan.{plan}
use Rattle.hq_job.specs.Value.{JobValue}
use Rattle.hq_model.specs.Fence.{Ordered}
use Rattle.hq_timeline.specs.Printed.{text_of}
use Rattle.hq_audit.specs.Refused.{IsRefused}
use Rattle.hq_audit.specs.declared.fault.AuditNo.{AuditNo}
use Rattle.hq_audit.specs.declared.fault.AuditNo.TheVariants as audit
use Rattle.hq_model.specs.Job.{Job}
use Rattle.hq_witness.specs.Witness.{WitnessValue, IsWitness, IsNo, no_of}
use Rattle.hq_judging.specs.Audit.{NotOrdered}
use Rattle.hq_judging.specs.Audit.NotOrdered.{no_memory}
use Rattle.hq_status.specs.Reports.{Reported, Said, with_feed}
use Rattle.hq_engines.specs.Recording.{BothSaid}
use Rattle.hq_engines.specs.Witness.{Held, Witnessed, WitnessReport, difference_of, witness_text}
use Rattle.hq_engines.specs.Witness.WitnessReport.{shown, ordered, not_ordered, broken}
use Rattle.hq_status.specs.declared.status.Status.{Status}
use Rattle.hq_status.specs.declared.status.Status.TheVariants.{Done, Shown, Memory, File}

-- nothing is written behind what is known
stays : (known : Option (List ℕ)) → Appends known known []
stays None = tt
stays (Some bytes) = sym (append-nil bytes)

unwritten : (old new : Option (List ℕ)) → new ≡ old → Appends old new []
unwritten old new same = subst (λ known. Appends old known []) (sym same) (stays old)

-- both timelines, and what is shown
pub witness_reported : (job : JobValue) (w : WitnessValue) (old new : Held) (answered : Status) → IsWitness (plan job) w → Appends old.good new.good (text_of w.good)
    → BothSaid old.bad new.bad (text_of w.bad) old.answer new.answer (with_feed (witness_text job w)) (Shown (difference_of job w)) answered ⊎ BothSaid old.bad new.bad [] old.answer new.answer (with_feed (codes "out of memory")) Memory answered
    → Witnessed (WitnessReport job) old new answered
witness_reported job w old new answered is good (inl (inl said)) = (text_of w.good, text_of w.bad, with_feed (witness_text job w), Shown (difference_of job w), shown w is, inl (said.0, good, said.1, said.2))
witness_reported job w old new answered is good (inl (inr failed)) = (text_of w.good, text_of w.bad, with_feed (witness_text job w), Shown (difference_of job w), shown w is, inr failed)
witness_reported job w old new answered is good (inr (inl said)) = (text_of w.good, [], with_feed (codes "out of memory"), Memory, broken w is, inl (said.0, good, said.1, said.2))
witness_reported job w old new answered is good (inr (inr failed)) = (text_of w.good, [], with_feed (codes "out of memory"), Memory, broken w is, inr failed)

-- an answer alone
pub alone_reported : (job : JobValue) (old new : Held) (text : List ℕ) (status answered : Status) → WitnessReport job [] [] text status → new.good ≡ old.good → new.bad ≡ old.bad → Said old.answer new.answer text status answered
    → Witnessed (WitnessReport job) old new answered
alone_reported job old new text status answered report good bad (inl said) = ([], [], text, status, report, inl (said.0, unwritten old.good new.good good, unwritten old.bad new.bad bad, said.1))
alone_reported job old new text status answered report good bad (inr failed) = ([], [], text, status, report, inr failed)

pub memory_reported : (job : JobValue) (old new : Held) (answered : Status) → new.good ≡ old.good → new.bad ≡ old.bad → Said old.answer new.answer (with_feed (codes "out of memory")) Memory answered → Witnessed (WitnessReport job) old new answered
memory_reported job old new answered good bad said = alone_reported job old new (with_feed (codes "out of memory")) Memory answered (not_ordered no_memory) good bad said

-- where a writer failed, that is the answer
pub failed_reported : (job : JobValue) (old new : Held) (text : List ℕ) (answered : Status) → Said old.answer new.answer text File answered → Witnessed (WitnessReport job) old new answered
failed_reported job old new text answered (inl said) = ([], [], with_feed (codes "out of memory"), Memory, not_ordered no_memory, inr said.0)
failed_reported job old new text answered (inr failed) = ([], [], with_feed (codes "out of memory"), Memory, not_ordered no_memory, inr failed)

pub ordered_reported : (job : JobValue) (old new : Held) (answered : Status) → Ordered (plan job) → new.good ≡ old.good → new.bad ≡ old.bad → Said old.answer new.answer (with_feed (codes "ordered")) Done answered → Witnessed (WitnessReport job) old new answered
ordered_reported job old new answered is good bad said = alone_reported job old new (with_feed (codes "ordered")) Done answered (ordered is) good bad said

pub no_witness_reported : (job : JobValue) (old new : Held) (answered : Status) → new.good ≡ old.good → new.bad ≡ old.bad → Reported (NotOrdered (plan job)) old.answer new.answer answered → Witnessed (WitnessReport job) old new answered
no_witness_reported job old new answered good bad said = alone_reported job old new said.0 said.1 answered (not_ordered said.2) good bad said.3

-- what an audit says where there is no witness, is so
pub refused_of : (job : Job) (e : AuditNo) → IsNo job (no_of e) → IsRefused job e
refused_of job (audit.Stuck packets) h = h
refused_of job (audit.Conflict p r kind why) h = h
refused_of job audit.Memory h = h
