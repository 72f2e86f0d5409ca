-- What `audit` writes.
use Rattle.std.specs.Prelude.{ℕ, ◌≡◌, ◌≢◌, ◌↔◌, List, [], ◌∷◌, ◌++◌, Option, codes}
use Rattle.std.specs.Fmt.{decimal}
use Rattle.hq_model.specs.Job.{Job, IsPacket}
use Rattle.hq_model.specs.Order.{In}
use Rattle.hq_model.specs.Machine.{Event, State, Run, NoWorkLeft}
use Rattle.hq_model.specs.Machine.Phase.{Complete}
use Rattle.hq_model.specs.Finishing.{StandstillLaw, StuckExact}
use Rattle.hq_model.specs.Certificate.{Certificate, CertHolds}
use Rattle.hq_schedule.specs.Placing.{AreStuck}
use Rattle.hq_finding.specs.Names.{kind_name, why_name}
use Rattle.hq_finding.specs.declared.kind.Kind.{Kind}
use Rattle.hq_finding.specs.declared.why.Why.{Why}
use Rattle.hq_audit.specs.Refused.{IsRefused}
use Rattle.hq_audit.specs.declared.fault.AuditNo.{AuditNo}
use Rattle.hq_audit.specs.declared.fault.AuditNo.TheVariants as no
use Rattle.hq_certtext.specs.Printed.{text_of}
use Rattle.hq_status.specs.Reports.{Said, with_feed}
use Rattle.hq_status.specs.declared.status.Status.{Status}
use Rattle.hq_status.specs.declared.status.Status.TheVariants.{Done, Stuck, Conflict, Memory}

-- numbers, each behind a space
abbrev pub numbers_text : List ℕ → List ℕ
numbers_text [] = []
numbers_text (n ∷ ns) = codes " " ++ decimal n ++ numbers_text ns

-- the line of packets that can never complete
abbrev pub stuck_text : List ℕ → List ℕ
stuck_text packets = with_feed (codes "stuck" ++ numbers_text packets)

-- a conflict that isn't ordered
abbrev pub conflict_text : ℕ → ℕ → Kind → Why → List ℕ
conflict_text p r kind why = codes "conflict " ++ decimal p ++ codes " " ++ decimal r ++ codes " " ++ kind_name kind
    ++ codes " " ++ why_name why

-- Exactly the packets that can never complete, those that no run completes; each run that no work is left to has
-- completed all others.
pub record NeverComplete (job : Job) (packets : List ℕ) : Type 0 where
  pub stuck : AreStuck job packets
  pub never : (p : ℕ) → IsPacket job p
      → (In packets p ↔ ((events : List Event) (state : State) → Run job events state → state.phase p ≢ Complete))
  pub others : (p : ℕ) → IsPacket job p → (In packets p → ⊥) → (events : List Event) (state : State)
      → Run job events state → NoWorkLeft job state → state.phase p ≡ Complete

-- so it is with stuck packets in every job
abbrev pub StuckExactly : Type 0
StuckExactly = StuckExact × StandstillLaw

-- What is written of a job that isn't shown to be ordered: the packets that can never complete, where there is no
-- order list; or the first conflict that isn't ordered; or that memory ran out.
pub data NotOrdered (job : Job) : List ℕ → Status → Type 0 where
  stuck : (packets : List ℕ) → NeverComplete job packets → NotOrdered job (stuck_text packets) Stuck
  conflict : (p r : ℕ) (kind : Kind) (why : Why) → IsRefused job (no.Conflict p r kind why)
      → NotOrdered job (with_feed (conflict_text p r kind why)) (Conflict p r kind why)
  no_memory : NotOrdered job (with_feed (codes "out of memory")) Memory

-- What is written of a job: a certificate that holds; or why it isn't ordered.
pub data JobReport (job : Job) : List ℕ → Status → Type 0 where
  ordered : (c : Certificate) → CertHolds job c → JobReport job (text_of c) Done
  not_ordered : {out : List ℕ} {status : Status} → NotOrdered job out status → JobReport job out status

-- why a job has no certificate is written
abbrev pub NoSaid : AuditNo → Option (List ℕ) → Option (List ℕ) → Status → Type 0
NoSaid (no.Stuck packets) old new answered = Said old new (stuck_text packets.items) Stuck answered
NoSaid (no.Conflict p r kind why) old new answered = Said old new
    (with_feed (conflict_text p r kind why)) (Conflict p r kind why) answered
NoSaid no.Memory old new answered = Said old new (with_feed (codes "out of memory")) Memory answered
