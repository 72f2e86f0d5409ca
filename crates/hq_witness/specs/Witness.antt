-- What a witness is, and why there is none.
use Rattle.std.specs.Prelude.{◌≡◌, ◌≢◌, ◌⊎◌, ℕ, List, map}
use Rattle.hq_audit.specs.declared.fault.AuditNo.{AuditNo}
use Rattle.hq_audit.specs.declared.fault.AuditNo.TheVariants as audit
use Rattle.hq_audit.specs.Refused.{IsRefused}
use Rattle.hq_finding.specs.declared.kind.Kind.{Kind}
use Rattle.hq_finding.specs.declared.why.Why.{Why}
use Rattle.hq_events.specs.declared.event.Event.{Event}
use Rattle.hq_events.specs.Events.{coarse_of}
use Rattle.hq_model.specs.Fence.{Ordered}
use Rattle.hq_model.specs.Job.{Job, IsPacket}
use Rattle.hq_model.specs.Journal.Coarse.{One}
use Rattle.hq_model.specs.Machine as machine
use Rattle.hq_model.specs.Machine.{State, NoWorkLeft}
use Rattle.hq_model.specs.Machine.Phase.{Complete}
use Rattle.hq_model.specs.Origins.{Origins, OriginsOf}
use Rattle.hq_schedule.specs.Placing.{AreStuck}
use Rattle.hq_witness.specs.declared.attempt.Found.{Found}
use Rattle.hq_witness.specs.declared.fault.WitnessNo.{WitnessNo}
use Rattle.hq_witness.specs.declared.fault.WitnessNo.TheVariants as no
use Rattle.hq_witness.specs.declared.origin.Origin.{Origin}
use Rattle.hq_witness.specs.declared.place.Place.{Place}
use Rattle.hq_witness.specs.Origins.{named, origin_at, IsPlace}

-- What contracts see of a witness: the conflict that an audit refuses; two runs, where they differ, and the origin
-- there in each.
pub record WitnessValue : Type 0 where
  pub p : ℕ
  pub r : ℕ
  pub kind : Kind
  pub why : Why
  pub place : Place
  pub good : List Event
  pub good_origin : Origin
  pub bad : List Event
  pub bad_origin : Origin

-- every packet is complete, and no work is left
pub record IsFinished (job : Job) (state : State) : Type 0 where
  pub complete : (p : ℕ) → IsPacket job p → state.phase p ≡ Complete
  pub rest : NoWorkLeft job state

-- The journal is a run of single steps that completes every packet and to which no work is left, and in it the place
-- has this origin.
pub record IsWholeRun (job : Job) (journal : List Event) (place : Place) (origin : Origin) : Type 0 where
  pub events : List machine.Event
  pub singles : map coarse_of journal ≡ map One events
  pub state : State
  pub origins : Origins
  pub run : OriginsOf job events state origins
  pub over : IsFinished job state
  pub there : origin_at origins place ≡ named origin

-- two such runs that differ in a place
pub record AreFound (job : Job) (f : Found) : Type 0 where
  pub place : IsPlace job f.difference.place
  pub good : IsWholeRun job f.good f.difference.place f.difference.good
  pub bad : IsWholeRun job f.bad f.difference.place f.difference.bad
  pub differ : f.difference.good ≢ f.difference.bad

-- the two runs of a witness, and where they differ
abbrev pub found_of : WitnessValue → Found
found_of w = record {
  difference = record { place = w.place; good = w.good_origin; bad = w.bad_origin };
  good = w.good;
  bad = w.bad;
}

-- The two runs are such, and the conflict is the one that the audit refuses.
pub record IsWitness (job : Job) (w : WitnessValue) : Type 0 where
  pub refused : IsRefused job (audit.Conflict w.p w.r w.kind w.why)
  pub found : AreFound job (found_of w)

-- ---- why there is none

-- what a refusal of the audit is, where no witness was found
abbrev pub no_of : AuditNo → WitnessNo
no_of (audit.Stuck packets) = no.Stuck packets
no_of (audit.Conflict p r kind why) = no.None p r kind why
no_of audit.Memory = no.Memory

-- The answer is so: the job is ordered, these packets are the stuck ones, or this conflict is the one that the audit
-- refuses.
abbrev pub IsNo : Job → WitnessNo → Type 0
IsNo job no.Ordered = Ordered job
IsNo job (no.Stuck packets) = AreStuck job packets.items
IsNo job (no.None p r kind why) = IsRefused job (audit.Conflict p r kind why)
IsNo job no.Memory = Unit {0}

-- what an ordered job is answered
abbrev pub IsOrderedOrMemory : WitnessNo → Type 0
IsOrderedOrMemory e = (e ≡ no.Ordered) ⊎ (e ≡ no.Memory)
