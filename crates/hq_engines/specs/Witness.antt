-- What `witness` writes.
use Rattle.std.specs.Prelude.{◌≡◌, ℕ, ◌⊎◌, List, [], ◌++◌, Option, Some, None, codes}
use Rattle.std.specs.Fmt.{decimal}
use Rattle.std.specs.Io.KnownBytes.{Appends}
use Rattle.hq_finding.specs.Names.{kind_name}
use Rattle.hq_finding.specs.declared.kind.Kind.{Kind}
use Rattle.hq_job.specs.Plan.{plan}
use Rattle.hq_job.specs.Value.{JobValue}
use Rattle.hq_model.specs.Fence.{Ordered}
use Rattle.hq_report.specs.Spots.{spot_of}
use Rattle.hq_report.specs.declared.spots.Spot.{Spot}
use Rattle.hq_timeline.specs.Printed.{text_of}
use Rattle.hq_witness.specs.Witness.{WitnessValue, IsWitness}
use Rattle.hq_witness.specs.declared.origin.Origin.{Origin}
use Rattle.hq_witness.specs.declared.origin.Origin.TheVariants as origin
use Rattle.hq_witness.specs.declared.place.Place.{Place}
use Rattle.hq_witness.specs.declared.place.Place.TheVariants as place
use Rattle.hq_judging.specs.Audit.{NotOrdered}
use Rattle.hq_status.specs.Reports.{with_feed}
use Rattle.hq_status.specs.declared.status.Difference.{Difference}
use Rattle.hq_status.specs.declared.status.Differs.{Differs}
use Rattle.hq_status.specs.declared.status.Differs.TheVariants as differs
use Rattle.hq_status.specs.declared.status.Status.{Status}
use Rattle.hq_status.specs.declared.status.Status.TheVariants.{Done, Shown, Memory, File}

-- ---- the lines

-- the packet that stored the byte, or that it is as memory starts
abbrev pub origin_text : Option ℕ → List ℕ
origin_text None = codes "start"
origin_text (Some p) = decimal p

-- a byte's buffer, and how far from its beginning the byte lies
abbrev pub byte_text : Option Spot → List ℕ
byte_text None = codes "memory"
byte_text (Some spot) = codes "memory " ++ spot.name ++ codes " " ++ decimal spot.offset

-- what two runs differ in: an entry that a packet reads, or a byte of memory
abbrev pub place_text : Differs → List ℕ
place_text (differs.Read p i) = codes "read " ++ decimal p ++ codes " " ++ decimal i
place_text (differs.Memory spot) = byte_text spot

-- the two packets of a witness, and the kind of their conflict
abbrev pub pair_text : ℕ → ℕ → Kind → List ℕ
pair_text p r kind = codes "witness " ++ decimal p ++ codes " " ++ decimal r ++ codes " " ++ kind_name kind

-- the place, and its origin in the good run and in the bad one
abbrev pub differs_text : Difference → List ℕ
differs_text d = place_text d.place ++ codes " " ++ origin_text d.good ++ codes " " ++ origin_text d.bad

-- the lines of a witness, the last without its line feed: its two packets, and how its two runs differ
abbrev pub lines_text : ℕ → ℕ → Kind → Difference → List ℕ
lines_text p r kind difference = pair_text p r kind ++ codes "\n" ++ differs_text difference

-- what a place is in a job
abbrev pub differs_at : JobValue → Place → Differs
differs_at job (place.Read p i) = differs.Read p i
differs_at job (place.Memory b) = differs.Memory (spot_of job.buffers b)

-- the packet that stored a byte of this origin, if one did
abbrev pub stored_by : Origin → Option ℕ
stored_by origin.Start = None
stored_by (origin.StoredBy p) = Some p

-- how the two runs of a witness differ
abbrev pub difference_of : JobValue → WitnessValue → Difference
difference_of job w =
    record { place = differs_at job w.place; good = stored_by w.good_origin; bad = stored_by w.bad_origin }

-- what is told of a witness of this job, in these lines
abbrev pub witness_text : JobValue → WitnessValue → List ℕ
witness_text job w = lines_text w.p w.r w.kind (difference_of job w)

-- ---- the report

-- What is written of a job to the writers of the two timelines and as the answer. Where there is a witness, its two
-- timelines and what it shows; else no timeline, and that the job is ordered, or why it isn't. Where memory runs
-- out there may be a timeline of the good run.
pub data WitnessReport (job : JobValue) : List ℕ → List ℕ → List ℕ → Status → Type 0 where
  shown : (w : WitnessValue) → IsWitness (plan job) w
      → WitnessReport job (text_of w.good) (text_of w.bad) (with_feed (witness_text job w))
      (Shown (difference_of job w))
  ordered : Ordered (plan job) → WitnessReport job [] [] (with_feed (codes "ordered")) Done
  not_ordered : {out : List ℕ} {status : Status} → NotOrdered (plan job) out status → WitnessReport job [] [] out status
  broken : (w : WitnessValue) → IsWitness (plan job) w
      → WitnessReport job (text_of w.good) [] (with_feed (codes "out of memory")) Memory

-- what two writers of timelines and one of an answer held, and hold
pub record Held : Type 0 where
  pub good : Option (List ℕ)
  pub bad : Option (List ℕ)
  pub answer : Option (List ℕ)

-- The three texts were written behind what the writers held, and the status answered; or a writer failed.
abbrev pub AllSaid : Held → Held → List ℕ → List ℕ → List ℕ → Status → Status → Type 0
AllSaid old new good bad text status answered =
    ((answered ≡ status) × Appends old.good new.good good × Appends old.bad new.bad bad
    × Appends old.answer new.answer text)
    ⊎ (answered ≡ File)

-- What the report asks for was written, and its status answered; or a writer failed.
abbrev pub Witnessed : (List ℕ → List ℕ → List ℕ → Status → Type 0) → Held → Held → Status → Type 0
Witnessed Report old new answered =
    (good : List ℕ) × (bad : List ℕ) × (text : List ℕ) × (status : Status) × Report good bad text status
    × AllSaid old new good bad text status answered
