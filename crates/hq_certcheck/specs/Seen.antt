-- What is known of the lines and pair lines of a certificate that were seen, and what a check of it answers.
use Rattle.std.specs.Prelude.{◌≡◌, ℕ, ◌≤◌, List, [], length, map, Option, Result, IfOk, IfErr}
use Rattle.hq_job.specs.Plan.{plan}
use Rattle.hq_job.specs.Value.{JobValue}
use Rattle.hq_model.specs.declared.limits.TheConstants.{PACKETS}
use Rattle.hq_model.specs.Job.{Job}
use Rattle.hq_model.specs.Certificate.{Certificate, Line, Pair, CertHolds}
use Rattle.hq_model.specs.Fence.{Ordered}
use Rattle.hq_model.specs.Order.{Extends}
use Rattle.hq_model.specs.Theorems.{Headline}
use Rattle.hq_certcheck.specs.Concluded.{conclusion_of}
use Rattle.hq_certcheck.specs.Covering.{AreListed, HasRows}
use Rattle.hq_certcheck.specs.Listed.{Block, BadLineBut, BadPairIs}
use Rattle.hq_certcheck.specs.Refusals.{IsRefused}
use Rattle.hq_certcheck.specs.View.{AcceptedJob}
use Rattle.hq_certcheck.specs.declared.fault.CheckNo.{CheckNo}
use Rattle.hq_certcheck.specs.declared.fault.CheckNo.TheVariants.{Memory}
use Rattle.hq_certcheck.specs.declared.seen.Seen.TheInside.{Inside}
use Rattle.hq_certcheck.specs.declared.conclusion.Conclusion.{Conclusion}

-- What the lines conclude, and one that doesn't hold; for so many packets, which kinds of conflict of which two have
-- pair lines, and the packets of the first pair line that doesn't hold.
pub record SeenValue : Type 0 where
  pub lines : List Conclusion
  pub bad_line : Option ℕ
  pub count : ℕ
  pub flags : List ℕ
  pub bad_pair : Option (ℕ × ℕ)

-- what the fields mean
abbrev pub seen_of : Inside → SeenValue
seen_of s = record {
  lines = s.lines.items;
  bad_line = s.bad_line;
  count = s.count;
  flags = s.flags.items;
  bad_pair = s.bad_pair;
}

-- there are the rows of each packet, or none yet
pub record IsTable (s : Inside) : Type 0 where
  pub few : s.count ≤ PACKETS
  pub rows : HasRows s.count s.flags.items

-- These lines and these pair lines of a certificate were seen, and all lines were checked but those of these blocks.
-- Each kind of conflict of each two packets has its flag exactly where one of the pair lines is for it, and the first
-- pair line that doesn't hold is known.
pub record HasSeen (job : Job) (lines : List Line) (pairs : List Pair) (left : List Block)
    (s : SeenValue) : Type 0 where
  pub concluded : map conclusion_of lines ≡ s.lines
  pub checked : BadLineBut job lines left s.bad_line
  pub count : s.count ≡ length job.packets
  pub listed : AreListed pairs s.count s.flags
  pub bad : BadPairIs job lines pairs s.bad_pair

-- All lines and pair lines of the certificate were seen, and all lines were checked.
abbrev pub IsSeen : Job → Certificate → SeenValue → Type 0
IsSeen job c s = HasSeen job c.lines c.pairs [] s

-- What a check of the certificate answers: the job with the certificate's order where the certificate holds, and
-- then all that follows of the job; or the first reason why it doesn't, which is that memory ran out where it does.
pub record IsChecked (job : JobValue) (c : Certificate) (r : Result AcceptedJob (CheckNo × JobValue)) : Type 0 where
  pub accepted : IfOk r (λ a. CertHolds (plan job) c × (a.job ≡ job) × (a.order ≡ c.order))
  pub ordered : IfOk r (λ _. Ordered (plan job))
  pub extends : IfOk r (λ a. Extends (plan job) a.order)
  pub headline : IfOk r (λ _. Headline (plan job))
  pub refused : IfErr r (λ e. (e.1 ≡ job) × IsRefused (plan job) c e.0)
  pub only : CertHolds (plan job) c → IfErr r (λ e. e.0 ≡ Memory)
