-- What an explanation says of a job, as a relation between the job and a text: which of several paths, fences or
-- waits a text tells of is open, and nothing else.
use Rattle.std.specs.Prelude.{ℕ, Bool, true, false, List, ◌++◌, length, slice_get, if◌then◌else◌}
use Rattle.std.specs.List.{list_any}
use Rattle.hq_job.specs.Value.{JobValue}
use Rattle.hq_model.specs.Job.{Job}
use Rattle.hq_model.specs.Order.{Before}
use Rattle.hq_audit.specs.Refused.{IsDirected, IsUnshown}
use Rattle.hq_audit.specs.declared.directed.Directed.{Directed}
use Rattle.hq_audit.specs.declared.directed.Unshown.{Unshown}
use Rattle.hq_graph.specs.Graph.{Is, Then, Each, Where}
use Rattle.hq_graph.specs.Order.{IsRule}
use Rattle.hq_graph.specs.declared.rule.Rule.{Rule}
use Rattle.hq_explain.specs.Advised.{AreAdvice}
use Rattle.hq_explain.specs.Texts.{head_text, kinds_text, hows_of, no_hows, path_title, step_line, why_line}
use Rattle.hq_explain.specs.Texts.{changes_title, no_change, advice_there, is_some_advice}
use Rattle.hq_explain.specs.declared.advice.Advice.{Advice}
use Rattle.hq_explain.specs.declared.conflicts.Hows.{Hows}

-- ---- the order

-- steps that lead from p to r, each by a rule that alone makes it
pub data StepsText (job : JobValue) (order : Job) : ℕ → ℕ → List ℕ → Type 0 where
  one : {p r : ℕ} (by : Rule) → IsRule order p r by → StepsText job order p r (step_line job p r by)
  more : {p m r : ℕ} {first second : List ℕ} → StepsText job order p m first → StepsText job order m r second
      → StepsText job order p r (first ++ second)

-- that p is complete before r is active, and steps that lead from p to r
abbrev pub PathText : JobValue → Job → ℕ → ℕ → List ℕ → Type 0
PathText job order p r text = Then (Is (path_title p r)) (StepsText job order p r) text

-- ---- what would order two packets

-- what opens the changes that would order them, if there are some; or that none would
abbrev pub ChangesText : List Advice → List ℕ → Type 0
ChangesText list text = Is (if list_any is_some_advice list then changes_title else no_change) text

-- the single changes that would order them, packet by packet; or that none would
abbrev pub AdviceText : List Advice → List ℕ → Type 0
AdviceText list text = Then (ChangesText list) (Each (λ p. Is (advice_there p (slice_get list p))) (length list)) text

-- Each single change of the job that would order a and b is told of, and no other.
abbrev pub WouldOrder : Job → ℕ → ℕ → List ℕ → Type 0
WouldOrder order a b text = (list : List Advice) × AreAdvice order a b list × AdviceText list text

-- ---- two packets that conflict

-- what the packets are; and of each kind of conflict of p with r the bytes, and how it is ordered, if that is told
abbrev pub ConflictText : JobValue → ℕ → ℕ → Bool → ℕ → ℕ → Hows → List ℕ → Type 0
ConflictText job a b ordered p r hows text = Then (Is (head_text job a b ordered)) (Is (kinds_text job p r hows)) text

-- why p is before r, if it is
abbrev pub WayText : JobValue → Job → ℕ → ℕ → List ℕ → Type 0
WayText job order p r text = Where (Before order p r) (PathText job order p r) text

-- of two packets that are ordered: what they are, how they conflict, how that is ordered, and why one comes first
abbrev pub OrderedText : JobValue → Job → ℕ → ℕ → Directed → List ℕ → Type 0
OrderedText job order a b d text = Then (ConflictText job a b true d.first d.second (hows_of d.shown))
    (WayText job order d.first d.second) text

-- the bytes; why p comes before r, if it does; and what lacks
abbrev pub LackText : JobValue → Job → ℕ → ℕ → Unshown → List ℕ → Type 0
LackText job order a b u text = Then (Then (ConflictText job a b false u.p u.r no_hows) (WayText job order u.p u.r))
    (Is (why_line u.fault.why u.p u.r)) text

-- the same, and behind it each single change that would order the two, or that none would
abbrev pub OpenText : JobValue → Job → ℕ → ℕ → Unshown → List ℕ → Type 0
OpenText job order a b u text = Then (LackText job order a b u) (WouldOrder order a b) text

-- what is said of two packets, where they are ordered, and where they aren't
abbrev pub PairText : JobValue → Job → ℕ → ℕ → Bool → List ℕ → Type 0
PairText job order a b true text = (d : Directed) × IsDirected order a b d × OrderedText job order a b d text
PairText job order a b false text = (u : Unshown) × IsUnshown order a b u × OpenText job order a b u text
