-- What was written says what it is to say.
use Rattle.std.proofs.Common.{◌<◌, ◌++◌, ℕ, zero, suc, List, Option, sym, subst, inl, inr, Result, Ok, Err, OnOk, arith}
use Rattle.std.specs.Io.KnownBytes.{Appends}
use Rattle.hq_job.specs.Value.{JobValue}
use Rattle.hq_model.specs.Job.{Job, Decrements}
use Rattle.hq_model.specs.Order.{Before, Branch}
use Rattle.hq_model.specs.Order.Branch.{itself, after}
use Rattle.hq_order.specs.Rounds.{Direct, Next, Within, Reaches, IsFirstWithin, Between}
use Rattle.hq_order.specs.Rounds.Precedes.{by_bit, by_queue}
use Rattle.hq_order.specs.Rounds.Awaits.{by_and, by_or}
use Rattle.hq_order.specs.Rounds.Next.{by_known, by_either, through}
use Rattle.hq_order.proofs.Closure.{within_before}
use Rattle.hq_graph.specs.Graph.{Wrote}
use Rattle.hq_graph.specs.Order.{HasRule, IsRule}
use Rattle.hq_graph.specs.declared.rule.Rule.{Rule}
use Rattle.hq_graph.specs.declared.rule.Rule.TheVariants as rule
use Rattle.hq_graph.proofs.Joining.{so_on, hence_on, appends_more}
use Rattle.hq_explain.specs.Advised.{AreAdvice}
use Rattle.hq_explain.specs.Explain.{StepsText, AdviceText, WouldOrder}
use Rattle.hq_explain.specs.Explain.StepsText.{one, more}
use Rattle.hq_explain.specs.Texts.{step_line}
use Rattle.hq_explain.specs.declared.advice.Advice.{Advice}

-- ---- steps

pub step_on : {A E : Type 0} (r : Result A E) (a b : Option (List ℕ)) (job : JobValue) (order : Job) (p q : ℕ) (by : Rule) → IsRule order p q by → OnOk r (Appends a b (step_line job p q by)) → OnOk r (Wrote a b (StepsText job order p q))
step_on r a b job order p q by is h = so_on r a b (StepsText job order p q) (step_line job p q by) (one by is) h

joined : (a b c : Option (List ℕ)) (job : JobValue) (order : Job) (p m q : ℕ) → Wrote a b (StepsText job order p m) → Wrote b c (StepsText job order m q) → Wrote a c (StepsText job order p q)
joined a b c job order p m q x y = record { text = x.text ++ y.text; says = more x.says y.says; appends = appends_more a b c x.text y.text x.appends y.appends }

pub joined_on : {A E : Type 0} (r : Result A E) (a b c : Option (List ℕ)) (job : JobValue) (order : Job) (p m q : ℕ) → Wrote a b (StepsText job order p m) → OnOk r (Wrote b c (StepsText job order m q)) → OnOk r (Wrote a c (StepsText job order p q))
joined_on (Ok v) a b c job order p m q x y = joined a b c job order p m q x y
joined_on (Err e) a b c job order p m q x y = tt

-- a packet between two, by lower rounds
pub first_half : (job : Job) (round p r m : ℕ) → Between job round p r m → Before job p m
first_half job round p r m b = within_before job b.k p m b.first

pub second_half : (job : Job) (round p r m : ℕ) → Between job round p r m → Before job m r
second_half job round p r m b = within_before job b.k m r b.second

-- ---- the rule of a pair with none between by lower rounds

direct_rule : (job : Job) (p r : ℕ) → Direct job p r → HasRule job p r
direct_rule job p r (inl (by_bit {j = j} by)) = (rule.Bit j, by)
direct_rule job p r (inl (by_queue by)) = (rule.Queue, by)
direct_rule job p r (inr (by_and {slot = slot} {s = s} by)) = (rule.And s, (slot, by))
direct_rule job p r (inr (by_or any f)) = (rule.Or, (any, λ slot s w. itself (f slot s w)))

branch_of : (job : Job) (k p s : ℕ) → Reaches job (Within job k) p s → Branch job p s
branch_of job k p s h = elim h.upto [
  | inl e ↦ itself (subst (λ d. Decrements job d s) (sym e) h.decrements)
  | inr w ↦ after h.decrements (within_before job k p h.d w)
]

next_rule : (job : Job) (k p r : ℕ) → ((j : ℕ) → j < suc k → Within job j p r → ⊥) → ((m : ℕ) → Between job (suc k) p r m → ⊥) → Next job (Within job k) p r → HasRule job p r
next_rule job k p r first none (by_known w) = absurd (first k (omega arith) w)
next_rule job k p r first none (by_either e) = (rule.Or, (e.any, λ slot s w. branch_of job k p s (e.each slot s w)))
next_rule job k p r first none (through {m = m} x y) = absurd (none m (record { k = k; lower = omega arith; first = x; second = y }))

pub alone_rule : (job : Job) (round p r : ℕ) → IsFirstWithin job round p r → ((m : ℕ) → Between job round p r m → ⊥) → HasRule job p r
alone_rule job zero p r f none = direct_rule job p r f.within
alone_rule job (suc k) p r f none = next_rule job k p r f.first none f.within

-- ---- two packets

pub would_order_on : {A E : Type 0} (r : Result A E) (x y : Option (List ℕ)) (order : Job) (a b : ℕ) (list : List Advice) → AreAdvice order a b list → OnOk r (Wrote x y (AdviceText list)) → OnOk r (Wrote x y (WouldOrder order a b))
would_order_on r x y order a b list are h = hence_on r x y (AdviceText list) (WouldOrder order a b) (λ t s. (list, are, s)) h
