-- Rules, waits and conflicts.
use Rattle.std.specs.Prelude.{MatchOption}
use Rattle.std.proofs.Common.{◌≡◌, ◌↔◌, ℕ, suc, ◌-◌, ◌<◌, ◌≤◌, ◌⊎◌, inl, inr, Bool, true, false, IsTrue, List, [], ◌∷◌, Option, Some, None, length, slice_index, refl, sym, subst, ◌∙◌, ap, arith}
use Rattle.std.proofs.lemmas.Bool.{cases_lt}
use Rattle.hq_model.specs.Job.{Job, packet, IsPacket, Frees}
use Rattle.hq_model.specs.Order.{Before, OrderList, In, Stuck, place}
use Rattle.hq_model.specs.Order.Before.{by_bit, by_queue, by_and, by_or, through}
use Rattle.hq_model.specs.Fence.{Ordered}
use Rattle.hq_model.specs.Theorems.{Valid}
use Rattle.hq_model.proofs.Places.{at_place, place_at, in_more, in_pushed}
use Rattle.hq_bits.specs.Bits.{has}
use Rattle.hq_audit.specs.declared.directed.Unshown.{Unshown}
use Rattle.hq_audit.specs.declared.fault.AuditNo.TheVariants as audit
use Rattle.hq_audit.specs.Refused.{AllShown, IsFirstUnshown}
use Rattle.hq_audit.proofs.Certifying.{ordered_is_not_refused, shown_is_ordered}
use Rattle.hq_finding.specs.declared.found.Found.TheVariants as found
use Rattle.hq_graph.specs.declared.rule.Rule.{Rule}
use Rattle.hq_graph.specs.declared.rule.Rule.TheVariants as rule
use Rattle.hq_graph.specs.declared.wait.Wait.{Wait}
use Rattle.hq_graph.specs.declared.wait.Wait.TheVariants as wait
use Rattle.hq_graph.specs.Order.{HasRule, IsStep, IsRule, WaitsBy, Awaits, IsFound, NeverSubmitted}
use Rattle.hq_graph.specs.declared.stuck.Stuck as declared
use Rattle.hq_graph.specs.Known.{AreTurns, TellsStuck}

-- ---- the rule of a step

step_rule : (job : Job) (p r : ℕ) → Before job p r → ((m : ℕ) → Before job p m → Before job m r → ⊥) → HasRule job p r
step_rule job p r (by_bit {j = j} by) none = (rule.Bit j, by)
step_rule job p r (by_queue by) none = (rule.Queue, by)
step_rule job p r (by_and {slot = slot} {s = s} by) none = (rule.And s, (slot, by))
step_rule job p r (by_or any f) none = (rule.Or, (any, f))
step_rule job p r (through {m = m} x y) none = absurd (none m x y)

-- A step follows from one rule alone.
pub rule_of_step : (job : Job) (p r : ℕ) → IsStep job p r → HasRule job p r
rule_of_step job p r step = step_rule job p r step.before step.none_between

or_of : (job : Job) (p r : ℕ) (by : Rule) → IsRule job p r by → ((j : ℕ) → ¬ IsRule job p r (rule.Bit j)) → (¬ IsRule job p r rule.Queue) → ((s : ℕ) → ¬ IsRule job p r (rule.And s)) → IsRule job p r rule.Or
or_of job p r (rule.Bit j) is nb nq na = absurd (nb j is)
or_of job p r rule.Queue is nb nq na = absurd (nq is)
or_of job p r (rule.And s) is nb nq na = absurd (na s is)
or_of job p r rule.Or is nb nq na = is

-- Where a rule puts p before r, and no other does, it is that of a barrier-OR.
pub or_rule : (job : Job) (p r : ℕ) → HasRule job p r → ((j : ℕ) → ¬ IsRule job p r (rule.Bit j)) → (¬ IsRule job p r rule.Queue) → ((s : ℕ) → ¬ IsRule job p r (rule.And s)) → IsRule job p r rule.Or
or_rule job p r has nb nq na = or_of job p r has.0 has.1 nb nq na

-- ---- ways to wait

pub not_so : (P : Type 0) (b : Bool) → IsTrue b ↔ P → b ≡ false → ¬ P
not_so P b h f p = let t : true ≡ false = sym (h.1 p) ∙ f in let never : ⊥ = cc in never

pub no_way : (job : Job) (p r : ℕ) → (¬ WaitsBy job p r wait.Ahead) → (¬ Frees job p r) → ((s : ℕ) → ¬ WaitsBy job p r (wait.Signal s)) → (¬ WaitsBy job p r wait.Turn) → (by : Wait) → ¬ WaitsBy job p r by
no_way job p r a f s t wait.Ahead = a
no_way job p r a f s t wait.Slot = f
no_way job p r a f s t (wait.Signal k) = s k
no_way job p r a f s t wait.Turn = t

pub some_stuck : (job : Job) (stuck : declared.Stuck) (p : ℕ) → TellsStuck job stuck → Stuck job p → IsTrue stuck.some
some_stuck job stuck p t s = elim (is_or_not stuck.some) [ inl y ↦ y | inr n ↦ absurd (t.free n p s) ]
  where
    is_or_not : (b : Bool) → IsTrue b ⊎ (b ≡ false)
    is_or_not true = inl refl
    is_or_not false = inr refl

pub awaits_if : (job : Job) (p r : ℕ) (o : Option Wait) → Stuck job p → Stuck job r → MatchOption o ((by : Wait) → ¬ WaitsBy job p r by) (λ by. WaitsBy job p r by) → MatchOption o ((by : Wait) → ¬ Awaits job p r by) (λ by. Awaits job p r by)
awaits_if job p r None x y h = λ by a. h by a.waits
awaits_if job p r (Some by) x y h = record { first = x; second = y; waits = h }

-- ---- turns

-- From the first turn on whose packet has no slot, none is submitted.
pub barred_is : (job : Job) (set turns : List ℕ) (barred p : ℕ) → Valid job → ((q : ℕ) → IsTrue (has set q) ↔ Stuck job q) → AreTurns job set turns barred → IsPacket job p → (barred ≤ place job.submissions p) ↔ NeverSubmitted job p
barred_is job set turns barred p valid each t is =
    let there : In job.submissions p = valid.submissions.all p is in (
      λ l.
          let low : barred < length job.submissions = omega arith in
          let h = t.there low in
          let m = slice_index job.submissions barred in
          let most : place job.submissions m ≤ barred = place_at job.submissions barred 0 low in (
            h.0,
            (each h.0).0 h.1,
            record {
              is_packet = is;
              m = m;
              upto = elim (cases_lt (place job.submissions m) (place job.submissions p)) [
                | inl ahead ↦ inr ahead
                | inr same ↦
                    let one : barred ≡ place job.submissions p = omega arith in
                    inl (ap (slice_index job.submissions) one ∙ at_place job.submissions p 0 there)
              ];
              frees = h.2;
            },
          ),
      λ n. elim (cases_lt (place job.submissions p) barred) [
        | inr high ↦ high
        | inl low ↦
            let f = n.2 in
            let m_is : IsPacket job f.m = f.frees.earlier.is_packet in
            let inside : In job.submissions f.m = valid.submissions.all f.m m_is in
            let here : slice_index job.submissions (place job.submissions f.m) ≡ f.m = at_place job.submissions f.m 0 inside in
            let ahead : place job.submissions f.m < barred = elim f.upto [ inl e ↦ subst (λ m. place job.submissions m < barred) (sym e) low | inr before ↦ omega arith ] in
            absurd (t.first (place job.submissions f.m) ahead (n.0, (each n.0).1 n.1, subst (Frees job n.0) (sym here) f.frees))
      ],
    )

-- p comes right ahead of the packet of the other turn, and never is submitted
pub turn_is : (job : Job) (set turns : List ℕ) (barred p r turn other : ℕ) (b : Bool) → Valid job → ((q : ℕ) → IsTrue (has set q) ↔ Stuck job q) → AreTurns job set turns barred → IsPacket job p
    → turn ≡ place job.submissions p → other ≡ place job.submissions r → barred ≤ turn → IsTrue b ↔ (suc turn ≡ other) → IsTrue b ↔ WaitsBy job p r wait.Turn
turn_is job set turns barred p r turn other b valid each t is e f l h =
    let never : NeverSubmitted job p = (barred_is job set turns barred p valid each t is).0 (omega arith) in (
      λ x. (ap suc (sym e) ∙ h.0 x ∙ f, never),
      λ w. h.1 (ap suc e ∙ w.0 ∙ sym f),
    )

pub no_turn : (job : Job) (set turns : List ℕ) (barred p r turn : ℕ) → Valid job → ((q : ℕ) → IsTrue (has set q) ↔ Stuck job q) → AreTurns job set turns barred → IsPacket job p
    → turn ≡ place job.submissions p → turn < barred → ¬ WaitsBy job p r wait.Turn
no_turn job set turns barred p r turn valid each t is e l w = let h : barred ≤ place job.submissions p = (barred_is job set turns barred p valid each t is).1 w.1 in omega arith

-- ---- what is found

pub conflict_found : (job : Job) (u : Unshown) → ((list : List ℕ) × OrderList job list) → IsFirstUnshown job u → IsFound job found.Conflict
conflict_found job u o f =
    ((λ (ordered : Ordered job). let memory : audit.Conflict u.p u.r u.fault.kind u.fault.why ≡ audit.Memory = ordered_is_not_refused job (audit.Conflict u.p u.r u.fault.kind u.fault.why) ordered (o, f) in let never : ⊥ = cc in never), o)

pub ordered_found : (job : Job) → ((list : List ℕ) × OrderList job list) → AllShown job → IsFound job found.Ordered
ordered_found job o h = shown_is_ordered job o.0 o.1 h

-- ---- lists

pub some_in : (list : List ℕ) → 0 < length list → (p : ℕ) × In list p
some_in [] l = absurd (omega arith)
some_in (x ∷ xs) l = (x, in_more (x ∷ []) xs x (in_pushed [] x))
