-- Copies of a job on which changes are tried.
use Rattle.std.specs.Prelude.{MatchResult, is_ok}
use Rattle.std.proofs.Common.{◌≡◌, ◌↔◌, ℕ, ◌<◌, inl, inr, IsTrue, Bool, true, false, Some, None, Result, Ok, Err, sym, ap, subst, refl, ◌∙◌, length, arith}
use Rattle.std.proofs.lemmas.Bool.{cases_eq}
use Rattle.hq_packet.specs.declared.packet.Head.{Head}
use Rattle.hq_packet.specs.declared.packet.Scope.{Scope}
use Rattle.hq_packet.specs.declared.packet.Scope.TheVariants as scope
use Rattle.hq_model.specs.Job.{Job, IsPacket}
use Rattle.hq_model.specs.Fence.{Shown}
use Rattle.hq_model.specs.Settings.{SameButHeads, Raises, head_at, head_of, with_head}
use Rattle.hq_model.proofs.SettingsKept.{packets_same, same_length, heads_leave_conflicts}
use Rattle.hq_model.proofs.SettingsRaised.{raising_shows}
use Rattle.hq_model.proofs.SettingsSteps.{heads_are_set, same_by_heads}
use Rattle.hq_job.specs.Plan.{plan}
use Rattle.hq_job.specs.Value.{JobValue}
use Rattle.hq_order.specs.View.{AreOf, SameButScopes}
use Rattle.hq_order.specs.declared.before.Rounds.{Rounds}
use Rattle.hq_waits.proofs.Packets.{packets_count}
use Rattle.hq_order.proofs.Scopes.{scopes_leave_rounds}
use Rattle.hq_audit.specs.declared.directed.Directed.{Directed}
use Rattle.hq_audit.specs.declared.directed.Unshown.{Unshown}
use Rattle.hq_audit.specs.Refused.{ShownOneWay, IsDirected, IsUnshown}
use Rattle.hq_audit.proofs.Turning.{one_way}
use Rattle.hq_explain.specs.declared.change.Change.{Change}
use Rattle.hq_explain.specs.declared.change.Change.TheVariants as change
use Rattle.hq_explain.specs.declared.change.Fence.{Fence}
use Rattle.hq_explain.specs.declared.change.Fence.TheVariants as fence
use Rattle.hq_explain.specs.Changes.{IsRaise, Orders, changed, is_wider, job_changed}
use Rattle.hq_explain.specs.Advised.{IsLeast}

-- a packet is one whatever the heads
pub still_packet : (j k : Job) → SameButHeads j k → (p : ℕ) → IsPacket j p → IsPacket k p
still_packet j k same p is = let e : length j.packets ≡ length k.packets = same_length j.packets k.packets (packets_same j k same) in let l : p < length j.packets = is in omega arith

-- each packet's head, where packet p's is set
pub head_elsewhere : (j : Job) (p : ℕ) (head : Head) → IsPacket j p → (r : ℕ) → ((r ≡ p) → ⊥) → head_at (with_head j p head) r ≡ head_at j r
head_elsewhere j p head is r n = ap head_of ((heads_are_set j p head is).others r n)

pub head_here : (j : Job) (p : ℕ) (head : Head) → IsPacket j p → head_at (with_head j p head) p ≡ head
head_here j p head is = (heads_are_set j p head is).here

-- a head that is set back leaves the job as it was
pub set_back : (j : Job) (p : ℕ) (head : Head) → IsPacket j p → with_head (with_head j p head) p (head_at j p) ≡ j
set_back j p head is =
    let k = with_head j p head in
    let one = heads_are_set j p head is in
    let is' = still_packet j k one.same p is in
    let two = heads_are_set k p (head_at j p) is' in
    sym (same_by_heads j (with_head k p (head_at j p)) (one.same ∙ two.same)
    (λ r l. elim (cases_eq r p) [
      | inl e ↦ subst (λ q. head_at j q ≡ head_at (with_head k p (head_at j p)) q) (sym e) (sym two.here)
      | inr n ↦ sym (ap head_of (two.others r n) ∙ ap head_of (one.others r n))
    ]))

-- a head that keeps the bit changes scopes alone
pub scopes_alone : (j : Job) (p : ℕ) (head : Head) → IsPacket j p → head.barrier ≡ (head_at j p).barrier → SameButScopes j (with_head j p head)
scopes_alone j p head is bit =
    let one = heads_are_set j p head is in
    record {
      heads = one.same;
      bits = λ r. elim (cases_eq r p) [
        | inl e ↦ subst (λ q. (head_at j q).barrier ≡ (head_at (with_head j p head) q).barrier) (sym e) (sym bit ∙ sym (ap (λ h. h.barrier) one.here))
        | inr n ↦ sym (ap (λ h. h.barrier) (ap head_of (one.others r n)))
      ];
    }

back : (j k : Job) → SameButScopes j k → SameButScopes k j
back j k s = record { heads = sym s.heads; bits = λ r. sym (s.bits r) }

-- the rounds of a job are those of the job with other scopes, and the other way round
pub rounds_there : (job new : Job) (rounds : Rounds) (p : ℕ) (head : Head) → IsPacket job p → head.barrier ≡ (head_at job p).barrier → new ≡ with_head job p head → AreOf job rounds → AreOf new rounds
rounds_there job new rounds p head is bit e h = subst (λ j. AreOf j rounds) (sym e) (scopes_leave_rounds job (with_head job p head) rounds (scopes_alone job p head is bit) h)

pub rounds_back : (job new : Job) (rounds : Rounds) (p : ℕ) (head : Head) → IsPacket job p → head.barrier ≡ (head_at job p).barrier → new ≡ with_head job p head → AreOf new rounds → AreOf job rounds
rounds_back job new rounds p head is bit e h = scopes_leave_rounds (with_head job p head) job rounds (back job (with_head job p head) (scopes_alone job p head is bit)) (subst (λ j. AreOf j rounds) e h)

pub still_there : (job : Job) (new : JobValue) (p : ℕ) (head : Head) → IsPacket job p → plan new ≡ with_head job p head → p < length new.packets
still_there job new p head is e =
    let l : p < length (with_head job p head).packets = still_packet job (with_head job p head) (heads_are_set job p head is).same p is in
    let m : length (with_head job p head).packets ≡ length new.packets = ap (λ j. length j.packets) (sym e) ∙ packets_count new in
    omega arith

-- ---- what is asked of two packets

pub ok_is_one_way : (job : Job) (a b : ℕ) (r : Result Directed Unshown) → MatchResult r (λ d. IsDirected job a b d) (λ u. IsUnshown job a b u) → IsTrue (is_ok r) ↔ ShownOneWay job a b
ok_is_one_way job a b (Ok d) h = (λ _. one_way job a b d h, λ _. refl)
ok_is_one_way job a b (Err u) h = (λ t. let never : ⊥ = cc in absurd never, λ s. absurd (h.neither s))

-- what is shown in a setting is shown in each above it
shown_up : (j k : Job) → Raises j k → (p r : ℕ) → Shown j p r → Shown k p r
shown_up j k up p r s kind there = (raising_shows j k p r up).shown kind (s kind ((heads_leave_conflicts j k kind p r up.same).1 there))

pub one_way_up : (j k : Job) → Raises j k → (a b : ℕ) → ShownOneWay j a b → ShownOneWay k a b
one_way_up j k up a b (inl s) = inl (shown_up j k up a b s)
one_way_up j k up a b (inr s) = inr (shown_up j k up b a s)

-- ---- scopes

pub orders_if : (job : Job) (a b p : ℕ) (c : Change) (o : Bool) → IsPacket job p → IsRaise c (head_at job p) → IsTrue o ↔ ShownOneWay (job_changed job p c) a b → IsTrue o ↔ Orders job a b p c
orders_if job a b p c o is up h = (λ t. record { is_packet = is; raises = up; orders = h.0 t }, λ x. h.1 x.orders)

pub orders_by : (job : Job) (a b p : ℕ) (c : Change) (o : Bool) (old head : Head) → IsPacket job p → old ≡ head_at job p → head ≡ changed c old → IsRaise c old → IsTrue o ↔ ShownOneWay (with_head job p head) a b → IsTrue o ↔ Orders job a b p c
orders_by job a b p c o old head is e h up s =
    orders_if job a b p c o is (subst (IsRaise c) e up) (subst (λ n. IsTrue o ↔ ShownOneWay (with_head job p n) a b) (h ∙ ap (changed c) e) s)

-- no scope at all is no raise
wider_none : (s : Scope) → IsTrue (is_wider scope.None s) → ⊥
wider_none s w = let never : ⊥ = cc in never

pub none_orders : (job : Job) (a b p : ℕ) (f : Fence) → ¬ Orders job a b p (change.Scope f scope.None)
none_orders job a b p fence.Acquire x = wider_none (head_at job p).acquire x.raises
none_orders job a b p fence.Release x = wider_none (head_at job p).release x.raises

pub least_agent : (Holds : Scope → Type 0) → (¬ Holds scope.None) → Holds scope.Agent → IsLeast Holds (Some scope.Agent)
least_agent Holds none h = (h, less)
  where
    less : (s : Scope) → IsTrue (is_wider scope.Agent s) → ¬ Holds s
    less scope.None w = none
    less scope.Agent w = let never : ⊥ = cc in absurd never
    less scope.System w = let never : ⊥ = cc in absurd never

pub least_system : (Holds : Scope → Type 0) → (¬ Holds scope.None) → (¬ Holds scope.Agent) → Holds scope.System → IsLeast Holds (Some scope.System)
least_system Holds none agent h = (h, less)
  where
    less : (s : Scope) → IsTrue (is_wider scope.System s) → ¬ Holds s
    less scope.None w = none
    less scope.Agent w = agent
    less scope.System w = let never : ⊥ = cc in absurd never

pub least_none : (Holds : Scope → Type 0) → (¬ Holds scope.None) → (¬ Holds scope.Agent) → (¬ Holds scope.System) → IsLeast Holds None
least_none Holds none agent system scope.None = none
least_none Holds none agent system scope.Agent = agent
least_none Holds none agent system scope.System = system

-- a test that fails
pub not_when : (o : Bool) (P : Type 0) → IsTrue o ↔ P → o ≡ false → ¬ P
not_when o P h f p = let t : true ≡ false = sym (h.1 p) ∙ f in let never : ⊥ = cc in never
