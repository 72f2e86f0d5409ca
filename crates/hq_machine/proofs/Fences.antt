-- An acquire fence over the lists is the model's.
use Rattle.std.proofs.Common.{◌≡◌, ℕ, ◌+◌, ◌-◌, ◌<◌, ◌≤◌, ◌&&◌, inl, inr, List, ◌++◌, Bool, true, false, cond, eqb, None, length, map, set, take, drop, get_or, refl, sym, ◌∙◌, ap, arith, length-set, get_or-set_same, get_or-set_other, length-append, length-drop, length-take-le, get_or-take, get_or-drop}
use Rattle.std.proofs.lemmas.Bool.{cases_eq, cases_lt, cond-true, cond-false, eq-eqb, ne_eqb}
use Rattle.std.proofs.lemmas.List.{get_or_append_left, get_or-append_right, length-map}
use Rattle.std.proofs.lemmas.List as lists
use Rattle.std.specs.Cmp.{nat_cmp_total}
use Rattle.std.specs.Ordering.{nat_cmp}
use Rattle.std.specs.FinMap as finite
use Rattle.hq_packet.specs.declared.packet.Scope.TheVariants as scope
use Rattle.hq_job.specs.Access.{AreOfQueue}
use Rattle.hq_model.specs.Job.{Job, packet, IsPacket, agent_of}
use Rattle.hq_packet.specs.Scopes.{reaches}
use Rattle.hq_model.specs.Machine.{State, Step, is_dirty, without_clean, acquired, with_phase}
use Rattle.hq_model.specs.Machine.Event.{Enter}
use Rattle.hq_model.specs.Machine.Phase.{Active}
use Rattle.hq_model.specs.Theorems.{Valid}
use Rattle.hq_model.specs.View.{Held, copies_of}
use Rattle.hq_copies.specs.Copies.{after_acquire, dirty_only, dirty_within, held}
use Rattle.hq_machine.specs.Changes.{Moved, in_phase, with_copies}
use Rattle.hq_machine.specs.Enabled.{MayEnter}
use Rattle.hq_machine.specs.State.{StateValue}
use Rattle.hq_machine.specs.View.{IsStateOf, state_of}
use Rattle.hq_events.proofs.Jobs.{agent_below}
use Rattle.hq_machine.proofs.CopyMoves.{SameShape, with_copies_keeps}
use Rattle.hq_machine.proofs.Moves.{in_phase_is, in_phase_keeps}
use Rattle.hq_machine.proofs.Within.{within_step}

get_dirty_only : (m : Held) (b : ℕ) → finite.get (dirty_only m) b ≡ without_clean (finite.get m b)
get_dirty_only m b = finite.get-retain_keys m (λ x. is_dirty (finite.get m x)) b (λ x t. ap (λ o. is_dirty o) (finite.get_tied nat_cmp_total m b x t))

within_length : (start stop : ℕ) (maps : List Held) → start ≤ stop → stop ≤ length maps → length (dirty_within start stop maps) ≡ length maps
within_length start stop maps rise fits =
    let a : length (take start maps) ≡ start = length-take-le start maps (omega arith) in
    let t : length (take stop maps) ≡ stop = length-take-le stop maps fits in
    let d : length (drop start (take stop maps)) ≡ stop - start = length-drop start (take stop maps) ∙ ap (λ n. n - start) t in
    let b : length (map dirty_only (drop start (take stop maps))) ≡ stop - start = length-map (drop start (take stop maps)) dirty_only ∙ d in
    let c : length (drop stop maps) ≡ length maps - stop = length-drop stop maps in
    let x : length ((take start maps ++ map dirty_only (drop start (take stop maps))) ++ drop stop maps) ≡ length (take start maps ++ map dirty_only (drop start (take stop maps))) + length (drop stop maps) = length-append _ (drop stop maps) in
    let y : length (take start maps ++ map dirty_only (drop start (take stop maps))) ≡ length (take start maps) + length (map dirty_only (drop start (take stop maps))) = length-append (take start maps) _ in
    omega arith

-- below the range, in it, and above it
module _ (start stop : ℕ) (maps : List Held) (rise : start ≤ stop) (fits : stop ≤ length maps) where
  first : length (take start maps) ≡ start
  first = length-take-le start maps (omega arith)

  middle : length (map dirty_only (drop start (take stop maps))) ≡ stop - start
  middle = length-map (drop start (take stop maps)) dirty_only ∙ length-drop start (take stop maps) ∙ ap (λ n. n - start) (length-take-le stop maps fits)

  both : length (take start maps ++ map dirty_only (drop start (take stop maps))) ≡ stop
  both = let y = length-append (take start maps) (map dirty_only (drop start (take stop maps))) in let a = first in let b = middle in omega arith

  below : (l : ℕ) → l < start → get_or (dirty_within start stop maps) l finite.empty ≡ get_or maps l finite.empty
  below l low = let e = both in let a = first in
      get_or_append_left (take start maps ++ map dirty_only (drop start (take stop maps))) (drop stop maps) finite.empty l (omega arith)
      ∙ get_or_append_left (take start maps) (map dirty_only (drop start (take stop maps))) finite.empty l (omega arith)
      ∙ get_or-take start maps l finite.empty low

  inside : (l : ℕ) → start ≤ l → l < stop → get_or (dirty_within start stop maps) l finite.empty ≡ dirty_only (get_or maps l finite.empty)
  inside l low high = let e = both in let b = middle in let d : length (drop start (take stop maps)) ≡ stop - start = length-drop start (take stop maps) ∙ ap (λ n. n - start) (length-take-le stop maps fits) in
      get_or_append_left (take start maps ++ map dirty_only (drop start (take stop maps))) (drop stop maps) finite.empty l (omega arith)
      ∙ get_or-append_right (take start maps) (map dirty_only (drop start (take stop maps))) start l finite.empty first low
      ∙ lists.get_or-map dirty_only (drop start (take stop maps)) (l - start) finite.empty finite.empty (omega arith)
      ∙ ap dirty_only (get_or-drop start (take stop maps) (l - start) finite.empty ∙ get_or-take stop maps (start + (l - start)) finite.empty (omega arith) ∙ ap (λ n. get_or maps n finite.empty) (omega arith))

  above : (l : ℕ) → stop ≤ l → get_or (dirty_within start stop maps) l finite.empty ≡ get_or maps l finite.empty
  above l high =
      get_or-append_right (take start maps ++ map dirty_only (drop start (take stop maps))) (drop stop maps) stop l finite.empty both high
      ∙ get_or-drop stop maps (l - stop) finite.empty ∙ ap (λ n. get_or maps n finite.empty) (omega arith)

-- the change of a fence over the lanes
lanes_after_acquire : (job : Job) (q start stop : ℕ) (maps : List Held) (t : Bool) → AreOfQueue job q start stop → start ≤ stop → stop ≤ length maps → length maps ≡ length job.packets → (l b : ℕ)
    → copies_of (cond t (dirty_within start stop maps) maps) l b ≡ cond (t && (eqb (packet job l).queue q)) (without_clean (copies_of maps l b)) (copies_of maps l b)
lanes_after_acquire job q start stop maps false are rise fits same l b = refl
lanes_after_acquire job q start stop maps true are rise fits same l b = elim (cases_lt l start) [
  | inl low ↦ ap (λ m. finite.get m b) (below start stop maps rise fits l low) ∙ sym (cond-false (eqb (packet job l).queue q) _ _ (ne_eqb (packet job l).queue q (λ e. let h = are.within l (omega arith) e in omega arith)))
  | inr high ↦ elim (cases_lt l stop) [
    | inl within ↦ ap (λ m. finite.get m b) (inside start stop maps rise fits l high within) ∙ get_dirty_only (get_or maps l finite.empty) b ∙ sym (cond-true (eqb (packet job l).queue q) _ _ (eq-eqb (packet job l).queue q (are.of_queue l high within).1))
    | inr past ↦ ap (λ m. finite.get m b) (above start stop maps rise fits l past) ∙ elim (cases_lt l (length maps)) [
      | inl there ↦ sym (cond-false (eqb (packet job l).queue q) _ _ (ne_eqb (packet job l).queue q (λ e. let h = are.within l (omega arith) e in omega arith)))
      | inr out ↦
          let none : copies_of maps l b ≡ None = ap (λ m. finite.get m b) (lists.get_or_past maps l finite.empty out) ∙ finite.get-empty nat_cmp b in
          none ∙ sym (either (eqb (packet job l).queue q) none)
    ]
  ]
]
  where
    either : (t : Bool) → copies_of maps l b ≡ None → cond t (without_clean (copies_of maps l b)) (copies_of maps l b) ≡ None
    either false e = e
    either true e = ap without_clean e

agents_after_acquire : (a : ℕ) (maps : List Held) (t : Bool) → a < length maps → (x b : ℕ)
    → copies_of (cond t (set maps a (dirty_only (held maps a))) maps) x b ≡ cond (t && eqb x a) (without_clean (copies_of maps x b)) (copies_of maps x b)
agents_after_acquire a maps false l x b = refl
agents_after_acquire a maps true l x b = elim (cases_eq x a) [
  | inl e ↦
      ap (λ y. finite.get (get_or (set maps a (dirty_only (held maps a))) y finite.empty) b) e ∙ ap (λ m. finite.get m b) (get_or-set_same maps a (dirty_only (held maps a)) finite.empty l)
      ∙ get_dirty_only (held maps a) b ∙ ap (λ y. without_clean (copies_of maps y b)) (sym e) ∙ sym (cond-true (eqb x a) _ _ (eq-eqb x a e))
  | inr d ↦ ap (λ m. finite.get m b) (get_or-set_other maps a x (dirty_only (held maps a)) finite.empty d) ∙ sym (cond-false (eqb x a) _ _ (ne_eqb x a d))
]

-- ---- entries

pub acquired_shape : (job : Job) (v : StateValue) (p start stop : ℕ) → start ≤ stop → stop ≤ length v.copies.lanes → SameShape v.copies (after_acquire v.copies start stop (agent_of job p) (packet job p).acquire)
acquired_shape job v p start stop rise fits = record {
  memory = refl;
  agents = one (reaches (packet job p).acquire scope.System);
  lanes = all (reaches (packet job p).acquire scope.Agent);
  lane_agents = refl;
}
  where
    one : (t : Bool) → length (cond t (set v.copies.agents (agent_of job p) (dirty_only (held v.copies.agents (agent_of job p)))) v.copies.agents) ≡ length v.copies.agents
    one false = refl
    one true = length-set v.copies.agents (agent_of job p) _

    all : (t : Bool) → length (cond t (dirty_within start stop v.copies.lanes) v.copies.lanes) ≡ length v.copies.lanes
    all false = refl
    all true = within_length start stop v.copies.lanes rise fits

acquired_is : (job : Job) (v : StateValue) (p start stop : ℕ) → Valid job → IsStateOf job v → IsPacket job p → AreOfQueue job (packet job p).queue start stop → start ≤ stop → stop ≤ length v.copies.lanes
    → state_of job (with_copies v (after_acquire v.copies start stop (agent_of job p) (packet job p).acquire)) ≡ acquired job (state_of job v) p
acquired_is job v p start stop valid k there are rise fits =
    let fence = (packet job p).acquire in
    let low = agent_below job p valid there in
    let lane : copies_of (cond (reaches fence scope.Agent) (dirty_within start stop v.copies.lanes) v.copies.lanes) ≡ (λ (l b : ℕ). cond (reaches fence scope.Agent && (eqb (packet job l).queue (packet job p).queue)) (without_clean (copies_of v.copies.lanes l b)) (copies_of v.copies.lanes l b)) =
    λ i l b. lanes_after_acquire job (packet job p).queue start stop v.copies.lanes (reaches fence scope.Agent) are rise fits k.lengths.lanes l b i in
    let agent : copies_of (cond (reaches fence scope.System) (set v.copies.agents (agent_of job p) (dirty_only (held v.copies.agents (agent_of job p)))) v.copies.agents) ≡ (λ (a b : ℕ). cond (reaches fence scope.System && (eqb a (agent_of job p))) (without_clean (copies_of v.copies.agents a b)) (copies_of v.copies.agents a b)) =
    λ i a b. agents_after_acquire (agent_of job p) v.copies.agents (reaches fence scope.System) (omega (arith, k.lengths.agents)) a b i in
    λ i. record (state_of job v) { lane = lane i; agent = agent i }

pub moved_enter : (job : Job) (v : StateValue) (p start stop : ℕ) → Valid job → IsStateOf job v → AreOfQueue job (packet job p).queue start stop → start ≤ stop → stop ≤ length v.copies.lanes → MayEnter job (state_of job v) p
    → Moved job v (Enter p) (in_phase (with_copies v (after_acquire v.copies start stop (agent_of job p) (packet job p).acquire)) p Active)
moved_enter job v p start stop valid k are rise fits may =
    let there = may.is_packet in
    let mid = with_copies v (after_acquire v.copies start stop (agent_of job p) (packet job p).acquire) in
    let e : state_of job (in_phase mid p Active) ≡ with_phase (acquired job (state_of job v) p) p Active =
    in_phase_is job mid p Active (omega (arith, k.lengths.phases)) ∙ ap (λ (s : State). with_phase s p Active) (acquired_is job v p start stop valid k there are rise fits) in
    let step : Step job (state_of job v) (Enter p) (state_of job (in_phase mid p Active)) = (there, may.launched, may.over, e) in
    let d = within_step job (state_of job v) (Enter p) (state_of job (in_phase mid p Active)) valid k.dirty step in
    record {
      is = in_phase_keeps job mid p Active (with_copies_keeps job v (after_acquire v.copies start stop (agent_of job p) (packet job p).acquire) k (acquired_shape job v p start stop rise fits) (record { lanes = d.lanes; agents = d.agents }));
      step = step;
    }
