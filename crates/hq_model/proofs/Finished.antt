-- What a completion waits for can be written back.
use Rattle.std.proofs.Common.{◌≡◌, ℕ, suc, ◌<◌, ◌≢◌, inl, inr, IsTrue, IsSome, List, [], ◌∷◌, length, map, filter, refl, sym, ◌∙◌, ap, subst, arith, Bool, true, false, ◌==◌, Option, Some, None, AllPairs}
use Rattle.std.proofs.lemmas.Bool.{cases_eq, cases_Bool, cond-true, cond-false, eq-eqb, true≢false}
use Rattle.std.proofs.lemmas.List.Kept.{AllPairs-filter}
use Rattle.hq_model.specs.Job.{Job, packet, IsPacket, agent_of}
use Rattle.hq_packet.specs.Scopes.{reaches}
use Rattle.hq_packet.specs.declared.packet.Scope.TheVariants as scope
use Rattle.hq_model.specs.Order.{In, place}
use Rattle.hq_model.specs.Machine.{State, Copy, Event, Steps, IsByte, Released, is_dirty, clean, dirty, put2, start, completed}
use Rattle.hq_model.specs.Machine.Event.{PushLane, PushAgent}
use Rattle.hq_model.specs.Journal.{numbers, packets_of, dirty_bytes, lane_pushes, agent_pushes, only_if}
use Rattle.hq_model.specs.Theorems.{CompletePossible}
use Rattle.hq_model.proofs.Places.{at_place, place_of_packets, numbers_below, numbers_once, in_first, in_rest, in_cons, in_filter, in_numbers}
use Rattle.hq_model.proofs.Sums.{put2_other}
use Rattle.hq_model.proofs.Journals.{steps_append}
use Rattle.hq_model.proofs.Finishing.{Pushable, pushable_steps, pushable_start}
use Rattle.hq_model.proofs.Rested.{Each, is_lane_push, is_agent_push, lanes_pushed, agents_pushed, agent_phases, each_lane_push, each_agent_push, dirty_stands, not_dirty, stands_flat, stands_map}

-- ---- lists without repetition

first_apart : (x : ℕ) (xs : List ℕ) → AllPairs (λ p r. p ≢ r) (x ∷ xs) → In xs x → ⊥
first_apart x xs h i = h 0 (suc (place xs x)) 0 (omega arith) (omega arith) (sym (at_place xs x 0 i))

rest_apart : (x : ℕ) (xs : List ℕ) → AllPairs (λ p r. p ≢ r) (x ∷ xs) → AllPairs (λ p r. p ≢ r) xs
rest_apart x xs h = λ i j d lt within. h (suc i) (suc j) d (omega arith) (omega arith)

pub filtered : (test : ℕ → Bool) (xs : List ℕ) (p : ℕ) → In (filter test xs) p → (test p ≡ true) × In xs p
filtered test [] p i = absurd (omega arith)
filtered test (x ∷ xs) p i = elim (cases_Bool (test x)) [
  | inl t ↦ elim (cases_eq x p) [
    | inl e ↦ (ap test (sym e) ∙ t, in_first x xs p e)
    | inr d ↦ more (filtered test xs p (in_rest x (filter test xs) p d (subst (λ ys. In ys p) (cond-true (test x) (x ∷ filter test xs) (filter test xs) t) i)))
  ]
  | inr f ↦ more (filtered test xs p (subst (λ ys. In ys p) (cond-false (test x) (x ∷ filter test xs) (filter test xs) f) i))
]
  where
    more : (test p ≡ true) × In xs p → (test p ≡ true) × In (x ∷ xs) p
    more (t, h) = (t, in_cons x xs p h)

pub in_below : (n c : ℕ) → In (numbers n) c → c < n
in_below n c i = place_of_packets (λ k. k < n) (numbers n) c (numbers_below n n (omega arith)) i

dirty_value : (copy : Option Copy) → is_dirty copy ≡ true → (v : ℕ) × (copy ≡ dirty v)
dirty_value None e = absurd (true≢false (sym e))
dirty_value (Some copy) e = (copy.value, ap (λ d. Some (record { value = copy.value; dirty = d })) e)

-- ---- the pushes

lane_pushable : (job : Job) (old : State) (p : ℕ) (bs : List ℕ) → IsPacket job p → AllPairs (λ b c. b ≢ c) bs → ((b : ℕ) → In bs b → IsByte job b) → ((b : ℕ) → In bs b → is_dirty (old.lane p b) ≡ true)
    → (new : State) × Steps job old (map (PushLane p) bs) new × ((q : ℕ) → q ≢ p → (c : ℕ) → new.lane q c ≡ old.lane q c)
lane_pushable job old p [] there once inside held = (old, refl, λ q d c. refl)
lane_pushable job old p (b ∷ bs) there once inside held =
    let (v, e) = dirty_value (old.lane p b) (held b (in_first b bs b refl)) in
    let mid : State = record old { lane = put2 old.lane p b (clean v); agent = put2 old.agent (agent_of job p) b (dirty v) } in
    let (new, run, same) =
    lane_pushable job mid p bs there (rest_apart b bs once) (λ c i. inside c (in_cons b bs c i))
    (λ c i. ap is_dirty (put2_other old.lane p b (clean v) p c (λ _ g. first_apart b bs once (subst (In bs) g i))) ∙ held c (in_cons b bs c i)) in
    (new, (mid, (v, there, inside b (in_first b bs b refl), e, refl), run), λ q d c. same q d c ∙ put2_other old.lane p b (clean v) q c (λ g _. d g))

agent_pushable : (job : Job) (old : State) (a : ℕ) (bs : List ℕ) → a < job.agents → AllPairs (λ b c. b ≢ c) bs → ((b : ℕ) → In bs b → IsByte job b) → ((b : ℕ) → In bs b → is_dirty (old.agent a b) ≡ true)
    → (new : State) × Steps job old (map (PushAgent a) bs) new
agent_pushable job old a [] there once inside held = (old, refl)
agent_pushable job old a (b ∷ bs) there once inside held =
    let (v, e) = dirty_value (old.agent a b) (held b (in_first b bs b refl)) in
    let mid : State = record old { agent = put2 old.agent a b (clean v); memory = Rattle.hq_model.specs.Machine.put old.memory b v } in
    let (new, run) =
    agent_pushable job mid a bs there (rest_apart b bs once) (λ c i. inside c (in_cons b bs c i))
    (λ c i. ap is_dirty (put2_other old.agent a b (clean v) a c (λ _ g. first_apart b bs once (subst (In bs) g i))) ∙ held c (in_cons b bs c i)) in
    (new, (mid, (v, there, inside b (in_first b bs b refl), e, refl), run))

bytes_once : (job : Job) (copies : ℕ → Option Copy) → AllPairs (λ b c. b ≢ c) (dirty_bytes job copies)
bytes_once job copies = AllPairs-filter (λ b c. b ≢ c) (λ b. is_dirty (copies b)) (numbers (length job.memory)) (numbers_once (length job.memory))

bytes_inside : (job : Job) (copies : ℕ → Option Copy) (b : ℕ) → In (dirty_bytes job copies) b → IsByte job b
bytes_inside job copies b i = in_below (length job.memory) b (filtered (λ x. is_dirty (copies x)) (numbers (length job.memory)) b i).1

bytes_dirty : (job : Job) (copies : ℕ → Option Copy) (b : ℕ) → In (dirty_bytes job copies) b → is_dirty (copies b) ≡ true
bytes_dirty job copies b i = (filtered (λ x. is_dirty (copies x)) (numbers (length job.memory)) b i).0

-- the dirty bytes are those of first, whose lanes stand as they were
lanes_pushable : (job : Job) (first old : State) (ls : List ℕ) → AllPairs (λ p r. p ≢ r) ls → ((l : ℕ) → In ls l → IsPacket job l) → ((l : ℕ) → In ls l → (c : ℕ) → old.lane l c ≡ first.lane l c)
    → (new : State) × Steps job old (lane_pushes job first ls) new
lanes_pushable job first old [] once there same = (old, refl)
lanes_pushable job first old (l ∷ ls) once there same =
    let (mid, run, others) =
    lane_pushable job old l (dirty_bytes job (first.lane l)) (there l (in_first l ls l refl)) (bytes_once job (first.lane l)) (bytes_inside job (first.lane l))
    (λ b i. ap is_dirty (same l (in_first l ls l refl) b) ∙ bytes_dirty job (first.lane l) b i) in
    let (new, more) =
    lanes_pushable job first mid ls (rest_apart l ls once) (λ q i. there q (in_cons l ls q i))
    (λ q i c. others q (λ g. first_apart l ls once (subst (In ls) g i)) c ∙ same q (in_cons l ls q i) c) in
    (new, steps_append job old (map (PushLane l) (dirty_bytes job (first.lane l))) mid (lane_pushes job first ls) new run more)

agents_pushable : (job : Job) (old : State) (a : ℕ) (t : Bool) → a < job.agents → (new : State) × Steps job old (agent_pushes job old (only_if t (a ∷ []))) new
agents_pushable job old a false there = (old, refl)
agents_pushable job old a true there =
    let (new, run) = agent_pushable job old a (dirty_bytes job (old.agent a)) there (bytes_once job (old.agent a)) (bytes_inside job (old.agent a)) (bytes_dirty job (old.agent a)) in
    (new, steps_append job old (map (PushAgent a) (dirty_bytes job (old.agent a))) new [] new run refl)

-- ---- the completion

-- what pushes leave as it was
record Same (old new : State) : Type 0 where
  pub phase : new.phase ≡ old.phase
  pub read : new.read ≡ old.read
  pub stored : new.stored ≡ old.stored

lane_same : (job : Job) (old : State) (events : List Event) (new : State) → Each is_lane_push events → Steps job old events new → Same old new
lane_same job old [] new each is = record { phase = ap (λ s. s.phase) is; read = ap (λ s. s.read) is; stored = ap (λ s. s.stored) is }
lane_same job old (PushLane q c ∷ events) new (e, each) (mid, step, rest) =
    let same = lane_same job mid events new each rest in
    record { phase = same.phase ∙ ap (λ s. s.phase) step.4; read = same.read ∙ ap (λ s. s.read) step.4; stored = same.stored ∙ ap (λ s. s.stored) step.4 }
lane_same job old (event ∷ events) new (e, each) run = absurd (true≢false (sym e))

agent_same : (job : Job) (old : State) (events : List Event) (new : State) → Each is_agent_push events → Steps job old events new → Same old new
agent_same job old [] new each is = record { phase = ap (λ s. s.phase) is; read = ap (λ s. s.read) is; stored = ap (λ s. s.stored) is }
agent_same job old (PushAgent q c ∷ events) new (e, each) (mid, step, rest) =
    let same = agent_same job mid events new each rest in
    record { phase = same.phase ∙ ap (λ s. s.phase) step.4; read = same.read ∙ ap (λ s. s.read) step.4; stored = same.stored ∙ ap (λ s. s.stored) step.4 }
agent_same job old (event ∷ events) new (e, each) run = absurd (true≢false (sym e))

module _ (job : Job) (p : ℕ) (old mid last : State) where
  abbrev lanes : List ℕ
  lanes = only_if (reaches (packet job p).release scope.Agent) (packets_of job (λ l. (packet job l).queue == (packet job p).queue))

  abbrev agents : List ℕ
  agents = only_if (reaches (packet job p).release scope.System) (agent_of job p ∷ [])

  released : Pushable job last → Steps job old (lane_pushes job old lanes) mid → Steps job mid (agent_pushes job mid agents) last → Released job last p (packet job p).release
  released pushable a b = record {
    lanes = λ h l c there same. not_dirty (is_dirty (last.lane l c)) (λ d.
        let kept = (agent_phases job mid (agent_pushes job mid agents) last (each_agent_push job mid agents) b).1 in
        let (was, none) = lanes_pushed job old (lane_pushes job old lanes) mid (each_lane_push job old lanes) a l c (ap (λ f. is_dirty (f l c)) (sym kept) ∙ d) in
        none (stands_flat (λ q. map (PushLane q) (dirty_bytes job (old.lane q))) lanes l (PushLane l c)
        (in_filter (λ _. reaches (packet job p).release scope.Agent) (packets_of job (λ q. (packet job q).queue == (packet job p).queue)) l h
        (in_filter (λ q. (packet job q).queue == (packet job p).queue) (numbers (length job.packets)) l (eq-eqb (packet job l).queue (packet job p).queue same) (in_numbers (length job.packets) l there)))
        (stands_map (PushLane l) (dirty_bytes job (old.lane l)) c (dirty_stands job (old.lane l) c (pushable.lanes l c d).1 was))));
    agent = λ h c. not_dirty (is_dirty (last.agent (agent_of job p) c)) (λ d.
        let (was, none) = agents_pushed job mid (agent_pushes job mid agents) last (each_agent_push job mid agents) b (agent_of job p) c d in
        none (stands_flat (λ q. map (PushAgent q) (dirty_bytes job (mid.agent q))) agents (agent_of job p) (PushAgent (agent_of job p) c)
        (in_filter (λ _. reaches (packet job p).release scope.System) (agent_of job p ∷ []) (agent_of job p) h (in_first (agent_of job p) [] (agent_of job p) refl))
        (stands_map (PushAgent (agent_of job p)) (dirty_bytes job (mid.agent (agent_of job p))) c (dirty_stands job (mid.agent (agent_of job p)) c (pushable.agents (agent_of job p) c d).1 was))));
  }

pub complete_possible : CompletePossible
complete_possible job events old p valid run there active read stored =
    let lanes = only_if (reaches (packet job p).release scope.Agent) (packets_of job (λ l. (packet job l).queue == (packet job p).queue)) in
    let agents = only_if (reaches (packet job p).release scope.System) (agent_of job p ∷ []) in
    let (mid, a) =
    lanes_pushable job old old lanes
    (AllPairs-filter (λ x y. x ≢ y) (λ _. reaches (packet job p).release scope.Agent) (packets_of job (λ l. (packet job l).queue == (packet job p).queue))
    (AllPairs-filter (λ x y. x ≢ y) (λ l. (packet job l).queue == (packet job p).queue) (numbers (length job.packets)) (numbers_once (length job.packets))))
    (λ l i. in_below (length job.packets) l (filtered (λ x. (packet job x).queue == (packet job p).queue) (numbers (length job.packets)) l (filtered (λ _. reaches (packet job p).release scope.Agent) (packets_of job (λ x. (packet job x).queue == (packet job p).queue)) l i).1).1)
    (λ l i c. refl) in
    let (last, b) = agents_pushable job mid (agent_of job p) (reaches (packet job p).release scope.System) (valid.agents (packet job p).queue 0 (valid.queues p there)) in
    let first = lane_same job old (lane_pushes job old lanes) mid (each_lane_push job old lanes) a in
    let second = agent_same job mid (agent_pushes job mid agents) last (each_agent_push job mid agents) b in
    let pushable = pushable_steps job mid (agent_pushes job mid agents) last valid (pushable_steps job old (lane_pushes job old lanes) mid valid (pushable_steps job (start job) events old valid (pushable_start job) run) a) b in (
      completed job last p,
      (
        last,
        (mid, a, b),
        (
          completed job last p,
          (
            there,
            ap (λ f. f p) (second.phase ∙ first.phase) ∙ active,
            λ i l. subst (λ f. IsSome (f p i)) (sym (second.read ∙ first.read)) (read i l),
            λ i l. subst (λ f. IsTrue (f p i)) (sym (second.stored ∙ first.stored)) (stored i l),
            released job p old mid last pushable a b,
            refl,
          ),
          refl,
        ),
      ),
    )
