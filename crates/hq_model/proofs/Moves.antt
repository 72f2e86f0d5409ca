-- What single steps do to copies.
use Rattle.std.proofs.Common.{◌≡◌, ℕ, Bool, true, false, inl, inr, refl, sym, ◌∙◌, ap, subst, Option, None, cond, eqb, ◌&&◌}
use Rattle.std.proofs.lemmas.Bool.{cases_eq, cond-true, cond-false, eq-eqb, ne_eqb, and_from, and_left, and_right}
use Rattle.hq_model.specs.Job.{Job, packet, agent_of}
use Rattle.hq_packet.specs.Scopes.{reaches}
use Rattle.hq_model.specs.Machine.{State, Copy, Step, value_or, is_dirty, without_clean, agent_sees, lane_sees, clean, dirty, put, put2, acquired, with_phase}
use Rattle.hq_model.specs.Machine.Phase.{Active}
use Rattle.hq_model.specs.Machine.Event.{FillLane, FillAgent}
use Rattle.hq_model.specs.Moves.{CopiesMoveAlways, FillsUnseenAlways, PushesWriteAlways, FenceLeaves, FenceLaw}
use Rattle.hq_model.proofs.Sums.{put_same, put2_same, put2_other}
use Rattle.hq_packet.specs.declared.packet.Scope.TheVariants as scope

pub copies_move : CopiesMoveAlways
copies_move job state = record {
  fill_lane = λ p b there within none. (_, (there, within, none, refl));
  drop_lane = λ p b value there within held. (_, (value, there, within, held, refl));
  push_lane = λ p b value there within held. (_, (value, there, within, held, refl));
  fill_agent = λ a b there within none. (_, (there, within, none, refl));
  drop_agent = λ a b value there within held. (_, (value, there, within, held, refl));
  push_agent = λ a b value there within held. (_, (value, there, within, held, refl));
}

-- ---- fills

-- a place that had no copy gets the one that is seen there
filled : (f : ℕ → ℕ → Option Copy) (p b : ℕ) (below : ℕ → ℕ → ℕ) → f p b ≡ None → (q c : ℕ) → value_or (put2 f p b (clean (below p b)) q c) (below q c) ≡ value_or (f q c) (below q c)
filled f p b below none q c = elim (cases_eq q p) [
  | inl e ↦ elim (cases_eq c b) [
    | inl g ↦
        ap (λ x. value_or x (below q c)) (put2_same f p b (clean (below p b)) q c e g)
        ∙ ap (λ x. below x b) (sym e)
        ∙ ap (below q) (sym g)
        ∙ sym (ap (λ x. value_or x (below q c)) (ap (λ x. f x c) e ∙ ap (f p) g ∙ none))
    | inr g ↦ ap (λ x. value_or x (below q c)) (put2_other f p b (clean (below p b)) q c (λ _ h. g h))
  ]
  | inr d ↦ ap (λ x. value_or x (below q c)) (put2_other f p b (clean (below p b)) q c (λ h _. d h))
]

fill_lane_unseen : (job : Job) (old new : State) (p b : ℕ) → Step job old (FillLane p b) new → (q c : ℕ) → lane_sees job new q c ≡ lane_sees job old q c
fill_lane_unseen job old new p b (there, within, none, is) q c = subst (λ s. lane_sees job s q c ≡ lane_sees job old q c) (sym is) (filled old.lane p b (λ x y. agent_sees old (agent_of job x) y) none q c)

fill_agent_unseen : (job : Job) (old new : State) (a b : ℕ) → Step job old (FillAgent a b) new → (q c : ℕ) → lane_sees job new q c ≡ lane_sees job old q c
fill_agent_unseen job old new a b (there, within, none, is) q c =
    subst (λ s. lane_sees job s q c ≡ lane_sees job old q c) (sym is) (ap (value_or (old.lane q c)) (filled old.agent a b (λ x y. old.memory y) none (agent_of job q) c))

pub fills_unseen : FillsUnseenAlways
fills_unseen job old new = record { lane = fill_lane_unseen job old new; agent = fill_agent_unseen job old new }

-- ---- pushes

put_there : (f : ℕ → ℕ → Option Copy) (k l : ℕ) (x : Option Copy) → put2 f k l x k l ≡ x
put_there f k l x = put2_same f k l x k l refl refl

pub pushes_write : PushesWriteAlways
pushes_write job old new = record {
  lane = λ p b (v, there, within, held, is).
      subst (λ s. agent_sees s (agent_of job p) b ≡ lane_sees job old p b) (sym is)
      (ap (λ x. value_or x (old.memory b)) (put_there old.agent (agent_of job p) b (dirty v)) ∙ sym (ap (λ x. value_or x (agent_sees old (agent_of job p) b)) held));
  lane_sees_it = λ p b (v, there, within, held, is).
      subst (λ s. lane_sees job s p b ≡ lane_sees job old p b) (sym is)
      (ap (λ x. value_or x (value_or (put2 old.agent (agent_of job p) b (dirty v) (agent_of job p) b) (old.memory b))) (put_there old.lane p b (clean v)) ∙ sym (ap (λ x. value_or x (agent_sees old (agent_of job p) b)) held));
  agent = λ a b (v, there, within, held, is).
      subst (λ s. s.memory b ≡ agent_sees old a b) (sym is) (put_same old.memory b v b refl ∙ sym (ap (λ x. value_or x (old.memory b)) held));
  agent_sees_it = λ a b (v, there, within, held, is).
      subst (λ s. agent_sees s a b ≡ agent_sees old a b) (sym is)
      (ap (λ x. value_or x (put old.memory b v b)) (put_there old.agent a b (clean v)) ∙ sym (ap (λ x. value_or x (old.memory b)) held));
  memory = λ p b (v, there, within, held, is). ap (λ s. s.memory) is;
}

-- ---- the acquire fence

dirty_stays : (t : Bool) (copy : Option Copy) → is_dirty copy ≡ true → cond t (without_clean copy) copy ≡ copy
dirty_stays true copy e = cond-true (is_dirty copy) copy None e
dirty_stays false copy e = refl

clean_goes : (t : Bool) (copy : Option Copy) → t ≡ true → is_dirty copy ≡ false → cond t (without_clean copy) copy ≡ None
clean_goes t copy on e = cond-true t (without_clean copy) copy on ∙ cond-false (is_dirty copy) copy None e

module _ (job : Job) (old : State) (p : ℕ) where
  of_lanes : ℕ → Bool
  of_lanes l = reaches (packet job p).acquire scope.Agent && eqb (packet job l).queue (packet job p).queue

  of_agents : ℕ → Bool
  of_agents a = reaches (packet job p).acquire scope.System && eqb a (agent_of job p)

  leaves : FenceLeaves job old p (with_phase (acquired job old p) p Active)
  unfolding of_lanes of_agents
  leaves = record {
    dirty_lanes = λ l b h. dirty_stays (of_lanes l) (old.lane l b) h;
    dirty_agents = λ a b h. dirty_stays (of_agents a) (old.agent a b) h;
    lanes = λ reach l b same h. clean_goes (of_lanes l) (old.lane l b) (and_from (reaches (packet job p).acquire scope.Agent) (eqb (packet job l).queue (packet job p).queue) reach (eq-eqb (packet job l).queue (packet job p).queue same)) h;
    agent = λ reach b h. clean_goes (of_agents (agent_of job p)) (old.agent (agent_of job p) b) (and_from (reaches (packet job p).acquire scope.System) (eqb (agent_of job p) (agent_of job p)) reach (eq-eqb (agent_of job p) (agent_of job p) refl)) h;
    other_lanes = λ l b apart.
        cond-false (of_lanes l) (without_clean (old.lane l b)) (old.lane l b) (and_right (reaches (packet job p).acquire scope.Agent) (eqb (packet job l).queue (packet job p).queue) (ne_eqb (packet job l).queue (packet job p).queue apart));
    other_agents = λ a b apart. cond-false (of_agents a) (without_clean (old.agent a b)) (old.agent a b) (and_right (reaches (packet job p).acquire scope.System) (eqb a (agent_of job p)) (ne_eqb a (agent_of job p) apart));
    no_acquire = λ off l b. cond-false (of_lanes l) (without_clean (old.lane l b)) (old.lane l b) (and_left (reaches (packet job p).acquire scope.Agent) (eqb (packet job l).queue (packet job p).queue) off);
    no_system = λ off a b. cond-false (of_agents a) (without_clean (old.agent a b)) (old.agent a b) (and_left (reaches (packet job p).acquire scope.System) (eqb a (agent_of job p)) off);
    memory = refl;
  }

pub fence_law : FenceLaw
fence_law job old p new (there, launched, over, is) = subst (FenceLeaves job old p) (sym is) (leaves job old p)
