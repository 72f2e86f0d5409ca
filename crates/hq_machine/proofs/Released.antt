-- What a release fence's write-backs leave is what the pushes of all dirty bytes leave, one after another.
use Rattle.std.proofs.Common.{◌≡◌, ◌≢◌, ℕ, zero, suc, ◌+◌, ◌-◌, ◌<◌, ◌≤◌, ◌⊎◌, inl, inr, List, [], ◌∷◌, true, false, Option, Some, None, length, map, set, get_or, slice_index, refl, sym, ◌∙◌, ap, ap₂, subst, arith, length-set, get_or-set_same, get_or-set_other}
use Rattle.std.proofs.lemmas.Bool.{cases_eq, cases_lt, cond-true, cond-false, true≢false}
use Rattle.std.specs.FinMap as finite
use Rattle.hq_model.specs.Machine.{Copy, is_dirty, clean, dirty, put2}
use Rattle.hq_model.specs.View.{Held, copies_of}
use Rattle.hq_model.proofs.View.{copies_of_insert}
use Rattle.hq_model.proofs.Sums.{put2_same, put2_other}
use Rattle.hq_copies.specs.Copies.{CopiesValue, held, a_copy, lane_pushed, agent_pushed, cleaned, taken, written, after_pushes, LanesReleased, AgentReleased}
use Rattle.hq_copies.proofs.Gathered.{same_held}
use Rattle.hq_machine.specs.Pushes.Holders.{Lanes, Agents}
use Rattle.hq_machine.proofs.PushLists.{span_none, sweep_starts, sweep_more, sweep_on, can_clean}
use Rattle.hq_machine.specs.Pushes.{push_of, pushes_of, dirty_of, AllPushed, Within, Swept}

-- ---- one byte, which a push has touched or not

abbrev pub Touch : {X : Type 0} → Option Copy → Option Copy → X → X → (ℕ → X) → Type 0
Touch old new below last put = ((new ≡ old) × (last ≡ below)) ⊎ ((value : ℕ) × (old ≡ dirty value) × (new ≡ clean value) × (last ≡ put value))

touch_on : {X : Type 0} (a b c : Option Copy) (x y z : X) (put : ℕ → X) → Touch a b x y put → Touch b c y z put → Touch a c x z put
touch_on a b c x y z put (inl (e, f)) (inl (g, h)) = inl (g ∙ e, h ∙ f)
touch_on a b c x y z put (inl (e, f)) (inr (value, g, h, k)) = inr (value, sym e ∙ g, h, k)
touch_on a b c x y z put (inr (value, e, f, k)) (inl (g, h)) = inr (value, e, g ∙ f, h ∙ k)
touch_on a b c x y z put (inr (value, e, f, k)) (inr (other, g, h, m)) = absurd (true≢false (ap is_dirty (sym g ∙ f)))

clean_already : (copy : Option Copy) → is_dirty copy ≡ false → copy ≡ cleaned copy
clean_already None e = refl
clean_already (Some copy) e = ap (λ d. Some (a_copy copy.value d)) e

-- where nothing is dirty at the end
touched_clean : {X : Type 0} (old new : Option Copy) (below last : X) (put : ℕ → X) → is_dirty new ≡ false → Touch old new below last put → new ≡ cleaned old
touched_clean old new below last put none (inl (e, f)) = e ∙ clean_already old (ap is_dirty (sym e) ∙ none)
touched_clean old new below last put none (inr (value, e, f, k)) = f ∙ ap cleaned (sym e)

touched_taken : (old new below last : Option Copy) → is_dirty new ≡ false → Touch old new below last dirty → last ≡ taken old below
touched_taken old new below last none (inl (e, f)) = f ∙ sym (cond-false (is_dirty old) old below (ap is_dirty (sym e) ∙ none))
touched_taken old new below last none (inr (value, e, f, k)) = k ∙ sym (cond-true (is_dirty old) old below (ap is_dirty e) ∙ e)

touched_written : (old new : Option Copy) (below last : ℕ) → is_dirty new ≡ false → Touch old new below last (λ value. value) → last ≡ written old below
touched_written old new below last none (inl (e, f)) = f ∙ untouched old below (ap is_dirty (sym e) ∙ none)
  where
    untouched : (copy : Option Copy) (byte : ℕ) → is_dirty copy ≡ false → byte ≡ written copy byte
    untouched None byte h = refl
    untouched (Some copy) byte h = sym (cond-false copy.dirty copy.value byte h)
touched_written old new below last none (inr (value, e, f, k)) = k ∙ ap (λ t. written t below) (sym e)

-- ---- the pushes of one lane's bytes

record LaneEffect (old : CopiesValue) (k a : ℕ) (new : CopiesValue) : Type 0 where
  pub memory : new.memory ≡ old.memory
  pub lane_agents : new.lane_agents ≡ old.lane_agents
  pub touched : (b : ℕ) → Touch (copies_of old.lanes k b) (copies_of new.lanes k b) (copies_of old.agents a b) (copies_of new.agents a b) dirty
  pub lanes : (q b : ℕ) → q ≢ k → copies_of new.lanes q b ≡ copies_of old.lanes q b
  pub agents : (q b : ℕ) → q ≢ a → copies_of new.agents q b ≡ copies_of old.agents q b

lane_one : (old : CopiesValue) (k b value : ℕ) → k < length old.lanes → slice_index old.lane_agents k < length old.agents → copies_of old.lanes k b ≡ dirty value → LaneEffect old k (slice_index old.lane_agents k) (lane_pushed old k b value)
lane_one old k b value l there is =
    let a = slice_index old.lane_agents k in
    let lanes : copies_of (lane_pushed old k b value).lanes ≡ put2 (copies_of old.lanes) k b (clean value) = copies_of_insert old.lanes k b (a_copy value false) l in
    let agents : copies_of (lane_pushed old k b value).agents ≡ put2 (copies_of old.agents) a b (dirty value) = copies_of_insert old.agents a b (a_copy value true) there in
    record {
      memory = refl;
      lane_agents = refl;
      touched = λ c. elim (cases_eq c b) [
        | inl e ↦ inr (value, ap (copies_of old.lanes k) e ∙ is, ap (λ f. f k c) lanes ∙ put2_same (copies_of old.lanes) k b (clean value) k c refl e, ap (λ f. f a c) agents ∙ put2_same (copies_of old.agents) a b (dirty value) a c refl e)
        | inr d ↦ inl (ap (λ f. f k c) lanes ∙ put2_other (copies_of old.lanes) k b (clean value) k c (λ _ e. d e), ap (λ f. f a c) agents ∙ put2_other (copies_of old.agents) a b (dirty value) a c (λ _ e. d e))
      ];
      lanes = λ q c d. ap (λ f. f q c) lanes ∙ put2_other (copies_of old.lanes) k b (clean value) q c (λ e _. d e);
      agents = λ q c d. ap (λ f. f q c) agents ∙ put2_other (copies_of old.agents) a b (dirty value) q c (λ e _. d e);
    }

lane_none : (old : CopiesValue) (k a : ℕ) → LaneEffect old k a old
lane_none old k a = record { memory = refl; lane_agents = refl; touched = λ b. inl (refl, refl); lanes = λ q b d. refl; agents = λ q b d. refl }

lane_on : (old mid new : CopiesValue) (k a : ℕ) → LaneEffect old k a mid → LaneEffect mid k a new → LaneEffect old k a new
lane_on old mid new k a f g = record {
  memory = g.memory ∙ f.memory;
  lane_agents = g.lane_agents ∙ f.lane_agents;
  touched = λ b. touch_on (copies_of old.lanes k b) (copies_of mid.lanes k b) (copies_of new.lanes k b) (copies_of old.agents a b) (copies_of mid.agents a b) (copies_of new.agents a b) dirty (f.touched b) (g.touched b);
  lanes = λ q b d. g.lanes q b d ∙ f.lanes q b d;
  agents = λ q b d. g.agents q b d ∙ f.agents q b d;
}

lane_effect : (old : CopiesValue) (k : ℕ) (bytes : List ℕ) (new : CopiesValue) → slice_index old.lane_agents k < length old.agents → AllPushed old (map (push_of Lanes k) bytes) new → LaneEffect old k (slice_index old.lane_agents k) new
lane_effect old k [] new there is = subst (LaneEffect old k (slice_index old.lane_agents k)) (sym is) (lane_none old k (slice_index old.lane_agents k))
lane_effect old k (b ∷ bytes) new there (mid, ((l, m), (value, copy, is)), rest) =
    let a = slice_index old.lane_agents k in
    let next = lane_pushed old k b value in
    let count = length-set old.agents a (finite.insert (held old.agents a) b (a_copy value true)) in
    lane_on old next new k a (lane_one old k b value l there copy) (lane_effect next k bytes new (omega (arith, count)) (subst (λ c. AllPushed c (map (push_of Lanes k) bytes) new) is rest))

-- ---- the pushes of one agent's bytes

record AgentEffect (old : CopiesValue) (a : ℕ) (new : CopiesValue) : Type 0 where
  pub lanes : new.lanes ≡ old.lanes
  pub lane_agents : new.lane_agents ≡ old.lane_agents
  pub touched : (b : ℕ) → Touch (copies_of old.agents a b) (copies_of new.agents a b) (get_or old.memory b 0) (get_or new.memory b 0) (λ value. value)
  pub agents : (q b : ℕ) → q ≢ a → copies_of new.agents q b ≡ copies_of old.agents q b

agent_one : (old : CopiesValue) (a b value : ℕ) → a < length old.agents → b < length old.memory → copies_of old.agents a b ≡ dirty value → AgentEffect old a (agent_pushed old a b value)
agent_one old a b value l m is =
    let agents : copies_of (agent_pushed old a b value).agents ≡ put2 (copies_of old.agents) a b (clean value) = copies_of_insert old.agents a b (a_copy value false) l in
    record {
      lanes = refl;
      lane_agents = refl;
      touched = λ c. elim (cases_eq c b) [
        | inl e ↦ inr (value, ap (copies_of old.agents a) e ∙ is, ap (λ f. f a c) agents ∙ put2_same (copies_of old.agents) a b (clean value) a c refl e, ap (λ n. get_or (set old.memory b value) n 0) e ∙ get_or-set_same old.memory b value 0 m)
        | inr d ↦ inl (ap (λ f. f a c) agents ∙ put2_other (copies_of old.agents) a b (clean value) a c (λ _ e. d e), get_or-set_other old.memory b c value 0 d)
      ];
      agents = λ q c d. ap (λ f. f q c) agents ∙ put2_other (copies_of old.agents) a b (clean value) q c (λ e _. d e);
    }

agent_none : (old : CopiesValue) (a : ℕ) → AgentEffect old a old
agent_none old a = record { lanes = refl; lane_agents = refl; touched = λ b. inl (refl, refl); agents = λ q b d. refl }

agent_on : (old mid new : CopiesValue) (a : ℕ) → AgentEffect old a mid → AgentEffect mid a new → AgentEffect old a new
agent_on old mid new a f g = record {
  lanes = g.lanes ∙ f.lanes;
  lane_agents = g.lane_agents ∙ f.lane_agents;
  touched = λ b. touch_on (copies_of old.agents a b) (copies_of mid.agents a b) (copies_of new.agents a b) (get_or old.memory b 0) (get_or mid.memory b 0) (get_or new.memory b 0) (λ value. value) (f.touched b) (g.touched b);
  agents = λ q b d. g.agents q b d ∙ f.agents q b d;
}

agent_effect : (old : CopiesValue) (a : ℕ) (bytes : List ℕ) (new : CopiesValue) → AllPushed old (map (push_of Agents a) bytes) new → AgentEffect old a new
agent_effect old a [] new is = subst (AgentEffect old a) (sym is) (agent_none old a)
agent_effect old a (b ∷ bytes) new (mid, ((l, m), (value, copy, is)), rest) =
    let next = agent_pushed old a b value in
    agent_on old next new a (agent_one old a b value l m copy) (agent_effect next a bytes new (subst (λ c. AllPushed c (map (push_of Agents a) bytes) new) is rest))

-- ---- values that give the same are one

same_maps : (xs ys : List Held) → length xs ≡ length ys → ((k b : ℕ) → copies_of xs k b ≡ copies_of ys k b) → xs ≡ ys
same_maps [] [] e same = refl
same_maps [] (y ∷ ys) e same = absurd (omega arith)
same_maps (x ∷ xs) [] e same = absurd (omega arith)
same_maps (x ∷ xs) (y ∷ ys) e same = ap₂ (λ t ts. t ∷ ts) (same_held x y (λ b. same 0 b)) (same_maps xs ys (omega arith) (λ k b. same (suc k) b))

same_bytes : (xs ys : List ℕ) → length xs ≡ length ys → ((b : ℕ) → b < length ys → get_or xs b 0 ≡ get_or ys b 0) → xs ≡ ys
same_bytes [] [] e same = refl
same_bytes [] (y ∷ ys) e same = absurd (omega arith)
same_bytes (x ∷ xs) [] e same = absurd (omega arith)
same_bytes (x ∷ xs) (y ∷ ys) e same = ap₂ (λ t ts. t ∷ ts) (same 0 (omega arith)) (same_bytes xs ys (omega arith) (λ b l. same (suc b) (omega arith)))

same_value : (c d : CopiesValue) → c.memory ≡ d.memory → c.agents ≡ d.agents → c.lanes ≡ d.lanes → c.lane_agents ≡ d.lane_agents → c ≡ d
same_value c d m a l n = λ i. record { memory = m i; agents = a i; lanes = l i; lane_agents = n i }

lanes_one : (old : CopiesValue) (start end a : ℕ) (c d : CopiesValue) → LanesReleased old start end a c → LanesReleased old start end a d → c ≡ d
lanes_one old start end a c d f g = same_value c d
    (f.memory ∙ sym g.memory)
    (same_maps c.agents d.agents (f.agent_count ∙ sym g.agent_count) (λ q b. elim (cases_eq q a) [
      | inl e ↦ ap (λ k. copies_of c.agents k b) e ∙ f.agent b ∙ sym (ap (λ k. copies_of d.agents k b) e ∙ g.agent b)
      | inr n ↦ f.others q b n ∙ sym (g.others q b n)
    ]))
    (same_maps c.lanes d.lanes (f.lane_count ∙ sym g.lane_count) (λ l b. elim (cases_lt l start) [
      | inl low ↦ f.outside l b (inl low) ∙ sym (g.outside l b (inl low))
      | inr from ↦ elim (cases_lt l end) [
        | inl within ↦ f.inside l b from within ∙ sym (g.inside l b from within)
        | inr past ↦ f.outside l b (inr past) ∙ sym (g.outside l b (inr past))
      ]
    ]))
    (f.lane_agents ∙ sym g.lane_agents)

agents_one : (old : CopiesValue) (a : ℕ) (c d : CopiesValue) → AgentReleased old a c → AgentReleased old a d → c ≡ d
agents_one old a c d f g = same_value c d
    (same_bytes c.memory d.memory (f.byte_count ∙ sym g.byte_count) (λ b l. f.memory b (omega (arith, g.byte_count)) ∙ sym (g.memory b (omega (arith, g.byte_count)))))
    (same_maps c.agents d.agents (f.agent_count ∙ sym g.agent_count) (λ q b. elim (cases_eq q a) [
      | inl e ↦ ap (λ k. copies_of c.agents k b) e ∙ f.agent b ∙ sym (ap (λ k. copies_of d.agents k b) e ∙ g.agent b)
      | inr n ↦ f.others q b n ∙ sym (g.others q b n)
    ]))
    (f.lanes ∙ sym g.lanes)
    (f.lane_agents ∙ sym g.lane_agents)

-- ---- all bytes of one lane after another, and those of an agent

record LanesSwept (old : CopiesValue) (start stop a : ℕ) : Type 0 where
  pub new : CopiesValue
  pub swept : Swept Lanes old start stop new
  pub released : LanesReleased old start stop a new

lanes_none : (old : CopiesValue) (start a : ℕ) → Within old → LanesSwept old start start a
lanes_none old start a within =
    let z : start - start ≡ 0 = omega arith in
    record {
      new = old;
      swept = sweep_starts Lanes old start within;
      released = record {
        memory = refl;
        lane_agents = refl;
        lane_count = refl;
        agent_count = refl;
        inside = λ l b x y. absurd (omega arith);
        outside = λ l b x. refl;
        agent = λ b. sym (ap (λ n. after_pushes old.lanes start n b (copies_of old.agents a b)) z);
        others = λ q b d. refl;
      };
    }

lanes_more : (old : CopiesValue) (start stop a : ℕ) → start ≤ stop → stop < length old.lanes → a < length old.agents → slice_index old.lane_agents stop ≡ a → LanesSwept old start stop a → LanesSwept old start (stop + 1) a
lanes_more old start stop a low high there on s =
    let mid = s.new in
    let r = s.released in
    let within = s.swept.kept.within in
    let here : slice_index mid.lane_agents stop ≡ a = ap (λ t. slice_index t stop) r.lane_agents ∙ on in
    let (new, clean', none) = can_clean Lanes mid stop (omega (arith, r.lane_count)) within in
    let e = subst (λ k. LaneEffect mid stop k new) here (lane_effect mid stop (dirty_of Lanes mid stop) new (omega (arith, here, r.agent_count)) clean'.run) in
    let counts = clean'.kept.counts in
    let same : (b : ℕ) → copies_of mid.lanes stop b ≡ copies_of old.lanes stop b = λ b. r.outside stop b (inr (omega arith)) in
    let z : (stop + 1) - start ≡ suc (stop - start) = omega arith in
    let at : start + (stop - start) ≡ stop = omega arith in
    record {
      new = new;
      swept = sweep_more Lanes old start stop mid new low s.swept clean';
      released = record {
        memory = e.memory ∙ r.memory;
        lane_agents = e.lane_agents ∙ r.lane_agents;
        lane_count = counts.lanes ∙ r.lane_count;
        agent_count = counts.agents ∙ r.agent_count;
        inside = λ l b x y. elim (cases_eq l stop) [
          | inl i ↦ ap (λ k. copies_of new.lanes k b) i ∙ touched_clean (copies_of mid.lanes stop b) (copies_of new.lanes stop b) (copies_of mid.agents a b) (copies_of new.agents a b) dirty (none b) (e.touched b) ∙ ap cleaned (same b) ∙ ap (λ k. cleaned (copies_of old.lanes k b)) (sym i)
          | inr d ↦ e.lanes l b d ∙ r.inside l b x (omega arith)
        ];
        outside = λ l b x. elim x [
          | inl before ↦ e.lanes l b (λ i. absurd (omega (arith, i))) ∙ r.outside l b (inl before)
          | inr past ↦ e.lanes l b (λ i. absurd (omega (arith, i))) ∙ r.outside l b (inr (omega arith))
        ];
        agent = λ b.
            touched_taken (copies_of mid.lanes stop b) (copies_of new.lanes stop b) (copies_of mid.agents a b) (copies_of new.agents a b) (none b) (e.touched b)
            ∙ ap₂ taken (same b ∙ ap (λ k. copies_of old.lanes k b) (sym at)) (r.agent b)
            ∙ sym (ap (λ n. after_pushes old.lanes start n b (copies_of old.agents a b)) z);
        others = λ q b d. e.agents q b d ∙ r.others q b d;
      };
    }

lanes_all : (old : CopiesValue) (start n a : ℕ) → Within old → start + n ≤ length old.lanes → a < length old.agents → ((l : ℕ) → start ≤ l → l < start + n → slice_index old.lane_agents l ≡ a) → LanesSwept old start (start + n) a
lanes_all old start zero a within high there on = let e : start ≡ start + 0 = omega arith in subst (λ k. LanesSwept old start k a) e (lanes_none old start a within)
lanes_all old start (suc n) a within high there on =
    let e : (start + n) + 1 ≡ start + suc n = omega arith in
    subst (λ k. LanesSwept old start k a) e (lanes_more old start (start + n) a (omega arith) (omega arith) there (on (start + n) (omega arith) (omega arith)) (lanes_all old start n a within (omega arith) there (λ l x y. on l x (omega arith))))

pub lanes_swept : (old : CopiesValue) (start stop a : ℕ) (new : CopiesValue) → Within old → start ≤ stop → stop ≤ length old.lanes → a < length old.agents → ((l : ℕ) → start ≤ l → l < stop → slice_index old.lane_agents l ≡ a) → LanesReleased old start stop a new → Swept Lanes old start stop new
lanes_swept old start stop a new within low high there on r =
    let e : start + (stop - start) ≡ stop = omega arith in
    let s = subst (λ k. LanesSwept old start k a) e (lanes_all old start (stop - start) a within (omega arith) there (λ l x y. on l x (omega arith))) in
    subst (Swept Lanes old start stop) (lanes_one old start stop a s.new new s.released r) s.swept

pub agent_swept : (old : CopiesValue) (a : ℕ) (new : CopiesValue) → Within old → a < length old.agents → AgentReleased old a new → Swept Agents old a (a + 1) new
agent_swept old a new within there r =
    let (cur, clean', none) = can_clean Agents old a there within in
    let e = agent_effect old a (dirty_of Agents old a) cur clean'.run in
    let counts = clean'.kept.counts in
    let released : AgentReleased old a cur = record {
      lanes = e.lanes;
      lane_agents = e.lane_agents;
      agent_count = counts.agents;
      byte_count = counts.memory;
      memory = λ b l. touched_written (copies_of old.agents a b) (copies_of cur.agents a b) (get_or old.memory b 0) (get_or cur.memory b 0) (none b) (e.touched b);
      agent = λ b. touched_clean (copies_of old.agents a b) (copies_of cur.agents a b) (get_or old.memory b 0) (get_or cur.memory b 0) (λ value. value) (none b) (e.touched b);
      others = e.agents;
    } in
    subst (Swept Agents old a (a + 1)) (agents_one old a cur new released r) (sweep_more Agents old a a old cur (omega arith) (sweep_starts Agents old a within) clean')

-- ---- the lanes of one queue behind those of others, and one agent behind others

pub queue_swept : (old cur : CopiesValue) (lane stop a : ℕ) (new : CopiesValue) → Within old → lane ≤ stop → stop ≤ length old.lanes → a < length old.agents → ((l : ℕ) → lane ≤ l → l < stop → slice_index old.lane_agents l ≡ a) → Swept Lanes old 0 lane cur → LanesReleased cur lane stop a new → Swept Lanes old 0 stop new
queue_swept old cur lane stop a new within low high there on s r =
    let counts = s.kept.counts in
    sweep_on Lanes old 0 lane stop cur new (omega arith) low s
    (lanes_swept cur lane stop a new s.kept.within low (omega (arith, counts.lanes)) (omega (arith, counts.agents)) (λ l x y. ap (λ t. slice_index t l) counts.lane_agents ∙ on l x y) r)

-- nothing is written back of no lanes
none_released : (c : CopiesValue) (a : ℕ) (mid : CopiesValue) → Within c → a < length c.agents → LanesReleased c 0 0 a mid → mid ≡ c
none_released c a mid within there r = subst (λ ks. AllPushed c (pushes_of Lanes c ks) mid) (span_none 0) (lanes_swept c 0 0 a mid within (omega arith) (omega arith) there (λ l x y. absurd (omega arith)) r).run

pub agent_after : (old cur : CopiesValue) (a : ℕ) (new : CopiesValue) → Within old → a < length old.agents → Swept Agents old 0 a cur → (mid : CopiesValue) × LanesReleased cur 0 0 a mid × AgentReleased mid a new → Swept Agents old 0 (a + 1) new
agent_after old cur a new within there s (mid, none, r) =
    let counts = s.kept.counts in
    let released = subst (λ c. AgentReleased c a new) (none_released cur a mid s.kept.within (omega (arith, counts.agents)) none) r in
    sweep_on Agents old 0 a (a + 1) cur new (omega arith) (omega arith) s (agent_swept cur a new s.kept.within (omega (arith, counts.agents)) released)
