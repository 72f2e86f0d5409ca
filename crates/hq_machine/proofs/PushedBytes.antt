-- The dirty bytes of one holder are pushed, the least first.
use Rattle.std.proofs.Common.{◌≡◌, ◌≢◌, ℕ, zero, suc, ◌<◌, inl, inr, List, [], ◌∷◌, ◌++◌, Bool, true, false, cond, Option, Some, None, length, map, filter, slice_index, refl, sym, ◌∙◌, ap, subst, arith, length-set}
use Rattle.std.proofs.lemmas.Bool.{cases_eq, cond-true, cond-false, true≢false}
use Rattle.std.proofs.lemmas.List.{map-append, append-nil, append_assoc}
use Rattle.std.proofs.lemmas.List.Elements.{filter-append}
use Rattle.hq_model.specs.Machine.{Copy, Event, is_dirty, clean, dirty, put2}
use Rattle.hq_model.specs.Journal.{numbers}
use Rattle.hq_model.specs.View.{copies_of}
use Rattle.hq_model.proofs.View.{copies_of_insert}
use Rattle.hq_model.proofs.Sums.{put2_same, put2_other}
use Rattle.hq_copies.specs.Copies.{CopiesValue, IsDirty, IsFirstDirty, NoneDirty, held, a_copy, lane_pushed, agent_pushed}
use Rattle.hq_machine.specs.Pushes.Holders.{Lanes, Agents}
use Rattle.hq_machine.specs.Pushes.{Holders, maps_of, push_of, PushedBy, AllPushed, Within, Counts, StaysWithin, dirty_of}

-- the holder's dirty bytes are pushed, and the others of its kind hold what they held
pub record Cleaned (h : Holders) (old : CopiesValue) (k : ℕ) (new : CopiesValue) : Type 0 where
  pub run : AllPushed old (map (push_of h k) (dirty_of h old k)) new
  pub kept : StaysWithin old new
  pub others : (q b : ℕ) → q ≢ k → copies_of (maps_of h new) q b ≡ copies_of (maps_of h old) q b

-- ---- lists of numbers that pass a test

one_kept : (f : ℕ → Bool) (n : ℕ) → f n ≡ true → filter f (n ∷ []) ≡ n ∷ []
one_kept f n e = cond-true (f n) (n ∷ []) [] e

one_gone : (f : ℕ → Bool) (n : ℕ) → f n ≡ false → filter f (n ∷ []) ≡ []
one_gone f n e = cond-false (f n) (n ∷ []) [] e

pub none_pass : (f : ℕ → Bool) (n : ℕ) → ((c : ℕ) → c < n → f c ≡ false) → filter f (numbers n) ≡ []
none_pass f zero h = refl
none_pass f (suc n) h = filter-append f (numbers n) (n ∷ []) ∙ ap (λ xs. xs ++ filter f (n ∷ [])) (none_pass f n (λ c l. h c (omega arith))) ∙ one_gone f n (h n (omega arith))

one_same : (f g : ℕ → Bool) (n : ℕ) → f n ≡ g n → filter f (n ∷ []) ≡ filter g (n ∷ [])
one_same f g n e = ap (λ t. cond t (n ∷ []) []) e

pub peel : (f g : ℕ → Bool) (n b : ℕ) → b < n → f b ≡ true → ((c : ℕ) → c < b → f c ≡ false) → g b ≡ false → ((c : ℕ) → c ≢ b → g c ≡ f c) → filter f (numbers n) ≡ b ∷ filter g (numbers n)
peel f g zero b l is least gone same = absurd (omega arith)
peel f g (suc n) b l is least gone same = elim (cases_eq b n) [
  | inl e ↦
      filter-append f (numbers n) (n ∷ [])
      ∙ ap (λ xs. xs ++ filter f (n ∷ [])) (none_pass f n (λ c h. least c (omega arith)))
      ∙ one_kept f n (ap f (sym e) ∙ is)
      ∙ ap (λ m. m ∷ []) (sym e)
      ∙ ap (λ xs. b ∷ xs) (sym (none_pass g (suc n) (λ c h. below c h e)))
  | inr d ↦
      filter-append f (numbers n) (n ∷ [])
      ∙ ap (λ xs. xs ++ filter f (n ∷ [])) (peel f g n b (omega arith) is least gone same)
      ∙ ap (λ xs. b ∷ (filter g (numbers n) ++ xs)) (one_same f g n (sym (same n (λ e. d (sym e)))))
      ∙ ap (λ xs. b ∷ xs) (sym (filter-append g (numbers n) (n ∷ [])))
]
  where
    below : (c : ℕ) → c < suc n → b ≡ n → g c ≡ false
    below c h e = elim (cases_eq c b) [
      | inl k ↦ ap g k ∙ gone
      | inr k ↦ same c k ∙ least c (omega arith)
    ]

-- ---- one push

put_inside : (n : ℕ) (f : ℕ → ℕ → Option Copy) (k l : ℕ) (x : Option Copy) → ((p b : ℕ) → is_dirty (f p b) ≡ true → b < n) → l < n → (p b : ℕ) → is_dirty (put2 f k l x p b) ≡ true → b < n
put_inside n f k l x was here p b d = elim (cases_eq b l) [
  | inl e ↦ omega (arith, e)
  | inr e ↦ was p b (ap is_dirty (sym (put2_other f k l x p b (λ _ h. e h))) ∙ d)
]

-- what one push does to the maps of its own kind, and what it keeps
pub record OnePush (h : Holders) (old : CopiesValue) (k b : ℕ) (new : CopiesValue) : Type 0 where
  pub value : ℕ
  pub maps : copies_of (maps_of h new) ≡ put2 (copies_of (maps_of h old)) k b (clean value)
  pub kept : StaysWithin old new

lane_push : (old : CopiesValue) (p b value : ℕ) → p < length old.lanes → b < length old.memory → Within old → OnePush Lanes old p b (lane_pushed old p b value)
lane_push old p b value l m within =
    let a = slice_index old.lane_agents p in
    let lanes = copies_of_insert old.lanes p b (a_copy value false) l in
    let agents = copies_of_insert old.agents a b (a_copy value true) (within.agents_there p l) in
    let count = length-set old.agents a _ in
    let count_lanes = length-set old.lanes p _ in
    record {
      value = value;
      maps = lanes;
      kept = record {
        counts = record { memory = refl; agents = count; lanes = count_lanes; lane_agents = refl };
        within = record {
          lanes = λ q c d. put_inside (length old.memory) (copies_of old.lanes) p b (clean value) within.lanes m q c (ap (λ f. is_dirty (f q c)) (sym lanes) ∙ d);
          agents = λ q c d. put_inside (length old.memory) (copies_of old.agents) a b (dirty value) within.agents m q c (ap (λ f. is_dirty (f q c)) (sym agents) ∙ d);
          agents_there = λ q h. subst (λ n. slice_index old.lane_agents q < n) (sym count) (within.agents_there q (subst (λ n. q < n) count_lanes h));
        };
      };
    }

agent_push : (old : CopiesValue) (a b value : ℕ) → a < length old.agents → b < length old.memory → Within old → OnePush Agents old a b (agent_pushed old a b value)
agent_push old a b value l m within =
    let agents = copies_of_insert old.agents a b (a_copy value false) l in
    let count = length-set old.agents a _ in
    let bytes = length-set old.memory b value in
    record {
      value = value;
      maps = agents;
      kept = record {
        counts = record { memory = bytes; agents = count; lanes = refl; lane_agents = refl };
        within = record {
          lanes = λ q c d. subst (λ n. c < n) (sym bytes) (within.lanes q c d);
          agents = λ q c d. subst (λ n. c < n) (sym bytes) (put_inside (length old.memory) (copies_of old.agents) a b (clean value) within.agents m q c (ap (λ f. is_dirty (f q c)) (sym agents) ∙ d));
          agents_there = λ q h. subst (λ n. slice_index old.lane_agents q < n) (sym count) (within.agents_there q h);
        };
      };
    }

pub one_push : (h : Holders) (old : CopiesValue) (k b : ℕ) (new : CopiesValue) → Within old → PushedBy old (push_of h k b) new → OnePush h old k b new
one_push Lanes old k b new within ((l, m), (value, copy, is)) = subst (OnePush Lanes old k b) (sym is) (lane_push old k b value l m within)
one_push Agents old k b new within ((l, m), (value, copy, is)) = subst (OnePush Agents old k b) (sym is) (agent_push old k b value l m within)

pub maps_count : (h : Holders) (old new : CopiesValue) → Counts old new → length (maps_of h new) ≡ length (maps_of h old)
maps_count Lanes old new c = c.lanes
maps_count Agents old new c = c.agents

pub kept_same : (c : CopiesValue) → Within c → StaysWithin c c
kept_same c within = record { counts = record { memory = refl; agents = refl; lanes = refl; lane_agents = refl }; within = within }

pub kept_on : (old mid new : CopiesValue) → StaysWithin old mid → StaysWithin mid new → StaysWithin old new
kept_on old mid new a b = record {
  counts = record {
    memory = b.counts.memory ∙ a.counts.memory;
    agents = b.counts.agents ∙ a.counts.agents;
    lanes = b.counts.lanes ∙ a.counts.lanes;
    lane_agents = b.counts.lane_agents ∙ a.counts.lane_agents;
  };
  within = b.within;
}

pub pushed_on : (old mid new : CopiesValue) (xs ys : List Event) → AllPushed old xs mid → AllPushed mid ys new → AllPushed old (xs ++ ys) new
pushed_on old mid new [] ys is run = subst (λ c. AllPushed c ys new) is run
pushed_on old mid new (x ∷ xs) ys (next, push, rest) run = (next, push, pushed_on next mid new xs ys rest run)

-- ---- one byte after another

pub record Cleaning (h : Holders) (old : CopiesValue) (k : ℕ) (cur : CopiesValue) : Type 0 where
  pub bytes : List ℕ
  pub run : AllPushed old (map (push_of h k) bytes) cur
  pub list : dirty_of h old k ≡ bytes ++ dirty_of h cur k
  pub kept : StaysWithin old cur
  pub others : (q b : ℕ) → q ≢ k → copies_of (maps_of h cur) q b ≡ copies_of (maps_of h old) q b

pub cleaning_starts : (h : Holders) (old : CopiesValue) (k : ℕ) → Within old → Cleaning h old k old
cleaning_starts h old k within = record { bytes = []; run = refl; list = refl; kept = kept_same old within; others = λ q b d. refl }

pub peeled : (h : Holders) (cur : CopiesValue) (k b : ℕ) (new : CopiesValue) → Within cur → b < length cur.memory → IsFirstDirty (held (maps_of h cur) k) b → OnePush h cur k b new → dirty_of h cur k ≡ b ∷ dirty_of h new k
peeled h cur k b new within low first push =
    let f : ℕ → ℕ → Option Copy = copies_of (maps_of h cur) in
    let g : ℕ → ℕ → Option Copy = copies_of (maps_of h new) in
    peel (λ c. is_dirty (f k c)) (λ c. is_dirty (g k c)) (length cur.memory) b low first.dirty first.least
    (ap (λ m. is_dirty (m k b)) push.maps ∙ ap is_dirty (put2_same f k b (clean push.value) k b refl refl))
    (λ c d. ap (λ m. is_dirty (m k c)) push.maps ∙ ap is_dirty (put2_other f k b (clean push.value) k c (λ _ e. d e)))
    ∙ ap (λ n. b ∷ filter (λ c. is_dirty (g k c)) (numbers n)) (sym push.kept.counts.memory)

pub byte_below : (h : Holders) (cur : CopiesValue) (k b : ℕ) → Within cur → IsFirstDirty (held (maps_of h cur) k) b → b < length cur.memory
byte_below Lanes cur k b within first = within.lanes k b first.dirty
byte_below Agents cur k b within first = within.agents k b first.dirty

pub cleaning_pushes : (h : Holders) (old : CopiesValue) (k b : ℕ) (cur new : CopiesValue) → Cleaning h old k cur → IsFirstDirty (held (maps_of h cur) k) b → PushedBy cur (push_of h k b) new → Cleaning h old k new
cleaning_pushes h old k b cur new c first pushed =
    let push = one_push h cur k b new c.kept.within pushed in
    let list = peeled h cur k b new c.kept.within (byte_below h cur k b c.kept.within first) first push in
    record {
      bytes = c.bytes ++ b ∷ [];
      run = subst (λ xs. AllPushed old xs new) (sym (map-append (push_of h k) c.bytes (b ∷ []))) (pushed_on old cur new (map (push_of h k) c.bytes) (push_of h k b ∷ []) c.run (new, pushed, refl));
      list = c.list ∙ ap (λ xs. c.bytes ++ xs) list ∙ sym (append_assoc c.bytes (b ∷ []) (dirty_of h new k));
      kept = kept_on old cur new c.kept push.kept;
      others = λ q x d. ap (λ m. m q x) push.maps ∙ put2_other (copies_of (maps_of h cur)) k b (clean push.value) q x (λ e _. d e) ∙ c.others q x d;
    }

pub fewer : (h : Holders) (cur : CopiesValue) (k b : ℕ) (new : CopiesValue) → Within cur → IsFirstDirty (held (maps_of h cur) k) b → PushedBy cur (push_of h k b) new → length (dirty_of h new k) < length (dirty_of h cur k)
fewer h cur k b new within first pushed =
    let e = ap length (peeled h cur k b new within (byte_below h cur k b within first) first (one_push h cur k b new within pushed)) in
    omega (arith, e)

pub cleaned : (h : Holders) (old : CopiesValue) (k : ℕ) (cur : CopiesValue) → Cleaning h old k cur → NoneDirty (held (maps_of h cur) k) → Cleaned h old k cur
cleaned h old k cur c none =
    let e : dirty_of h old k ≡ c.bytes = c.list ∙ ap (λ xs. c.bytes ++ xs) (none_pass (λ b. is_dirty (copies_of (maps_of h cur) k b)) (length cur.memory) (λ b l. none b)) ∙ append-nil c.bytes in
    record { run = subst (λ xs. AllPushed old (map (push_of h k) xs) cur) (sym e) c.run; kept = c.kept; others = c.others }

-- ---- a dirty byte

pub dirty_is : (copy : Option Copy) → is_dirty copy ≡ true → IsDirty copy
dirty_is None e = absurd (true≢false (sym e))
dirty_is (Some copy) e = (copy.value, ap (λ d. Some (a_copy copy.value d)) e)
