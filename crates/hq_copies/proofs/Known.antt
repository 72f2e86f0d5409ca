-- Lanes that hold nothing, or no dirty byte, can be passed over by what goes over a queue's lanes.
use Rattle.std.proofs.Common.{◌≡◌, take, drop, ◌++◌, IsTrue, Bool, not, ◌||◌, ◌&&◌, ◌==◌, ℕ, zero, suc, ◌+◌, ◌-◌, ◌<◌, ◌≤◌, ◌⊎◌, inl, inr, true, false, All, List, [], ◌∷◌, length, replicate, set, refl, sym, ◌∙◌, ap, ap₂, subst, cond, arith, Option, Some, None, is_some, length-set, get_or-set_same, get_or-set_other, ext_get_or, get_or}
use Rattle.std.proofs.lemmas.Bool.{cases_lt, cases_eq, cases_Bool, cond-false, true≢false, eq-eqb, ne_eqb}
use Rattle.std.proofs.lemmas.List.{get_or_default, length-replicate}
use Rattle.std.specs.FinMap as finite
use Rattle.std.specs.Ordering.{nat_cmp}
use Rattle.hq_model.specs.Machine.{Copy, is_dirty}
use Rattle.hq_model.specs.View.{Held, copies_of}
use Rattle.hq_bits.specs.Bits.{has}
use Rattle.hq_copies.specs.Copies.{held, dirty_only, dirty_within, cleaned, taken, after_pushes, IsCopies}
use Rattle.hq_copies.specs.Known.{AreKnown, HasDirty, HasHolding, HasRoom}
use Rattle.hq_copies.proofs.Gathered.{same_held}
use Rattle.hq_copies.proofs.Levels.{get_only}
use Rattle.hq_copies.proofs.Within.{lent, set_there, within_step}

-- ---- what isn't in a set

not_true : (b : Bool) → b ≡ false → IsTrue b → ⊥
not_true b f t = true≢false (sym t ∙ f)

pub not_dirty : (lanes : List Held) (marked : List ℕ) (k b : ℕ) → HasDirty lanes marked → has marked k ≡ false → is_dirty (copies_of lanes k b) ≡ false
not_dirty lanes marked k b are out = elim (cases_Bool (is_dirty (copies_of lanes k b))) [
  | inl t ↦ absurd (not_true (has marked k) out (are k b t))
  | inr f ↦ f
]

some_or_none : (copy : Option Copy) → (is_some copy ≡ true → ⊥) → copy ≡ None
some_or_none None n = refl
some_or_none (Some copy) n = absurd (n refl)

none_held : (lanes : List Held) (holding : List ℕ) (k b : ℕ) → HasHolding lanes holding → has holding k ≡ false → copies_of lanes k b ≡ None
none_held lanes holding k b are out = some_or_none (copies_of lanes k b) (λ t. not_true (has holding k) out (are k b t))

-- ---- changes of lanes

empty_lane : (n k b : ℕ) → copies_of (replicate n finite.empty) k b ≡ None
empty_lane zero k b = finite.get-empty nat_cmp b
empty_lane (suc n) zero b = finite.get-empty nat_cmp b
empty_lane (suc n) (suc k) b = empty_lane n k b

pub none_known : (n : ℕ) (holding marked : List ℕ) → HasRoom n holding → HasRoom n marked → AreKnown (replicate n finite.empty) holding marked
none_known n holding marked room room' = record {
  held = λ k b t. absurd (true≢false (sym t ∙ ap is_some (empty_lane n k b)));
  dirty = λ k b t. absurd (true≢false (sym t ∙ ap is_dirty (empty_lane n k b)));
  holding_room = subst (λ k. HasRoom k holding) (sym (length-replicate n finite.empty)) room;
  marked_room = subst (λ k. HasRoom k marked) (sym (length-replicate n finite.empty)) room';
}

-- the set has one lane more
pub record Put (old : List ℕ) (lane : ℕ) (new : List ℕ) : Type 0 where
  pub bits : (k : ℕ) → has new k ≡ (has old k || k == lane)
  pub len : length new ≡ length old

put_kept : (old new : List ℕ) (lane k : ℕ) → Put old lane new → IsTrue (has old k) → IsTrue (has new k)
put_kept old new lane k put t = put.bits k ∙ ap (λ b. b || k == lane) t

or_one : (b : Bool) → (b || true) ≡ true
or_one true = refl
or_one false = refl

put_one : (old new : List ℕ) (lane : ℕ) → Put old lane new → IsTrue (has new lane)
put_one old new lane put = put.bits lane ∙ ap (λ b. has old lane || b) (eq-eqb lane lane refl) ∙ or_one (has old lane)

pub same_room : (n m : ℕ) (old new : List ℕ) → m ≡ n → length new ≡ length old → HasRoom n old → HasRoom m new
same_room n m old new e l room = record { lanes = omega (arith, l, e, room.lanes); few = omega (arith, l, room.few) }

-- a lane is another one, and in the sets
pub lane_kept : (memory : List ℕ) (agents lanes : List Held) (lane_agents : List ℕ) (holding marked more further : List ℕ) (new : List Held) (lane : ℕ) (m : Held) → IsCopies memory agents lanes lane_agents holding marked → length new ≡ length agents
    → Put holding lane more → Put marked lane further → IsCopies memory new (set lanes lane m) lane_agents more further
lane_kept memory agents lanes lane_agents holding marked more further new lane m is count put put' = record {
  bytes = is.bytes;
  lanes_agree = length-set lanes lane m ∙ is.lanes_agree;
  agents_there = subst (λ n. All (λ a. a < n) lane_agents) (sym count) is.agents_there;
  known = record {
    held = λ k b t. elim (cases_eq k lane) [
      | inl e ↦ subst (λ n. IsTrue (has more n)) (sym e) (put_one holding more lane put)
      | inr d ↦ put_kept holding more lane k put (is.known.held k b (sym (ap is_some (set_there lanes lane k m b d)) ∙ t))
    ];
    dirty = λ k b t. elim (cases_eq k lane) [
      | inl e ↦ subst (λ n. IsTrue (has further n)) (sym e) (put_one marked further lane put')
      | inr d ↦ put_kept marked further lane k put' (is.known.dirty k b (sym (ap is_dirty (set_there lanes lane k m b d)) ∙ t))
    ];
    holding_room = same_room (length lanes) (length (set lanes lane m)) holding more (length-set lanes lane m) put.len is.known.holding_room;
    marked_room = same_room (length lanes) (length (set lanes lane m)) marked further (length-set lanes lane m) put'.len is.known.marked_room;
  };
}

-- ---- clean copies that go

-- what a list of maps is where some of them lose their clean copies
record Kept (xs : List Held) (start end : ℕ) (new : List Held) : Type 0 where
  pub count : length new ≡ length xs
  pub within : (k : ℕ) → start ≤ k → k < end → held new k ≡ dirty_only (held xs k)
  pub outside : (k : ℕ) → (k < start) ⊎ (end ≤ k) → held new k ≡ held xs k

none_kept : (xs : List Held) (start : ℕ) → dirty_within start start xs ≡ xs
none_kept [] zero = refl
none_kept [] (suc start) = refl
none_kept (x ∷ xs) zero = refl
none_kept (x ∷ xs) (suc start) = ap (λ t. x ∷ t) (none_kept xs start)

kept_more : (xs ys : List Held) (start i : ℕ) → ys ≡ dirty_within start i xs → start ≤ i → i < length xs → Kept xs start i ys → Kept xs start (suc i) (dirty_within start (suc i) xs)
kept_more xs ys start i e from l before = subst (Kept xs start (suc i)) (ap (λ zs. set zs i (dirty_only x)) e ∙ within_step xs start i x from l (subst (λ zs. x ≡ get_or zs i x) e (get_or_default ys i finite.empty x there))) (record {
  count = length-set ys i (dirty_only x) ∙ before.count;
  within = λ k low high. elim (cases_eq k i) [
    | inl same ↦ ap (held (set ys i (dirty_only x))) same ∙ get_or-set_same ys i (dirty_only x) finite.empty there ∙ ap dirty_only (before.outside i (inr (omega arith))) ∙ ap (λ t. dirty_only (held xs t)) (sym same)
    | inr d ↦ get_or-set_other ys i k (dirty_only x) finite.empty d ∙ before.within k low (omega arith)
  ];
  outside = λ k out. get_or-set_other ys i k (dirty_only x) finite.empty (λ same. elim out [ inl low ↦ absurd (omega arith) | inr high ↦ absurd (omega arith) ]) ∙ before.outside k (elim out [ inl low ↦ inl low | inr high ↦ inr (omega arith) ]);
})
  where
    x : Held
    x = held ys i

    there : i < length ys
    there = omega (arith, before.count, l)

kept : (xs : List Held) (start n end : ℕ) → end ≡ start + n → end ≤ length xs → Kept xs start end (dirty_within start end xs)
kept xs start zero end e l =
    let f : end ≡ start = omega arith in
    subst (λ t. Kept xs start t (dirty_within start t xs)) (sym f) (record {
      count = ap length (none_kept xs start);
      within = λ k low high. absurd (omega arith);
      outside = λ k _. ap (λ t. held t k) (none_kept xs start);
    })
kept xs start (suc n) end e l =
    let f : end ≡ suc (start + n) = omega arith in
    subst (λ t. Kept xs start t (dirty_within start t xs)) (sym f) (kept_more xs (dirty_within start (start + n) xs) start (start + n) refl (omega arith) (omega arith) (kept xs start n (start + n) refl (omega arith)))

pub kept_count : (xs : List Held) (start end : ℕ) → start ≤ end → end ≤ length xs → length (dirty_within start end xs) ≡ length xs
kept_count xs start end l h = let k = kept xs start (end - start) end (omega arith) h in k.count

pub lent_kept : (n : ℕ) (lanes new : List Held) (start end : ℕ) → n ≡ length lanes → start ≤ end → end ≤ length lanes → new ≡ dirty_within start end lanes → take n (new ++ drop (length new) lanes) ≡ dirty_within start end lanes
lent_kept n lanes new start end len rising within e = lent n new (drop (length new) lanes) (omega (arith, ap length e ∙ kept_count lanes start end rising within, len)) ∙ e

only_none : (m : Held) → ((b : ℕ) → finite.get m b ≡ None) → dirty_only m ≡ m
only_none m none = same_held (dirty_only m) m (λ n. get_only m n ∙ ap (λ (t : Option Copy). cond (is_dirty t) t None) (none n) ∙ sym (none n))

-- maps that hold nothing may be passed over
pub skipped : (xs : List Held) (start i n : ℕ) → start ≤ i → i ≤ n → n ≤ length xs → ((k b : ℕ) → i ≤ k → k < n → copies_of (dirty_within start i xs) k b ≡ None) → dirty_within start i xs ≡ dirty_within start n xs
skipped xs start i n a b c none =
    let small = kept xs start (i - start) i (omega arith) (omega arith) in
    let large = kept xs start (n - start) n (omega arith) c in
    ext_get_or finite.empty (dirty_within start i xs) (dirty_within start n xs) (small.count ∙ sym large.count) (λ k l. elim (cases_lt k start) [
      | inl before ↦ small.outside k (inl before) ∙ sym (large.outside k (inl before))
      | inr from ↦ elim (cases_lt k i) [
        | inl inner ↦ small.within k from inner ∙ sym (large.within k from (omega arith))
        | inr behind ↦ elim (cases_lt k n) [
          | inl to ↦
              let same : held (dirty_within start i xs) k ≡ held xs k = small.outside k (inr behind) in
              same ∙ sym (large.within k from to ∙ only_none (held xs k) (λ byte. sym (ap (λ m. finite.get m byte) same) ∙ none k byte behind to))
          | inr past ↦ small.outside k (inr behind) ∙ sym (large.outside k (inr past))
        ]
      ]
    ])

-- those ahead of the first that holds something are passed over
pub dropped_first : (xs : List Held) (holding : List ℕ) (start n : ℕ) → HasHolding xs holding → start ≤ n → n ≤ length xs → ((k : ℕ) → start ≤ k → k < n → has holding k ≡ false) → xs ≡ dirty_within start n xs
dropped_first xs holding start n are a c none =
    sym (none_kept xs start) ∙ skipped xs start start n (omega arith) a c (λ k byte from to. ap (λ zs. copies_of zs k byte) (none_kept xs start) ∙ none_held xs holding k byte are (none k from to))

dirty_some : (copy : Option Copy) → is_dirty copy ≡ true → is_some copy ≡ true
dirty_some None t = t
dirty_some (Some copy) t = refl

only_some : (copy : Option Copy) → is_some (cond (is_dirty copy) copy None) ≡ true → is_dirty copy ≡ true
only_some copy t = elim (cases_Bool (is_dirty copy)) [
  | inl d ↦ d
  | inr n ↦ absurd (true≢false (sym t ∙ ap is_some (cond-false (is_dirty copy) copy None n)))
]

some_dirty : (xs new : List Held) (k b : ℕ) → held new k ≡ dirty_only (held xs k) → is_some (copies_of new k b) ≡ true → is_dirty (copies_of xs k b) ≡ true
some_dirty xs new k b e t = only_some (copies_of xs k b) (sym (ap is_some (ap (λ m. finite.get m b) e ∙ get_only (held xs k) b)) ∙ t)

and_true : (b : Bool) → b ≡ true → (b && true) ≡ true
and_true b e = ap (λ x. x && true) e

-- the set without a lane, unless the other has it
pub record Left (old other : List ℕ) (lane : ℕ) (new : List ℕ) : Type 0 where
  pub bits : (k : ℕ) → has new k ≡ (has old k && (not (k == lane) || has other lane))
  pub len : length new ≡ length old

-- a lane that lets its clean bytes go
pub lane_cleaned : (lanes : List Held) (holding marked more : List ℕ) (lane : ℕ) (m : Held) → AreKnown lanes holding marked → lane < length lanes → m ≡ dirty_only (held lanes lane) → Left holding marked lane more → AreKnown (set lanes lane m) more marked
lane_cleaned lanes holding marked more lane m are low e left = record {
  held = λ k b t. elim (cases_eq k lane) [
    | inl same ↦ subst (λ n. IsTrue (has more n)) (sym same) (let d = dirty_here b (subst (λ n. is_some (copies_of (set lanes lane m) n b) ≡ true) same t) in
        left.bits lane ∙ ap (λ x. has holding lane && (not (lane == lane) || x)) (are.dirty lane b d) ∙ ap (λ x. has holding lane && x) (or_one (not (lane == lane))) ∙ and_true (has holding lane) (are.held lane b (dirty_some (copies_of lanes lane b) d)))
    | inr d ↦ left.bits k ∙ ap (λ x. has holding k && (not x || has marked lane)) (ne_eqb k lane d) ∙ and_true (has holding k) (are.held k b (sym (ap is_some (set_there lanes lane k m b d)) ∙ t))
  ];
  dirty = λ k b t. elim (cases_eq k lane) [
    | inl same ↦ subst (λ n. IsTrue (has marked n)) (sym same) (are.dirty lane b (dirty_here b (dirty_some (copies_of (set lanes lane m) lane b) (subst (λ n. is_dirty (copies_of (set lanes lane m) n b) ≡ true) same t))))
    | inr d ↦ are.dirty k b (sym (ap is_dirty (set_there lanes lane k m b d)) ∙ t)
  ];
  holding_room = same_room (length lanes) (length (set lanes lane m)) holding more (length-set lanes lane m) left.len are.holding_room;
  marked_room = same_room (length lanes) (length (set lanes lane m)) marked marked (length-set lanes lane m) refl are.marked_room;
}
  where
    dirty_here : (b : ℕ) → is_some (copies_of (set lanes lane m) lane b) ≡ true → is_dirty (copies_of lanes lane b) ≡ true
    dirty_here b t = some_dirty lanes (set lanes lane m) lane b (get_or-set_same lanes lane m finite.empty low ∙ e) t

-- one lane more of a list of maps lets its clean copies go, and those behind it that hold nothing are passed over
pub dropped_on : (xs ys : List Held) (start lane n : ℕ) (x m : Held) (holding marked : List ℕ) → start ≤ lane → lane < n → n ≤ length xs → ys ≡ dirty_within start lane xs → x ≡ get_or ys lane x → m ≡ dirty_only x
    → AreKnown (set ys lane m) holding marked → ((k : ℕ) → lane + 1 ≤ k → k < n → has holding k ≡ false) → set ys lane m ≡ dirty_within start n xs
dropped_on xs ys start lane n x m holding marked a b c e at only are none =
    let one : set ys lane m ≡ dirty_within start (suc lane) xs =
    ap₂ (λ zs t. set zs lane t) e only ∙ within_step xs start lane x a (omega arith) (subst (λ zs. x ≡ get_or zs lane x) e at) in
    one ∙ skipped xs start (suc lane) n (omega arith) (omega arith) c (λ k byte from to. ap (λ zs. copies_of zs k byte) (sym one) ∙ none_held (set ys lane m) holding k byte are.held (none k (omega arith) to))

-- ---- dirty bytes that become clean

cleaned_some : (copy : Option Copy) → is_some (cleaned copy) ≡ true → is_some copy ≡ true
cleaned_some None t = t
cleaned_some (Some copy) t = refl

-- clean ones in place of dirty ones: what holds bytes does so still
pub holding_cleaned : (lanes new : List Held) (holding : List ℕ) (start end : ℕ) → HasHolding lanes holding → ((k b : ℕ) → start ≤ k → k < end → copies_of new k b ≡ cleaned (copies_of lanes k b)) → ((k b : ℕ) → (k < start) ⊎ (end ≤ k) → copies_of new k b ≡ copies_of lanes k b)
    → HasHolding new holding
holding_cleaned lanes new holding start end are within outside k b t = elim (cases_lt k start) [
  | inl before ↦ are k b (sym (ap is_some (outside k b (inl before))) ∙ t)
  | inr from ↦ elim (cases_lt k end) [
    | inl to ↦ are k b (cleaned_some (copies_of lanes k b) (sym (ap is_some (within k b from to)) ∙ t))
    | inr past ↦ are k b (sym (ap is_some (outside k b (inr past))) ∙ t)
  ]
]

-- so far as before lane: those from start on are clean, and the rest is as it was
pub record Cleaned (xs : List Held) (start lane : ℕ) (ys : List Held) : Type 0 where
  pub count : length ys ≡ length xs
  pub inside : (k b : ℕ) → start ≤ k → k < lane → copies_of ys k b ≡ cleaned (copies_of xs k b)
  pub outside : (k b : ℕ) → (k < start) ⊎ (lane ≤ k) → copies_of ys k b ≡ copies_of xs k b

-- ---- what stands below

after_pushes_none : (lanes : List Held) (start n b : ℕ) (below : Option Copy) → ((k : ℕ) → start ≤ k → k < start + n → is_dirty (copies_of lanes k b) ≡ false) → after_pushes lanes start n b below ≡ below
after_pushes_none lanes start zero b below none = refl
after_pushes_none lanes start (suc n) b below none =
    let upper = copies_of lanes (start + n) b in
    cond-false (is_dirty upper) upper (after_pushes lanes start n b below) (none (start + n) (omega arith) (omega arith)) ∙ after_pushes_none lanes start n b below (λ k from to. none k from (omega arith))

after_pushes_more : (lanes : List Held) (start m n t b : ℕ) (below : Option Copy) → t ≡ m + n → after_pushes lanes start t b below ≡ after_pushes lanes (start + m) n b (after_pushes lanes start m b below)
after_pushes_more lanes start m zero t b below e =
    let f : t ≡ m = omega arith in
    ap (λ k. after_pushes lanes start k b below) f
after_pushes_more lanes start m (suc n) t b below e =
    let f : t ≡ suc (m + n) = omega arith in
    let g : start + (m + n) ≡ (start + m) + n = omega arith in
    ap (λ k. after_pushes lanes start k b below) f ∙ ap₂ taken (ap (λ k. copies_of lanes k b) g) (after_pushes_more lanes start m n (m + n) b below refl)

-- lanes that aren't dirty are passed over
pub pushed_none : (lanes : List Held) (marked : List ℕ) (start n b : ℕ) (below : Option Copy) → HasDirty lanes marked → start ≤ n → ((k : ℕ) → start ≤ k → k < n → has marked k ≡ false) → after_pushes lanes start (n - start) b below ≡ below
pushed_none lanes marked start n b below are l none = after_pushes_none lanes start (n - start) b below (λ k from to. not_dirty lanes marked k b are (none k from (omega arith)))

pub pushed_on : (lanes : List Held) (marked : List ℕ) (start lane n b : ℕ) (below : Option Copy) → HasDirty lanes marked → start ≤ lane → lane < n → ((k : ℕ) → lane + 1 ≤ k → k < n → has marked k ≡ false)
    → taken (copies_of lanes lane b) (after_pushes lanes start (lane - start) b below) ≡ after_pushes lanes start (n - start) b below
pushed_on lanes marked start lane n b below are a l none =
    let here : start + (lane - start) ≡ lane = omega arith in
    let next : start + suc (lane - start) ≡ lane + 1 = omega arith in
    let rest : n - (lane + 1) ≡ (n - start) - suc (lane - start) = omega arith in
    let middle = after_pushes lanes start (suc (lane - start)) b below in
    ap (λ k. taken (copies_of lanes k b) (after_pushes lanes start (lane - start) b below)) (sym here)
    ∙ sym (pushed_none lanes marked (lane + 1) n b middle are (omega arith) none)
    ∙ ap₂ (λ k t. after_pushes lanes k t b middle) (sym next) rest
    ∙ sym (after_pushes_more lanes start (suc (lane - start)) ((n - start) - suc (lane - start)) (n - start) b below (omega arith))
