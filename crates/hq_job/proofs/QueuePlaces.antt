-- The places of packets in their queues.
use Rattle.std.proofs.Common.{◌≡◌, ℕ, zero, suc, ◌+◌, ◌-◌, ◌<◌, ◌≤◌, ◌↔◌, inl, inr, Bool, true, false, cond, ◌==◌, List, [], ◌∷◌, ◌++◌, length, map, take, Option, Some, None, IsNone, refl, sym, ◌∙◌, ap, subst, arith, slice_get, slice_index, slice_index_or, All, count_by}
use Rattle.std.proofs.Math.ListN.{get_or-map}
use Rattle.std.proofs.lemmas.Bool.{cases_lt, cond-true, eq-eqb, ne_eqb, eqb-true}
use Rattle.std.proofs.lemmas.List.{take-append-le, take-map, length-map}
use Rattle.std.proofs.lemmas.List.Elements.{All-nil, All-cons, All-append, All-weaker}
use Rattle.std.proofs.lemmas.List.Sums.{sum_by-cons, sum_by-append}
use Rattle.hq_model.specs.Job as model
use Rattle.hq_model.specs.Job.{Job, packet, place_in_queue}
use Rattle.hq_tables.specs.declared.rows.Placed.{Placed}
use Rattle.hq_job.specs.declared.job.Job.TheInside.{Inside}
use Rattle.hq_job.specs.JobFields.{FieldsFit}
use Rattle.hq_job.specs.View.{value_of}
use Rattle.hq_job.specs.Value.{JobValue}
use Rattle.hq_job.specs.Plan.{plan, planned}
use Rattle.hq_job.specs.Numbering.{with_key, grouped, by_number}
use Rattle.hq_job.specs.Access.{StandsAt, LiesAt}
use Rattle.hq_job.proofs.Grouped.{grouped_more}
use Rattle.hq_tables.proofs.Lists.{some_is, at, within, all_at, count_none}
use Rattle.hq_job.proofs.GroupedSums.{count_map}
use Rattle.hq_tables.proofs.Lists.{count_none}
use Rattle.hq_tables.proofs.Lists.{at, within, all_at}
use Rattle.hq_job.proofs.Counted.{counted_none}

-- ---- lists end to end

get_high : {X : Type 0} (xs ys : List X) (k : ℕ) → slice_get (xs ++ ys) (length xs + k) ≡ slice_get ys k
get_high [] ys k = ap (slice_get ys) (omega arith)
get_high (x ∷ xs) ys k = let e : suc (length xs) + k ≡ suc (length xs + k) = omega arith in rw e (get_high xs ys k)

get_low : {X : Type 0} (xs ys : List X) (k : ℕ) → k < length xs → slice_get (xs ++ ys) k ≡ slice_get xs k
get_low [] ys k l = absurd (omega arith)
get_low (x ∷ xs) ys zero l = refl
get_low (x ∷ xs) ys (suc k) l = get_low xs ys k (omega arith)

take_high : {X : Type 0} (xs ys : List X) (k : ℕ) → take (length xs + k) (xs ++ ys) ≡ xs ++ take k ys
take_high [] ys k = ap (λ n. take n ys) (omega arith)
take_high (x ∷ xs) ys k = let e : suc (length xs) + k ≡ suc (length xs + k) = omega arith in rw e (ap (λ zs. x ∷ zs) (take_high xs ys k))

-- of a list that passes whole, as many pass as are taken
count_front : {X : Type 0} (test : X → Bool) (xs : List X) (k : ℕ) → All (λ x. test x ≡ true) xs → k ≤ length xs → count_by test (take k xs) ≡ k
count_front test [] zero all l = refl
count_front test [] (suc k) all l = absurd (omega arith)
count_front test (x ∷ xs) zero all l = refl
count_front test (x ∷ xs) (suc k) all l =
    omega (arith, sum_by-cons (λ y. cond {A = ℕ} (test y) 1 0) x (take k xs), cond-true {A = ℕ} (test x) 1 0 (all 0 x (omega arith)), count_front test xs k (λ j d m. all (suc j) d (omega arith)) (omega arith))

-- ---- groups

pub keys_are : {X : Type 0} (key : X → ℕ) (xs : List X) (q : ℕ) → All (λ x. key x ≡ q) (with_key key xs q)
keys_are key [] q = All-nil (λ x. key x ≡ q)
keys_are {X} key (x ∷ xs) q = go (key x == q) refl (keys_are key xs q)
  where
    go : (b : Bool) → (key x == q) ≡ b → All (λ y. key y ≡ q) (with_key key xs q) → All (λ y. key y ≡ q) (cond b (x ∷ with_key key xs q) (with_key key xs q))
    go true e more = All-cons (λ y. key y ≡ q) x (with_key key xs q) (eqb-true (key x) q e) more
    go false e more = more

keys_below : {X : Type 0} (key : X → ℕ) (n : ℕ) (xs : List X) → All (λ x. key x < n) (grouped key n xs)
keys_below key zero xs = All-nil (λ x. key x < 0)
keys_below key (suc n) xs =
    subst (All (λ x. key x < suc n)) (sym (grouped_more key n xs))
    (All-append (λ x. key x < suc n) (grouped key n xs) (with_key key xs n)
    (All-weaker (λ x. key x < n) (λ x. key x < suc n) (λ x l. omega arith) (grouped key n xs) (keys_below key n xs))
    (All-weaker (λ x. key x ≡ n) (λ x. key x < suc n) (λ x e. omega arith) (with_key key xs n) (keys_are key xs n)))

-- whose number it is: the groups of lesser keys come first, and those of its key that stand ahead of it
pub record Stands {X : Type 0} (key : X → ℕ) (n : ℕ) (xs : List X) (p q : ℕ) : Type 0 where
  pub below : q < n
  pub number_is : p ≡ length (grouped key q xs) + count_by (λ y. key y == q) (take p (grouped key n xs))

stands_last : {X : Type 0} (key : X → ℕ) (n : ℕ) (xs : List X) (k : ℕ) (x : X) → slice_get (with_key key xs n) k ≡ Some x → count_by (λ y. key y == n) (take (length (grouped key n xs) + k) (grouped key n xs ++ with_key key xs n)) ≡ k
stands_last key n xs k x e =
    ap (count_by (λ y. key y == n)) (take_high (grouped key n xs) (with_key key xs n) k)
    ∙ omega (
      arith,
      sum_by-append (λ y. cond {A = ℕ} (key y == n) 1 0) (grouped key n xs) (take k (with_key key xs n)),
      count_none (λ y. key y == n) (grouped key n xs) (All-weaker (λ y. key y < n) (λ y. (key y == n) ≡ false) (λ y l. ne_eqb (key y) n (λ same. omega arith)) (grouped key n xs) (keys_below key n xs)),
      count_front (λ y. key y == n) (with_key key xs n) k (All-weaker (λ y. key y ≡ n) (λ y. (key y == n) ≡ true) (λ y same. eq-eqb (key y) n same) (with_key key xs n) (keys_are key xs n)) (omega (arith, within (with_key key xs n) k x e)),
    )

pub stands : {X : Type 0} (key : X → ℕ) (n : ℕ) (xs : List X) (p : ℕ) (x : X) → slice_get (grouped key n xs) p ≡ Some x → Stands key n xs p (key x)
stands key zero xs p x e = absurd (omega (arith, within (grouped key 0 xs) p x e))
stands key (suc n) xs p x e = elim (cases_lt p (length (grouped key n xs))) [
  | inl low ↦
      let there : slice_get (grouped key n xs) p ≡ Some x = sym (get_low (grouped key n xs) (with_key key xs n) p low) ∙ sym (ap (λ ys. slice_get ys p) (grouped_more key n xs)) ∙ e in
      let h = stands key n xs p x there in
      let front : take p (grouped key (suc n) xs) ≡ take p (grouped key n xs) = ap (take p) (grouped_more key n xs) ∙ take-append-le p (grouped key n xs) (with_key key xs n) (omega arith) in
      record { below = omega (arith, h.below); number_is = rw front h.number_is }
  | inr high ↦
      let k : ℕ = p - length (grouped key n xs) in
      let p_is : length (grouped key n xs) + k ≡ p = omega arith in
      let there : slice_get (with_key key xs n) k ≡ Some x = sym (get_high (grouped key n xs) (with_key key xs n) k) ∙ ap (slice_get (grouped key n xs ++ with_key key xs n)) p_is ∙ sym (ap (λ ys. slice_get ys p) (grouped_more key n xs)) ∙ e in
      let key_is : key x ≡ n = all_at (λ y. key y ≡ n) (with_key key xs n) k x (keys_are key xs n) there in
      let counted : count_by (λ y. key y == n) (take p (grouped key (suc n) xs)) ≡ k =
      ap (λ ys. count_by (λ y. key y == n) (take p ys)) (grouped_more key n xs) ∙ ap (λ m. count_by (λ y. key y == n) (take m (grouped key n xs ++ with_key key xs n))) (sym p_is) ∙ stands_last key n xs k x there in
      subst (Stands key (suc n) xs p) (sym key_is) (record { below = omega arith; number_is = omega (arith, p_is, counted) })
]

-- ---- the packets of a job

abbrev pub queue_of : Placed → ℕ
queue_of p = p.queue

pub packet_at : (job : Job) (rows : List Placed) (p : ℕ) (x : Placed) → job.packets ≡ map planned rows → slice_get rows p ≡ Some x → packet job p ≡ planned x
packet_at job rows p x e there =
    ap (λ ps. slice_index_or ps p model.no_packet) e ∙ row_at rows p there
  where
    row_at : (rows : List Placed) (p : ℕ) → slice_get rows p ≡ Some x → slice_index_or (map planned rows) p model.no_packet ≡ planned x
    row_at [] p f = absurd (cc)
    row_at (y ∷ ys) zero f = ap planned (some_is y x f)
    row_at (y ∷ ys) (suc p) f = row_at ys p f

-- what is asked of a job: its packets are those of the lines by number
abbrev pub ByNumber : Job → ℕ → List Placed → Type 0
ByNumber job n placed = job.packets ≡ map planned (by_number n placed)

place_is : (job : Job) (n : ℕ) (placed : List Placed) (p : ℕ) (x : Placed) → ByNumber job n placed → slice_get (by_number n placed) p ≡ Some x → place_in_queue job p ≡ count_by (λ y. y.queue == x.queue) (take p (by_number n placed))
place_is job n placed p x e there =
    ap (λ (r : model.Packet). count_by (λ e. e.queue == r.queue) (take p job.packets)) (packet_at job (by_number n placed) p x e there)
    ∙ ap (λ ps. count_by (λ e. e.queue == x.queue) (take p ps)) e
    ∙ ap (count_by (λ e. e.queue == x.queue)) (take-map planned p (by_number n placed))
    ∙ count_map (λ e. e.queue == x.queue) planned (take p (by_number n placed))

-- the packet at a place of a queue, if there is one
pub record Found (n : ℕ) (placed : List Placed) (queue place p : ℕ) : Type 0 where
  pub below : queue < n
  pub number_is : p ≡ length (by_number queue placed) + place
  pub row : Placed
  pub there : slice_get (by_number n placed) p ≡ Some row
  pub queue_is : row.queue ≡ queue

pub found_where : (job : Job) (n : ℕ) (placed : List Placed) (queue place p : ℕ) → ByNumber job n placed → StandsAt job queue place p → Found n placed queue place p
found_where job n placed queue place p e s =
    let low : p < length (by_number n placed) = omega (arith, s.is_packet, ap length e, length-map (by_number n placed) planned) in
    let r = at (by_number n placed) p low in
    let queue_is : r.x.queue ≡ queue = sym (ap (λ (q : model.Packet). q.queue) (packet_at job (by_number n placed) p r.x e r.there)) ∙ s.queue_is in
    let h = stands queue_of n placed p r.x r.there in
    record {
      below = omega (arith, h.below, queue_is);
      number_is = h.number_is ∙ sym (ap (λ k. length (by_number r.x.queue placed) + k) (place_is job n placed p r.x e r.there)) ∙ ap (λ k. length (by_number r.x.queue placed) + k) s.place_is ∙ ap (λ q. length (by_number q placed) + place) queue_is;
      row = r.x;
      there = r.there;
      queue_is = queue_is;
    }

pub stands_where : (job : Job) (n : ℕ) (placed : List Placed) (queue place p : ℕ) → ByNumber job n placed → Found n placed queue place p → StandsAt job queue place p
stands_where job n placed queue place p e f =
    let h = stands queue_of n placed p f.row f.there in
    record {
      is_packet = omega (arith, within (by_number n placed) p f.row f.there, ap length e, length-map (by_number n placed) planned);
      queue_is = ap (λ (q : model.Packet). q.queue) (packet_at job (by_number n placed) p f.row e f.there) ∙ f.queue_is;
      place_is = omega (arith, place_is job n placed p f.row e f.there, h.number_is, f.number_is, ap (λ q. length (by_number q placed)) f.queue_is);
    }

-- the job with these packets in place of its own
abbrev pub with_rows : Job → List Placed → Job
with_rows job rows = record job { packets = map planned rows }

-- ---- packets in the same queues, one by one

abbrev pub queues_of : List Placed → List ℕ
queues_of rows = map queue_of rows

-- what stands at a place, of this queue
pub record OfQueue (rows : List Placed) (p queue : ℕ) : Type 0 where
  pub row : Placed
  pub there : slice_get rows p ≡ Some row
  pub queue_is : row.queue ≡ queue

pub same_queue_at : (xs ys : List Placed) → queues_of xs ≡ queues_of ys → (p : ℕ) (x : Placed) → slice_get xs p ≡ Some x → OfQueue ys p x.queue
same_queue_at [] ys same p x e = absurd (cc)
same_queue_at (a ∷ xs) [] same p x e = absurd (cc)
same_queue_at (a ∷ xs) (b ∷ ys) same zero x e = record { row = b; there = refl; queue_is = sym (head_of same) ∙ ap queue_of (some_is a x e) }
  where
    head_of : queue_of a ∷ queues_of xs ≡ queue_of b ∷ queues_of ys → queue_of a ≡ queue_of b
    head_of e = cc
same_queue_at (a ∷ xs) (b ∷ ys) same (suc p) x e =
    let h = same_queue_at xs ys (rest_of same) p x e in
    record { row = h.row; there = h.there; queue_is = h.queue_is }
  where
    rest_of : queue_of a ∷ queues_of xs ≡ queue_of b ∷ queues_of ys → queues_of xs ≡ queues_of ys
    rest_of e = cc

planned_queues : (rows : List Placed) → map (λ (e : model.Packet). e.queue) (map planned rows) ≡ queues_of rows
planned_queues [] = refl
planned_queues (x ∷ xs) = ap (λ qs. x.queue ∷ qs) (planned_queues xs)

-- in jobs that have them, the packets stand alike
module _ (job : Job) (xs ys : List Placed) (same : queues_of xs ≡ queues_of ys) where
  planned_same : map (λ (e : model.Packet). e.queue) (map planned xs) ≡ map (λ (e : model.Packet). e.queue) (map planned ys)
  planned_same = planned_queues xs ∙ same ∙ sym (planned_queues ys)

  pub as_many_rows : length (map planned xs) ≡ length (map planned ys)
  as_many_rows = length-map xs planned ∙ sym (length-map xs queue_of) ∙ ap length same ∙ length-map ys queue_of ∙ sym (length-map ys planned)

  pub queue_kept : (p : ℕ) → (packet (with_rows job xs) p).queue ≡ (packet (with_rows job ys) p).queue
  queue_kept p =
      sym (get_or-map (λ (e : model.Packet). e.queue) (map planned xs) p model.no_packet)
      ∙ ap (λ qs. slice_index_or qs p 0) planned_same
      ∙ get_or-map (λ (e : model.Packet). e.queue) (map planned ys) p model.no_packet

  place_kept : (p : ℕ) → place_in_queue (with_rows job xs) p ≡ place_in_queue (with_rows job ys) p
  place_kept p =
      ap (λ q. count_by (λ (e : model.Packet). e.queue == q) (take p (map planned xs))) (queue_kept p)
      ∙ sym (counted xs) ∙ ap (λ qs. count_by (λ r. r == (packet (with_rows job ys) p).queue) (take p qs)) planned_same ∙ counted ys
    where
      counted : (rows : List Placed) → count_by (λ r. r == (packet (with_rows job ys) p).queue) (take p (map (λ (e : model.Packet). e.queue) (map planned rows))) ≡ count_by (λ (e : model.Packet). e.queue == (packet (with_rows job ys) p).queue) (take p (map planned rows))
      counted rows =
          ap (count_by (λ r. r == (packet (with_rows job ys) p).queue)) (take-map (λ (e : model.Packet). e.queue) p (map planned rows))
          ∙ count_map (λ r. r == (packet (with_rows job ys) p).queue) (λ (e : model.Packet). e.queue) (take p (map planned rows))

  pub stands_kept : (q i p : ℕ) → StandsAt (with_rows job xs) q i p → StandsAt (with_rows job ys) q i p
  stands_kept q i p s = record { is_packet = omega (arith, s.is_packet, as_many_rows); queue_is = sym (queue_kept p) ∙ s.queue_is; place_is = sym (place_kept p) ∙ s.place_is }

-- ---- by the fields of a job

pub first_is : (j : Inside) → FieldsFit j → (q : ℕ) → q < length j.firsts.items → (q < length j.tables.queues.items) × (slice_index j.firsts.items q ≡ length (by_number q j.packets.items))
first_is j fit q l =
    let counted = counted_none queue_of (length j.tables.queues.items) j.packets.items j.firsts.items fit.firsts_are in
    let below : q < length j.tables.queues.items = omega (arith, counted.count) in
    (below, counted.each q below ∙ omega arith)

stands_of : (j : Inside) → FieldsFit j → (q i p : ℕ) → LiesAt j.firsts.items j.packets.items q i p → StandsAt (plan (value_of j)) q i p
stands_of j fit q i p lies =
    let first = first_is j fit q lies.below in
    let rows : List Placed = by_number (length j.tables.queues.items) j.packets.items in
    let row = same_queue_at j.packets.items rows fit.queues_are p lies.row lies.there in
    stands_kept (plan (value_of j)) rows j.packets.items (sym fit.queues_are) q i p
    (stands_where (with_rows (plan (value_of j)) rows) (length j.tables.queues.items) j.packets.items q i p refl
    (record {
      below = first.0;
      number_is = lies.number_is ∙ ap (λ n. n + i) first.1;
      row = row.row;
      there = row.there;
      queue_is = row.queue_is ∙ lies.queue_is;
    }))

lies_of : (j : Inside) → FieldsFit j → (q i p : ℕ) → StandsAt (plan (value_of j)) q i p → LiesAt j.firsts.items j.packets.items q i p
lies_of j fit q i p s =
    let rows : List Placed = by_number (length j.tables.queues.items) j.packets.items in
    let found = found_where (with_rows (plan (value_of j)) rows) (length j.tables.queues.items) j.packets.items q i p refl (stands_kept (plan (value_of j)) j.packets.items rows fit.queues_are q i p s) in
    let counted = counted_none queue_of (length j.tables.queues.items) j.packets.items j.firsts.items fit.firsts_are in
    let below : q < length j.firsts.items = omega (arith, counted.count, found.below) in
    let row = same_queue_at rows j.packets.items (sym fit.queues_are) p found.row found.there in
    record {
      below = below;
      number_is = found.number_is ∙ sym (ap (λ n. n + i) (first_is j fit q below).1);
      row = row.row;
      there = row.there;
      queue_is = row.queue_is ∙ found.queue_is;
    }

-- what the fields' numbers say, of the value that they show
pub numbers_places : (j : Inside) → FieldsFit j → (job : JobValue) → value_of j ≡ job → (firsts : List ℕ) → firsts ≡ j.firsts.items → (packets : List Placed) → packets ≡ j.packets.items → (q i : ℕ) (r : Option ℕ) → ((p : ℕ) → (r ≡ Some p) ↔ LiesAt firsts packets q i p) → (p : ℕ) → (r ≡ Some p) ↔ StandsAt (plan job) q i p
numbers_places j fit job shown firsts first packets by_number q i r told p = (
  λ e. subst (λ v. StandsAt (plan v) q i p) shown (stands_of j fit q i p (subst (λ ps. LiesAt j.firsts.items ps q i p) by_number (subst (λ ns. LiesAt ns packets q i p) first ((told p).0 e)))),
  λ s. (told p).1 (subst (λ ns. LiesAt ns packets q i p) (sym first) (subst (λ ps. LiesAt j.firsts.items ps q i p) (sym by_number) (lies_of j fit q i p (subst (λ v. StandsAt (plan v) q i p) (sym shown) s)))),
)

-- an answer that names each such number names none only where there is none
pub none_named : (r : Option ℕ) (P : ℕ → Type 0) → ((p : ℕ) → (r ≡ Some p) ↔ P p) → IsNone r ↔ ((p : ℕ) → ¬ P p)
none_named None P told = (λ _ p s. unsaid p ((told p).1 s), λ _. refl)
  where
    unsaid : (q : ℕ) → ¬ (None ≡ Some q)
    unsaid q e = absurd (cc)
none_named (Some p) P told = (λ none. absurd (cc), λ never. absurd (never p ((told p).0 refl)))
