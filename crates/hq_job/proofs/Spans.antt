-- The packets of a queue stand one behind another.
use Rattle.std.proofs.Common.{◌≡◌, ℕ, suc, ◌+◌, ◌-◌, ◌<◌, ◌≤◌, inl, inr, true, cond, ◌==◌, nat_lt, List, length, take, Some, refl, sym, ◌∙◌, ap, subst, arith, slice_get, slice_index, length-append, add-one}
use Rattle.std.proofs.lemmas.Bool.{cases_lt, cond-true, cond-false, eq-eqb, lt-ltb, le-ltb}
use Rattle.std.proofs.lemmas.List.{length-map}
use Rattle.hq_model.specs.Job as model
use Rattle.hq_model.specs.Job.{Job}
use Rattle.hq_job.specs.declared.job.Job.TheInside.{Inside}
use Rattle.hq_tables.specs.declared.rows.Placed.{Placed}
use Rattle.hq_job.specs.JobFields.{FieldsFit}
use Rattle.hq_job.specs.View.{value_of}
use Rattle.hq_job.specs.Value.{JobValue}
use Rattle.hq_job.specs.Plan.{plan, planned}
use Rattle.hq_job.specs.Numbering.{with_key, grouped, by_number}
use Rattle.hq_job.specs.Access.{AreOfQueue}
use Rattle.hq_job.proofs.Grouped.{grouped_more, get_filtered, get_grouped, get_number, numbered, key_at}
use Rattle.hq_tables.proofs.Lists.{some_is, at, within, all_at}
use Rattle.hq_job.proofs.QueuePlaces.{keys_are, stands, packet_at, first_is, queue_of, with_rows, queue_kept, as_many_rows}
use Rattle.hq_tables.proofs.Lists.{at, within, all_at}
use Rattle.hq_job.proofs.Counted.{counted_none}

-- what has the key stands behind the groups of lesser keys, and ahead of those of greater ones
pub has_span : {X : Type 0} (key : X → ℕ) (n : ℕ) (xs : List X) (p q : ℕ) (x : X) → slice_get (grouped key n xs) p ≡ Some x → key x ≡ q → (length (grouped key q xs) ≤ p) × (p < length (grouped key (suc q) xs))
has_span key n xs p q x there same =
    let h = stands key n xs p x there in
    let f = numbered key n xs p (within (grouped key n xs) p x there) in
    let found : slice_get (grouped key n xs) p ≡ Some f.x = subst (λ m. slice_get (grouped key n xs) m ≡ Some f.x) f.number_is (get_number key n xs f.k f.x f.there f.key_below) in
    let is : f.x ≡ x = some_is f.x x (sym found ∙ there) in
    let key_is : key f.x ≡ q = ap key is ∙ same in
    let passes : (key f.x == q) ≡ true = eq-eqb (key f.x) q key_is in
    let inside : length (with_key key (take f.k xs) q) < length (with_key key xs q) = within (with_key key xs q) (length (with_key key (take f.k xs) q)) f.x (get_filtered (λ y. key y == q) xs f.k f.x f.there passes) in
    let number : length (grouped key q xs) + length (with_key key (take f.k xs) q) ≡ p = sym (ap (λ m. length (grouped key m xs) + length (with_key key (take f.k xs) m)) (key_at key xs f.k f.x f.there ∙ key_is)) ∙ f.number_is in
    (omega (arith, number), omega (arith, number, inside, ap length (grouped_more key q xs), length-append (grouped key q xs) (with_key key xs q)))

-- and what stands there has it
pub record Has {X : Type 0} (key : X → ℕ) (n : ℕ) (xs : List X) (p q : ℕ) : Type 0 where
  pub x : X
  pub there : slice_get (grouped key n xs) p ≡ Some x
  pub key_is : key x ≡ q

pub in_span : {X : Type 0} (key : X → ℕ) (n : ℕ) (xs : List X) (p q : ℕ) → q < n → length (grouped key q xs) ≤ p → p < length (grouped key (suc q) xs) → Has key n xs p q
in_span key n xs p q below low high =
    let i : ℕ = p - length (grouped key q xs) in
    let p_is : length (grouped key q xs) + i ≡ p = omega arith in
    let inside : i < length (with_key key xs q) = omega (arith, ap length (grouped_more key q xs), length-append (grouped key q xs) (with_key key xs q)) in
    let f = at (with_key key xs q) i inside in
    record {
      x = f.x;
      there = subst (λ m. slice_get (grouped key n xs) m ≡ Some f.x) p_is (get_grouped key n q xs i f.x below f.there);
      key_is = all_at (λ y. key y ≡ q) (with_key key xs q) i f.x (keys_are key xs q) f.there;
    }

-- the number behind the queue's last
last_is : (j : Inside) → FieldsFit j → (q : ℕ) → q < length j.firsts.items → cond (nat_lt (q + 1) (length j.firsts.items)) (slice_index j.firsts.items (q + 1)) (length j.packets.items) ≡ length (by_number (q + 1) j.packets.items)
last_is j fit q l = elim (cases_lt (q + 1) (length j.firsts.items)) [
  | inl more ↦ cond-true (nat_lt (q + 1) (length j.firsts.items)) (slice_index j.firsts.items (q + 1)) (length j.packets.items) (lt-ltb (q + 1) (length j.firsts.items) more) ∙ (first_is j fit (q + 1) more).1
  | inr last ↦
      let count : length j.firsts.items ≡ length j.tables.queues.items = (counted_none queue_of (length j.tables.queues.items) j.packets.items j.firsts.items fit.firsts_are).count in
      let n_is : length j.tables.queues.items ≡ q + 1 = omega (arith, count) in
      let rows : List Placed = by_number (length j.tables.queues.items) j.packets.items in
      let rows_are : length j.packets.items ≡ length rows = sym (length-map j.packets.items queue_of) ∙ ap length fit.queues_are ∙ length-map rows queue_of in
      cond-false (nat_lt (q + 1) (length j.firsts.items)) (slice_index j.firsts.items (q + 1)) (length j.packets.items) (le-ltb (q + 1) (length j.firsts.items) last) ∙ rows_are ∙ ap (λ n. length (by_number n j.packets.items)) n_is
]

of_fields : (j : Inside) → FieldsFit j → (q : ℕ) → q < length j.firsts.items → AreOfQueue (plan (value_of j)) q (length (by_number q j.packets.items)) (length (by_number (suc q) j.packets.items))
of_fields j fit q l =
    let n : ℕ = length j.tables.queues.items in
    let placed = j.packets.items in
    let old : Job = with_rows (plan (value_of j)) (by_number n placed) in
    let alike = queue_kept (plan (value_of j)) j.packets.items (by_number n placed) fit.queues_are in
    let many = as_many_rows (plan (value_of j)) j.packets.items (by_number n placed) fit.queues_are in
    let count : length old.packets ≡ length (by_number n placed) = length-map (by_number n placed) planned in
    record {
      within = λ p is_packet same.
          let f = at (by_number n placed) p (omega (arith, is_packet, count, many)) in
          has_span queue_of n placed p q f.x f.there (sym (ap (λ (r : model.Packet). r.queue) (packet_at old (by_number n placed) p f.x refl f.there)) ∙ sym (alike p) ∙ same);
      of_queue = λ p low high.
          let f = in_span queue_of n placed p q (first_is j fit q l).0 low high in
          (omega (arith, count, many, within (by_number n placed) p f.x f.there), alike p ∙ ap (λ (r : model.Packet). r.queue) (packet_at old (by_number n placed) p f.x refl f.there) ∙ f.key_is);
    }

pub spans : (j : Inside) → FieldsFit j → (job : JobValue) → value_of j ≡ job → (firsts : List ℕ) → firsts ≡ j.firsts.items → (count : ℕ) → count ≡ length j.packets.items → (q start stop : ℕ) → q < length firsts → start ≡ slice_index firsts q → stop ≡ cond (nat_lt (q + 1) (length firsts)) (slice_index firsts (q + 1)) count → AreOfQueue (plan job) q start stop
spans j fit job shown firsts first count counted q start stop l starts stops =
    let below : q < length j.firsts.items = omega (arith, l, ap length first) in
    let start_is : length (by_number q j.packets.items) ≡ start = sym (first_is j fit q below).1 ∙ ap (λ ns. slice_index ns q) (sym first) ∙ sym starts in
    let stop_is : length (by_number (suc q) j.packets.items) ≡ stop =
    ap (λ m. length (by_number m j.packets.items)) (sym (add-one q)) ∙ sym (last_is j fit q below)
    ∙ ap (λ ns. cond (nat_lt (q + 1) (length ns)) (slice_index ns (q + 1)) (length j.packets.items)) (sym first)
    ∙ ap (λ c. cond (nat_lt (q + 1) (length firsts)) (slice_index firsts (q + 1)) c) (sym counted) ∙ sym stops in
    subst (λ v. AreOfQueue (plan v) q start stop) shown
    (subst (λ m. AreOfQueue (plan (value_of j)) q start m) stop_is (subst (λ m. AreOfQueue (plan (value_of j)) q m (length (by_number (suc q) j.packets.items))) start_is (of_fields j fit q below)))

-- as many queues as first packets
pub as_many : (j : Inside) → FieldsFit j → (job : JobValue) → value_of j ≡ job → (firsts : List ℕ) → firsts ≡ j.firsts.items → (q : ℕ) → q < length job.queues → q < length firsts
as_many j fit job shown firsts first q l =
    omega (arith, l, ap length first, ap (λ (v : JobValue). length v.queues) shown, (counted_none queue_of (length j.tables.queues.items) j.packets.items j.firsts.items fit.firsts_are).count)
