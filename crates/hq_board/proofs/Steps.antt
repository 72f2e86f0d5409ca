-- Each step of a seat keeps the rule.
use Rattle.std.proofs.Common.{◌≡◌, ◌≢◌, ℕ, zero, suc, ◌⊎◌, length-append, replicate, ◌++◌, ◌+◌, ◌-◌, ◌%◌, ◌^◌, ◌<◌, inl, inr, Bool, true, false, List, [], ◌∷◌, length, get_or, set, refl, sym, ◌∙◌, ap, subst, arith, eqb, Option, Some, slice_index, slice_get}
use Rattle.std.proofs.lemmas.Bool.{cases_eq, cond-true, cond-false, eq-eqb, ne_eqb, true≢false}
use Rattle.std.proofs.lemmas.List.{length-replicate, get_or_append_left, get_or-replicate, set-get_or, get_or-set_same, get_or-set_other, length-set}
use Rattle.std.proofs.Math.Seq.{get_or-append_right}
use Rattle.std.proofs.Math.Nat.{mod-eq_of_lt, add-mod_right}
use mathlib.Core.Option.{some, some-injective, some-ne-none}
use lib.ListN.{get_elem?}
use Rattle.atomic_table.specs.Table.{State, Me, keeps, Allows, Splits}
use Rattle.atomic_table.proofs.Lists.{at_set}
use Rattle.hq_model.specs.Job.{Job, packet, Dependency, completes_on}
use Rattle.hq_model.specs.Machine as machine
use Rattle.hq_model.proofs.Kept.{signal_of, signal_is}
use Rattle.hq_board.specs.declared.entry.Entry.{Entry}
use Rattle.hq_board.specs.declared.entry.Entry.TheVariants.{DidObserve, DidComplete, Looked}
use Rattle.hq_board.specs.declared.entry.View.{View}
use Rattle.hq_board.specs.History.{queue_of, next, after, May, MayLook, Sees, Legal, part, own_step, without_signal}
use Rattle.hq_board.specs.Rule.{own_steps, Fits, Words, Deals, HasHistory, added, dealer, newcomer, seen, OwnStep, IsSettled}
use Rattle.hq_board.proofs.Settled.{settled_zero}
use Rattle.hq_board.proofs.Histories.{part_here, part_else, Agree, agree_own, same_may, legal_part, kept_after, steps_room, signal_above}

-- ---- lists of views

was : (views : List View) (id : ℕ) (v : View) (x : Entry) → get_elem? views id ≡ some v → (j : ℕ) (u : View) → get_elem? (set views id (added v x)) j ≡ some u
    → (w : View) × (get_elem? views j ≡ some w) × (w.queue ≡ u.queue) × (w.deals ≡ u.deals)
was views id v x at j u e = elim (at_set views id j (added v x) u e) [
  | inl (is, same) ↦ (v, subst (λ k. get_elem? views k ≡ some v) (sym is) at, ap (λ (z : View). z.queue) same, ap (λ (z : View). z.deals) same)
  | inr (n, old) ↦ (u, old, refl, refl)
]

agree_with : (job : Job) (v : View) (x : Entry) (m : List Entry) → queue_of job x ≡ v.queue → part job v.queue m ≡ v.log → Agree job (queue_of job x) (after job v.log) (after job m)
agree_with job v x m q e = subst (λ k. Agree job k (after job v.log) (after job m)) (sym q) (subst (λ l. Agree job v.queue (after job l) (after job m)) e (agree_own job v.queue m))

may_after : (job : Job) (v : View) (x : Entry) (m : List Entry) → queue_of job x ≡ v.queue → part job v.queue m ≡ v.log → May job (after job v.log) x → May job (after job m) x
may_after job v x m q e may = same_may job (after job v.log) (after job m) x (agree_with job v x m q e) may

-- The entry of a seat comes at the history's end.
pub grown : (job : Job) (words new : List ℕ) (views : List View) (id : ℕ) (v : View) (x : Entry) (k : HasHistory job words views) → get_elem? views id ≡ some v
    → v.deals ≡ false → queue_of job x ≡ v.queue → May job (after job v.log) x → Sees job (after job k.m) x → Words job new (x ∷ k.m) → HasHistory job new (set views id (added v x))
grown job words new views id v x k at plain q may sees w = record {
  m = x ∷ k.m;
  legal = (may_after job v x k.m q (k.parts id v at) may, k.legal);
  right = (sees, k.right);
  words_right = w;
  parts = λ j u e. elim (at_set views id j (added v x) u e) [
    | inl (is, same) ↦ subst (λ (z : View). part job z.queue (x ∷ k.m) ≡ z.log) same (part_here job v.queue x k.m q ∙ ap (λ l. x ∷ l) (k.parts id v at))
    | inr (n, old) ↦ part_else job u.queue x k.m (λ r. n (k.apart j id u v old at (sym r ∙ q))) ∙ k.parts j u old
  ];
  apart = λ i j u t e f same.
      let (a, ea, qa, da) = was views id v x at i u e in
      let (b, eb, qb, db) = was views id v x at j t f in
      k.apart i j a b ea eb (qa ∙ same ∙ sym qb);
  dealers = λ j u e d.
      let (a, ea, qa, da) = was views id v x at j u e in
      let old = k.dealers j a ea (da ∙ d) in
      let other : id ≢ j = λ is. true≢false (sym (da ∙ d) ∙ ap (λ (z : View). z.deals) (some-injective a v (sym ea ∙ subst (λ i. get_elem? views i ≡ some v) is at)) ∙ plain) in
      record {
        below = λ i t f n. let (b, eb, qb, db) = was views id v x at i t f in omega (arith, old.below i b eb n, qa, qb);
        empty = λ r le. part_else job r x k.m (λ is. omega (arith, is, q, le, qa, old.below id v at other)) ∙ old.empty r (omega (arith, le, qa));
      };
}

-- what stands in a list with one more at its end
at_end : {A : Type 0} (l : List A) (a : A) (j : ℕ) (b : A) → get_elem? (l ++ a ∷ []) j ≡ some b → (get_elem? l j ≡ some b) ⊎ ((j ≡ length l) × (a ≡ b))
at_end [] a zero b e = inr (refl, some-injective a b e)
at_end [] a (suc j) b e = absurd (some-ne-none b (sym e))
at_end (x ∷ xs) a zero b e = inl e
at_end (x ∷ xs) a (suc j) b e = elim (at_end xs a j b e) [
  | inl old ↦ inl old
  | inr (last, same) ↦ inr (ap suc last, same)
]

-- ---- words

pub steps_here : (job : Job) (q : ℕ) (x : Entry) (m : List Entry) → queue_of job x ≡ q → own_steps job (part job q (x ∷ m)) ≡ own_steps job (part job q m) + own_step job x
steps_here job q x m e = ap (own_steps job) (part_here job q x m e)

pub steps_else : (job : Job) (q : ℕ) (x : Entry) (m : List Entry) → queue_of job x ≢ q → own_steps job (part job q (x ∷ m)) ≡ own_steps job (part job q m)
steps_else job q x m e = ap (own_steps job) (part_else job q x m e)

-- a step that changes no word
pub words_same : (job : Job) (words : List ℕ) (x : Entry) (m : List Entry) → own_step job x ≡ 0 → ((s : ℕ) → (next job (after job m) x).signal s ≡ (after job m).signal s) → Words job words m → Words job words (x ∷ m)
words_same job words x m none same w = record {
  count = w.count;
  signals = λ s l. w.signals s l ∙ sym (same s);
  queues = λ q l. elim (cases_eq (queue_of job x) q) [
    | inl is ↦ omega (arith, w.queues q l, steps_here job q x m is, none)
    | inr n ↦ w.queues q l ∙ sym (steps_else job q x m n)
  ];
}

-- a step on the queue's own word
pub words_own : (job : Job) (words : List ℕ) (x : Entry) (m : List Entry) (i n : ℕ) → own_step job x ≡ 1 → ((s : ℕ) → (next job (after job m) x).signal s ≡ (after job m).signal s)
    → queue_of job x < length job.queues → i ≡ length job.starts + queue_of job x → n ≡ slice_index words i + 1 → Words job words m → Words job (set words i n) (x ∷ m)
words_own job words x m i n one same near at is w = record {
  count = length-set words i n ∙ w.count;
  signals = λ s l. get_or-set_other words i s n 0 (λ e. omega (arith, e, at, l)) ∙ w.signals s l ∙ sym (same s);
  queues = λ q l. elim (cases_eq (queue_of job x) q) [
    | inl e ↦ omega (
      arith,
      ap (λ r. get_or (set words i n) r 0) (at ∙ ap (λ r. length job.starts + r) e),
      get_or-set_same words i n 0 (omega (arith, at, near, w.count)),
      is,
      ap (λ r. get_or words r 0) (at ∙ ap (λ r. length job.starts + r) e),
      w.queues q l,
      steps_here job q x m e,
      one,
    )
    | inr d ↦ get_or-set_other words i (length job.starts + q) n 0 (λ e. d (omega (arith, e, at))) ∙ w.queues q l ∙ sym (steps_else job q x m d)
  ];
}

none_without : (o : Option ℕ) (s : ℕ) → o ≡ Some s → without_signal o ≡ 0
none_without o s e = ap without_signal e

-- a completion on a signal
pub words_signal : (job : Job) (words : List ℕ) (p s : ℕ) (m : List Entry) (n : ℕ) → (packet job p).done ≡ Some s → s < length job.starts → n ≡ slice_index words s - 1
    → Words job words m → Words job (set words s n) (DidComplete p ∷ m)
words_signal job words p s m n done near is w = record {
  count = length-set words s n ∙ w.count;
  signals = λ t l. elim (cases_eq t s) [
    | inl e ↦ ap (λ r. get_or (set words s n) r 0) e ∙ get_or-set_same words s n 0 (omega (arith, near, w.count)) ∙ is ∙ ap (λ z. z - 1) (ap (λ r. get_or words r 0) (sym e) ∙ w.signals t l)
        ∙ sym (cond-true (completes_on t (packet job p)) ((after job m).signal t - 1) ((after job m).signal t) (signal_is t (packet job p).done (done ∙ ap Some (sym e))))
    | inr d ↦ get_or-set_other words s t n 0 d ∙ w.signals t l
        ∙ sym (cond-false (completes_on t (packet job p)) ((after job m).signal t - 1) ((after job m).signal t) (not_on t d (completes_on t (packet job p)) refl))
  ];
  queues = λ q l. get_or-set_other words s (length job.starts + q) n 0 (λ e. omega (arith, e, near)) ∙ w.queues q l ∙ elim (cases_eq (queue_of job (DidComplete p)) q) [
    | inl e ↦ omega (arith, steps_here job q (DidComplete p) m e, none_without (packet job p).done s done)
    | inr d ↦ sym (steps_else job q (DidComplete p) m d)
  ];
}
  where
    some_is : (a b : ℕ) → Some a ≡ Some b → a ≡ b
    some_is a b e = cc

    not_on : (t : ℕ) → t ≢ s → (b : Bool) → completes_on t (packet job p) ≡ b → completes_on t (packet job p) ≡ false
    not_on t d true e = absurd (d (some_is t s (sym (signal_of t (packet job p).done e) ∙ done)))
    not_on t d false e = e

-- ---- the three kinds of step

abbrev pub kept_by : Job → State ℕ View → Type 0
kept_by job s = HasHistory job s.words s.views

-- launch, enter, and a completion on no signal
pub steps_own : (job : Job) → Fits job → (slots id : ℕ) (me : Me ℕ View) (x : Entry) (i : ℕ) → me.0.deals ≡ false → queue_of job x ≡ me.0.queue → own_step job x ≡ 1
    → ((a : machine.State) (s : ℕ) → (next job a x).signal s ≡ a.signal s) → ((a : machine.State) → Sees job a x) → May job (after job me.0.log) x
    → me.0.queue < length job.queues → i ≡ length job.starts + me.0.queue → Allows (kept_by job) slots id me i (λ n. (n + 1) % 2 ^ 64) (λ n w. w ≡ (added me.0 x, me.1))
steps_own job fits slots id me x i plain q one same sees may near at s k _ here wide =
    let v = me.0 in
    let word : slice_index s.words i ≡ own_steps job v.log = ap (λ r. get_or s.words r 0) at ∙ k.words_right.queues v.queue near ∙ ap (own_steps job) (k.parts id v here) in
    let legal : Legal job (x ∷ v.log) = (may, subst (Legal job) (k.parts id v here) (legal_part job v.queue k.m k.legal)) in
    let room : slice_index s.words i + 1 < 2 ^ 64 = omega (arith, word, steps_room job v.log x legal one, fits.few) in (
      added v x,
      keeps,
      tt,
      grown job s.words (set s.words i ((slice_index s.words i + 1) % 2 ^ 64)) s.views id v x k here plain q may (sees (after job k.m))
          (words_own job s.words x k.m i ((slice_index s.words i + 1) % 2 ^ 64) one (same (after job k.m)) (omega (arith, q, near)) (at ∙ ap (λ r. length job.starts + r) (sym q)) (mod-eq_of_lt room) k.words_right),
      refl,
    )

down_one : (n : ℕ) → 0 < n → n < 2 ^ 64 → (n + (2 ^ 64 - 1)) % 2 ^ 64 ≡ n - 1
down_one n l h =
    let e : n + (2 ^ 64 - 1) ≡ (n - 1) + 2 ^ 64 = omega arith in
    let less : n - 1 < 2 ^ 64 = omega arith in
    ap (λ r. r % 2 ^ 64) e ∙ add-mod_right (n - 1) (2 ^ 64) ∙ mod-eq_of_lt less

-- a completion on a signal
pub steps_down : (job : Job) → Fits job → (slots id : ℕ) (me : Me ℕ View) (p s : ℕ) → me.0.deals ≡ false → (packet job p).queue ≡ me.0.queue → (packet job p).done ≡ Some s → s < length job.starts
    → May job (after job me.0.log) (DidComplete p) → Allows (kept_by job) slots id me s (λ n. (n + (2 ^ 64 - 1)) % 2 ^ 64) (λ n w. w ≡ (added me.0 (DidComplete p), me.1))
steps_down job fits slots id me p s plain q done near may t k _ here wide =
    let v = me.0 in
    let there = may_after job v (DidComplete p) k.m q (k.parts id v here) may in
    let above = signal_above job (after job k.m) p s fits.valid (kept_after job k.m fits.valid k.legal k.right) there.0 there.1 done in
    let n = slice_index t.words s in
    let full : 0 < n = omega (arith, above, k.words_right.signals s near) in (
      added v (DidComplete p),
      keeps,
      tt,
      grown job t.words (set t.words s ((n + (2 ^ 64 - 1)) % 2 ^ 64)) t.views id v (DidComplete p) k here plain q may tt
          (words_signal job t.words p s k.m ((n + (2 ^ 64 - 1)) % 2 ^ 64) done near (down_one n full wide) k.words_right),
      refl,
    )

some_same : (o : Option (Option ℕ)) (s t : ℕ) → o ≡ Some (Some s) → o ≡ Some (Some t) → t ≡ s
some_same o s t e f = cc

-- a look at a signal
pub steps_look : (job : Job) (slots id : ℕ) (me : Me ℕ View) (p slot s : ℕ) → me.0.deals ≡ false → (packet job p).queue ≡ me.0.queue → MayLook job (after job me.0.log) p slot → Dependency job p slot s
    → s < length job.starts → Allows (kept_by job) slots id me s (λ n. n) (λ n w. w ≡ (added me.0 (seen p slot n), me.1))
steps_look job slots id me p slot s plain q may d near t k _ here wide = (added v (seen p slot n), keeps, tt, after_look (cases_eq n 0), refl)
  where
    v : View
    v = me.0

    n : ℕ
    n = slice_index t.words s

    value : (r : ℕ) → Dependency job p slot r → (after job k.m).signal r ≡ slice_index t.words s
    value r f = ap (λ z. (after job k.m).signal z) (some_same (slice_get (packet job p).deps slot) s r d.signal f.signal) ∙ sym (k.words_right.signals s near)

    AfterLook : Entry → Type 0
    AfterLook x = HasHistory job (set t.words s (slice_index t.words s)) (set t.views id (added me.0 x))

    with_words : {x : Entry} → Words job t.words (x ∷ k.m) → Words job (set t.words s (slice_index t.words s)) (x ∷ k.m)
    with_words {x} w = subst (λ l. Words job l (x ∷ k.m)) (sym (set-get_or t.words s 0)) w

    after_look : (slice_index t.words s ≡ 0) ⊎ (slice_index t.words s ≢ 0) → HasHistory job (set t.words s (slice_index t.words s)) (set t.views id (added me.0 (seen p slot (slice_index t.words s))))
    after_look (inl e) = subst (λ x. HasHistory job (set t.words s (slice_index t.words s)) (set t.views id (added me.0 x))) (sym (cond-true (eqb (slice_index t.words s) 0) (DidObserve p slot) (Looked p slot (slice_index t.words s)) (eq-eqb (slice_index t.words s) 0 e)))
        (grown job t.words (set t.words s (slice_index t.words s)) t.views id me.0 (DidObserve p slot) k here plain q may (λ r f. value r f ∙ e) (with_words (words_same job t.words (DidObserve p slot) k.m refl (λ z. refl) k.words_right)))
    after_look (inr e) = subst (λ x. HasHistory job (set t.words s (slice_index t.words s)) (set t.views id (added me.0 x))) (sym (cond-false (eqb (slice_index t.words s) 0) (DidObserve p slot) (Looked p slot (slice_index t.words s)) (ne_eqb (slice_index t.words s) 0 e)))
        (grown job t.words (set t.words s (slice_index t.words s)) t.views id me.0 (Looked p slot (slice_index t.words s)) k here plain q may (omega arith, λ r f. value r f) (with_words (words_same job t.words (Looked p slot (slice_index t.words s)) k.m refl (λ z. refl) k.words_right)))

-- ---- a new seat

pub deals_out : (job : Job) (id : ℕ) (v : View) → v ≡ dealer v.queue → Splits (kept_by job) id v (dealer (v.queue + 1)) (newcomer v.queue)
deals_out job id v is s k here = record {
  m = k.m;
  legal = k.legal;
  right = k.right;
  words_right = k.words_right;
  parts = λ j u e. elim (there j u e) [
    | inl (n, old) ↦ k.parts j u old
    | inr (inl (e', same)) ↦ subst (λ (z : View). part job z.queue k.m ≡ z.log) same (deals.empty (v.queue + 1) (omega arith))
    | inr (inr (e', same)) ↦ subst (λ (z : View). part job z.queue k.m ≡ z.log) same (deals.empty v.queue (omega arith))
  ];
  apart = λ i j u t e f same. elim (there i u e) [
    | inl (n, old) ↦ elim (there j t f) [
      | inl (n', old') ↦ k.apart i j u t old old' same
      | inr (inl (e', same')) ↦ absurd (omega (arith, deals.below i u old n, same, ap (λ (z : View). z.queue) same'))
      | inr (inr (e', same')) ↦ absurd (omega (arith, deals.below i u old n, same, ap (λ (z : View). z.queue) same'))
    ]
    | inr (inl (ei, si)) ↦ elim (there j t f) [
      | inl (n', old') ↦ absurd (omega (arith, deals.below j t old' n', same, ap (λ (z : View). z.queue) si))
      | inr (inl (e', same')) ↦ ei ∙ sym e'
      | inr (inr (e', same')) ↦ absurd (omega (arith, same, ap (λ (z : View). z.queue) si, ap (λ (z : View). z.queue) same'))
    ]
    | inr (inr (ei, si)) ↦ elim (there j t f) [
      | inl (n', old') ↦ absurd (omega (arith, deals.below j t old' n', same, ap (λ (z : View). z.queue) si))
      | inr (inl (e', same')) ↦ absurd (omega (arith, same, ap (λ (z : View). z.queue) si, ap (λ (z : View). z.queue) same'))
      | inr (inr (e', same')) ↦ ei ∙ sym e'
    ]
  ];
  dealers = λ j u e d. elim (there j u e) [
    | inl (n, old) ↦ absurd (omega (arith, deals.below j u old n, (k.dealers j u old d).below id v here (λ x. n (sym x))))
    | inr (inl (ej, sj)) ↦ record {
      below = λ i t f n. elim (there i t f) [
        | inl (n', old') ↦ omega (arith, deals.below i t old' n', ap (λ (z : View). z.queue) sj)
        | inr (inl (ei, si)) ↦ absurd (n (ei ∙ sym ej))
        | inr (inr (ei, si)) ↦ omega (arith, ap (λ (z : View). z.queue) sj, ap (λ (z : View). z.queue) si)
      ];
      empty = λ r le. deals.empty r (omega (arith, le, ap (λ (z : View). z.queue) sj));
    }
    | inr (inr (ej, sj)) ↦ absurd (true≢false (sym d ∙ ap (λ (z : View). z.deals) (sym sj)))
  ];
}
  where
    deals : Deals job s.views k.m id v
    deals = k.dealers id v here (ap (λ (z : View). z.deals) is)

    there : (j : ℕ) (u : View) → get_elem? (set s.views id (dealer (v.queue + 1)) ++ newcomer v.queue ∷ []) j ≡ some u
        → ((j ≢ id) × (get_elem? s.views j ≡ some u)) ⊎ (((j ≡ id) × (dealer (v.queue + 1) ≡ u)) ⊎ ((j ≡ length s.views) × (newcomer v.queue ≡ u)))
    there j u e = elim (at_end (set s.views id (dealer (v.queue + 1))) (newcomer v.queue) j u e) [
      | inl old ↦ elim (at_set s.views id j (dealer (v.queue + 1)) u old) [
        | inl (is', same) ↦ inr (inl (is', same))
        | inr (n, old') ↦ inl (n, old')
      ]
      | inr (last, same) ↦ inr (inr (last ∙ length-set s.views id (dealer (v.queue + 1)), same))
    ]

-- ---- the same, with what a call adds and is told

pub own : (job : Job) → Fits job → (slots id : ℕ) (me : Me ℕ View) (x : ℕ → Entry) (told : ℕ → Type 0) (i : ℕ) → ((n : ℕ) → x n ≡ x 0) → ((n : ℕ) → told n) → OwnStep job me.0 (x 0) → i ≡ length job.starts + me.0.queue
    → Allows (kept_by job) slots id me i (λ n. (n + 1) % 2 ^ 64) (λ n w. (w ≡ (added me.0 (x n), me.1)) × told n)
own job fits slots id me x told i steady all o at s k h here wide =
    let (w, a, valid, kept, is) = steps_own job fits slots id me (x 0) i o.plain o.queue o.one o.signals o.sees o.may o.near at s k h here wide in
    (w, a, valid, kept, (is ∙ ap (λ y. (added me.0 y, me.1)) (sym (steady (slice_index s.words i))), all (slice_index s.words i)))

pub down : (job : Job) → Fits job → (slots id : ℕ) (me : Me ℕ View) (x : ℕ → Entry) (told : ℕ → Type 0) (p s : ℕ) → ((n : ℕ) → x n ≡ DidComplete p) → ((n : ℕ) → told n) → me.0.deals ≡ false → (packet job p).queue ≡ me.0.queue
    → (packet job p).done ≡ Some s → s < length job.starts
    → May job (after job me.0.log) (DidComplete p) → Allows (kept_by job) slots id me s (λ n. (n + (2 ^ 64 - 1)) % 2 ^ 64) (λ n w. (w ≡ (added me.0 (x n), me.1)) × told n)
down job fits slots id me x told p s entry all plain q done near may t k h here wide =
    let (w, a, valid, kept, is) = steps_down job fits slots id me p s plain q done near may t k h here wide in
    (w, a, valid, kept, (is ∙ ap (λ y. (added me.0 y, me.1)) (sym (entry (slice_index t.words s))), all (slice_index t.words s)))

pub look : (job : Job) → Fits job → (slots id : ℕ) (me : Me ℕ View) (x : ℕ → Entry) (told : ℕ → Type 0) (p slot s : ℕ) → ((n : ℕ) → x n ≡ seen p slot n) → ((n : ℕ) → (IsSettled job me.0 s → n ≡ 0) → told n) → me.0.deals ≡ false
    → (packet job p).queue ≡ me.0.queue → MayLook job (after job me.0.log) p slot → Dependency job p slot s
    → s < length job.starts → Allows (kept_by job) slots id me s (λ n. n) (λ n w. (w ≡ (added me.0 (x n), me.1)) × told n)
look job fits slots id me x told p slot s entry all plain q may d near t k h here wide =
    let (w, a, valid, kept, is) = steps_look job slots id me p slot s plain q may d near t k h here wide in (
      w,
      a,
      valid,
      kept,
      (is ∙ ap (λ y. (added me.0 y, me.1)) (sym (entry (slice_index t.words s))), all (slice_index t.words s) (λ settled. k.words_right.signals s near ∙ settled_zero job k.m me.0 p slot s fits k.legal k.right (k.parts id me.0 here) d settled)),
    )

-- ---- the board at its opening

one_view : (k : ℕ) (v : View) → get_elem? (dealer 0 ∷ []) k ≡ some v → (k ≡ 0) × (dealer 0 ≡ v)
one_view zero v e = (refl, some-injective (dealer 0) v e)
one_view (suc k) v e = absurd (some-ne-none v (sym e))

pub opens : (job : Job) (words : List ℕ) → words ≡ job.starts ++ replicate (length job.queues) 0 → HasHistory job words (dealer 0 ∷ [])
opens job words e = record {
  m = [];
  legal = tt;
  right = tt;
  words_right = record {
    count = ap length e ∙ length-append job.starts (replicate (length job.queues) 0) ∙ ap (λ n. length job.starts + n) (length-replicate (length job.queues) 0);
    signals = λ s l. ap (λ ws. get_or ws s 0) e ∙ get_or_append_left job.starts (replicate (length job.queues) 0) 0 s l;
    queues = λ q l. ap (λ ws. get_or ws (length job.starts + q) 0) e ∙ get_or-append_right job.starts (replicate (length job.queues) 0) (length job.starts + q) 0 (omega arith) ∙ get_or-replicate (length job.queues) (length job.starts + q - length job.starts) 0 0 (omega (arith, l));
  };
  parts = λ k v at. ap (λ (z : View). z.log) (one_view k v at).1;
  apart = λ j k v w a b same. (one_view j v a).0 ∙ sym (one_view k w b).0;
  dealers = λ k v at d. record { below = λ j w b n. absurd (n ((one_view j w b).0 ∙ sym (one_view k v at).0)); empty = λ q l. refl };
}

-- ---- looks

-- above 0 a look is noted
pub looked : (p slot n : ℕ) → 0 < n → seen p slot n ≡ Looked p slot n
looked p slot n l = cond-false (eqb n 0) (DidObserve p slot) (Looked p slot n) (ne_eqb n 0 (λ e. omega (arith, e, l)))

-- a slot has one signal
pub one_signal : (job : Job) (p slot s t : ℕ) → slice_get (packet job p).deps slot ≡ Some (Some s) → Dependency job p slot t → s ≡ t
one_signal job p slot s t d w = some_same (slice_get (packet job p).deps slot) t s w.signal d
