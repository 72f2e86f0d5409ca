-- The dirty bytes of several holders are pushed, in turn.
use Rattle.std.proofs.Common.{◌≡◌, ℕ, zero, suc, ◌+◌, ◌-◌, ◌<◌, ◌≤◌, ◌⊎◌, inl, inr, List, [], ◌∷◌, ◌++◌, Bool, true, false, length, map, filter, refl, sym, ◌∙◌, ap, ap₂, subst, arith}
use Rattle.std.proofs.lemmas.Bool.{cases_eq, cases_Bool, true≢false}
use Rattle.std.proofs.lemmas.List.{append-nil, append_assoc}
use Rattle.std.proofs.lemmas.Grind.{flat_map-append}
use Rattle.hq_model.specs.Machine.{Event, is_dirty, listed}
use Rattle.hq_model.specs.Journal.{numbers}
use Rattle.hq_model.specs.View.{copies_of}
use Rattle.hq_copies.specs.Copies.{CopiesValue, IsFirstDirty, NoneDirty, held, lane_pushed, agent_pushed}
use Rattle.hq_machine.specs.Pushes.Holders.{Lanes, Agents}
use Rattle.hq_machine.proofs.PushedBytes.{Cleaned, kept_same, kept_on, pushed_on, maps_count, Cleaning, cleaning_starts, cleaning_pushes, cleaned, fewer, dirty_is}
use Rattle.hq_machine.specs.Pushes.{Holders, maps_of, push_of, PushedBy, AllPushed, Within, dirty_of, Swept, WrittenBack, span, pushes_of}

-- ---- the numbers from start on

pub span_none : (start : ℕ) → span start start ≡ []
span_none start = let e : start - start ≡ 0 = omega arith in ap (λ n. listed n (λ i. start + i)) e

pub span_more : (start stop : ℕ) → start ≤ stop → span start (stop + 1) ≡ span start stop ++ stop ∷ []
span_more start stop l =
    let e : (stop + 1) - start ≡ suc (stop - start) = omega arith in
    let f : start + (stop - start) ≡ stop = omega arith in
    ap (λ n. listed n (λ i. start + i)) e ∙ ap (λ x. span start stop ++ x ∷ []) f

span_joined : (start mid n : ℕ) → start ≤ mid → span start (mid + n) ≡ span start mid ++ span mid (mid + n)
span_joined start mid zero l =
    let e : mid + 0 ≡ mid = omega arith in
    ap (span start) e ∙ sym (append-nil (span start mid)) ∙ ap (λ xs. span start mid ++ xs) (sym (ap (span mid) e ∙ span_none mid))
span_joined start mid (suc n) l =
    let e : mid + suc n ≡ (mid + n) + 1 = omega arith in
    ap (span start) e
    ∙ span_more start (mid + n) (omega arith)
    ∙ ap (λ xs. xs ++ (mid + n) ∷ []) (span_joined start mid n l)
    ∙ append_assoc (span start mid) (span mid (mid + n)) ((mid + n) ∷ [])
    ∙ ap (λ xs. span start mid ++ xs) (sym (ap (span mid) e ∙ span_more mid (mid + n) (omega arith)))

-- ---- one holder after another

pub sweep_starts : (h : Holders) (old : CopiesValue) (start : ℕ) → Within old → Swept h old start start old
sweep_starts h old start within = record {
  run = subst (λ ks. AllPushed old (pushes_of h old ks) old) (sym (span_none start)) refl;
  kept = kept_same old within;
  later = λ q b l. refl;
}

-- the holder's bytes are those that were dirty at first
dirty_still : (h : Holders) (old cur : CopiesValue) (k : ℕ) → length cur.memory ≡ length old.memory → ((b : ℕ) → copies_of (maps_of h cur) k b ≡ copies_of (maps_of h old) k b) → dirty_of h cur k ≡ dirty_of h old k
dirty_still h old cur k e same =
    let f : (λ (b : ℕ). is_dirty (copies_of (maps_of h cur) k b)) ≡ (λ (b : ℕ). is_dirty (copies_of (maps_of h old) k b)) = λ i b. is_dirty (same b i) in
    ap (λ n. filter (λ b. is_dirty (copies_of (maps_of h cur) k b)) (numbers n)) e ∙ ap (λ t. filter t (numbers (length old.memory))) f

pushes_more : (h : Holders) (c : CopiesValue) (start stop : ℕ) → start ≤ stop → pushes_of h c (span start (stop + 1)) ≡ pushes_of h c (span start stop) ++ map (push_of h stop) (dirty_of h c stop)
pushes_more h c start stop l =
    ap (pushes_of h c) (span_more start stop l)
    ∙ flat_map-append (λ k. map (push_of h k) (dirty_of h c k)) (span start stop) (stop ∷ [])
    ∙ ap (λ xs. pushes_of h c (span start stop) ++ xs) (append-nil (map (push_of h stop) (dirty_of h c stop)))

pub sweep_more : (h : Holders) (old : CopiesValue) (start stop : ℕ) (cur new : CopiesValue) → start ≤ stop → Swept h old start stop cur → Cleaned h cur stop new → Swept h old start (stop + 1) new
sweep_more h old start stop cur new l s c =
    let bytes = dirty_still h old cur stop s.kept.counts.memory (λ b. s.later stop b (omega arith)) in
    let last : List Event = map (push_of h stop) (dirty_of h old stop) in
    let run : AllPushed cur last new = subst (λ bs. AllPushed cur (map (push_of h stop) bs) new) bytes c.run in
    record {
      run = subst (λ xs. AllPushed old xs new) (sym (pushes_more h old start stop l)) (pushed_on old cur new (pushes_of h old (span start stop)) last s.run run);
      kept = kept_on old cur new s.kept c.kept;
      later = λ q b h'. c.others q b (λ e. absurd (omega (arith, e))) ∙ s.later q b (omega arith);
    }

-- the bytes of holders that hold what they held
pushes_still : (h : Holders) (old cur : CopiesValue) (start n : ℕ) → length cur.memory ≡ length old.memory → ((q b : ℕ) → start ≤ q → copies_of (maps_of h cur) q b ≡ copies_of (maps_of h old) q b) → pushes_of h cur (span start (start + n)) ≡ pushes_of h old (span start (start + n))
pushes_still h old cur start zero e same =
    let z : span start (start + 0) ≡ [] = let d : start + 0 ≡ start = omega arith in ap (span start) d ∙ span_none start in
    ap (pushes_of h cur) z ∙ sym (ap (pushes_of h old) z)
pushes_still h old cur start (suc n) e same =
    let d : start + suc n ≡ (start + n) + 1 = omega arith in
    ap (λ m. pushes_of h cur (span start m)) d
    ∙ pushes_more h cur start (start + n) (omega arith)
    ∙ ap₂ (λ xs ys. xs ++ ys) (pushes_still h old cur start n e same) (ap (map (push_of h (start + n))) (dirty_still h old cur (start + n) e (λ b. same (start + n) b (omega arith))))
    ∙ sym (ap (λ m. pushes_of h old (span start m)) d ∙ pushes_more h old start (start + n) (omega arith))

-- one part of the holders, and then the next
pub sweep_on : (h : Holders) (old : CopiesValue) (start mid stop : ℕ) (cur new : CopiesValue) → start ≤ mid → mid ≤ stop → Swept h old start mid cur → Swept h cur mid stop new → Swept h old start stop new
sweep_on h old start mid stop cur new low high s t =
    let e : mid + (stop - mid) ≡ stop = omega arith in
    let still : pushes_of h cur (span mid stop) ≡ pushes_of h old (span mid stop) = subst (λ n. pushes_of h cur (span mid n) ≡ pushes_of h old (span mid n)) e (pushes_still h old cur mid (stop - mid) s.kept.counts.memory s.later) in
    let joined : span start stop ≡ span start mid ++ span mid stop = subst (λ n. span start n ≡ span start mid ++ span mid n) e (span_joined start mid (stop - mid) low) in
    let list : pushes_of h old (span start stop) ≡ pushes_of h old (span start mid) ++ pushes_of h old (span mid stop) =
    ap (pushes_of h old) joined ∙ flat_map-append (λ k. map (push_of h k) (dirty_of h old k)) (span start mid) (span mid stop) in
    record {
      run = subst (λ xs. AllPushed old xs new) (sym list) (pushed_on old cur new (pushes_of h old (span start mid)) (pushes_of h old (span mid stop)) s.run (subst (λ xs. AllPushed cur xs new) still t.run));
      kept = kept_on old cur new s.kept t.kept;
      later = λ q b l. t.later q b l ∙ s.later q b (omega arith);
    }

-- ---- it can always be done

-- the least number below n that passes a test, if one does
least : (f : ℕ → Bool) (n : ℕ) → ((c : ℕ) → c < n → f c ≡ false) ⊎ ((b : ℕ) × (f b ≡ true) × ((c : ℕ) → c < b → f c ≡ false))
least f zero = inl (λ c l. absurd (omega arith))
least f (suc n) = elim (least f n) [
  | inr found ↦ inr found
  | inl none ↦ elim (cases_Bool (f n)) [
    | inl is ↦ inr (n, is, none)
    | inr not ↦ inl (λ c l. elim (cases_eq c n) [
      | inl e ↦ ap f e ∙ not
      | inr d ↦ none c (omega arith)
    ])
  ]
]

not_true : (t : Bool) → (t ≡ true → ⊥) → t ≡ false
not_true true h = absurd (h refl)
not_true false h = refl

dirty_low : (h : Holders) (cur : CopiesValue) (k : ℕ) → Within cur → (b : ℕ) → is_dirty (copies_of (maps_of h cur) k b) ≡ true → b < length cur.memory
dirty_low Lanes cur k within b d = within.lanes k b d
dirty_low Agents cur k within b d = within.agents k b d

-- a dirty byte can be pushed
can_push : (h : Holders) (cur : CopiesValue) (k b : ℕ) → k < length (maps_of h cur) → Within cur → is_dirty (copies_of (maps_of h cur) k b) ≡ true → (new : CopiesValue) × PushedBy cur (push_of h k b) new
can_push Lanes cur k b l within d = let (value, e) = dirty_is (copies_of cur.lanes k b) d in (lane_pushed cur k b value, ((l, within.lanes k b d), (value, e, refl)))
can_push Agents cur k b l within d = let (value, e) = dirty_is (copies_of cur.agents k b) d in (agent_pushed cur k b value, ((l, within.agents k b d), (value, e, refl)))

can_go_on : (h : Holders) (old : CopiesValue) (k : ℕ) → k < length (maps_of h old) → (fuel : ℕ) (cur : CopiesValue) → length (dirty_of h cur k) < fuel → Cleaning h old k cur → (new : CopiesValue) × Cleaned h old k new × NoneDirty (held (maps_of h new) k)
can_go_on h old k l zero cur few c = absurd (omega arith)
can_go_on h old k l (suc fuel) cur few c = elim (least (λ b. is_dirty (copies_of (maps_of h cur) k b)) (length cur.memory)) [
  | inl none ↦
      let clean : NoneDirty (held (maps_of h cur) k) = λ b. not_true (is_dirty (copies_of (maps_of h cur) k b)) (λ d. true≢false (sym d ∙ none b (dirty_low h cur k c.kept.within b d))) in
      (cur, cleaned h old k cur c clean, clean)
  | inr found ↦
      let b = found.0 in
      let first : IsFirstDirty (held (maps_of h cur) k) b = record { dirty = found.1; least = found.2 } in
      let count = maps_count h old cur c.kept.counts in
      let (new, pushed) = can_push h cur k b (omega (arith, count)) c.kept.within found.1 in
      let less = fewer h cur k b new c.kept.within first pushed in
      can_go_on h old k l fuel new (omega arith) (cleaning_pushes h old k b cur new c first pushed)
]

pub can_clean : (h : Holders) (old : CopiesValue) (k : ℕ) → k < length (maps_of h old) → Within old → (new : CopiesValue) × Cleaned h old k new × NoneDirty (held (maps_of h new) k)
can_clean h old k l within = can_go_on h old k l (suc (length (dirty_of h old k))) old (omega arith) (cleaning_starts h old k within)

can_sweep_on : (h : Holders) (old : CopiesValue) (start n : ℕ) → Within old → start + n ≤ length (maps_of h old) → (new : CopiesValue) × Swept h old start (start + n) new
can_sweep_on h old start zero within l = let e : start ≡ start + 0 = omega arith in (old, subst (λ s. Swept h old start s old) e (sweep_starts h old start within))
can_sweep_on h old start (suc n) within l =
    let (cur, s) = can_sweep_on h old start n within (omega arith) in
    let count = maps_count h old cur s.kept.counts in
    let (new, c, none) = can_clean h cur (start + n) (omega (arith, count)) s.kept.within in
    let e : (start + n) + 1 ≡ start + suc n = omega arith in
    (new, subst (λ m. Swept h old start m new) e (sweep_more h old start (start + n) cur new (omega arith) s c))

pub can_sweep : (h : Holders) (old : CopiesValue) (start stop : ℕ) → Within old → start ≤ stop → stop ≤ length (maps_of h old) → (new : CopiesValue) × Swept h old start stop new
can_sweep h old start stop within low high =
    let e : start + (stop - start) ≡ stop = omega arith in
    let (new, s) = can_sweep_on h old start (stop - start) within (omega arith) in
    (new, subst (λ m. Swept h old start m new) e s)

pub can_write_back : (old : CopiesValue) (lane lanes agent agents : ℕ) → Within old → lane ≤ lanes → lanes ≤ length old.lanes → agent ≤ agents → agents ≤ length old.agents → (new : CopiesValue) × WrittenBack old lane lanes agent agents new
can_write_back old lane lanes agent agents within a b c d =
    let (mid, s) = can_sweep Lanes old lane lanes within a b in
    let (new, t) = can_sweep Agents mid agent agents s.kept.within c (omega (arith, s.kept.counts.agents)) in
    (new, record { mid = mid; lanes_swept = s; agents_swept = t })
