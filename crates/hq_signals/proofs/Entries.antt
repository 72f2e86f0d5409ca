-- What the entries of the map behind a table say of its signals.
use Rattle.std.proofs.Common.{◌≡◌, ℕ, zero, suc, ◌+◌, ◌<◌, ◌≤◌, ◌≢◌, ◌↔◌, Bool, true, false, cond, nat_eq, nat_lt, ◌&&◌, Bor, List, [], ◌∷◌, ◌++◌, get_or, slice_get, position, All, AllPairs, Contains, find, Option, Some, None, is_some, IsTrue, IsNone, refl, sym, ap, subst, ◌∙◌, arith, true≢false, if◌then◌else◌}
use Rattle.std.specs.Cmp.{nat_eq_equiv}
use Rattle.std.specs.List.{IsDistinct, AllByRecursion}
use Rattle.std.specs.Map.{keys_of, lookup}
use Rattle.std.specs.Map.Iter.{deref_pair}
use Rattle.std.specs.Option.{option_map}
use Rattle.std.proofs.lemmas.Bool.{eqb-true, eq-eqb, ltb-true, lt-ltb}
use Rattle.std.proofs.lemmas.Bool.Decides.{Decides-eqb}
use Rattle.std.proofs.lemmas.List.{map-append}
use Rattle.std.proofs.lemmas.List.Elements.{All-nil, All-cons, All-head, All-tail}
use Rattle.std.proofs.lemmas.List.Quantifiers.{position-Some}
use Rattle.std.proofs.lemmas.List.Sums.{sum_by-cons}
use Rattle.std.proofs.lemmas.Map.Keys.{IsDistinct-head, IsDistinct-tail, apart_from_distinct}
use Rattle.std.proofs.lemmas.Map.Made.{is_some-lookup, AllPairs-from_IsDistinct}
use Rattle.std.proofs.lemmas.Map.Views.{list_any-from_Contains, Contains-from_any}
use Rattle.std.proofs.lemmas.Option.{slice_get-get_or, slice_get-map, slice_get_within, get_or_from_slice_get}
use Rattle.indexmap.specs.IndexMap.{set_value_at}
use Rattle.hq_signals.specs.Table.{OpenSignal, handles, starts, noted, IsOpen, changed_at, IsUndershot, NeverReachesZero, IsFirst, Finds}
use Rattle.hq_signals.specs.View.{signal_of, signals_of}
use Rattle.hq_signals.specs.declared.table.Entry.{Entry}

pub handles_are : (es : List (ℕ × Entry)) → handles (signals_of es) ≡ keys_of es
handles_are [] = refl
handles_are (e ∷ es) = ap (λ hs. e.0 ∷ hs) (handles_are es)

-- ---- whether a handle is open

pub tells_open : (es : List (ℕ × Entry)) (h : ℕ) (r : Bool) → r ≡ is_some (lookup (nat_eq h) es) → IsTrue r ↔ IsOpen (signals_of es) h
tells_open es h r is = (
  λ yes. let P : List ℕ → Type 0 = λ hs. Contains hs h in subst P (sym (handles_are es)) (Contains-from_any eqb-true h (keys_of es) (sym (is_some-lookup (nat_eq h) es) ∙ sym is ∙ yes)),
  λ there. let P : List ℕ → Type 0 = λ hs. Contains hs h in is ∙ is_some-lookup (nat_eq h) es ∙ list_any-from_Contains nat_eq_equiv h (keys_of es) (subst P (handles_are es) there),
)

pub closed : (es : List (ℕ × Entry)) (h : ℕ) → ¬ (IsOpen (signals_of es) h) → lookup (nat_eq h) es ≡ None
closed es h apart = by (lookup (nat_eq h) es) refl
  where
    by : (r : Option Entry) → lookup (nat_eq h) es ≡ r → r ≡ None
    by None e = refl
    by (Some v) e = absurd (apart ((tells_open es h true (sym (ap is_some e))).0 refl))

-- ---- places

pub handle_at : (ks : List ℕ) (h i : ℕ) → position (nat_eq h) ks ≡ Some i → slice_get ks i ≡ Some h
handle_at ks h i e =
    let p = position-Some (nat_eq h) ks i h e in
    slice_get-get_or ks i h p.0 ∙ ap (λ k. Some k) (sym (eqb-true h (get_or ks i h) p.1))

pub one_place : (ks : List ℕ) (h i j : ℕ) → IsDistinct nat_eq ks → slice_get ks i ≡ Some h → slice_get ks j ≡ Some h → i < j → ⊥
one_place ks h i j d p q lt =
    let apart = apart_from_distinct nat_eq ks i j h d lt (slice_get_within ks j h q) in
    true≢false (sym (eq-eqb (get_or ks i h) (get_or ks j h) (get_or_from_slice_get ks i h h p ∙ sym (get_or_from_slice_get ks j h h q))) ∙ apart)

pub place : (es : List (ℕ × Entry)) (h : ℕ) (r : Option ℕ) → r ≡ position (nat_eq h) (keys_of es) → IsDistinct nat_eq (keys_of es) → IsTrue (is_some r) ↔ IsOpen (signals_of es) h → (i : ℕ) → (r ≡ Some i) ↔ (slice_get (handles (signals_of es)) i ≡ Some h)
place es h r is distinct found i = (λ e. ap (λ ks. slice_get ks i) (handles_are es) ∙ handle_at (keys_of es) h i (sym is ∙ e), back r is found)
  where
    back : (r : Option ℕ) → r ≡ position (nat_eq h) (keys_of es) → IsTrue (is_some r) ↔ IsOpen (signals_of es) h → slice_get (handles (signals_of es)) i ≡ Some h → r ≡ Some i
    back None is found at = absurd (true≢false (sym (found.1 (i, slice_get_within (handles (signals_of es)) i h at, get_or_from_slice_get (handles (signals_of es)) i h h at))))
    back (Some j) is found at =
        let here : slice_get (keys_of es) i ≡ Some h = ap (λ ks. slice_get ks i) (sym (handles_are es)) ∙ at in
        let there : slice_get (keys_of es) j ≡ Some h = handle_at (keys_of es) h j (sym is) in
        let low : ¬ (i < j) = one_place (keys_of es) h i j distinct here there in
        let high : ¬ (j < i) = one_place (keys_of es) h j i distinct there here in
        ap (λ k. Some k) (omega arith)

pub tells_closed : (es : List (ℕ × Entry)) (h : ℕ) (r : Option ℕ) → IsTrue (is_some r) ↔ IsOpen (signals_of es) h → IsNone r ↔ ¬ (IsOpen (signals_of es) h)
tells_closed es h None found = (λ _ there. true≢false (sym (found.1 there)), λ _. refl)
tells_closed es h (Some i) found = (λ e. absurd (true≢false e), λ apart. absurd (apart (found.0 refl)))

pub open_there : {P : Type 0} (r : Option ℕ) → IsNone r ↔ (¬ P) → P → IsTrue (is_some r)
open_there None absent there = absurd (absent.0 refl there)
open_there (Some i) absent there = refl

-- ---- a change of one entry

later : (es : List (ℕ × Entry)) (i k h : ℕ) (v : Entry) → AllByRecursion (λ y. nat_eq k y ≡ false) (keys_of es) → slice_get es i ≡ Some (h, v) → nat_eq k h ≡ false
later [] i k h v a at = absurd cc
later (e ∷ es) zero k h v a at = let same : e.0 ≡ h = cc in subst (λ y. nat_eq k y ≡ false) same a.0
later (e ∷ es) (suc i) k h v a at = later es i k h v a.1 at

untouched : (f : OpenSignal → OpenSignal) (h : ℕ) (es : List (ℕ × Entry)) → AllByRecursion (λ y. nat_eq h y ≡ false) (keys_of es) → changed_at h f (signals_of es) ≡ signals_of es
untouched f h [] a = refl
untouched f h (e ∷ es) a =
    let apart : nat_eq e.0 h ≡ false = nat_eq_equiv.symm e.0 h ∙ a.0 in
    let head = ap (λ b. if b then f (signal_of e) else signal_of e) apart in
    let tail = untouched f h es a.1 in
    λ j. head j ∷ tail j

pub changed : (f : OpenSignal → OpenSignal) (h : ℕ) (es : List (ℕ × Entry)) (i : ℕ) (v w : Entry) → IsDistinct nat_eq (keys_of es) → slice_get es i ≡ Some (h, v) → signal_of (h, w) ≡ f (signal_of (h, v)) → signals_of (set_value_at es i w) ≡ changed_at h f (signals_of es)
changed f h [] i v w d x made = absurd cc
changed f h (e ∷ es) zero v w d x made =
    let key : e.0 ≡ h = cc in
    let value : e.1 ≡ v = cc in
    let head : signal_of (e.0, w) ≡ (if nat_eq e.0 h then f (signal_of e) else signal_of e) =
    ap (λ q. signal_of (q, w)) key ∙ made ∙ (λ j. f (signal_of (sym key j, sym value j))) ∙ ap (λ b. if b then f (signal_of e) else signal_of e) (sym (eq-eqb e.0 h key)) in
    let tail = sym (untouched f h es (subst (λ q. AllByRecursion (λ y. nat_eq q y ≡ false) (keys_of es)) key (IsDistinct-head nat_eq e.0 (keys_of es) d))) in
    λ j. head j ∷ tail j
changed f h (e ∷ es) (suc i) v w d x made =
    let apart = later es i e.0 h v (IsDistinct-head nat_eq e.0 (keys_of es) d) x in
    let head = ap (λ b. if b then f (signal_of e) else signal_of e) (sym apart) in
    let tail = changed f h es i v w (IsDistinct-tail nat_eq e.0 (keys_of es) d) x made in
    λ j. head j ∷ tail j

abbrev decrementers : OpenSignal → ℕ
decrementers s = s.decrementers

pub noted_more : (es : List (ℕ × Entry)) (i h n : ℕ) (v w : Entry) → slice_get es i ≡ Some (h, v) → w.decrementers ≡ v.decrementers + n → noted (signals_of (set_value_at es i w)) ≡ noted (signals_of es) + n
noted_more [] i h n v w x made = absurd cc
noted_more (e ∷ es) zero h n v w x made =
    let value : e.1 ≡ v = cc in
    let same : e.1.decrementers ≡ v.decrementers = ap (λ (u : Entry). u.decrementers) value in
    let old = sum_by-cons decrementers (signal_of e) (signals_of es) in
    let new = sum_by-cons decrementers (signal_of (e.0, w)) (signals_of es) in
    omega arith
noted_more (e ∷ es) (suc i) h n v w x made =
    let rest = noted_more es i h n v w x made in
    let old = sum_by-cons decrementers (signal_of e) (signals_of es) in
    let new = sum_by-cons decrementers (signal_of e) (signals_of (set_value_at es i w)) in
    omega arith

pub noted_kept : (es : List (ℕ × Entry)) (i h : ℕ) (v w : Entry) → slice_get es i ≡ Some (h, v) → w.decrementers ≡ v.decrementers → noted (signals_of (set_value_at es i w)) ≡ noted (signals_of es)
noted_kept es i h v w x made = let more = noted_more es i h 0 v w x (omega arith) in omega arith

pub noted_at_most : (es : List (ℕ × Entry)) (i h : ℕ) (v : Entry) → slice_get es i ≡ Some (h, v) → v.decrementers ≤ noted (signals_of es)
noted_at_most [] i h v x = absurd cc
noted_at_most (e ∷ es) zero h v x =
    let value : e.1 ≡ v = cc in
    let same : e.1.decrementers ≡ v.decrementers = ap (λ (u : Entry). u.decrementers) value in
    let old = sum_by-cons decrementers (signal_of e) (signals_of es) in
    omega arith
noted_at_most (e ∷ es) (suc i) h v x =
    let rest = noted_at_most es i h v x in
    let old = sum_by-cons decrementers (signal_of e) (signals_of es) in
    omega arith

-- ---- the first signal with a fact

-- the tests that the code makes
abbrev pub undershot : ℕ × Entry → Bool
undershot e = nat_lt e.1.start e.1.decrementers

abbrev pub never_zero : ℕ × Entry → Bool
never_zero e = e.1.waited && nat_lt e.1.decrementers e.1.start

pub tells_undershot : (e : ℕ × Entry) → IsTrue (undershot e) ↔ IsUndershot (signal_of e)
tells_undershot e = (ltb-true _ _, lt-ltb _ _)

pub tells_never_zero : (e : ℕ × Entry) → IsTrue (never_zero e) ↔ NeverReachesZero (signal_of e)
tells_never_zero e = by e.1.waited
  where
    by : (b : Bool) → IsTrue (b && nat_lt e.1.decrementers e.1.start) ↔ (IsTrue b × (e.1.decrementers < e.1.start))
    by true = (λ t. (refl, ltb-true _ _ t), λ p. lt-ltb _ _ p.1)
    by false = (λ t. absurd (true≢false (sym t)), λ p. absurd (true≢false (sym p.0)))

abbrev pub handle_of : Bor ℕ × Bor Entry → ℕ
handle_of p = p.0.now

handle_of_pair : (r : Option (Bor ℕ × Bor Entry)) → option_map (λ (e : ℕ × Entry). e.0) (option_map deref_pair r) ≡ option_map handle_of r
handle_of_pair None = refl
handle_of_pair (Some p) = refl

module _ (Fact : OpenSignal → Type 0) (test : ℕ × Entry → Bool) (tells : (e : ℕ × Entry) → IsTrue (test e) ↔ Fact (signal_of e)) where
  abbrev found : List (ℕ × Entry) → Option ℕ
  found es = option_map (λ e. e.0) (find test es)

  here : (x : ℕ × Entry) (xs : List (ℕ × Entry)) → test x ≡ true → found (x ∷ xs) ≡ Some x.0
  here x xs e = ap (λ b. option_map (λ (e : ℕ × Entry). e.0) (cond b (Some x) (find test xs))) e

  past : (x : ℕ × Entry) (xs : List (ℕ × Entry)) → test x ≡ false → found (x ∷ xs) ≡ found xs
  past x xs e = ap (λ b. option_map (λ (e : ℕ × Entry). e.0) (cond b (Some x) (find test xs))) e

  lacks : (e : ℕ × Entry) → test e ≡ false → ¬ (Fact (signal_of e))
  lacks e fails fact = true≢false (sym ((tells e).1 fact) ∙ fails)

  fails : (e : ℕ × Entry) → ¬ (Fact (signal_of e)) → test e ≡ false
  fails e lacks = by (test e) refl
    where
      by : (b : Bool) → test e ≡ b → b ≡ false
      by true passes = absurd (lacks ((tells e).0 passes))
      by false e = refl

  first_there : (es : List (ℕ × Entry)) (h : ℕ) → found es ≡ Some h → IsFirst Fact (signals_of es) h
  first_there [] h e = absurd cc
  first_there (x ∷ xs) h e = by (test x) refl (λ p. first_there xs h p)
    where
      by : (b : Bool) → test x ≡ b → (found xs ≡ Some h → IsFirst Fact (signals_of xs) h) → IsFirst Fact (signals_of (x ∷ xs)) h
      by true is rest =
          let both : Some x.0 ≡ Some h = sym (here x xs is) ∙ e in
          record { before = []; signal = signal_of x; after = signals_of xs; in_order = refl; holds = (tells x).0 is; named = cc; not_before = All-nil _ }
      by false is rest =
          let after = rest (sym (past x xs is) ∙ e) in
          record { before = signal_of x ∷ after.before; signal = after.signal; after = after.after; in_order = ap (λ ss. signal_of x ∷ ss) after.in_order; holds = after.holds; named = after.named; not_before = All-cons (λ s. ¬ (Fact s)) (signal_of x) after.before (lacks x is) after.not_before }

  there_first : (es : List (ℕ × Entry)) (before : List OpenSignal) (s : OpenSignal) (after : List OpenSignal) → signals_of es ≡ before ++ s ∷ after → Fact s → All (λ t. ¬ (Fact t)) before → found es ≡ Some s.handle
  there_first [] [] s after o fact none = absurd cc
  there_first [] (b ∷ bs) s after o fact none = absurd cc
  there_first (x ∷ xs) [] s after o fact none =
      let head : signal_of x ≡ s = cc in
      here x xs ((tells x).1 (subst Fact (sym head) fact)) ∙ ap (λ (t : OpenSignal). Some t.handle) head
  there_first (x ∷ xs) (b ∷ bs) s after o fact none =
      let head : signal_of x ≡ b = cc in
      let tail : signals_of xs ≡ bs ++ s ∷ after = cc in
      let apart : ¬ (Fact (signal_of x)) = λ f. All-head (λ t. ¬ (Fact t)) b bs none (subst Fact head f) in
      past x xs (fails x apart) ∙ there_first xs bs s after tail fact (All-tail (λ t. ¬ (Fact t)) b bs none)

  none_lacks : (es : List (ℕ × Entry)) → IsNone (found es) → All (λ s. ¬ (Fact s)) (signals_of es)
  none_lacks [] e = All-nil _
  none_lacks (x ∷ xs) e = by (test x) refl (λ p. none_lacks xs p)
    where
      by : (b : Bool) → test x ≡ b → (IsNone (found xs) → All (λ s. ¬ (Fact s)) (signals_of xs)) → All (λ s. ¬ (Fact s)) (signals_of (x ∷ xs))
      by true is rest = absurd (true≢false (sym (ap is_some (here x xs is)) ∙ e))
      by false is rest = All-cons (λ s. ¬ (Fact s)) (signal_of x) (signals_of xs) (lacks x is) (rest (sym (ap is_some (past x xs is)) ∙ e))

  lacks_none : (es : List (ℕ × Entry)) → All (λ s. ¬ (Fact s)) (signals_of es) → IsNone (found es)
  lacks_none [] none = refl
  lacks_none (x ∷ xs) none = ap is_some (past x xs (fails x (All-head (λ s. ¬ (Fact s)) (signal_of x) (signals_of xs) none))) ∙ lacks_none xs (All-tail (λ s. ¬ (Fact s)) (signal_of x) (signals_of xs) none)

  -- what the search of the entries answers
  pub finds : (es : List (ℕ × Entry)) (r : Option (Bor ℕ × Bor Entry)) (answer : Option ℕ) → option_map deref_pair r ≡ find test es → option_map handle_of r ≡ answer → Finds Fact (signals_of es) answer
  finds es r answer is named = let P : Option ℕ → Type 0 = Finds Fact (signals_of es) in subst P (sym (ap (option_map (λ (e : ℕ × Entry). e.0)) is) ∙ handle_of_pair r ∙ named) (record {
    none = (none_lacks es, lacks_none es);
    first = λ h. (first_there es h, λ f. there_first es f.before f.signal f.after f.in_order f.holds f.not_before ∙ ap (λ n. Some n) f.named);
  })

pub signals_more : (es : List (ℕ × Entry)) (e : ℕ × Entry) → signals_of (es ++ e ∷ []) ≡ signals_of es ++ signal_of e ∷ []
signals_more es e = map-append signal_of es (e ∷ [])

-- ---- one entry

pub handle_read : (es : List (ℕ × Entry)) (i : ℕ) (e : ℕ × Entry) → slice_get es i ≡ Some e → slice_get (handles (signals_of es)) i ≡ Some e.0
handle_read es i e at = slice_get-map (λ s. s.handle) (signals_of es) i ∙ ap (option_map (λ s. s.handle)) (slice_get-map signal_of es i ∙ ap (option_map signal_of) at)

pub start_read : (es : List (ℕ × Entry)) (i : ℕ) (e : ℕ × Entry) → slice_get es i ≡ Some e → slice_get (starts (signals_of es)) i ≡ Some e.1.start
start_read es i e at = slice_get-map (λ s. s.start) (signals_of es) i ∙ ap (option_map (λ s. s.start)) (slice_get-map signal_of es i ∙ ap (option_map signal_of) at)

pub apart : (es : List (ℕ × Entry)) → IsDistinct nat_eq (keys_of es) → AllPairs (λ h g. h ≢ g) (handles (signals_of es))
apart es d = let P : List ℕ → Type 0 = AllPairs (λ h g. h ≢ g) in subst P (sym (handles_are es)) (AllPairs-from_IsDistinct Decides-eqb (keys_of es) d)

-- the entry at the place of a handle has that handle
pub entry_at : (es : List (ℕ × Entry)) (i h : ℕ) (e : ℕ × Entry) → slice_get (handles (signals_of es)) i ≡ Some h → slice_get es i ≡ Some e → slice_get es i ≡ Some (h, e.1)
entry_at es i h e named at =
    let both : Some e.0 ≡ Some h = sym (handle_read es i e at) ∙ named in
    let same : e.0 ≡ h = cc in
    at ∙ (λ j. Some (same j, e.1))
