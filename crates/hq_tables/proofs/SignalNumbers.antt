-- The numbers of signals: of a handle, and what noting a packet does to them.
use Rattle.std.proofs.Common.{◌≡◌, ℕ, ◌<◌, ◌≤◌, ◌≢◌, inl, inr, Bool, true, false, cond, ◌==◌, List, length, Option, Some, None, refl, sym, ap, ◌∙◌, arith, slice_get, slice_index_or, AllPairs, IfSome, nat_lt, position}
use Rattle.std.specs.List.{position_or_len}
use Rattle.std.proofs.lemmas.Bool.{cases_eq, cases_lt, cond-true, cond-false, eq-eqb, eqb-true, ne_eqb, ltb-true, lt-ltb}
use Rattle.std.proofs.lemmas.List.{length-map, get_or-map}
use Rattle.std.proofs.lemmas.List.Sums.{passes_at_first}
use Rattle.std.proofs.lemmas.Option.{get_or_from_slice_get}
use Rattle.hq_signals.specs.Table.{OpenSignal, handles, opened, IsOpen}
use Rattle.hq_model.specs.Job.{is_signal}
use Rattle.hq_tables.specs.Tables.{signal_number}
use Rattle.hq_tables.proofs.Lists.{some_is}
use Rattle.hq_tables.proofs.Lists.{within}
use Rattle.hq_tables.proofs.ByteNumbers.{position_low, first_at_most}

abbrev has : ℕ → OpenSignal → Bool
has h s = s.handle == h

no_signal : OpenSignal
no_signal = opened 0 0

-- a number is below the number of signals
pub number_low : (signals : List OpenSignal) (h : ℕ) → IfSome (signal_number signals h) (λ k. k < length signals)
number_low signals h = go (h == 0)
  where
    go : (b : Bool) → IfSome (cond b None (position (has h) signals)) (λ k. k < length signals)
    go true = tt
    go false = position_low (has h) signals

handle_at : (signals : List OpenSignal) (k d : ℕ) (s : OpenSignal) → slice_get signals k ≡ Some s → slice_index_or (handles signals) k d ≡ s.handle
handle_at signals k d s e = get_or-map (λ (t : OpenSignal). t.handle) signals k s d (within signals k s e) ∙ ap (λ (t : OpenSignal). t.handle) (get_or_from_slice_get signals k s s e)

position_is : {X : Type 0} (test : X → Bool) (xs : List X) (k : ℕ) → position_or_len test xs ≡ k → k < length xs → position test xs ≡ Some k
position_is test xs k e l = cond-true (nat_lt (position_or_len test xs) (length xs)) (Some (position_or_len test xs)) None (lt-ltb _ _ (omega arith)) ∙ ap Some e

position_found : {X : Type 0} (test : X → Bool) (xs : List X) (k : ℕ) (x : X) → position test xs ≡ Some k → slice_get xs k ≡ Some x → test x ≡ true
position_found {X} test xs k x e at = go (nat_lt (position_or_len test xs) (length xs)) (ltb-true _ _) e
  where
    go : (b : Bool) → (b ≡ true → position_or_len test xs < length xs) → cond b (Some (position_or_len test xs)) None ≡ Some k → test x ≡ true
    go true h found =
        let same : position_or_len test xs ≡ k = some_is _ _ found in
        ap test (sym (get_or_from_slice_get xs k x x at)) ∙ ap (λ j. test (slice_index_or xs j x)) (sym same) ∙ passes_at_first test xs x (h refl)
    go false h found = absurd (cc)

-- the signal of a number has the handle
pub number_handle : (signals : List OpenSignal) (h k : ℕ) (s : OpenSignal) → signal_number signals h ≡ Some k → slice_get signals k ≡ Some s → s.handle ≡ h
number_handle signals h k s e at = go (h == 0) e
  where
    go : (b : Bool) → cond b None (position (has h) signals) ≡ Some k → s.handle ≡ h
    go true found = absurd (cc)
    go false found = eqb-true s.handle h (position_found (has h) signals k s found at)

-- and the handle of a signal its number
pub handle_number : (signals : List OpenSignal) (k : ℕ) (s : OpenSignal) → AllPairs (λ h g. h ≢ g) (handles signals) → 0 < s.handle → slice_get signals k ≡ Some s → signal_number signals s.handle ≡ Some k
handle_number signals k s apart some at =
    let low : k < length signals = within signals k s at in
    let most : position_or_len (has s.handle) signals ≤ k = first_at_most (has s.handle) signals k s (eq-eqb _ _ (ap (λ (t : OpenSignal). t.handle) (get_or_from_slice_get signals k s s at))) in
    cond-false (s.handle == 0) None (position (has s.handle) signals) (ne_eqb s.handle 0 (λ e. omega arith)) ∙ position_is (has s.handle) signals k (first low most) low
  where
    first : k < length signals → position_or_len (has s.handle) signals ≤ k → position_or_len (has s.handle) signals ≡ k
    first low most = elim (cases_lt (position_or_len (has s.handle) signals) k) [
      | inl ahead ↦
          let j : ℕ = position_or_len (has s.handle) signals in
          let same : (slice_index_or signals j s).handle ≡ s.handle = eqb-true _ _ (passes_at_first (has s.handle) signals s (omega arith)) in
          absurd (apart j k 0 ahead (omega (arith, length-map signals (λ (t : OpenSignal). t.handle))) (get_or-map (λ (t : OpenSignal). t.handle) signals j s 0 (omega arith) ∙ same ∙ sym (handle_at signals k 0 s at)))
      | inr behind ↦ omega arith
    ]

-- whether a handle's number is that of a signal
pub is_number : (signals : List OpenSignal) (h k : ℕ) (s : OpenSignal) → AllPairs (λ h g. h ≢ g) (handles signals) → 0 < s.handle → slice_get signals k ≡ Some s → is_signal k (signal_number signals h) ≡ (s.handle == h)
is_number signals h k s apart some at = elim (cases_eq s.handle h) [
  | inl same ↦ ap (λ g. is_signal k (signal_number signals g)) (sym same) ∙ ap (is_signal k) (handle_number signals k s apart some at) ∙ eq-eqb k k refl ∙ sym (eq-eqb s.handle h same)
  | inr differ ↦ other (signal_number signals h) (λ e. differ (number_handle signals h k s e at)) ∙ sym (ne_eqb s.handle h differ)
]
  where
    other : (o : Option ℕ) → o ≢ Some k → is_signal k o ≡ false
    other None apart = refl
    other (Some j) apart = ne_eqb j k (λ e. apart (ap Some e))

-- a declared handle has a number
pub record Number (signals : List OpenSignal) (h : ℕ) : Type 0 where
  pub k : ℕ
  pub is : signal_number signals h ≡ Some k

pub declared_number : (signals : List OpenSignal) (h : ℕ) → h ≢ 0 → ¬ (¬ IsOpen signals h) → Number signals h
declared_number signals h some open_it = elim (cases_lt (position_or_len (has h) signals) (length signals)) [
  | inl low ↦ record { k = position_or_len (has h) signals; is = cond-false (h == 0) None (position (has h) signals) (ne_eqb h 0 some) ∙ position_is (has h) signals (position_or_len (has h) signals) refl low }
  | inr high ↦ absurd (open_it (λ there. none there high))
]
  where
    none : IsOpen signals h → length signals ≤ position_or_len (has h) signals → ⊥
    none (k, l, e) high =
        let low : k < length signals = omega (arith, length-map signals (λ (t : OpenSignal). t.handle)) in
        let handle : (slice_index_or signals k no_signal).handle ≡ h = sym (get_or-map (λ (t : OpenSignal). t.handle) signals k no_signal h low) ∙ e in
        omega (arith, first_at_most (has h) signals k no_signal (eq-eqb _ _ handle))
