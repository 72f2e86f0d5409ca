-- The number of a signal by its handle, and the rows of a kernel.
use Rattle.std.proofs.Common.{◌≡◌, ◌≢◌, ℕ, zero, suc, ◌<◌, ◌==◌, inl, inr, true, false, List, [], ◌∷◌, length, get_or, Option, Some, None, is_some, refl, sym, ap, ◌∙◌, arith}
use Rattle.std.specs.Prelude.{position, slice_get, IsNone, ◌↔◌}
use Rattle.std.specs.List.{list_any}
use Rattle.std.proofs.lemmas.Bool.Decides.{eqb_tells, Decides-eqb}
use Rattle.std.proofs.lemmas.List.Folds.{list_any-from_Any}
use Rattle.std.proofs.lemmas.List.Quantifiers.{position-Some}
use Rattle.hq_signals.specs.Table.{OpenSignal, handles, IsOpen}
use Rattle.hq_tables.specs.Tables.{signal_number}
use Rattle.hq_tables.proofs.Found.{place_found, position-map}

-- ---- signals

handle_at : (signals : List OpenSignal) (k h : ℕ) (d : OpenSignal) → k < length signals → (get_or signals k d).handle ≡ h → slice_get (handles signals) k ≡ Some h
handle_at [] k h d lt e = absurd (omega arith)
handle_at (s ∷ ss) zero h d lt e = ap (λ x. Some x) e
handle_at (s ∷ ss) (suc k) h d lt e = handle_at ss k h d (omega arith) e

abbrev no_signal : OpenSignal
no_signal = record { handle = 0; start = 0; decrementers = 0; waited = false }

not_open : (signals : List OpenSignal) (h : ℕ) → position (λ s. s.handle == h) signals ≡ None → ¬ IsOpen signals h
not_open signals h e there =
    let moved : position (λ x. x == h) (handles signals) ≡ None = sym (position-map (λ (s : OpenSignal). s.handle) (λ x. x == h) signals) ∙ e in
    let none : list_any (λ x. x == h) (handles signals) ≡ false = sym (place_found (λ x. x == h) (handles signals)) ∙ ap is_some moved in
    let some : list_any (λ x. x == h) (handles signals) ≡ true = list_any-from_Any (λ x. x == h) (handles signals) (there.0, h, there.1, there.2, (Decides-eqb h h).1 refl) in
    cc

none_is : (r : Option ℕ) → IsNone r → r ≡ None
none_is None e = refl
none_is (Some k) e = absurd cc

place_is : (signals : List OpenSignal) (h : ℕ) (r : Option ℕ) → ((i : ℕ) → (r ≡ Some i) ↔ (slice_get (handles signals) i ≡ Some h)) → (IsNone r ↔ ¬ IsOpen signals h) → r ≡ position (λ s. s.handle == h) signals
place_is signals h r at absent = by (position (λ s. s.handle == h) signals) refl where
  by : (o : Option ℕ) → position (λ s. s.handle == h) signals ≡ o → r ≡ o
  by None e = none_is r (absent.1 (not_open signals h e))
  by (Some k) e =
      let p = position-Some (λ (s : OpenSignal). s.handle == h) signals k no_signal e in
      (at k).1 (handle_at signals k h no_signal p.0 ((Decides-eqb (get_or signals k no_signal).handle h).0 p.1))

pub signal_number_is : (signals : List OpenSignal) (h : ℕ) (r : Option ℕ) → h ≢ 0 → ((i : ℕ) → (r ≡ Some i) ↔ (slice_get (handles signals) i ≡ Some h)) → (IsNone r ↔ ¬ IsOpen signals h) → r ≡ signal_number signals h
signal_number_is signals h r some at absent = elim (eqb_tells h 0) [
  | inl z ↦ absurd (some z.1)
  | inr z ↦ rw z.0 (place_is signals h r at absent)
]
