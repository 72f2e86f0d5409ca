-- What opening a signal and noting a packet leave as it was.
use Rattle.std.proofs.Common.{◌≡◌, ℕ, nat_eq, Bool, true, false, List, [], ◌∷◌, ◌++◌, refl, if◌then◌else◌}
use Rattle.std.proofs.lemmas.List.{map-append}
use Rattle.hq_signals.specs.Table.{OpenSignal, opened, handles, starts, changed_at}

pub handles-opened : (table : List OpenSignal) (h start : ℕ) → handles (table ++ opened h start ∷ []) ≡ handles table ++ h ∷ []
handles-opened table h start = map-append (λ s. s.handle) table (opened h start ∷ [])

module _ {X : Type 0} (field : OpenSignal → X) (change : OpenSignal → OpenSignal) (keeps : (s : OpenSignal) → field (change s) ≡ field s) where
  head : (b : Bool) (s : OpenSignal) → field (if b then change s else s) ≡ field s
  head true s = keeps s
  head false s = refl

module _ (h : ℕ) (change : OpenSignal → OpenSignal) where
  handles-changed : ((s : OpenSignal) → (change s).handle ≡ s.handle) → (table : List OpenSignal) → handles (changed_at h change table) ≡ handles table
  handles-changed keeps [] = refl
  handles-changed keeps (s ∷ ss) =
      let first = head (λ t. t.handle) change keeps (nat_eq s.handle h) s in
      let rest = handles-changed keeps ss in
      λ j. first j ∷ rest j

  starts-changed : ((s : OpenSignal) → (change s).start ≡ s.start) → (table : List OpenSignal) → starts (changed_at h change table) ≡ starts table
  starts-changed keeps [] = refl
  starts-changed keeps (s ∷ ss) =
      let first = head (λ t. t.start) change keeps (nat_eq s.handle h) s in
      let rest = starts-changed keeps ss in
      λ j. first j ∷ rest j
