-- Reads of two traces, pair by pair.
use Rattle.std.proofs.Common.{◌≡◌, ℕ, ◌+◌, ◌<◌, inl, inr, List, length, slice_index_or, sym, ◌∙◌, ap, subst, arith}
use Rattle.std.proofs.lemmas.Bool.{cases_eq}
use Rattle.std.proofs.lemmas.List.{get_or_default}
use Rattle.hq_witness.specs.declared.trace.Sighting.{Sighting}
use Rattle.hq_witness.specs.Differences.{AreOther, Has}

-- no read of the one list's first ones is other than one of the second list, so neither is the next
pub none_of_more : (xs one ys other : List Sighting) (i : ℕ) (d : Sighting) → one ≡ xs → other ≡ ys → i < length one → ((k : ℕ) (e t : Sighting) → k < i → Has ys t → ¬ AreOther (slice_index_or xs k e) t) → ((t : Sighting) → Has other t → ¬ AreOther (slice_index_or one i d) t) → (k : ℕ) (e t : Sighting) → k < i + 1 → Has ys t → ¬ AreOther (slice_index_or xs k e) t
none_of_more xs one ys other i d same alike low before here k e t less has = elim (cases_eq k i) [
  | inl is ↦
      let read = ap (λ n. slice_index_or xs n e) is ∙ sym (ap (λ zs. slice_index_or zs i e) same) ∙ get_or_default one i e d low in
      λ apart. here t (subst (λ zs. Has zs t) (sym alike) has) (subst (λ s. AreOther s t) read apart)
  | inr apart ↦ before k e t (omega (arith, less, apart)) has
]
