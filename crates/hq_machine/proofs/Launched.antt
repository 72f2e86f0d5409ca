-- Packets that are known as launched.
use Rattle.std.proofs.Common.{◌≡◌, ◌≢◌, ◌⊎◌, ℕ, ◌<◌, true, false, List, length, slice_set, inl, inr, ap, sym, ◌∙◌, arith}
use Rattle.std.proofs.lemmas.Bool.{cases_eq, true≢false}
use Rattle.std.proofs.lemmas.List.{get_or-set_other, get_or_default}
use Rattle.std.proofs.lemmas.Grind.{get_or-set_at}
use Rattle.hq_model.specs.Machine as machine
use Rattle.hq_model.specs.Machine.{is_launched}
use Rattle.hq_model.specs.View.{phases_of}
use Rattle.hq_machine.specs.declared.state.Stretch.{Stretch}
use Rattle.hq_machine.specs.Launched.{AreLaunched}

-- a packet's phase, where it isn't launched, or stays so
set_launched : (phases : List machine.Phase) (packet e : ℕ) (phase first : machine.Phase) → (is_launched (phases_of first phases packet) ≡ false) ⊎ (is_launched phase ≡ true) → packet < length phases → is_launched (phases_of first phases e) ≡ true → is_launched (phases_of first (slice_set phases packet phase) e) ≡ true
set_launched phases packet e phase first is room before = elim (cases_eq e packet) [
  | inl here ↦ ap is_launched (get_or-set_at phases packet e phase first here room) ∙ elim is [
    | inl was ↦ absurd (true≢false (sym before ∙ ap (λ p. is_launched (phases_of first phases p)) here ∙ was))
    | inr stays ↦ stays
  ]
  | inr other ↦ ap is_launched (get_or-set_other phases packet e phase first other) ∙ before
]

pub still_launched : (phases : List machine.Phase) (packet : ℕ) (phase : machine.Phase) (stretches : List Stretch) → ((first : machine.Phase) → (is_launched (phases_of first phases packet) ≡ false) ⊎ (is_launched phase ≡ true)) → packet < length phases → AreLaunched phases stretches → AreLaunched (slice_set phases packet phase) stretches
still_launched phases packet phase stretches is room all = λ k s low. let one = all k s low in record { each = λ first e from to. set_launched phases packet e phase first (is first) room (one.each first e from to) }

-- another packet's phase, whatever stands for those that aren't there
pub launched_beside : (phases : List machine.Phase) (packet e : ℕ) (phase other first : machine.Phase) → e < packet → packet < length phases → is_launched (phases_of other phases e) ≡ true → is_launched (phases_of first (slice_set phases packet phase) e) ≡ true
launched_beside phases packet e phase other first low room before =
    let apart : e ≢ packet = λ same. omega (arith, same, low) in
    ap is_launched (get_or-set_other phases packet e phase first apart ∙ get_or_default phases e first other (omega (arith, low, room))) ∙ before
