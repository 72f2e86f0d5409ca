-- Grants that nothing is in the way of.
use Rattle.std.proofs.Common.{◌≡◌, ℕ, ◌+◌, ◌<◌, ◌↔◌, Bool, true, false, cond, List, [], ◌∷◌, ◌++◌, length, take, IsTrue}
use Rattle.std.specs.Prelude.{slice_index_or}
use Rattle.std.proofs.lemmas.List.Quantifiers.{all_pairs_push}
use Rattle.std.proofs.lemmas.List.Elements.{All-more}
use Rattle.hq_ledger.specs.declared.grants.Grant.{Grant}
use Rattle.hq_ledger.specs.Grants.{Clash, AreApart, IsClear}

pub clear_more : (out : List Grant) (grant d : Grant) (i : ℕ) (b : Bool) → i < length out → IsClear (take i out) grant
    → b ≡ false → (IsTrue b ↔ Clash (slice_index_or out i d) grant) → IsClear (take (i + 1) out) grant
clear_more out grant d i b low clear is tells = All-more (λ other. ¬ Clash other grant) out i d low clear (λ clash. absurd (truth b is (tells.1 clash)))
  where
    truth : (b : Bool) → b ≡ false → IsTrue b → ⊥
    truth true is t = absurd cc
    truth false is t = absurd cc

pub apart_pushed : (out : List Grant) (grant : Grant) (b : Bool) → AreApart out → IsClear out grant → AreApart (cond b (out ++ grant ∷ []) out)
apart_pushed out grant true apart clear = all_pairs_push (λ a b. ¬ Clash a b) out grant apart clear
apart_pushed out grant false apart clear = apart
