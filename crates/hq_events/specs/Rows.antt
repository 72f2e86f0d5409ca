-- What a packet has read and stored, as contracts see it.
use Rattle.std.specs.Prelude.{◌≡◌, ◌⊎◌, ◌==◌, ℕ, Bool, List, [], Option, Some, None, length, refl, slice_index_or}
use Rattle.std.specs.Prelude.{if◌then◌else◌}
use Rattle.std.specs.Coded.{Coded, code_by, coded×, coded_ℕ, coded_bool, coded_list}

-- What a packet stores: once the first of its bytes is stored, the bytes of its task, and which of them are stored.
-- Before, no byte.
pub record StoresValue : Type 0 where
  pub bytes : List ℕ
  pub stored : List Bool

-- a packet that has stored nothing yet
abbrev pub no_stores : StoresValue
no_stores = record { bytes = []; stored = [] }

-- stores are told apart by their two lists
abbrev pub stores_code : Coded StoresValue
stores_code =
    code_by (List ℕ × List Bool) (coded× (coded_list coded_ℕ) (coded_list coded_bool))
    (λ s. (s.bytes, s.stored))
    (λ t. record { bytes = t.0; stored = t.1 })
    (λ _. refl)

-- A packet's row is empty, or has as many entries as the packet.
abbrev pub IsRow : {X : Type 0} → ℕ → List X → Type 0
IsRow n row = (length row ≡ 0) ⊎ (length row ≡ n)

-- the row has so many entries, and differs from the other in one that is read now
pub record NextRow (old : List (Option ℕ)) (total i byte : ℕ) (row : List (Option ℕ)) : Type 0 where
  pub whole : length row ≡ total
  pub entry : (j : ℕ) → slice_index_or row j None ≡ (if j == i then Some byte else slice_index_or old j None)
