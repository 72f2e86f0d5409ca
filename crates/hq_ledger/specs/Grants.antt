-- Which packets may be out together.
use Rattle.std.specs.Prelude.{◌≡◌, ℕ, ◌==◌, ◌⊎◌, List, All, AllPairs, Any, filter, not}
use Rattle.hq_footprint.specs.Conflicts.{Conflict}
use Rattle.hq_ledger.specs.declared.grants.Grant.{Grant}
use Rattle.hq_ledger.specs.declared.fault.GrantFault.{GrantFault}
use Rattle.hq_ledger.specs.declared.fault.GrantFault.TheVariants.{Overlap, NotOut, Memory}

-- Both are of one packet, or one writes a byte that the other reads or writes.
abbrev pub Clash : Grant → Grant → Type 0
Clash a b = (a.packet ≡ b.packet) ⊎ Conflict a.foot b.foot

-- No two of them clash.
abbrev pub AreApart : List Grant → Type 0
AreApart out = AllPairs (λ a b. ¬ Clash a b) out

-- None that is out clashes with this one.
abbrev pub IsClear : List Grant → Grant → Type 0
IsClear out grant = All (λ other. ¬ Clash other grant) out

-- The packet is out.
abbrev pub IsOut : List Grant → ℕ → Type 0
IsOut out packet = Any (λ grant. grant.packet ≡ packet) out

-- The packet is out with a grant that clashes with this one.
abbrev pub IsInTheWay : List Grant → Grant → ℕ → Type 0
IsInTheWay out grant packet = Any (λ other. (other.packet ≡ packet) × Clash other grant) out

-- Why a grant is refused: a packet is in its way, or none is and there is no memory.
abbrev pub Refuses : List Grant → Grant → GrantFault → Type 0
Refuses out grant (Overlap packet) = IsInTheWay out grant packet
Refuses out grant NotOut = ⊥
Refuses out grant Memory = IsClear out grant

-- those of other packets
abbrev pub without : ℕ → List Grant → List Grant
without packet out = filter (λ grant. not (grant.packet == packet)) out
