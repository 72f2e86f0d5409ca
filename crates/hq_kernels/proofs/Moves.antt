-- Pieces that move from one list to another.
use Rattle.std.proofs.Common.{◌≡◌, ℕ, ◌+◌, ◌<◌, ◌≤◌, List, ◌++◌, length, ap, arith}
use Rattle.std.proofs.lemmas.List.{length-append}
use Rattle.hq_ledger.specs.Pieces.{Part}

-- fewer were taken than were there, so that some are left
pub some_left : (before all taken now : List Part) (i n : ℕ) → taken ++ now ≡ before ++ all → length taken ≡ length before + i → i < n → n ≤ length all
    → 0 < length now
some_left before all taken now i n is count low many = omega (arith, ap length is, length-append taken now, length-append before all, count, low, many)
