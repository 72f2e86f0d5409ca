-- The words for kinds of conflicts and for reasons.
use Rattle.std.specs.Prelude.{ℕ, List, codes}
use Rattle.hq_finding.specs.declared.kind.Kind.{Kind}
use Rattle.hq_finding.specs.declared.kind.Kind.TheVariants.{WriteRead, WriteWrite, ReadWrite}
use Rattle.hq_finding.specs.declared.why.Why.{Why}
use Rattle.hq_finding.specs.declared.why.Why.TheVariants.{Unordered, NotReleased, NotAcquired}

-- the letters for a kind of conflict: what the first packet does, write or read, and what the second does
abbrev pub kind_name : Kind → List ℕ
kind_name WriteRead = codes "wr"
kind_name WriteWrite = codes "ww"
kind_name ReadWrite = codes "rw"

-- the word for why a conflict isn't ordered
abbrev pub why_name : Why → List ℕ
why_name Unordered = codes "Unordered"
why_name NotReleased = codes "NotReleased"
why_name NotAcquired = codes "NotAcquired"
