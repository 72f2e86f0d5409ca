-- The order of tests: what a line's words say, or the first test that they fail.
use Rattle.std.specs.Prelude.{ℕ, ◌^◌, Bool, true, false, ◌&&◌, List, [], ◌∷◌, length, Option, Some, None, Result}
use Rattle.std.specs.Prelude.{Ok, Err, codes, ◌==◌, nat_le, nat_lt, if◌then◌else◌}
use Rattle.std.specs.Str.{bytes_eq}
use Rattle.hq_text.specs.Numbers.{number_of}
use Rattle.hq_text.specs.InTurn.{◌>>=◌}
use Rattle.hq_certread.specs.declared.fault.CertReason.{CertReason}
use Rattle.hq_certread.specs.declared.fault.CertReason.TheVariants as reason
use Rattle.hq_certread.specs.declared.forms.RuleKind.{RuleKind}
use Rattle.hq_certread.specs.declared.forms.RuleKind.TheVariants as rules
use Rattle.hq_certread.specs.declared.forms.FencesKind.{FencesKind}
use Rattle.hq_certread.specs.declared.forms.FencesKind.TheVariants as fence
use Rattle.hq_certread.specs.declared.pairs.Packets.{Packets}
use Rattle.hq_certread.specs.declared.pairs.Numbers.{Numbers}
use Rattle.hq_model.specs.declared.limits.TheConstants.{PACKETS}
use Rattle.hq_model.specs.Certificate as model
use Rattle.hq_model.specs.Certificate.Rule.{Bit, Queue, And, Or, Through}
use Rattle.hq_model.specs.Certificate.Fences.{ForReadWrite, ForWriteWrite, ForWriteRead, ForWriteWriteChained}
use Rattle.hq_model.specs.Certificate.Fences.{ForWriteReadChained}

-- ---- numbers and citations

-- the number, if it is at most 4294967295
abbrev pub small : Option ℕ → Result ℕ CertReason
small None = Err reason.Number
small (Some n) = if nat_lt n (2 ^ 32) then Ok n else Err reason.Number

-- the number that a word is, at most 4294967295
unfoldable pub number_said : List ℕ → Result ℕ CertReason
number_said word = small (number_of word)

-- the number k, and no other
unfoldable pub next_said : ℕ → List ℕ → Result ℕ CertReason
next_said k word = do
  n ← number_said word
  if n == k then Ok n else Err reason.Number

-- `=`, or a number
unfoldable pub citation_said : List ℕ → Result (Option ℕ) CertReason
citation_said word = if bytes_eq word (codes "=") then Ok None else (do
  n ← number_said word
  Ok (Some n))

-- a line that is cited stands below the limit
unfoldable pub below : ℕ → ℕ → Result ℕ CertReason
below limit n = if nat_lt n limit then Ok n else Err reason.Citation

-- the same of a citation, where `=` cites nothing
abbrev pub cited_below : ℕ → Option ℕ → Result (Option ℕ) CertReason
cited_below limit None = Ok None
cited_below limit (Some n) = below limit n >>= λ m. Ok (Some m)

-- each in turn, up to the first fault
unfoldable pub each : {A B : Type 0} → (A → Result B CertReason) → List A → Result (List B) CertReason
each f [] = Ok []
each f (x ∷ xs) = do
  y ← f x
  ys ← each f xs
  Ok (y ∷ ys)

-- numbers, each a word
abbrev pub numbers_said : List (List ℕ) → Result (List ℕ) CertReason
numbers_said words = each number_said words

-- citations, each a word
abbrev pub citations_said : List (List ℕ) → Result (List (Option ℕ)) CertReason
citations_said words = each citation_said words

-- citations of lines below the limit
abbrev pub all_below : ℕ → List (Option ℕ) → Result (List (Option ℕ)) CertReason
all_below limit cs = each (cited_below limit) cs

-- ---- lines

-- the rule of this name, with so many words behind it
unfoldable pub rule_kind : List ℕ → ℕ → Option RuleKind
rule_kind name count = if bytes_eq name (codes "bit") && count == 1 then Some rules.Bit
    else if bytes_eq name (codes "queue") && count == 0 then Some rules.Queue
    else if bytes_eq name (codes "and") && count == 1 then Some rules.And
    else if bytes_eq name (codes "or") && nat_le 1 count && nat_le count 5 then Some rules.Or
    else if bytes_eq name (codes "through") && count == 2 then Some rules.Through
    else None

-- `bit` and J
unfoldable pub bit_said : List (List ℕ) → Result model.Rule CertReason
bit_said (j ∷ []) = number_said j >>= λ n. Ok (Bit n)
bit_said _ = Err reason.Word

-- `and` and S
unfoldable pub and_said : List (List ℕ) → Result model.Rule CertReason
and_said (slot ∷ []) = number_said slot >>= λ n. Ok (And n)
and_said _ = Err reason.Word

-- `or` and its citations: all are read before one is looked up
unfoldable pub or_said : ℕ → List (List ℕ) → Result model.Rule CertReason
or_said k branches = do
  cs ← citations_said branches
  ds ← all_below k cs
  Ok (Or ds)

-- `through` and A B: both are read before one is looked up
unfoldable pub through_of : ℕ → List ℕ → List ℕ → Result model.Rule CertReason
through_of k first second = do
  a ← number_said first
  b ← number_said second
  m ← below k a
  n ← below k b
  Ok (Through m n)

-- two words behind `through`
unfoldable pub through_said : ℕ → List (List ℕ) → Result model.Rule CertReason
through_said k (first ∷ second ∷ []) = through_of k first second
through_said k _ = Err reason.Word

-- the rule of line k
unfoldable pub rule_said : ℕ → RuleKind → List (List ℕ) → Result model.Rule CertReason
rule_said k rules.Bit words = bit_said words
rule_said k rules.Queue words = Ok Queue
rule_said k rules.And words = and_said words
rule_said k rules.Or words = or_said k words
rule_said k rules.Through words = through_said k words

-- the number of the line, its packets, and its rule
unfoldable pub line_of : ℕ → List ℕ → List ℕ → List ℕ → RuleKind → List (List ℕ) → Result model.Line CertReason
line_of k number p r kind operands = do
  n ← next_said k number
  first ← number_said p
  second ← number_said r
  rule ← rule_said k kind operands
  Ok (record { p = first; r = second; rule = rule })

-- with the rule that the name and the count of words are, or none
abbrev pub line_if : ℕ → List ℕ → List ℕ → List ℕ → List (List ℕ) → Option RuleKind → Result model.Line CertReason
line_if k number p r operands None = Err reason.Word
line_if k number p r operands (Some kind) = line_of k number p r kind operands

-- line k, by the words behind `line`
unfoldable pub line_said : ℕ → List (List ℕ) → Result model.Line CertReason
line_said k (number ∷ p ∷ r ∷ name ∷ operands) = line_if k number p r operands (rule_kind name (length operands))
line_said k _ = Err reason.Word

-- ---- pair lines

-- the kind of this name, with so many words behind it
unfoldable pub fences_kind : Bool → List ℕ → ℕ → Option FencesKind
fences_kind chained name count = if bytes_eq name (codes "rw") && count == 1 then Some fence.ReadWrite
    else if bytes_eq name (codes "ww") && count == 3 then Some fence.WriteWrite
    else if bytes_eq name (codes "wr") && count == 5 then Some fence.WriteRead
    else if bytes_eq name (codes "wwc") && count == 5 && chained then Some fence.WriteWriteChained
    else if bytes_eq name (codes "wrc") && count == 9 && chained then Some fence.WriteReadChained
    else None

-- `rw` and L
unfoldable pub read_write_said : ℕ → List (List ℕ) → Result model.Fences CertReason
read_write_said count (line ∷ []) = do
  l ← number_said line
  n ← below count l
  Ok (ForReadWrite n)
read_write_said count _ = Err reason.Word

-- `ww` and X A B: all are read before one is looked up
unfoldable pub write_write_of : ℕ → List ℕ → List ℕ → List ℕ → Result model.Fences CertReason
write_write_of count x from on = do
  packet ← number_said x
  a ← citation_said from
  b ← number_said on
  c ← cited_below count a
  d ← below count b
  Ok (ForWriteWrite packet c d)

-- three words behind `ww`
unfoldable pub write_write_said : ℕ → List (List ℕ) → Result model.Fences CertReason
write_write_said count (x ∷ from ∷ on ∷ []) = write_write_of count x from on
write_write_said count _ = Err reason.Word

-- `wr` and X Y A B C
unfoldable pub write_read_of : ℕ → List ℕ → List ℕ → List ℕ → List ℕ → List ℕ → Result model.Fences CertReason
write_read_of count x y from between to = do
  first ← number_said x
  second ← number_said y
  a ← citation_said from
  b ← number_said between
  c ← citation_said to
  d ← cited_below count a
  e ← below count b
  f ← cited_below count c
  Ok (ForWriteRead first second d e f)

-- five words behind `wr`
unfoldable pub write_read_said : ℕ → List (List ℕ) → Result model.Fences CertReason
write_read_said count (x ∷ y ∷ from ∷ between ∷ to ∷ []) = write_read_of count x y from between to
write_read_said count _ = Err reason.Word

-- `wwc` and X X2 A B C
unfoldable pub write_chain_of : ℕ → List ℕ → List ℕ → List ℕ → List ℕ → List ℕ → Result model.Fences CertReason
write_chain_of count x x2 from link on = do
  first ← number_said x
  second ← number_said x2
  a ← citation_said from
  b ← number_said link
  c ← number_said on
  d ← cited_below count a
  e ← below count b
  f ← below count c
  Ok (ForWriteWriteChained first second d e f)

-- five words behind `wwc`
unfoldable pub write_chain_said : ℕ → List (List ℕ) → Result model.Fences CertReason
write_chain_said count (x ∷ x2 ∷ from ∷ link ∷ on ∷ []) = write_chain_of count x x2 from link on
write_chain_said count _ = Err reason.Word

-- X X2 Y2 Y of a chained pair line
unfoldable pub packets_said : List ℕ → List ℕ → List ℕ → List ℕ → Result Packets CertReason
packets_said x x2 y2 y = do
  a ← number_said x
  b ← number_said x2
  c ← number_said y2
  d ← number_said y
  Ok (record { x = a; x2 = b; y2 = c; y = d })

-- A B C D E of a chained pair line
unfoldable pub links_said : List ℕ → List ℕ → List ℕ → List ℕ → List ℕ → Result Numbers CertReason
links_said from link between link2 to = do
  a ← citation_said from
  b ← citation_said link
  c ← number_said between
  d ← citation_said link2
  e ← citation_said to
  Ok (record { from = a; link = b; between = c; link2 = d; to = e })

-- what they cite are lines below the limit
unfoldable pub links_below : ℕ → Numbers → Result Numbers CertReason
links_below count links = do
  a ← cited_below count links.from
  b ← cited_below count links.link
  c ← below count links.between
  d ← cited_below count links.link2
  e ← cited_below count links.to
  Ok (record { from = a; link = b; between = c; link2 = d; to = e })

-- the fences of these packets and links
abbrev pub chain_of : Packets → Numbers → model.Fences
chain_of a b = ForWriteReadChained a.x a.x2 a.y2 a.y b.from b.link b.between b.link2 b.to

-- all are read before one is looked up
unfoldable pub read_chain_of : ℕ → Result Packets CertReason → Result Numbers CertReason
    → Result model.Fences CertReason
read_chain_of count packets_read numbers_read = do
  packets ← packets_read
  numbers ← numbers_read
  links ← links_below count numbers
  Ok (chain_of packets links)

-- nine words behind `wrc`
unfoldable pub read_chain_said : ℕ → List (List ℕ) → Result model.Fences CertReason
read_chain_said count (x ∷ x2 ∷ y2 ∷ y ∷ from ∷ link ∷ between ∷ link2 ∷ to ∷ []) = read_chain_of count
    (packets_said x x2 y2 y) (links_said from link between link2 to)
read_chain_said count _ = Err reason.Word

-- the fences of a pair line behind so many lines
unfoldable pub fences_said : ℕ → FencesKind → List (List ℕ) → Result model.Fences CertReason
fences_said count fence.ReadWrite words = read_write_said count words
fences_said count fence.WriteWrite words = write_write_said count words
fences_said count fence.WriteRead words = write_read_said count words
fences_said count fence.WriteWriteChained words = write_chain_said count words
fences_said count fence.WriteReadChained words = read_chain_said count words

-- the packets of a pair line, and its fences
unfoldable pub pair_of : ℕ → List ℕ → List ℕ → FencesKind → List (List ℕ) → Result model.Pair CertReason
pair_of count p r kind operands = do
  first ← number_said p
  second ← number_said r
  fences ← fences_said count kind operands
  Ok (record { p = first; r = second; fences = fences })

-- with the kind that the name and the count of words are, or none
abbrev pub pair_if : ℕ → List ℕ → List ℕ → List (List ℕ) → Option FencesKind → Result model.Pair CertReason
pair_if count p r operands None = Err reason.Word
pair_if count p r operands (Some kind) = pair_of count p r kind operands

-- a pair line behind so many lines, by the words behind `pair`
unfoldable pub pair_said : Bool → ℕ → List (List ℕ) → Result model.Pair CertReason
pair_said chained count (p ∷ r ∷ name ∷ operands) = pair_if count p r operands
    (fences_kind chained name (length operands))
pair_said chained count _ = Err reason.Word

-- ---- the first two lines

-- whether chained pair lines may stand
unfoldable pub head_said : List (List ℕ) → Result Bool CertReason
head_said (name ∷ version ∷ []) = if bytes_eq name (codes "hsac") && bytes_eq version (codes "1") then Ok false
    else if bytes_eq name (codes "hsac") && bytes_eq version (codes "2") then Ok true
    else Err reason.Word
head_said _ = Err reason.Word

-- `order` and at most 1,024 numbers
unfoldable pub order_said : List (List ℕ) → Result (List ℕ) CertReason
order_said [] = Err reason.Word
order_said (name ∷ numbers) = if bytes_eq name (codes "order") && nat_le
    (length numbers) PACKETS then numbers_said numbers else Err reason.Word
