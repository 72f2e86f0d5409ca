-- What the code's certificates mean: those of the model.
use Rattle.std.specs.Prelude.{ℕ, Option, Some, None, map, ◌==◌, if◌then◌else◌}
use Rattle.hq_cert.specs.declared.citation.Citation.{Citation}
use Rattle.hq_cert.specs.declared.certificate.Rule.{Rule}
use Rattle.hq_cert.specs.declared.certificate.Rule.TheVariants.{Bit, Queue, And, Or, Through}
use Rattle.hq_cert.specs.declared.certificate.Line.{Line}
use Rattle.hq_cert.specs.declared.certificate.Fences.{Fences}
use Rattle.hq_cert.specs.declared.certificate.Fences.TheVariants.{ReadWrite, WriteWrite, WriteRead}
use Rattle.hq_cert.specs.declared.certificate.Fences.TheVariants.{WriteWriteChained, WriteReadChained}
use Rattle.hq_cert.specs.declared.certificate.Pair.{Pair}
use Rattle.hq_cert.specs.declared.certificate.Certificate.TheInside.{Inside}
use Rattle.hq_model.specs.Certificate as model
use Rattle.hq_model.specs.Certificate.Rule.{Bit as BitRule, Queue as QueueRule, And as AndRule, Or as OrRule}
use Rattle.hq_model.specs.Certificate.Rule.{Through as ThroughRule}
use Rattle.hq_model.specs.Certificate.Fences.{ForReadWrite, ForWriteWrite, ForWriteRead, ForWriteWriteChained}
use Rattle.hq_model.specs.Certificate.Fences.{ForWriteReadChained}

-- the number of the line, or None for `=`
abbrev pub cited : Citation → Option ℕ
cited c = if c.code == 4294967295 then None else Some c.code

-- the model's rule that a rule of the code means
abbrev pub rule_of : Rule → model.Rule
rule_of (Bit j) = BitRule j
rule_of Queue = QueueRule
rule_of (And slot) = AndRule slot
rule_of (Or branches) = OrRule (map cited branches.value.citations.items)
rule_of (Through first second) = ThroughRule first second

-- the model's line that a line of the code means
abbrev pub line_of : Line → model.Line
line_of line = record { p = line.p; r = line.r; rule = rule_of line.rule }

-- what a pair line of the code cites, as the model has it
abbrev pub fences_of : Fences → model.Fences
fences_of (ReadWrite line) = ForReadWrite line
fences_of (WriteWrite x from on) = ForWriteWrite x (cited from) on
fences_of (WriteRead x y from between to) = ForWriteRead x y (cited from) between (cited to)
fences_of (WriteWriteChained b) = let c = b.value in ForWriteWriteChained c.x c.x2 (cited c.from) c.link c.on
fences_of (WriteReadChained b) =
    let c = b.value in
    ForWriteReadChained c.x c.x2 c.y2 c.y (cited c.from) (cited c.link) c.between (cited c.link2) (cited c.to)

-- the model's pair line that one of the code means
abbrev pub pair_of : Pair → model.Pair
pair_of pair = record { p = pair.p; r = pair.r; fences = fences_of pair.fences }

-- the model's certificate that the code's fields mean: the same order, and their lines and pair lines as the model's
abbrev pub certificate_of : Inside → model.Certificate
certificate_of c = record
    { order = c.order.items; lines = map line_of c.lines.items; pairs = map pair_of c.pairs.items }
