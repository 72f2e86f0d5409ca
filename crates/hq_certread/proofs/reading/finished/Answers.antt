use Rattle.std.proofs.Common.{◌++◌, sym, ap, ◌∙◌}
use Rattle.hq_model.specs.Certificate as model
use Rattle.hq_certread.specs.DraftView.{behind, kept_of}
use Rattle.hq_certread.specs.TextFaults.{at_line}
use Rattle.hq_certread.specs.declared.fault.CertReason.TheVariants as reason
use Rattle.hq_certread.proofs.Wholes.{ended_found, not_ended}
use Rattle.hq_certread.proofs.reading.finished.Goals as goal

pub returns-then-is_ended-clause-read : goal.returns-then-is_ended-clause-read
returns-then-is_ended-clause-read c lines front gone number admitted =
    ended_found lines (behind front gone (kept_of c.args.draft)) _ admitted (sym c.is_ended.ensures ∙ c.if-is_ended.true)
    (ap (λ (d : model.Certificate). record { order = d.order; lines = front ++ d.lines; pairs = gone ++ d.pairs }) c.certificate.ensures)

pub returns-clause-read : goal.returns-clause-read
returns-clause-read c lines front gone number admitted =
    not_ended lines c.args.count (behind front gone (kept_of c.args.draft)) _ number admitted (sym c.is_ended.ensures ∙ c.if-is_ended.false) (ap (λ n. at_line n reason.NoEnd) c.in_ok-line.ensures.found)

pub returns-then-is_ended-clause-parts : goal.returns-then-is_ended-clause-parts
returns-then-is_ended-clause-parts c = (ap (λ (d : model.Certificate). d.lines) c.certificate.ensures, ap (λ (d : model.Certificate). d.pairs) c.certificate.ensures)

pub returns-then-is_ended-clause-whole : goal.returns-then-is_ended-clause-whole
returns-then-is_ended-clause-whole c lines number admitted = ended_found lines (kept_of c.args.draft) c.certificate.result admitted (sym c.is_ended.ensures ∙ c.if-is_ended.true) c.certificate.ensures

pub returns-clause-whole : goal.returns-clause-whole
returns-clause-whole c lines number admitted = not_ended lines c.args.count (kept_of c.args.draft) _ number admitted (sym c.is_ended.ensures ∙ c.if-is_ended.false) (ap (λ n. at_line n reason.NoEnd) c.in_ok-line.ensures.found)
