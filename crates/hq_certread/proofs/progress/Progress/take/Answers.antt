use Rattle.std.specs.Prelude.{replicate}
use Rattle.std.proofs.Common.{ap}
use Rattle.std.proofs.lemmas.Result.{err_from_is_err_and}
use Rattle.hq_text.specs.Lines.{lines_of}
use Rattle.hq_certread.specs.DraftView.{blank, kept_of}
use Rattle.hq_certread.proofs.LetGo.{closed_still}
use Rattle.hq_certread.proofs.Turns.{lines_behind, lines_still, fault_of_more}
use Rattle.hq_certread.proofs.progress.Progress.take.Goals as goal

pub returns-in_err-self-clause-fault : goal.returns-in_err-self-clause-fault
returns-in_err-self-clause-fault c =
    let p = err_from_is_err_and c.from_residual.result c.from_residual.ensures.1 in
    rw (p.1, p.2) (λ lines more front gone h. fault_of_more c.args.self.now lines (lines_of c.args.text.now) more front gone c.in_err-self.field-0.0 c.in_err-self.ensures.takes h)

pub returns-clause-taken : goal.returns-clause-taken
returns-clause-taken c lines front gone h =
    lines_behind c.args.self.now (record { draft = c.take_lines.new.draft; threes = c.args.self.now.threes; count = c.in_ok-self.field-0 }) lines (lines_of c.args.text.now) front gone c.in_ok-self.ensures.takes.0 c.in_ok-self.ensures.gone c.in_ok-self.ensures.takes.1 h

pub returns-clause-lines : goal.returns-clause-lines
returns-clause-lines c lines front gone h =
    lines_still c.args.self.now (record { draft = c.take_lines.new.draft; threes = c.args.self.now.threes; count = c.in_ok-self.field-0 }) lines (lines_of c.args.text.now) front gone c.in_ok-self.ensures.gone c.in_ok-self.ensures.takes.1 h

pub returns-clause-closed : goal.returns-clause-closed
returns-clause-closed c past =
    closed_still (replicate c.args.self.now.draft.gone blank) (replicate c.take_lines.new.draft.gone blank) (lines_of c.args.text.now) (kept_of c.args.self.now.draft) (kept_of c.take_lines.new.draft) (ap (λ n. replicate n blank) c.in_ok-self.ensures.gone) past
    c.in_ok-self.ensures.takes.1
