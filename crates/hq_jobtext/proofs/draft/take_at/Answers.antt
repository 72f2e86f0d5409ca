use Rattle.std.proofs.Common.{◌≡◌, ◌∙◌, ap}
use Rattle.hq_tables.specs.LineFaults.{reason_of}
use Rattle.hq_jobtext.specs.JobText.{misplaced}
use Rattle.hq_tables.specs.TablesView.{tables_of}
use Rattle.hq_jobtext.proofs.Leads.{behind_refused}
use Rattle.hq_jobtext.proofs.Lines.{outside_or}
use Rattle.hq_jobtext.proofs.draft.take_at.Goals as goal

pub returns-in-Behind-clause-steps : goal.returns-in-Behind-clause-steps
returns-in-Behind-clause-steps c =
    let why : c.from.result ≡ misplaced c.args.line.now = c.from.ensures ∙ ap reason_of c.line_behind_end.ensures ∙ outside_or c.args.line.now in
    rw c.in-Behind.is (behind_refused c.args.line.now c.from.result (tables_of c.args.tables.now) (tables_of c.args.tables.now) why)
