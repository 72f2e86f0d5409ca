use Rattle.hq_tables.specs.TablesView.{tables_of}
use Rattle.hq_jobtext.proofs.Leads.{content_steps, content_refused}
use Rattle.hq_jobtext.proofs.Lines.{admits_fit}
use Rattle.hq_jobtext.proofs.draft.take_content.Goals as goal

pub returns-in-Ok-false-clause-fit : goal.returns-in-Ok-false-clause-fit
returns-in-Ok-false-clause-fit c = admits_fit (tables_of c.args.tables.now) c.args.line.now (tables_of c.take_line.new.tables) c.requires (rw c.in-Ok-false.field-0-test at c.in-Ok-false.ensures)

pub returns-in-Ok-false-clause-steps : goal.returns-in-Ok-false-clause-steps
returns-in-Ok-false-clause-steps c = content_steps c.args.line.now (tables_of c.args.tables.now) (tables_of c.take_line.new.tables) (rw c.in-Ok-false.field-0-test at c.in-Ok-false.ensures)

pub returns-in-Err-clause-steps : goal.returns-in-Err-clause-steps
returns-in-Err-clause-steps c = content_refused c.args.line.now c.in-Err.reason (tables_of c.args.tables.now) (tables_of c.take_line.new.tables) c.in-Err.ensures.1
