use Rattle.std.proofs.Common.{refl}
use Rattle.hq_tables.specs.TablesView.{tables_of}
use Rattle.hq_jobtext.proofs.Leads.{finished, no_end}
use Rattle.hq_jobtext.proofs.draft.Draft.finish.Goals as goal

pub returns-in-Behind : goal.returns-in-Behind
returns-in-Behind c = rw c.in-Behind.is (finished (λ j. j) c.finish.result (tables_of c.args.self.tables) c.args.self.count c.finish.ensures)

pub returns-in_ok-next_number-in_default : goal.returns-in_ok-next_number-in_default
returns-in_ok-next_number-in_default c = no_end c.args.self.place (tables_of c.args.self.tables) c.args.self.count c.in_ok-next_number-in_default.field-0 _ c.in_default.not-Behind c.in_ok-next_number-in_default.ensures.found refl
