use Rattle.std.proofs.Common.{length}
use Rattle.hq_text.specs.Lines.{lines_of}
use Rattle.hq_jobtext.specs.DraftView.{so_far}
use Rattle.hq_tables.specs.Fits.{TablesFit}
use Rattle.hq_tables.specs.TablesView.{tables_of}
use Rattle.hq_jobtext.proofs.Leads.{Partly}
use Rattle.hq_jobtext.proofs.draft.Draft.take_lines.Given as goal

abbrev pub invariant-loop-rest : goal.invariant-loop-rest
invariant-loop-rest l = record {
  fit : TablesFit (tables_of l.self.tables);
  partly : Partly (lines_of l.text) (lines_of l.rest) (so_far l.fn.self) (so_far l.self);
}

abbrev pub decreases-loop-rest : goal.decreases-loop-rest
decreases-loop-rest l = length l.rest
