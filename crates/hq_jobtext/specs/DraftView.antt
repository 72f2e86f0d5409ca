-- What a draft's fields mean.
use Rattle.hq_jobtext.specs.declared.draft.Draft.{Draft}
use Rattle.hq_jobtext.specs.SoFar.{SoFar}
use Rattle.hq_tables.specs.TablesView.{tables_of}

-- what the lines so far leave, by the draft's fields
abbrev pub so_far : Draft → SoFar
so_far d = record { place = d.place; tables = tables_of d.tables; count = d.count }
