use Rattle.std.proofs.Common.{refl}
use Rattle.std.proofs.lemmas.Result.{err_from_is_err_and}
use Rattle.hq_lines.specs.Meaning.{view}
use Rattle.hq_tables.specs.TablesView.{tables_of}
use Rattle.hq_jobtext.proofs.Lines.{refused_itself, refused_here}
use Rattle.hq_jobtext.proofs.reading.take_line.Goals as goal

pub returns-in_err-said : goal.returns-in_err-said
returns-in_err-said c =
    let p = err_from_is_err_and c.from_residual.result c.from_residual.ensures.1 in
    rw (p.1, p.2) (refl, refused_itself (tables_of c.args.tables.now) c.args.line.now c.in_err-said.field-0.0 c.in_err-said.ensures.fault)

pub returns-in_err-add_line : goal.returns-in_err-add_line
returns-in_err-add_line c =
    let p = err_from_is_err_and c.from_residual-in_err-add_line.result c.from_residual-in_err-add_line.ensures.1 in
    rw (p.1, p.2) (c.in_err-add_line.ensures.0, refused_here (tables_of c.args.tables.now) c.args.line.now (view c.in_ok-said.said) c.in_err-add_line.field-0.0 c.in_ok-said.ensures.found c.in_err-add_line.ensures.1)
