use Rattle.std.proofs.lemmas.Result.{err_from_is_err_and}
use Rattle.hq_tables.specs.TablesView.{tables_of}
use Rattle.hq_jobtext.proofs.Leads.{headless_at}
use Rattle.hq_jobtext.proofs.draft.take_head.Goals as goal

pub returns-in_err-rings-clause-steps : goal.returns-in_err-rings-clause-steps
returns-in_err-rings-clause-steps c =
    let p = err_from_is_err_and c.from_residual.result c.from_residual.ensures.1 in
    rw (p.1, p.2) (headless_at c.args.line.now c.in_err-rings.field-0.0 (tables_of c.args.tables.now) (tables_of c.args.tables.now) c.in_err-rings.ensures.none c.in_err-rings.ensures.fault)
