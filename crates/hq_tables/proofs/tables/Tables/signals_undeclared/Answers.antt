use Rattle.hq_packet.specs.Parts.{completion_of}
use Rattle.hq_tables.specs.Tables.{IsUndeclared, deps_of}
use Rattle.hq_tables.proofs.Notes.{any_first, any_rest}
use Rattle.hq_tables.proofs.tables.Tables.signals_undeclared.Goals as goal

pub returns-then-is_undeclared : goal.returns-then-is_undeclared
returns-then-is_undeclared c =
    let first = any_first (IsUndeclared c.args.self.now.signals) (completion_of c.args.packet.now) (deps_of c.args.packet.now) ((rw c.completion.ensures at c.is_undeclared.ensures).0 c.if-is_undeclared.true) in
    (λ _. first, λ _. c.if-is_undeclared.true)

pub returns-else-is_undeclared : goal.returns-else-is_undeclared
returns-else-is_undeclared c =
    any_rest (IsUndeclared c.args.self.now.signals) (completion_of c.args.packet.now) (deps_of c.args.packet.now) c.is_undeclared.result c.some_undeclared.result (rw c.completion.ensures at c.is_undeclared.ensures) c.if-is_undeclared.false (rw c.deps_of.ensures at c.some_undeclared.ensures)
