use Rattle.hq_tables.specs.TablesView.{tables_of}
use Rattle.hq_tables.proofs.Calls.{calls_service}
use Rattle.hq_tables.proofs.tables.Tables.work_of.Goals as goal

pub kernel_work-requires : goal.kernel_work-requires
kernel_work-requires c = rw c.in-Kernel.is at c.requires

pub returns-in-Agent : goal.returns-in-Agent
returns-in-Agent c =
    let none = rw c.in-Agent.is at c.requires in
    rw c.in-Agent.is (calls_service c.of_service.result (tables_of c.args.self.now) c.in-Agent.call c.of_service.ensures.found c.of_service.ensures.ok c.of_service.ensures.service c.of_service.ensures.overflow none.0)
