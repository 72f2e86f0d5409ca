use Rattle.hq_kernels.proofs.StockKits.{stock_bodies_empty, stock_bodies_fit}
use Rattle.hq_kernels.proofs.kits.stock_bodies.Goals as goal

pub returns-clause-fit : goal.returns-clause-fit
returns-clause-fit g c = stock_bodies_fit c.args.packets.now _ c.loop-placed.placed-index c.loop-placed-test.false c.loop-placed.invariant

pub returns-clause-stock : goal.returns-clause-stock
returns-clause-stock g c = stock_bodies_empty _ _ c.loop-placed.invariant
