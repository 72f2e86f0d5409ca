use Rattle.hq_kernels.proofs.KitLists.{kit_told}
use Rattle.hq_kernels.proofs.kits.kit_fits.Goals as goal

pub returns : goal.returns
returns g c =
    kit_told c.args.job.now c.args.queue c.packets_of.result.now _ c.deref.result.now c.args.kit.now.bodies.items c.bodies_fit.result
    c.packets_of.ensures.span c.packets_of.ensures.every c.deref.ensures.value c.bodies_fit.ensures
