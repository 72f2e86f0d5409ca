use Rattle.std.proofs.Common.{◌≡◌, map, take}
use Rattle.std.specs.Prelude.{filter}
use Rattle.hq_kernels.specs.Kits.{seen, is_work}
use Rattle.hq_kernels.proofs.StockKits.{stock_of}
use Rattle.hq_kernels.proofs.kits.stock_bodies.Given as goal

abbrev pub invariant-loop-placed : goal.invariant-loop-placed
invariant-loop-placed g l =
    map (seen (λ b. (goal.KernelBody-dyn g (b.vtable, b.value)).kernel b.value) (λ b. (goal.ServiceBody-dyn g (b.vtable, b.value)).service b.value)) l.bodies.items
    ≡ map stock_of (filter (λ placed. is_work placed.packet) (take l.placed-index l.packets))
