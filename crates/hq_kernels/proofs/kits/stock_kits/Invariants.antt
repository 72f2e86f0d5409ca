use Rattle.std.proofs.Common.{◌≡◌, ◌<◌, ℕ, [], length}
use Rattle.std.specs.Prelude.{slice_index_or}
use Rattle.hq_kernels.specs.Kits.{AreStockKits, KitFits, bodies_of}
use Rattle.hq_kernels.proofs.kits.stock_kits.Given as goal

abbrev pub invariant-loop-queue : goal.invariant-loop-queue
invariant-loop-queue g l =
    let kits = bodies_of (λ b. (goal.KernelBody-dyn g (b.vtable, b.value)).kernel b.value) (λ b. (goal.ServiceBody-dyn g (b.vtable, b.value)).service b.value) l.kits.items in
    record {
      count : length l.kits.items ≡ l.queue;
      stock : AreStockKits kits;
      fit : (queue : ℕ) → queue < l.queue → KitFits l.job queue (slice_index_or kits queue []);
    }
