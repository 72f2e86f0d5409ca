use Rattle.std.proofs.Common.{◌≡◌, ◌<◌, ◌≤◌, List, ◌++◌, length, vec_len, vec_capacity}
use Rattle.hq_ledger.specs.Pieces.{Part}
use Rattle.hq_kernels.specs.Bodies.{pieces_of}
use Rattle.hq_kernels.specs.Kits.{IsStock, seen}
use Rattle.hq_kernels.proofs.kit.Body.load_all.Given as goal

abbrev pub invariant-loop-pieces : goal.invariant-loop-pieces
invariant-loop-pieces g l =
    let look = seen (λ b. (goal.KernelBody-dyn g (b.vtable, b.value)).kernel b.value) (λ b. (goal.ServiceBody-dyn g (b.vtable, b.value)).service b.value) in
    record {
      took : (taken : List Part) × (l.initial.pieces.items ≡ taken ++ l.pieces.items)
          × ((look l.self).value ≡ record (look l.initial.self).value { held = (look l.initial.self).value.held ++ taken })
          × (IsStock (look l.initial.self) → 0 < length taken → length (look l.self).value.held ≤ pieces_of (look l.self).value.task);
      sort : (look l.self).sort ≡ (look l.initial.self).sort;
      room : vec_capacity l.pieces ≡ vec_capacity l.initial.pieces;
    }

abbrev pub decreases-loop-pieces : goal.decreases-loop-pieces
decreases-loop-pieces g l = vec_len l.pieces
