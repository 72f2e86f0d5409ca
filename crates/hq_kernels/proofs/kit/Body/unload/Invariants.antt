use Rattle.std.proofs.Common.{◌≡◌, ◌+◌, ◌-◌, ◌≤◌, ◌++◌, vec_len, vec_capacity}
use Rattle.hq_kernels.specs.Kits.{seen}
use Rattle.hq_kernels.proofs.kit.Body.unload.Given as goal

abbrev pub invariant-loop : goal.invariant-loop
invariant-loop g l =
    let look = seen (λ b. (goal.KernelBody-dyn g (b.vtable, b.value)).kernel b.value) (λ b. (goal.ServiceBody-dyn g (b.vtable, b.value)).service b.value) in
    record {
      task : (look l.self).value.task ≡ (look l.initial.self).value.task;
      ran : (look l.self).value.ran ≡ (look l.initial.self).value.ran;
      sort : (look l.self).sort ≡ (look l.initial.self).sort;
      held : l.pieces.items ++ (look l.self).value.held ≡ l.initial.pieces.items ++ (look l.initial.self).value.held;
      count : vec_len l.pieces ≡ vec_len l.initial.pieces + l.counter;
      room : vec_len l.pieces + (l.count - l.counter) ≤ vec_capacity l.pieces;
    }
