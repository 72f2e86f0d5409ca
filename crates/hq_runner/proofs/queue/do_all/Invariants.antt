use Rattle.std.proofs.Common.{◌≡◌, ◌<◌, ◌≤◌, ◌-◌, length, take, map}
use Rattle.hq_hall.proofs.Programs.{rising}
use Rattle.hq_job.specs.Plan.{plan}
use Rattle.hq_events.specs.Events.{coarse_of}
use Rattle.hq_model.specs.Journal.{Parts}
use Rattle.hq_runner.specs.Kits.{AllRan, tasks_of}
use Rattle.hq_runner.proofs.queue.do_all.Given as goal

abbrev pub invariant-loop-packet : goal.invariant-loop-packet
invariant-loop-packet g l =
    record {
      low : l.start ≤ l.packet;
      high : l.start < l.packet → l.packet ≤ l.stop;
      parts : Parts (plan l.job) (rising l.start l.packet) (map coarse_of l.desk.events.items);
      room : l.next ≤ length l.bodies.items;
      tasks : tasks_of (λ b. (goal.KernelBody-dyn g (b.vtable, b.value)).kernel b.value) (λ b. (goal.ServiceBody-dyn g (b.vtable, b.value)).service b.value) l.bodies.items ≡ tasks_of (λ b. (goal.KernelBody-dyn g (b.vtable, b.value)).kernel b.value) (λ b. (goal.ServiceBody-dyn g (b.vtable, b.value)).service b.value) l.initial.bodies.items;
      ran : AllRan (λ b. (goal.KernelBody-dyn g (b.vtable, b.value)).kernel b.value) (λ b. (goal.ServiceBody-dyn g (b.vtable, b.value)).service b.value) (take l.next l.bodies.items);
    }

abbrev pub decreases-loop-packet : goal.decreases-loop-packet
decreases-loop-packet g l = l.stop - l.packet
