use Rattle.std.proofs.Common.{◌≡◌, map, take}
use Rattle.std.specs.List.{flat_map}
use Rattle.hq_footprint.specs.Bytes.{bytes_of}
use Rattle.hq_model.specs.Job.{Job}
use Rattle.hq_model.specs.Machine.{lane_sees}
use Rattle.hq_machine.specs.View.{IsStateOf, state_of}
use Rattle.hq_machine.proofs.state.State.bytes_of_ranges.Given as goal

abbrev pub invariant-loop-range : goal.invariant-loop-range
invariant-loop-range l = (job : Job) → IsStateOf job l.self → l.bytes.items ≡ map (lane_sees job (state_of job l.self) l.packet) (flat_map bytes_of (take l.range-index l.ranges))
