use Rattle.std.proofs.Common.{◌≡◌, ◌≤◌, ℕ, length, slice_index_or}
use Rattle.hq_audit.specs.declared.spreading.Part.{Part}
use Rattle.hq_audit.specs.Rowed.{DraftsUpto, start_of}
use Rattle.hq_audit.proofs.spreading.join.Given as goal

abbrev pub invariant-loop-part : goal.invariant-loop-part
invariant-loop-part l = record {
  len : length l.parts ≡ length l.fn.parts;
  rest : (k : ℕ) (d : Part) → l.part-index ≤ k → slice_index_or l.parts k d ≡ slice_index_or l.fn.parts k d;
  upto : DraftsUpto l.before (start_of l.before l.part-index) l.all;
}
