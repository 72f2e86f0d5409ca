use Rattle.std.proofs.Common.{◌≡◌, length}
use Rattle.hq_parts.proofs.Parting.{AreNoted}
use Rattle.hq_parts.proofs.parts.note_all.Given as goal

abbrev pub invariant-loop-packet : goal.invariant-loop-packet
invariant-loop-packet l = record {
  written_len : length l.written ≡ 1024;
  touched_len : length l.touched ≡ 1024;
  written : AreNoted (λ t. t.written) l.touches l.packet l.written;
  touched : AreNoted (λ t. t.touched) l.touches l.packet l.touched;
}
