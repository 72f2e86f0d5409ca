use Rattle.std.proofs.Common.{◌+◌, ◌*◌, length}
use Rattle.hq_judging.proofs.piece.+pieces.Given as goal

abbrev pub decreases-print_pieces : goal.decreases-print_pieces
decreases-print_pieces g l = 2 * length l.pieces.now

abbrev pub decreases-here : goal.decreases-here
decreases-here g l = 2 * length l.others.now + 1
