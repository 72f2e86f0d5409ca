use Rattle.std.proofs.Common.{◌≡◌}
use Rattle.hq_model.specs.Job.{Job}
use Rattle.hq_judging.specs.Places.{ArePieces, IsPlace}
use Rattle.hq_judging.proofs.Places.{end_of}
use Rattle.hq_judging.proofs.piece.pieces_from.Given as goal

abbrev pub invariant-loop-piece : goal.invariant-loop-piece
invariant-loop-piece l = record {
  are : (job : Job) → ArePieces job l.audited l.fn.from l.pieces.items;
  place : IsPlace l.audited l.last;
  end : end_of l.fn.from l.pieces.items ≡ l.last;
}
