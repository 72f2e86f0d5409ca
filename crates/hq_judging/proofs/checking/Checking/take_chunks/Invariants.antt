use Rattle.std.proofs.Common.{◌≡◌, ℕ, ◌++◌, List, drop, take}
use Rattle.hq_text.specs.Intake.{IsWhole}
use Rattle.hq_text.specs.Lines.{lines_of}
use Rattle.hq_job.specs.Plan.{plan}
use Rattle.hq_judging.specs.Checking.{HasChecked, HasCheckedBut, StaysSaid}
use Rattle.hq_judging.specs.Chunks.{AreLookedAt}
use Rattle.hq_judging.specs.declared.checking.Checking.{Checking}
use Rattle.hq_judging.proofs.checking.Checking.take_chunks.Given as goal

abbrev pub invariant-loop-chunk : goal.invariant-loop-chunk
invariant-loop-chunk l = record {
  looked : AreLookedAt (plan l.fn.self.job) l.fn.self (drop l.chunk-index l.chunks) l.rest;
  front : List ℕ;
  cut : l.text ≡ front ++ l.rest;
  whole : IsWhole front;
  took : (from : Checking) (lines : List (List ℕ)) → HasChecked from lines l.fn.self → HasCheckedBut from (take l.chunk-index l.chunks) (lines ++ lines_of front) l.self × StaysSaid l.fn.self l.self;
}
