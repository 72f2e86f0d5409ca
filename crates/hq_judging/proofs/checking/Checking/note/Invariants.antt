use Rattle.std.proofs.Common.{◌≡◌, ℕ, List}
use Rattle.hq_job.specs.Plan.{plan}
use Rattle.hq_judging.specs.Checking.{HasCheckedBut}
use Rattle.hq_judging.specs.Chunks.{WereJudged}
use Rattle.hq_judging.specs.declared.checking.Checking.{Checking}
use Rattle.hq_judging.specs.declared.chunk.Chunk.{Chunk}
use Rattle.hq_judging.proofs.InChunks.{StillLeft}
use Rattle.hq_judging.proofs.checking.Checking.note.Given as goal

abbrev pub invariant-loop-chunk : goal.invariant-loop-chunk
invariant-loop-chunk l = record {
  job : l.self.job ≡ l.fn.self.job;
  progress : l.self.progress ≡ l.fn.self.progress;
  lines : l.self.seen.lines ≡ l.fn.self.seen.lines;
  noted : (from : Checking) (olds : List Chunk) (lines : List (List ℕ)) → HasCheckedBut from olds lines l.fn.self → WereJudged (plan l.fn.self.job) l.fn.self olds l.chunks → StillLeft from olds l.chunks lines l.self l.chunk-index;
}
