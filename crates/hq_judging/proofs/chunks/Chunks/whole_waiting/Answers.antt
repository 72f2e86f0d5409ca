use Rattle.std.proofs.Common.{◌+◌, List, ℕ, take, subst, arith, rules}
use Rattle.hq_text.specs.Intake.{IsWhole}
use Rattle.hq_judging.proofs.InChunks.{whole_behind}
use Rattle.hq_judging.proofs.chunks.Chunks.whole_waiting.Goals as goal

pub returns-then-more-gt0-clause-whole : goal.returns-then-more-gt0-clause-whole
returns-then-more-gt0-clause-whole c =
    subst (λ (t : List ℕ). IsWhole (take (c.min-searched.result + c.whole_lines-more.result) t)) c.deref.ensures.value
    (whole_behind c.deref.result.now c.min-searched.result c.whole_lines-more.result (search rules) (omega (arith, c.min-searched.ensures, c.len.ensures, c.deref.ensures.len)) c.whole_lines-more.ensures.within c.whole_lines-more.ensures.whole)
