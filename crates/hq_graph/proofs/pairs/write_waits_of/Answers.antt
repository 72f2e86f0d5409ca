use Rattle.std.proofs.Common.{◌≡◌, sym, ◌∙◌, true, false}
use Rattle.hq_graph.proofs.Texts.{no_waits_of}
use Rattle.hq_graph.proofs.pairs.write_waits_of.Goals as goal

pub returns-else-is_stuck : goal.returns-else-is_stuck
returns-else-is_stuck g c =
    no_waits_of (g.W.Write.contents c.args.writer.now) c.args.job.now c.args.sight.now.before.now c.args.r
    (λ s. let t : true ≡ false = sym (c.is_stuck.ensures.1 s) ∙ c.if-is_stuck.false in let never : ⊥ = cc in never)
