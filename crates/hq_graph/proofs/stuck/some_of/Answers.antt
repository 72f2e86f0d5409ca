use Rattle.std.proofs.Common.{sym, subst, ◌∙◌}
use Rattle.hq_job.specs.Plan.{plan}
use Rattle.hq_waits.proofs.Packets.{packets_count}
use Rattle.hq_graph.specs.Known.{AreTurns}
use Rattle.hq_graph.proofs.Reasons.{some_in}
use Rattle.hq_graph.proofs.stuck.some_of.Goals as goal

pub returns-clause-tells : goal.returns-clause-tells
returns-clause-tells c =
    let row = c.in_ok-row.ensures in
    let barred = c.first_barred-barred.ensures in
    record {
      each = λ p. (λ t. (c.requires.stuck p).0 ((row.same p).0 t), λ s. (row.same p).1 ((c.requires.stuck p).1 s));
      some = λ _. let x = some_in c.args.list.now c.requires.some in (x.0, (c.requires.stuck x.0).0 x.1);
      ordered = λ f. let never : ⊥ = cc in absurd never;
      free = λ f p s. let never : ⊥ = cc in absurd never;
      turns = λ _. subst (λ set. AreTurns (plan c.args.job.now) set c.in_ok-turns.turns.items c.first_barred-barred.result) c.deref.ensures.value
          (record { count = c.in_ok-turns.ensures.count ∙ sym (packets_count c.args.job.now); are = c.in_ok-turns.ensures.are; upto = barred.upto; there = barred.there; first = barred.first });
    }
