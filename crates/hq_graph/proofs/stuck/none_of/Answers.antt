use Rattle.std.proofs.Common.{◌≡◌, sym, ◌∙◌, true, false}
use Rattle.hq_job.specs.Plan.{plan}
use Rattle.hq_graph.proofs.stuck.none_of.Goals as goal

pub returns-clause-tells : goal.returns-clause-tells
returns-clause-tells c =
    let job = plan c.args.job.now in
    let order = c.args.order.now in
    record {
      each = λ p. (
        λ t. let h : true ≡ false = sym t ∙ c.in_ok-row.ensures.none p in let never : ⊥ = cc in absurd never,
        λ s. absurd (c.none_where_stuck.ensures job order s.0 c.requires s.1),
      );
      some = λ t. let never : ⊥ = cc in absurd never;
      ordered = λ _. (order, c.requires);
      free = λ _ p s. c.none_where_stuck.ensures job order s.0 c.requires s.1;
      turns = λ t. let never : ⊥ = cc in absurd never;
    }
