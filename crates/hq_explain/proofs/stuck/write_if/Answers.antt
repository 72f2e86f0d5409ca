use Rattle.std.proofs.Common.{◌≡◌, ℕ, inl, List, Option, sym, ◌∙◌, true, false}
use Rattle.std.specs.Prelude.{Result, Ok, Err, OnOk}
use Rattle.hq_job.specs.Plan.{plan}
use Rattle.hq_model.specs.Order.{Stuck}
use Rattle.hq_graph.proofs.Texts.{none_there}
use Rattle.hq_graph.specs.Graph.{Where, Wrote}
use Rattle.hq_explain.specs.Explained.{StuckLine}
use Rattle.hq_explain.proofs.stuck.write_if.Goals as goal

pub returns-else-has : goal.returns-else-has
returns-else-has g c =
    let job = c.args.job.now in
    none_there (g.W.Write.contents c.args.writer.now) (Stuck (plan job) c.args.r) (StuckLine job (plan job) c.args.r)
    (λ s. let t : true ≡ false = sym (c.has.ensures.1 s) ∙ c.if-has.false in let never : ⊥ = cc in never)

where_so : {A E : Type 0} (r : Result A E) (old new : Option (List ℕ)) (Holds : Type 0) (Line : List ℕ → Type 0) → Holds → OnOk r (Wrote old new Line) → OnOk r (Wrote old new (Where Holds Line))
where_so (Ok x) old new Holds Line holds w = record { text = w.text; says = inl (holds, w.says); appends = w.appends }
where_so (Err e) old new Holds Line holds w = tt

pub returns-then-has : goal.returns-then-has
returns-then-has g c =
    let job = c.args.job.now in
    where_so c.write_line.result (g.W.Write.contents c.args.writer.now) (g.W.Write.contents c.write_line.new.writer) (Stuck (plan job) c.args.r) (StuckLine job (plan job) c.args.r) (c.has.ensures.0 c.if-has.true) c.write_line.ensures
