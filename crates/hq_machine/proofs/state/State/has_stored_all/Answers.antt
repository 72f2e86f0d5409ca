use Rattle.std.proofs.Common.{Bool, false, length, refl, sym, ◌∙◌}
use Rattle.std.proofs.lemmas.Bool.{eq-eqb, eqb-true}
use Rattle.hq_job.specs.Plan.{plan}
use Rattle.hq_model.specs.Job.{packet}
use Rattle.hq_machine.proofs.Counts.{full_row}
use Rattle.hq_machine.specs.View.{stores_of}
use Rattle.hq_machine.proofs.state.State.has_stored_all.Goals as goal

pub returns : goal.returns
returns c =
    let n = length (packet (plan c.args.job.now) c.args.packet).writes in
    let h = full_row {X = Bool} (λ b. b) (stores_of c.args.self.now c.args.packet).stored false n refl (c.requires.is.stores c.args.packet c.requires.packet).row in (
      λ t. h.0 (sym c.stores_done.ensures ∙ eqb-true c.stores_done.result c.write_count.result t ∙ c.write_count.ensures),
      λ all. eq-eqb c.stores_done.result c.write_count.result (c.stores_done.ensures ∙ h.1 all ∙ sym c.write_count.ensures),
    )
