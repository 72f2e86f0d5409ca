use Rattle.std.proofs.Common.{ℕ, Option, None, is_some, length, refl, sym, ◌∙◌}
use Rattle.std.proofs.lemmas.Bool.{eq-eqb, eqb-true}
use Rattle.hq_job.specs.Plan.{plan}
use Rattle.hq_model.specs.Job.{packet}
use Rattle.hq_machine.proofs.Counts.{full_row}
use Rattle.hq_machine.specs.View.{row_of}
use Rattle.hq_machine.proofs.state.State.has_read_all.Goals as goal

pub returns : goal.returns
returns c =
    let n = length (packet (plan c.args.job.now) c.args.packet).reads in
    let h = full_row {X = Option ℕ} is_some (row_of c.args.self.now.reads c.args.packet) None n refl (c.requires.is.read_rows c.args.packet c.requires.packet) in (
      λ t. h.0 (sym c.reads_done.ensures ∙ eqb-true c.reads_done.result c.read_count.result t ∙ c.read_count.ensures),
      λ all. eq-eqb c.reads_done.result c.read_count.result (c.reads_done.ensures ∙ h.1 all ∙ sym c.read_count.ensures),
    )
