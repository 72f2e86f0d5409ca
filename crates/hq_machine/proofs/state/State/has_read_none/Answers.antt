use Rattle.std.proofs.Common.{sym, ◌∙◌}
use Rattle.std.proofs.lemmas.Bool.{eq-eqb, eqb-true}
use Rattle.hq_machine.proofs.EachEntry.{unread_counted}
use Rattle.hq_machine.specs.View.{row_of}
use Rattle.hq_machine.proofs.state.State.has_read_none.Goals as goal

pub returns : goal.returns
returns c =
    let h = unread_counted (row_of c.args.self.now.reads c.args.packet) in (
      λ t. h.0 (sym c.reads_done.ensures ∙ eqb-true c.reads_done.result 0 t),
      λ n. eq-eqb c.reads_done.result 0 (c.reads_done.ensures ∙ h.1 n),
    )
