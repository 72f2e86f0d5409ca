use Rattle.std.proofs.Common.{sym, ◌∙◌}
use Rattle.std.proofs.lemmas.Bool.{eq-eqb, eqb-true}
use Rattle.hq_machine.proofs.EachStore.{unstored_counted}
use Rattle.hq_machine.specs.View.{stores_of}
use Rattle.hq_machine.proofs.state.State.has_stored_none.Goals as goal

pub returns : goal.returns
returns c =
    let h = unstored_counted (stores_of c.args.self.now c.args.packet).stored in (
      λ t. h.0 (sym c.stores_done.ensures ∙ eqb-true c.stores_done.result 0 t),
      λ n. eq-eqb c.stores_done.result 0 (c.stores_done.ensures ∙ h.1 n),
    )
