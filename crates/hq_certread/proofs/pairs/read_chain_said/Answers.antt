use Rattle.std.proofs.Common.{sym, subst}
use Rattle.std.specs.Prelude.{Result}
use Rattle.hq_model.specs.Certificate as model
use Rattle.hq_certread.specs.declared.fault.CertReason.{CertReason}
use Rattle.hq_cert.specs.View.{fences_of}
use Rattle.hq_certread.specs.Gives.{Gives}
use Rattle.hq_certread.proofs.Nine.{nine}
use Rattle.hq_certread.proofs.pairs.read_chain_said.Goals as goal

pub returns-in-len9 : goal.returns-in-len9
returns-in-len9 c =
    subst (λ (r : Result model.Fences CertReason). Gives fences_of c.read_chain_of.result r)
    (sym (nine (λ w. w.now) c.args.words.now c.args.count _ _ _ _ _ _ _ _ _ c.packets_said-packets.result c.links_said-numbers.result c.in-len9.len_at_least c.in-len9.len_below c.packets_said-packets.ensures c.links_said-numbers.ensures))
    c.read_chain_of.ensures
