use Rattle.std.proofs.Common.{◌<◌, ◌/◌, ◌↔◌, IsTrue, sym, subst}
use Rattle.hq_bits.specs.Bits.{has}
use Rattle.hq_bits.proofs.Words.{has_full}
use Rattle.hq_bits.proofs.full.Goals as goal

pub returns-clause-all : goal.returns-clause-all
returns-clause-all c = λ p. subst (λ row. IsTrue (has row p) ↔ p / 64 < c.args.words) (sym (c.in_ok-row.ensures.items_if_clones_equal (λ y e. e))) (has_full c.args.words p)
