use Rattle.std.proofs.Common.{◌≡◌, false, IsTrue}
use Rattle.hq_model.specs.Fence.Conflict.{WriteRead, WriteWrite, ReadWrite}
use Rattle.hq_certcheck.specs.Covering.{has_kind}
use Rattle.hq_certcheck.proofs.Flagged.{by_kinds}
use Rattle.hq_certcheck.proofs.missing.covers.Goals as goal

pub returns-then-not-keeps-clause-all : goal.returns-then-not-keeps-clause-all
returns-then-not-keeps-clause-all c = (
  λ t. let never : ⊥ = cc in absurd never,
  λ h. let t : IsTrue c.keeps.result = c.keeps.ensures.keeps.1 (h WriteRead) in let no : c.keeps.result ≡ false = c.if-not-keeps.true in let never : ⊥ = cc in absurd never,
)

pub returns-then-not-keeps-2-clause-all : goal.returns-then-not-keeps-2-clause-all
returns-then-not-keeps-2-clause-all c = (
  λ t. let never : ⊥ = cc in absurd never,
  λ h. let t : IsTrue c.keeps-2.result = c.keeps-2.ensures.keeps.1 (h WriteWrite) in let no : c.keeps-2.result ≡ false = c.if-not-keeps-2.true in let never : ⊥ = cc in absurd never,
)

pub returns-clause-all : goal.returns-clause-all
returns-clause-all c = (
  λ t. by_kinds (λ kind. IsTrue (has_kind kind c.args.found) → IsTrue (has_kind kind c.args.listed))
      (c.keeps.ensures.keeps.0 c.if-not-keeps.false)
      (c.keeps-2.ensures.keeps.0 c.if-not-keeps-2.false)
      (c.keeps-3.ensures.keeps.0 t),
  λ h. c.keeps-3.ensures.keeps.1 (h ReadWrite),
)
