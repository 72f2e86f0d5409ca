use Rattle.std.proofs.Common.{◌∙◌, ap, Ok}
use Rattle.hq_jobtext.proofs.Whole.{version_one, version_two}
use Rattle.hq_jobtext.proofs.reading.version_of.Goals as goal

pub returns-in-Ok-One-clause-version : goal.returns-in-Ok-One-clause-version
returns-in-Ok-One-clause-version c = version_one c.args.first.now (c.first_line.ensures.one.0 (c.in-Ok-One.is ∙ ap (λ v. Ok v) c.in-Ok-One.field-0-is))

pub returns-in-Ok-Two-clause-version : goal.returns-in-Ok-Two-clause-version
returns-in-Ok-Two-clause-version c = version_two c.args.first.now (c.first_line.ensures.two.0 (c.in-Ok-Two.is ∙ ap (λ v. Ok v) c.in-Ok-Two.field-0-is))
