use Rattle.std.proofs.Common.{◌≡◌, false, Ok}
use Rattle.clap.specs.Words.{app_of}
use Rattle.clap.specs.declared.builder.command.Command.TheViews.{out-Command as fields_of}
use Rattle.hq_words.proofs.Below.{with_below}
use Rattle.hq_words.proofs.command.judging.Goals as goal

pub returns : goal.returns
returns c =
    with_below app_of (λ b. (fields_of b).has_globals ≡ false) c.with-2.result c.with.result c.check.result _ _ c.with-2.ensures
    (with_below app_of (λ b. (fields_of b).has_globals ≡ false) c.with.result (Ok c.program.result) c.audit.result _ _ c.with.ensures
    c.program.ensures c.audit.ensures.app c.audit.ensures.local) c.check.ensures.app c.check.ensures.local
