use Rattle.std.proofs.Common.{◌≡◌, false}
use Rattle.clap.specs.Words.{app_of}
use Rattle.clap.specs.declared.builder.command.Command.TheViews.{out-Command as fields_of}
use Rattle.hq_words.proofs.Below.{with_below}
use Rattle.hq_words.proofs.command.changing.Goals as goal

pub returns : goal.returns
returns c =
    with_below app_of (λ b. (fields_of b).has_globals ≡ false) c.with-2.result c.with.result c.trim.result _ _ c.with-2.ensures
    (with_below app_of (λ b. (fields_of b).has_globals ≡ false) c.with.result c.telling.result c.fix.result _ _ c.with.ensures
    c.telling.ensures c.fix.ensures.app c.fix.ensures.local) c.trim.ensures.app c.trim.ensures.local
