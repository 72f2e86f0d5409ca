use Rattle.std.proofs.Common.{◌≡◌, false}
use Rattle.clap.specs.Words.{app_of}
use Rattle.clap.specs.declared.builder.command.Command.TheViews.{out-Command as fields_of}
use Rattle.hq_words.proofs.Below.{with_below}
use Rattle.hq_words.proofs.command.hsaq.Goals as goal

pub returns : goal.returns
returns c =
    with_below app_of (λ b. (fields_of b).has_globals ≡ false) c.with-2.result c.with.result c.pack.result _ _ c.with-2.ensures
    (with_below app_of (λ b. (fields_of b).has_globals ≡ false) c.with.result c.changing.result c.show.result _ _ c.with.ensures
    c.changing.ensures c.show.ensures.app c.show.ensures.local) c.pack.ensures.app c.pack.ensures.local
