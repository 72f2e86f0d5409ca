use Rattle.std.proofs.Common.{◌≡◌, false}
use Rattle.clap.specs.Words.{app_of}
use Rattle.clap.specs.declared.builder.command.Command.TheViews.{out-Command as fields_of}
use Rattle.hq_words.proofs.Below.{with_below}
use Rattle.hq_words.proofs.command.running.Goals as goal

pub returns : goal.returns
returns c =
    with_below app_of (λ b. (fields_of b).has_globals ≡ false) c.with-2.result c.with-with_replay.result c.chart.result _ _ c.with-2.ensures
    (with_below app_of (λ b. (fields_of b).has_globals ≡ false) c.with-with_replay.result c.with.result c.replay.result _ _ c.with-with_replay.ensures
    (with_below app_of (λ b. (fields_of b).has_globals ≡ false) c.with.result c.judging.result c.run.result _ _ c.with.ensures
    c.judging.ensures c.run.ensures.app c.run.ensures.local) c.replay.ensures.app c.replay.ensures.local) c.chart.ensures.app c.chart.ensures.local
