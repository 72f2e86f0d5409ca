use Rattle.std.proofs.Common.{◌≡◌, false}
use Rattle.clap.specs.Words.{app_of}
use Rattle.clap.specs.declared.builder.command.Command.TheViews.{out-Command as fields_of}
use Rattle.hq_words.proofs.Below.{with_below}
use Rattle.hq_words.proofs.command.telling.Goals as goal

pub returns : goal.returns
returns c =
    with_below app_of (λ b. (fields_of b).has_globals ≡ false) c.with-2.result c.with-with_explain.result c.witness.result _ _ c.with-2.ensures
    (with_below app_of (λ b. (fields_of b).has_globals ≡ false) c.with-with_explain.result c.with.result c.explain.result _ _ c.with-with_explain.ensures
    (with_below app_of (λ b. (fields_of b).has_globals ≡ false) c.with.result c.running.result c.graph.result _ _ c.with.ensures
    c.running.ensures c.graph.ensures.app c.graph.ensures.local) c.explain.ensures.app c.explain.ensures.local) c.witness.ensures.app c.witness.ensures.local
