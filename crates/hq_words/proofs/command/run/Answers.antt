use Rattle.std.proofs.Common.{◌≡◌, false}
use Rattle.clap.specs.Words.{app_of}
use Rattle.clap.specs.declared.builder.command.Command.TheViews.{out-Command as fields_of}
use Rattle.hq_words.proofs.Below.{stays, with_argument}
use Rattle.hq_words.proofs.command.run.Goals as goal

pub returns-clause-app : goal.returns-clause-app
returns-clause-app c = with_argument app_of c.taking.result c.of_job.result _ _ _ _ c.taking.ensures.app c.out.ensures.local c.of_job.ensures.app c.out.ensures.rule

pub returns-clause-local : goal.returns-clause-local
returns-clause-local c = stays (λ w. (fields_of w).has_globals ≡ false) c.taking.result c.of_job.result _ c.taking.ensures.local c.out.ensures.local c.of_job.ensures.local
