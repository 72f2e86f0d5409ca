use Rattle.std.proofs.Common.{◌≡◌, ◌∙◌, Some, rules, slice_get}
use Rattle.clap.specs.Words.{app_of}
use Rattle.hq_words.specs.Commands.{ReadsAsAll}
use Rattle.hq_words.proofs.Alone.{first_is}
use Rattle.hq_words.proofs.words.matches_alone.Goals as goal

pub returns-in-Ok : goal.returns-in-Ok
returns-in-Ok c =
    let command = app_of c.in-Some-2.command in
    let name = c.in-Some.name.now in
    let reads : ReadsAsAll name.now command = search rules in
    let first : slice_get c.args.words.now 0 ≡ Some name = search rules in
    (c.in-Ok.ensures.matches reads.simple).1 ∙ first_is c.args.words.now name command first reads
