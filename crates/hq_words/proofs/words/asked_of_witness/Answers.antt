use Rattle.std.proofs.Common.{refl, sym, ◌∙◌, codes}
use Rattle.clap.specs.Words.{found_of}
use Rattle.clap.proofs.WalkLemmas.{first_value-rows}
use Rattle.hq_words.proofs.words.asked_of_witness.Goals as goal

pub returns-in-Some : goal.returns-in-Some
returns-in-Some c = (
  refl,
  sym (first_value-rows (found_of c.args.own.now) (codes "JOB")) ∙ sym c.in-Some.ensures,
  sym (first_value-rows (found_of c.args.own.now) (codes "GOOD")) ∙ sym c.get_str-good.ensures,
  sym (first_value-rows (found_of c.args.own.now) (codes "BAD")) ∙ sym c.get_str-bad.ensures,
)
