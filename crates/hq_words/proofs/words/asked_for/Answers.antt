use Rattle.std.proofs.Common.{◌∙◌, codes}
use Rattle.clap.specs.Words.{found_of, rows_of}
use Rattle.clap.proofs.WalkLemmas.{first_value-rows}
use Rattle.hq_words.proofs.AskedFor.{asks_for}
use Rattle.hq_words.proofs.words.asked_for.Goals as goal

pub returns-in-Some : goal.returns-in-Some
returns-in-Some c =
    asks_for c.args.name.now (rows_of (found_of c.args.own.now)) _ _ _ _ _ _ _ _ c.in-Some.asked
    (c.get_str.ensures ∙ first_value-rows (found_of c.args.own.now) (codes "JOB"))
    (c.get_str-2.ensures ∙ first_value-rows (found_of c.args.own.now) (codes "CERT"))
    (c.get_str-3.ensures ∙ first_value-rows (found_of c.args.own.now) (codes "TIMELINE"))
    (c.get_str-4.ensures ∙ first_value-rows (found_of c.args.own.now) (codes "OUT"))
    (c.get_str-5.ensures ∙ first_value-rows (found_of c.args.own.now) (codes "COPIES"))
    (c.get_str-6.ensures ∙ first_value-rows (found_of c.args.own.now) (codes "PAIR"))
    (c.get_str-7.ensures ∙ first_value-rows (found_of c.args.own.now) (codes "SECOND"))
    (c.get_str-8.ensures ∙ first_value-rows (found_of c.args.own.now) (codes "ALL")) c.in-Some.ensures
