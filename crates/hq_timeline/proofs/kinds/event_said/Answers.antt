use Rattle.std.proofs.Common.{sym, ap, ◌∙◌}
use Rattle.hq_text.specs.Lines.{words_of}
use Rattle.hq_timeline.specs.LineTests.{event_said}
use Rattle.hq_timeline.specs.Split.{list_of}
use Rattle.hq_timeline.proofs.Cuts.{word_there}
use Rattle.hq_timeline.proofs.Parts.{more_words}
use Rattle.hq_timeline.proofs.kinds.event_said.Goals as goal

pub returns-in-More : goal.returns-in-More
returns-in-More c =
    let words = c.in-More in
    let there = word_there words.field-3.now in
    sym (ap (λ w. event_said (list_of w)) words.is ∙ more_words words.field-0.now words.field-1.now words.field-2.now (words_of words.field-3.now) there.first there.others there.is)
