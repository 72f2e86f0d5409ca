use Rattle.std.proofs.Common.{◌∙◌}
use Rattle.hq_job.specs.Plan.{plan}
use Rattle.hq_board.proofs.Opening.{fits, word_count}
use Rattle.hq_board.proofs.Steps.{opens}
use Rattle.hq_board.proofs.words.Words.open.Goals as goal

pub of_words-requires : goal.of_words-requires
of_words-requires c = opens (plan c.args.job.now) c.deref.result.now (c.deref.ensures.value ∙ c.in_ok-words.ensures)

pub invariant_of-result : goal.invariant_of-result
invariant_of-result c =
    let opened = c.in_ok-table.ensures in
    record {
      key_is = opened.5;
      fits = fits c.args.job.now c.valid.ensures.valid c.valid.ensures.limits c.valid.ensures.packets;
      no_slots = opened.1;
      sized = opened.0 ∙ word_count (plan c.args.job.now) c.deref.result.now (c.deref.ensures.value ∙ c.in_ok-words.ensures);
    }
