use Rattle.hq_text.proofs.Taken.{taken_consumes, taken_at_end}
use Rattle.hq_text.proofs.take.take_text.Goals as goal

pub returns-clause-taken : goal.returns-clause-taken
returns-clause-taken g c = taken_consumes c.take_turns.result (λ text. text.items) g.R.Read.remaining 2000000 c.args.reader.now c.take_turns.new.source c.take_turns.ensures.taken

pub returns-clause-ended : goal.returns-clause-ended
returns-clause-ended g c = taken_at_end c.take_turns.result (λ text. text.items) g.R.Read.remaining 2000000 c.args.reader.now c.take_turns.new.source c.take_turns.ensures.taken
