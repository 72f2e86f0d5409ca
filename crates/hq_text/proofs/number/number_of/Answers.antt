use Rattle.hq_text.proofs.NumberLaws.{number_tells, number_none}
use Rattle.hq_text.proofs.number.number_of.Goals as goal

pub returns-clause-found : goal.returns-clause-found
returns-clause-found c = number_tells c.args.word.now c.read_number.result c.read_number.ensures

pub returns-clause-none : goal.returns-clause-none
returns-clause-none c = number_none c.args.word.now c.read_number.result c.read_number.ensures
