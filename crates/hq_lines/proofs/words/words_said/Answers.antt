use Rattle.std.specs.Prelude.{map}
use Rattle.hq_lines.specs.Meaning.{view}
use Rattle.hq_lines.proofs.Whole.{found_packet, found_plain}
use Rattle.hq_lines.proofs.words.words_said.Goals as goal

pub returns-in-Some-clause-found : goal.returns-in-Some-clause-found
returns-in-Some-clause-found c = found_packet view c.packet_said.result _ (map (λ w. w.now) c.args.words.now) c.in-Some.digits.now c.in-Some.ensures c.packet_said.ensures

pub returns-in-None-clause-found : goal.returns-in-None-clause-found
returns-in-None-clause-found c = found_plain view c.plain_said.result (map (λ w. w.now) c.args.words.now) c.plain_said.ensures
