use Rattle.std.proofs.Common.{subst}
use Rattle.hq_lines.specs.Decodes.{Decodes}
use Rattle.hq_lines.proofs.Pairs.{wrong_count, wrong_digit}
use Rattle.hq_lines.proofs.words.packet_bytes.Goals as goal

pub returns-then-digits-ne128-clause-none : goal.returns-then-digits-ne128-clause-none
returns-then-digits-ne128-clause-none c = wrong_count c.args.digits.now c.if-digits-ne128.true

pub returns-then-not-decode_pairs-clause-none : goal.returns-then-not-decode_pairs-clause-none
returns-then-not-decode_pairs-clause-none c = wrong_digit c.args.digits.now c.if-digits-ne128.false (subst (λ b. Decodes c.args.digits.now c.decode_pairs.new.bytes b) c.if-not-decode_pairs.true c.decode_pairs.ensures)
