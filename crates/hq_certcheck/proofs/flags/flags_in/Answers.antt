use Rattle.std.proofs.Common.{◌≡◌, ◌+◌, ◌*◌, length, arith, sym, ◌∙◌}
use Rattle.hq_bits.proofs.Words.{eq_test, past}
use Rattle.hq_certcheck.proofs.Flagged.{no_flag}
use Rattle.hq_certcheck.proofs.flags.flags_in.Goals as goal

pub returns-then-is_empty-clause-flags : goal.returns-then-is_empty-clause-flags
returns-then-is_empty-clause-flags c r low =
    let none : length c.args.flags.now ≡ 0 = (eq_test (length c.args.flags.now) 0).0 (sym c.if-is_empty.ensures) in
    no_flag 16 r ∙ sym (past c.args.flags.now ((c.args.p * 3 + c.args.row) * 1024 + r) (omega (arith, none)))
