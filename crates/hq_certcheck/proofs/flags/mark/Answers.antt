use Rattle.std.proofs.Common.{◌≡◌, ℕ, ◌+◌, ◌*◌, ◌==◌, ◌||◌, subst}
use Rattle.hq_bits.specs.Bits.{has}
use Rattle.hq_cert.specs.View.{pair_of}
use Rattle.hq_certcheck.proofs.Flagged.{marked}
use Rattle.hq_certcheck.proofs.flags.mark.Goals as goal

pub returns-then-r-count-clause-marked : goal.returns-then-r-count-clause-marked
returns-then-r-count-clause-marked c =
    let pair = pair_of c.args.pair.now in
    let old = c.args.flags.now in
    let new = c.insert.new.row in
    marked pair c.args.count old new c.requires.few c.if-r-count.true
    (subst (λ (row : ℕ). (x : ℕ) → has new x ≡ (has old x || x == (pair.p * 3 + row) * 1024 + pair.r)) c.row_of.ensures c.insert.ensures)
