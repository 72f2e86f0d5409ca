use Rattle.std.proofs.Common.{◌+◌, length, arith}
use Rattle.hq_bits.specs.Bits.{has}
use Rattle.hq_rows.specs.Uniting.{OfChoice}
use Rattle.hq_rows.proofs.Quartets.{joined_five, of_union}
use Rattle.hq_rows.proofs.gathering.unite_choices.Goals as goal

pub returns-then-first-second-ne0-clause-exact : goal.returns-then-first-second-ne0-clause-exact
returns-then-first-second-ne0-clause-exact c = λ p.
    let rows = c.args.known.now.rows.now in
    let unions = c.args.known.now.unions.now in
    let group = c.args.group in
    let words = length c.args.new.now in
    let first = c.union_at in
    let second = c.union_at-then-first-second-ne0 in
    let third = c.union_at-then-first-second-ne0-2 in
    let fourth = c.union_at-then-first-second-ne0-3 in
    joined_five (has c.args.new.now p) (has first.result.now p) (has second.result.now p) (has third.result.now p) (has fourth.result.now p) (has c.unite_four.new.row p)
    (OfChoice rows group c.args.first p) (OfChoice rows (group + 1) c.args.second p) (OfChoice rows (group + 2) c.args.third p) (OfChoice rows (group + 3) c.args.fourth p)
    (c.unite_four.ensures.exact p)
    (of_union rows words group c.args.first p unions first.result.now c.requires.unions (omega (arith, c.requires.group)) c.requires.first first.ensures)
    (of_union rows words (group + 1) c.args.second p unions second.result.now c.requires.unions (omega (arith, c.requires.group)) c.requires.second second.ensures)
    (of_union rows words (group + 2) c.args.third p unions third.result.now c.requires.unions (omega (arith, c.requires.group)) c.requires.third third.ensures)
    (of_union rows words (group + 3) c.args.fourth p unions fourth.result.now c.requires.unions (omega (arith, c.requires.group)) c.requires.fourth fourth.ensures)
