use Rattle.std.proofs.Common.{sym, subst}
use Rattle.hq_derive.specs.Gathered.{lines_of, InitialThere}
use Rattle.hq_derive.proofs.Growing.{initial_grown}
use Rattle.hq_derive.proofs.gathering.lines_for.Goals as goal

pub if_all-requires-clause-initial : goal.if_all-requires-clause-initial
if_all-requires-clause-initial g c =
    let ranks = c.in_ok-ranks.ranks in
    let old = c.number_by.new.self in
    let new = c.add_later_lines.new.lines in
    let goes = c.in_ok-add_later_lines.ensures in
    let begun : InitialThere (lines_of old) old.ranks = subst (InitialThere (lines_of old)) (sym c.number_by.ensures.ranks)
    (subst (λ lines. InitialThere lines ranks) (sym c.number_by.ensures.lines) c.in_ok-numbers.ensures.there) in
    subst (InitialThere (lines_of new)) (sym goes.ranks) (initial_grown (lines_of old) (lines_of new) old.ranks goes.grown begun)
