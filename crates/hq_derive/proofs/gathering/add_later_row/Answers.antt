use Rattle.std.proofs.Common.{sym, subst}
use Rattle.hq_derive.specs.Gathered.{Goes}
use Rattle.hq_derive.proofs.Adding.{goes_same, goes_more}
use Rattle.hq_derive.proofs.gathering.add_later_row.Goals as goal
use Rattle.hq_derive.proofs.gathering.add_later_row.Goals.{then-word-ne0+in_ok-add_later_word, else-word-ne0}

pub loop-place-init : goal.loop-place-init
loop-place-init c = goes_same c.args.before.now c.args.lines.now c.requires.kept

pub loop-place-preserved : goal.loop-place-preserved
loop-place-preserved c =
    let job = c.args.before.now in
    let start = c.args.lines.now in
    elim c.if-word-ne0.branch [
      | then-word-ne0+in_ok-add_later_word w ↦
          subst (Goes job start) (sym w.lines-is) (goes_more job start c.loop-place.lines w.add_later_word.new.lines c.loop-place.invariant w.in_ok-add_later_word.ensures)
      | else-word-ne0 w ↦ subst (Goes job start) (sym w.lines-is) c.loop-place.invariant
    ]
