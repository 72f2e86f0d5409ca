use Rattle.std.proofs.lemmas.Grind.{common_steps}
use Rattle.std.proofs.Common.{◌∙◌, ◌+◌, ◌++◌, ◌∷◌, [], subst, sym, ap, arith}
use Rattle.std.specs.Prelude.{All, if◌then◌else◌, is_ok}
use Rattle.std.proofs.lemmas.List.Elements.{All-append}
use Rattle.hq_board.specs.declared.entry.View.{View}
use Rattle.hq_board.specs.Calls.{AreInOrder, BoardValue, HasNoList, IsSeatOf}
use Rattle.hq_job.specs.Plan.{plan}
use Rattle.hq_board.specs.Known.{Tied}
use Rattle.hq_board.specs.Rule.{dealer}
use Rattle.hq_board.proofs.Opening.{all_one, one_more}
use Rattle.hq_board.proofs.board.Board.open.Goals as goal

pub loop-queue-preserved : goal.loop-queue-preserved
loop-queue-preserved c =
    let (table, deals, count, job, all, order, lists) = c.loop-queue.invariant in
    let d = c.deal-fresh.ensures in
    let n = c.in_ok-new.ensures in
    let x = c.in_ok-new.field-0 in
    let xs = c.loop-queue.seats.items in
    let e = c.push.ensures.items ∙ ap (λ r. if is_ok r then xs ++ x ∷ [] else xs) c.in_ok-push.was in
    let board : BoardValue = record { job = c.args.accepted.now.job; table = c.in_ok-words.words.table.shared.table_id } in (
      d.table.0 ∙ table,
      d.dealer ∙ ap (λ (v : View). dealer (v.queue + 1)) deals,
      count,
      job,
      subst (All (IsSeatOf board)) (sym e) (All-append (IsSeatOf board) xs (x ∷ []) all (all_one (IsSeatOf board) x (record { table = ap (λ t. t.table_id) n.1 ∙ d.table.1 ∙ table; tied = subst (λ j. Tied (plan j) x) c.job-in-loop-queue.ensures n.0 }))),
      subst (AreInOrder (c.loop-queue.queue + 1)) (sym e) (one_more c.loop-queue.queue xs x order n.2),
      subst (All HasNoList) (sym e) (All-append HasNoList xs (x ∷ []) lists (all_one HasNoList x (ap (λ t. t.me.0.log) n.1 ∙ ap (λ me. me.0.log) d.seat))),
    )

pub deal-fresh-requires-clause-dealer : goal.deal-fresh-requires-clause-dealer
deal-fresh-requires-clause-dealer c = grind (arith, common_steps)
