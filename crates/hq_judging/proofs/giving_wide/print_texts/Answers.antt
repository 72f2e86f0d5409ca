use Rattle.std.proofs.Common.{ℕ, ◌+◌, List, ◌++◌, drop, sym, subst, IfSome}
use Rattle.hq_job.specs.Plan.{plan}
use Rattle.hq_certtext.specs.Printing.{IsReady}
use Rattle.hq_judging.specs.Giving.{PrintsSuch}
use Rattle.hq_judging.specs.Places.{ArePieces, HasText, IsTextBetween, Leads}
use Rattle.hq_judging.specs.declared.piece.Piece.{Piece}
use Rattle.hq_judging.proofs.Audited.{such_both}
use Rattle.hq_judging.proofs.Places.{between_both, leads_both, next_piece}
use Rattle.hq_judging.proofs.giving_wide.print_texts.Goals.{in-Some+in_ok-text-in-Some, in-None+in_ok-print_between-in-None}
use Rattle.hq_judging.proofs.giving_wide.print_texts.Goals as goal

pub loop-piece-preserved : goal.loop-piece-preserved
loop-piece-preserved g c =
    let contents = g.W.Write.contents in
    let job = plan c.args.job.now in
    let a = c.args.audited.now in
    let from = c.args.from in
    let at = c.loop-piece.at in
    let ps = c.args.pieces.now in
    let k = c.loop-piece.piece-index in
    let piece = c.piece-item.result in
    let found = next_piece job a at ps k piece c.loop-piece-test.true c.loop-piece.invariant.rest in
    let is = sym c.piece-item.is in
    let leads : Leads a at piece.to = subst (λ (p : Piece). Leads a at p.to) is found.0 in
    let text : HasText job a at piece = subst (HasText job a at) is found.1 in
    let rest : ArePieces job a piece.to (drop (k + 1) ps) = subst (λ (p : Piece). ArePieces job a p.to (drop (k + 1) ps)) is found.2 in
    let joined : (t s : List ℕ) → IsTextBetween job a from at t → IsTextBetween job a at piece.to s → IsTextBetween job a from piece.to (t ++ s) = λ t s h m. between_both job a from at piece.to t s h m in
    elim c.match-piece.branch [
      | in-Some+in_ok-text-in-Some w ↦
          (let given : IsTextBetween job a at piece.to w.deref.result.now =
          subst (IsTextBetween job a at piece.to) (sym w.deref.ensures.value) (subst (λ o. IfSome o (λ t. IsTextBetween job a at piece.to t.items)) w.in-Some.is text) in
          record {
            ready = subst IsReady (sym w.printer-is) w.in_ok-text-in-Some.ensures.ready;
            leads = leads_both a from at piece.to c.loop-piece.invariant.leads leads;
            rest = rest;
            prints = subst (λ p. PrintsSuch (IsTextBetween job a from piece.to) (contents c.args.writer.now) c.args.printer.now (contents c.match-piece.writer) p) (sym w.printer-is)
                (subst (λ x. PrintsSuch (IsTextBetween job a from piece.to) (contents c.args.writer.now) c.args.printer.now (contents x) w.text.new.self) (sym w.writer-is)
                (such_both (IsTextBetween job a from at) (IsTextBetween job a at piece.to) (IsTextBetween job a from piece.to) joined c.loop-piece.invariant.prints (record { text = w.deref.result.now; is = given; prints = w.in_ok-text-in-Some.ensures.prints })));
          })
      | in-None+in_ok-print_between-in-None w ↦ record {
        ready = subst IsReady (sym w.printer-is) w.in_ok-print_between-in-None.ensures.ready;
        leads = leads_both a from at piece.to c.loop-piece.invariant.leads leads;
        rest = rest;
        prints = subst (λ p. PrintsSuch (IsTextBetween job a from piece.to) (contents c.args.writer.now) c.args.printer.now (contents c.match-piece.writer) p) (sym w.printer-is)
            (subst (λ x. PrintsSuch (IsTextBetween job a from piece.to) (contents c.args.writer.now) c.args.printer.now (contents x) w.print_between.new.printer) (sym w.writer-is)
            (such_both (IsTextBetween job a from at) (IsTextBetween job a at piece.to) (IsTextBetween job a from piece.to) joined c.loop-piece.invariant.prints w.in_ok-print_between-in-None.ensures.prints));
      }
    ]
