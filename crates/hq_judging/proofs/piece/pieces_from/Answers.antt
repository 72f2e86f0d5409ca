use Rattle.std.proofs.Common.{◌≡◌, None, sym, subst}
use Rattle.hq_judging.specs.Places.{ArePieces, Leads}
use Rattle.hq_judging.proofs.Places.{end_of, end_of_none, end_of_more, pieces_more}
use Rattle.hq_judging.proofs.piece.pieces_from.Goals as goal

pub loop-piece-init : goal.loop-piece-init
loop-piece-init c =
    let a = c.args.audited.now in
    let from = c.args.from in
    let none = sym c.in_ok-pieces.ensures.items in
    record { are = λ job. subst (ArePieces job a from) none tt; place = c.requires; end = subst (λ ps. end_of from ps ≡ from) none (end_of_none from) }

pub loop-piece-preserved : goal.loop-piece-preserved
loop-piece-preserved c =
    let a = c.args.audited.now in
    let from = c.args.from in
    let before = c.loop-piece.pieces.items in
    let next = c.further-last.result in
    let pushed = sym c.in_ok-push.ensures.items in
    let leads : Leads a (end_of from before) next = subst (λ p. Leads a p next) (sym c.loop-piece.invariant.end) c.further-last.ensures in
    record {
      are = λ job. subst (ArePieces job a from) pushed (pieces_more job a from next before (c.loop-piece.invariant.are job) leads);
      place = c.further-last.ensures.to;
      end = subst (λ ps. end_of from ps ≡ next) pushed (end_of_more from before (record { to = next; text = None }));
    }
