use Rattle.std.proofs.Common.{◌++◌, take, [], arith, refl, sym, ◌∙◌, append-nil}
use Rattle.hq_text.proofs.Taken.{starts, gives_more, kept_more, none_kept}
use Rattle.hq_text.proofs.take.read_on.Goals as goal
use Rattle.hq_text.proofs.take.read_on.Goals.{then-is_ok, else-is_ok}

pub loop-turn-init : goal.loop-turn-init
loop-turn-init g c = record { given = []; turned = starts _ g.S.Source.Turned c.args.source.now [] refl; kept = sym (append-nil c.args.text.now.items) }

pub loop-turn-preserved : goal.loop-turn-preserved
loop-turn-preserved g c =
    let so = c.loop-turn.invariant in
    let all = so.given ++ take c.in-Some.count c.turn.new.buffer in
    record {
      given = all;
      turned = gives_more _ g.S.Source.Turned c.args.source.now c.loop-turn.source c.turn.new.self c.loop-turn._turn c.in-Some.count so.given c.turn.new.buffer all so.turned (omega arith) c.in-Some.ensures.turned refl;
      kept = elim c.if-is_ok.branch [
        | then-is_ok w ↦ rw (w.kept-is, w.text-is) (kept_more c.loop-turn.kept w.extend_from_slice-kept.result c.args.text.now.items so.given (take c.in-Some.count c.turn.new.buffer) c.loop-turn.text.items w.extend_from_slice-kept.new.self.items
            (sym c.is_ok.ensures.value ∙ w.if-is_ok.true) so.kept w.extend_from_slice-kept.ensures.items)
        | else-is_ok w ↦ rw (w.kept-is, w.text-is) (none_kept c.loop-turn.kept _ (sym c.is_ok.ensures.value ∙ w.if-is_ok.false))
      ];
    }
