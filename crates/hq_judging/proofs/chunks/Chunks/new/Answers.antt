use Rattle.std.proofs.Common.{[], ◌∷◌, ◌++◌, List, inl, refl, sym, subst, ◌∙◌}
use Rattle.hq_judging.specs.Checking.{HasCheckedBut}
use Rattle.hq_judging.specs.declared.chunk.Chunk.{Chunk}
use Rattle.hq_judging.proofs.InChunks.{hold_none, was_held, was_lost}
use Rattle.hq_judging.proofs.chunks.Chunks.new.Goals as goal
use Rattle.hq_judging.proofs.chunks.Chunks.new.Goals.{else-loop-thread-test, then-loop-thread-test+then-is_err}

pub loop-thread-preserved : goal.loop-thread-preserved
loop-thread-preserved c h =
    let from = c.args.checking in
    let held = was_held c.push.result c.push.new.self.items (c.loop-thread.chunks.items ++ c.new.result ∷ []) c.loop-thread.chunks.items (sym c.is_err.ensures.value ∙ c.if-is_err.false) c.push.ensures.items in
    subst (λ (cs : List Chunk). HasCheckedBut from cs [] from) (sym held) (hold_none from c.loop-thread.chunks.items [] from c.new.result c.new.ensures.none (c.loop-thread.invariant h))

pub returns : goal.returns
returns c h =
    let from = c.args.checking in
    record {
      front = [];
      whole = inl refl;
      cut = sym c.new-2.ensures.items;
      checked = elim c.loop-thread-test.branch [
        | else-loop-thread-test w ↦ subst (λ v. HasCheckedBut from v.items [] from) (sym w.chunks-is) (c.loop-thread.invariant h)
        | then-loop-thread-test+then-is_err w ↦
            let lost = was_lost w.push.result w.push.new.self.items (c.loop-thread.chunks.items ++ w.new.result ∷ []) c.loop-thread.chunks.items (sym w.is_err.ensures.value ∙ w.if-is_err.true) w.push.ensures.items in
            subst (λ v. HasCheckedBut from v.items [] from) (sym w.chunks-is) (subst (λ (cs : List Chunk). HasCheckedBut from cs [] from) (sym lost) (c.loop-thread.invariant h))
      ];
    }
