use Rattle.std.proofs.Common.{rules, ◌≡◌, ◌++◌, List, ℕ, length, take, sym, ap, subst, ◌∙◌}
use Rattle.std.specs.Vec.{with_items}
use Rattle.hq_text.specs.Intake.{IsWhole}
use Rattle.hq_text.specs.Lines.{lines_of}
use Rattle.hq_text.proofs.Pieces.{cut_in_two}
use Rattle.std.proofs.lemmas.List.{with_items_is}
use Rattle.hq_judging.specs.Checking.{HasCheckedBut}
use Rattle.hq_judging.specs.Chunks.{HasWaiting}
use Rattle.hq_judging.specs.declared.checking.Checking.{Checking}
use Rattle.hq_judging.specs.declared.chunk.Chunk.{Chunk}
use Rattle.hq_judging.specs.declared.chunks.Chunks.{Chunks}
use Rattle.hq_judging.proofs.InChunks.{none_lost, on_err, on_ok, waits_faulty, waits_later, was_held}
use Rattle.hq_judging.proofs.chunks.Chunks.step.Goals as goal

pub returns-then-is_err : goal.returns-then-is_err
returns-then-is_err g c =
    let read = c.take_meanwhile-taken.ensures.done.met.1 in
    (read.0, (search rules), (tt, λ from text h more. c.no_memory.ensures (lines_of (text ++ more))))

pub returns : goal.returns
returns g c =
    let read = c.take_meanwhile-taken.ensures.done.met.1 in
    let all = c.take_meanwhile-taken.result in
    let old = c.args.self.now in
    let lines = c.split_at.result.0.now in
    let rest = c.split_at.result.1.now in
    let n = c.whole_waiting-whole.result in
    let new : Chunks = record { checking = c.take_meanwhile-taken.new.self; waiting = c.swap.new.x; searched = length rest; chunks = with_items old.chunks c.take_meanwhile-taken.new.chunks; next = c.swap.new.y } in
    let cut : old.waiting.items ≡ lines ++ rest = sym c.deref.ensures.value ∙ cut_in_two c.deref.result.now lines rest n c.split_at.ensures.front c.split_at.ensures.back in
    let whole : IsWhole lines = subst (λ (t : List ℕ). IsWhole t) (ap (take n) (sym c.deref.ensures.value) ∙ sym c.split_at.ensures.front) c.whole_waiting-whole.ensures.whole in
    let extended = was_held c.extend_from_slice-held.result _ _ _ (sym c.is_err.ensures.value ∙ c.if-is_err.false) c.extend_from_slice-held.ensures.items ∙ ap (λ t. t ++ rest) c.clear.ensures.items in
    let kept = none_lost all.0.1 _ (sym c.is_err-else-is_err.ensures.value ∙ c.if-is_err-2.false) read.2 in
    let many : length c.take_meanwhile-taken.new.chunks ≡ old.chunks.len = c.take_meanwhile-taken.auto.chunks ∙ ap length c.deref_mut.ensures.value ∙ sym old.chunks.ok.0 in
    let held : (from : Checking) (text : List ℕ) (h : HasWaiting from text old) → HasCheckedBut from c.deref_mut.result.now (lines_of h.front) old.checking =
    λ from text h. subst (λ (cs : List Chunk). HasCheckedBut from cs (lines_of h.front) old.checking) (sym c.deref_mut.ensures.value) h.checked in
    let now : c.swap.new.x.items ≡ rest ++ read.0 = ap (λ v. v.items) c.swap.ensures.x_after ∙ kept ∙ ap (λ t. t ++ read.0) extended in (
      read.0,
      (search rules),
      (
        on_ok all.1 c.take_meanwhile-taken.ensures.took
            (λ took from text h. waits_later from text read.0 lines rest old new h whole cut now
            (subst (λ (cs : List Chunk). HasCheckedBut from cs (lines_of h.front ++ lines_of lines) c.take_meanwhile-taken.new.self) (sym (with_items_is old.chunks c.take_meanwhile-taken.new.chunks many))
            (took from (lines_of h.front) (held from text h)))),
        on_err all.1 c.take_meanwhile-taken.ensures.fault
            (λ f fault from text h. waits_faulty from text lines rest old f h whole cut (λ more. fault from (lines_of h.front) more (held from text h))),
      ),
    )
