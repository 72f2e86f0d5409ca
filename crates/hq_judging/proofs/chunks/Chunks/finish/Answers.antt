use Rattle.std.proofs.Common.{◌≡◌, length, ◌++◌, List, ℕ, [], ap, sym, subst, ◌∙◌, append-nil}
use Rattle.std.proofs.lemmas.Result.{err_from_is_err_and}
use Rattle.std.proofs.lemmas.List.{with_items_is}
use Rattle.hq_text.specs.Lines.{lines_of}
use Rattle.hq_certread.specs.SoFar.{HasFault}
use Rattle.hq_judging.specs.Checking.{HasCheckedBut}
use Rattle.hq_judging.specs.declared.chunk.Chunk.{Chunk}
use Rattle.hq_judging.proofs.InChunks.{err_told, last_lines, ok_told}
use Rattle.hq_judging.proofs.chunks.Chunks.finish.Goals as goal

pub returns-in_err-taken : goal.returns-in_err-taken
returns-in_err-taken g c =
    let p = err_from_is_err_and c.from_residual.result c.from_residual.ensures.1 in
    let fault = err_told c.take_meanwhile-taken.result.1 c.in_err-taken.field-0.0 _ c.in_err-taken.was c.take_meanwhile-taken.ensures.fault in
    rw (p.1, p.2)
    (λ from text h.
    subst (λ (ls : List (List ℕ)). HasFault ls c.in_err-taken.field-0.0)
    (ap (λ ls. lines_of h.front ++ ls) (append-nil (lines_of c.deref.result.now)) ∙ last_lines from text c.deref.result.now c.args.self h c.deref.ensures.value)
    (fault from (lines_of h.front) [] (subst (λ (cs : List Chunk). HasCheckedBut from cs (lines_of h.front) c.args.self.checking) (sym c.deref_mut.ensures.value) h.checked)))

pub returns : goal.returns
returns g c = λ from text h.
    let old = c.args.self.chunks in
    let new = c.take_meanwhile-taken.new.chunks in
    let many : length new ≡ old.len = c.take_meanwhile-taken.auto.chunks ∙ ap length c.deref_mut.ensures.value ∙ sym old.ok.0 in
    let took = ok_told c.take_meanwhile-taken.result.1 c.in_ok-taken.field-0 _ c.in_ok-taken.was c.take_meanwhile-taken.ensures.took in
    let checked = took from (lines_of h.front) (subst (λ (cs : List Chunk). HasCheckedBut from cs (lines_of h.front) c.args.self.checking) (sym c.deref_mut.ensures.value) h.checked) in
    c.finish.ensures from (lines_of text)
    (c.check_held.ensures from (lines_of text)
    (subst (λ (cs : List Chunk). HasCheckedBut from cs (lines_of text) c.take_meanwhile-taken.new.self) (sym (c.deref_mut-2.ensures.value ∙ with_items_is old new many))
    (subst (λ (ls : List (List ℕ)). HasCheckedBut from new ls c.take_meanwhile-taken.new.self) (last_lines from text c.deref.result.now c.args.self h c.deref.ensures.value) checked)))
