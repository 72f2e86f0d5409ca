use Rattle.std.proofs.Common.{◌≡◌, ℕ, ◌++◌, ◌∷◌, take, List, [], slice_index_or, inl, refl, sym, ap, subst, ◌∙◌, arith, append-nil}
use Rattle.std.proofs.lemmas.Result.{err_from_is_err_and}
use Rattle.hq_text.specs.Intake.{IsWhole}
use Rattle.hq_text.specs.Lines.{lines_of}
use Rattle.hq_text.proofs.Pieces.{whole_both}
use Rattle.hq_job.specs.Plan.{plan}
use Rattle.hq_job.specs.Value.{JobValue}
use Rattle.hq_certread.specs.SoFar.{HasFault}
use Rattle.hq_judging.specs.Checking.{HasChecked, HasCheckedBut}
use Rattle.hq_judging.specs.declared.chunk.Chunk.{Chunk}
use Rattle.std.proofs.lemmas.List.{take_all, take_more_set}
use Rattle.hq_judging.specs.Chunks.{IsLookedAt}
use Rattle.hq_judging.proofs.InChunks.{behind_front, chunk_around, cut_later, later_looked, looked_first, more_behind_front, on_err, on_ok, stays_same}
use Rattle.hq_judging.proofs.checking.Checking.take_chunks.Goals as goal

pub loop-chunk-init : goal.loop-chunk-init
loop-chunk-init c = record {
  looked = c.requires;
  front = [];
  cut = refl;
  whole = inl refl;
  took = λ from lines h. (subst (λ (ls : List (List ℕ)). HasChecked from ls c.args.self.now) (sym (append-nil lines)) h, stays_same c.args.self.now);
}

pub loop-chunk-preserved : goal.loop-chunk-preserved
loop-chunk-preserved c =
    let inv = c.loop-chunk.invariant in
    let job = plan c.args.self.now.job in
    let at = c.args.self.now in
    let i = c.loop-chunk.chunk-index in
    let d = c.chunk-item.result in
    let chunks = c.loop-chunk.chunks in
    let item = slice_index_or chunks i d in
    let rest = c.loop-chunk.rest.now in
    let first = c.split_at.result.0.now in
    let behind = c.split_at.result.1.now in
    let next = looked_first job at chunks i d rest (omega (arith, c.loop-chunk-test.true)) inv.looked in
    record {
      looked = later_looked job at chunks i c.take_chunk.new.chunk rest behind item.len c.split_at.ensures.back next.3;
      front = inv.front ++ first;
      cut = cut_later c.args.text.now inv.front rest first behind item.len inv.cut c.split_at.ensures.front c.split_at.ensures.back;
      whole = whole_both inv.front first inv.whole (subst (λ (t : List ℕ). IsWhole t) (sym c.split_at.ensures.front) next.1);
      took = λ from lines h.
          let so = inv.took from lines h in
          let looked = subst (λ (t : List ℕ). IsLookedAt job at t item) (sym c.split_at.ensures.front) next.2 in
          let took = c.in_ok-take_chunk.ensures.took at from (take i chunks) (lines ++ lines_of inv.front) (subst (λ (j : JobValue). IsLookedAt (plan j) at first item) h.same looked) so.1 so.0 in (
            subst (λ (cs : List Chunk). HasCheckedBut from cs (lines ++ lines_of (inv.front ++ first)) c.take_chunk.new.self) (sym (take_more_set chunks i c.take_chunk.new.chunk (omega (arith, c.loop-chunk-test.true))))
                (subst (λ (ls : List (List ℕ)). HasCheckedBut from (take i chunks ++ c.take_chunk.new.chunk ∷ []) ls c.take_chunk.new.self) (behind_front lines inv.front first inv.whole) took.0),
            took.1,
          );
    }

pub returns-clause-took : goal.returns-clause-took
returns-clause-took c =
    let inv = c.loop-chunk.invariant in
    let i = c.loop-chunk.chunk-index in
    let chunks = c.loop-chunk.chunks in
    let all : take i chunks ≡ chunks = take_all i chunks (omega (arith, c.loop-chunk-test.false, c.loop-chunk.auto.chunks)) in
    on_ok c.take_text.result c.take_text.ensures.took (λ took from lines h.
    subst (λ (cs : List Chunk). HasCheckedBut from cs (lines ++ lines_of c.args.text.now) c.take_text.new.self) all
    (subst (λ (ls : List (List ℕ)). HasCheckedBut from (take i chunks) ls c.take_text.new.self)
    (behind_front lines inv.front c.loop-chunk.rest.now inv.whole ∙ ap (λ t. lines ++ lines_of t) (sym inv.cut))
    (took from (take i chunks) (lines ++ lines_of inv.front) (inv.took from lines h).0).0))

pub returns-clause-fault : goal.returns-clause-fault
returns-clause-fault c =
    let inv = c.loop-chunk.invariant in
    let i = c.loop-chunk.chunk-index in
    let chunks = c.loop-chunk.chunks in
    on_err c.take_text.result c.take_text.ensures.fault
    (λ f fault from lines more h.
    subst (λ (ls : List (List ℕ)). HasFault ls f)
    (more_behind_front lines inv.front c.loop-chunk.rest.now more inv.whole ∙ ap (λ t. lines ++ (lines_of t ++ more)) (sym inv.cut))
    (fault from (take i chunks) (lines ++ lines_of inv.front) more (inv.took from lines h).0))

pub returns-in_err-take_chunk-clause-fault : goal.returns-in_err-take_chunk-clause-fault
returns-in_err-take_chunk-clause-fault c =
    let p = err_from_is_err_and c.from_residual.result c.from_residual.ensures.1 in
    let inv = c.loop-chunk.invariant in
    let job = plan c.args.self.now.job in
    let at = c.args.self.now in
    let i = c.loop-chunk.chunk-index in
    let d = c.chunk-item.result in
    let chunks = c.loop-chunk.chunks in
    let item = slice_index_or chunks i d in
    let rest = c.loop-chunk.rest.now in
    let first = c.split_at.result.0.now in
    let behind = c.split_at.result.1.now in
    let next = looked_first job at chunks i d rest (omega (arith, c.loop-chunk-test.true)) inv.looked in
    let whole = subst (λ (t : List ℕ). IsWhole t) (sym c.split_at.ensures.front) next.1 in
    rw (p.1, p.2)
    (λ from lines more h.
    let so = inv.took from lines h in
    let looked = subst (λ (t : List ℕ). IsLookedAt job at t item) (sym c.split_at.ensures.front) next.2 in
    subst (λ (ls : List (List ℕ)). HasFault ls c.in_err-take_chunk.field-0.0)
    (chunk_around lines inv.front first behind c.args.text.now more inv.whole whole (cut_later c.args.text.now inv.front rest first behind item.len inv.cut c.split_at.ensures.front c.split_at.ensures.back))
    (c.in_err-take_chunk.ensures.fault at from (take i chunks) (lines ++ lines_of inv.front) (lines_of behind ++ more) (subst (λ (j : JobValue). IsLookedAt (plan j) at first item) h.same looked) so.1 so.0))
