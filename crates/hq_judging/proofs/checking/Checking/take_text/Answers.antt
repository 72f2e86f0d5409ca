use Rattle.std.proofs.Common.{◌≡◌, ◌⊎◌, ◌++◌, [], inl, inr, ap, sym, ◌∙◌}
use Rattle.std.proofs.lemmas.Result.{err_from_is_err_and}
use Rattle.std.specs.Prelude.{map}
use Rattle.hq_cert.specs.View.{line_of, pair_of}
use Rattle.hq_text.specs.Lines.{lines_of}
use Rattle.hq_job.specs.Plan.{plan}
use Rattle.hq_certread.specs.SoFar.{lines_in, pairs_in}
use Rattle.hq_certread.proofs.LetGo.{stand_gone}
use Rattle.hq_certcheck.proofs.Seeing.{seen_as}
use Rattle.hq_judging.specs.Checking.{block_of}
use Rattle.hq_judging.proofs.InChunks.{held_longer, no_fault, on_both, same_said}
use Rattle.hq_judging.proofs.checking.Checking.take_text.Goals as goal

both : {P Q : Type 0} → P → Q → P × Q
both p q = (p, q)

pub returns-clause-took : goal.returns-clause-took
returns-clause-took c = on_both c.let_go.result c.let_go.ensures.gone (on_both c.let_go.result c.let_go.ensures.none c.let_go.ensures.closed both)
    (λ gone let_go from chunks lines h.
    let job = plan c.args.self.now.job in
    let read = lines_in c.take.new.self in
    let pairs = pairs_in c.take.new.self in
    let left = map block_of chunks in
    let stand : (h.gone ≡ []) ⊎ (read ≡ []) = elim (stand_gone h.gone c.args.self.now.progress c.take.new.self (c.in_ok-take.ensures.lines lines h.front h.gone h.taken)) [ inl none ↦ inl none | inr same ↦ inr (same ∙ h.no_lines) ] in
    let took_lines = no_fault c.take_lines.result _ (sym c.is_err.ensures.value ∙ c.if-is_err.false) c.take_lines.ensures in
    let lines_seen = took_lines h.front h.gone left (elim stand [ inl none ↦ inl none | inr same ↦ inr (c.lines.ensures ∙ same) ]) h.seen in
    let took_pairs = no_fault c.take_pairs.result _ (sym c.is_err-2.ensures.value ∙ c.if-is_err-2.false) c.take_pairs.ensures in
    let now = seen_as job c.take_pairs.new.self (h.front ++ map line_of c.lines.result.now) (h.front ++ read) (h.gone ++ map pair_of c.pairs.result.now) (h.gone ++ pairs) left
    (ap (λ ls. h.front ++ ls) c.lines.ensures) (ap (λ ps. h.gone ++ ps) c.pairs.ensures) (took_pairs (h.front ++ map line_of c.lines.result.now) h.gone left lines_seen) in (
      record {
        same = h.same;
        front = h.front ++ read;
        gone = h.gone ++ pairs;
        taken = gone _ h.front h.gone (c.in_ok-take.ensures.taken lines h.front h.gone h.taken);
        seen = now;
        held = held_longer h.front read chunks h.held;
        no_lines = let_go.0.0;
        no_pairs = let_go.0.1;
      },
      λ past.
          let closed = c.in_ok-take.ensures.closed past in
          (let_go.1 closed.0, same_said h.front read c.args.self.now.seen.lines c.take_pairs.new.self.lines (closed.1 ∙ h.no_lines) h.seen.concluded now.concluded),
    ))

pub returns-in_err-take-clause-fault : goal.returns-in_err-take-clause-fault
returns-in_err-take-clause-fault c =
    let p = err_from_is_err_and c.from_residual.result c.from_residual.ensures.1 in
    rw (p.1, p.2) (λ from chunks lines more h. c.in_err-take.ensures.fault lines more h.front h.gone h.taken)

pub returns-then-is_err-clause-fault : goal.returns-then-is_err-clause-fault
returns-then-is_err-clause-fault c from chunks lines more h = c.no_memory.ensures (lines ++ (lines_of c.args.text.now ++ more))

pub returns-then-is_err-2-clause-fault : goal.returns-then-is_err-2-clause-fault
returns-then-is_err-2-clause-fault c from chunks lines more h = c.no_memory-then-is_err-2.ensures (lines ++ (lines_of c.args.text.now ++ more))
