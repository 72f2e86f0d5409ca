use Rattle.std.proofs.Common.{◌≡◌, ◌∙◌, ◌++◌, ◌∷◌, [], sym, ap, map, Some, slice_get}
use Rattle.std.proofs.lemmas.Simd.{map-map}
use Rattle.hq_cert.specs.View.{line_of}
use Rattle.hq_certcheck.specs.Concluded.{conclusion_of}
use Rattle.hq_certcheck.proofs.Saying.{meant_at}
use Rattle.hq_certcheck.proofs.Seeing.{with_next}
use Rattle.hq_certcheck.proofs.conclusion.conclude.Goals as goal

pub loop-line-preserved : goal.loop-line-preserved
loop-line-preserved c =
    let found = map conclusion_of (map line_of c.args.found.now) in
    let i = c.loop-line.line-index in
    let item = conclusion_of (line_of c.line-item.result) in
    let there : slice_get found i ≡ Some item = ap (λ cs. slice_get cs i) (map-map conclusion_of line_of c.args.found.now) ∙ meant_at (λ line. conclusion_of (line_of line)) c.args.found.now i c.line-item.result c.loop-line-test.true c.line-item.is in
    c.in_ok-push.ensures.items ∙ ap (λ ls. ls ++ item ∷ []) c.loop-line.invariant ∙ sym (with_next c.args.lines.now.items found i item there)
