use Rattle.std.proofs.Common.{◌≡◌, ◌∙◌, ◌++◌, [], sym, ap, subst, length, map, append-nil}
use Rattle.std.proofs.lemmas.List.{length-map}
use Rattle.hq_cert.specs.View.{line_of}
use Rattle.hq_job.specs.Plan.{plan}
use Rattle.hq_certcheck.specs.Concluded.{conclusion_of}
use Rattle.hq_certcheck.specs.Listed.{BadLineOf, StandAt}
use Rattle.hq_certcheck.specs.Seen.{SeenValue}
use Rattle.hq_certcheck.proofs.Blocks.{stand_behind}
use Rattle.hq_certcheck.proofs.Seeing.{seen_left}
use Rattle.hq_certcheck.proofs.seen.Seen.take_lines.Goals as goal

pub returns : goal.returns
returns c before pairs left none h =
    let job = plan c.args.job.now in
    let more = map line_of c.args.lines.now in
    let all = before ++ more in
    let with_all = c.in_ok-conclude.ensures job before pairs left none h in
    let from : c.len-from.result ≡ length before =
    c.len-from.ensures ∙ c.self.inside.lines.ok.0 ∙ ap (λ (s : SeenValue). length s.lines) c.self.view_is ∙ sym (ap length h.concluded) ∙ length-map before conclusion_of in
    let said = with_all.concluded ∙ sym (ap (λ (s : SeenValue). s.lines) c.self-2.view_is) ∙ sym c.deref.ensures.value in
    let bad = c.first_bad_line-bad.ensures all said (subst (λ n. StandAt all n more) (sym from) (stand_behind before more)) in
    seen_left job all pairs (left ++ []) left c.note.new.self (append-nil left)
    (c.note.ensures.noted job all pairs (record { from = length before; count = length c.args.lines.now }) left [] with_all
    (subst (λ n. BadLineOf job all (record { from = n; count = length c.args.lines.now }) c.first_bad_line-bad.result) from bad))
