use Rattle.std.proofs.Common.{◌∙◌, [], List, inl, refl, sym, subst, map, length}
use Rattle.std.proofs.lemmas.List.{length-map}
use Rattle.hq_cert.specs.View.{line_of, pair_of}
use Rattle.hq_job.specs.Plan.{plan}
use Rattle.hq_model.specs.Certificate.{Line, Pair}
use Rattle.hq_certcheck.specs.Concluded.{bare}
use Rattle.hq_certcheck.specs.Listed.{BadPairIs}
use Rattle.hq_certcheck.specs.Seen.{HasSeen}
use Rattle.hq_certcheck.proofs.Blocks.{block_of_all}
use Rattle.hq_certcheck.proofs.wide.seen_wide.Goals as goal

pub first_bad_line-bad_line-requires-after_bounds : goal.first_bad_line-bad_line-requires-after_bounds
first_bad_line-bad_line-requires-after_bounds g c κs lives =
    let h = c.in_ok-conclude.ensures (plan c.args.job.now) [] [] [] (inl refl) c.new-seen.ensures in h.concluded ∙ sym c.lines.ensures

pub returns : goal.returns
returns g c =
    let job = plan c.args.job.now in
    let lines = map line_of c.lines-lines.result.now in
    let pairs = map pair_of c.pairs-pairs.result.now in
    let h = c.in_ok-conclude.ensures job [] [] [] (inl refl) c.new-seen.ensures in
    let noted = c.note.ensures.noted job lines [] (record { from = 0; count = length c.lines-lines.result.now }) [] [] h
    (block_of_all job lines (length c.lines-lines.result.now) c.first_bad_line-bad_line.result (sym (length-map c.lines-lines.result.now line_of)) c.first_bad_line-bad_line.ensures) in
    subst (λ (ls : List Line). HasSeen job ls c.args.certificate.now.pairs [] c.put.new.self) c.lines-lines.ensures
    (subst (λ (ps : List Pair). HasSeen job lines ps [] c.put.new.self) c.pairs-pairs.ensures
    (c.in_ok-put.ensures job lines [] [] noted (subst (λ ls. BadPairIs job (map bare ls) pairs c.first_bad_pair-bad_pair.result) c.lines-2.ensures c.first_bad_pair-bad_pair.ensures)))
