use Rattle.std.proofs.Common.{[], inl, refl, subst, List, map}
use Rattle.hq_cert.specs.View.{line_of}
use Rattle.hq_job.specs.Plan.{plan}
use Rattle.hq_model.specs.Certificate.{Line, Pair}
use Rattle.hq_certcheck.specs.Seen.{HasSeen}
use Rattle.hq_certcheck.proofs.seen.Seen.of.Goals as goal

pub returns : goal.returns
returns c =
    let job = plan c.args.job.now in
    subst (λ (ls : List Line). HasSeen job ls c.args.certificate.now.pairs [] c.take_pairs.new.self) c.lines.ensures
    (subst (λ (ps : List Pair). HasSeen job (map line_of c.lines.result.now) ps [] c.take_pairs.new.self) c.pairs.ensures
    (c.in_ok-take_pairs.ensures (map line_of c.lines.result.now) [] [] (c.in_ok-take_lines.ensures [] [] [] (inl refl) c.new-seen.ensures)))
