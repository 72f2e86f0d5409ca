use Rattle.std.proofs.Common.{◌≡◌, sym, ◌∙◌, subst, map}
use Rattle.hq_cert.specs.View.{line_of}
use Rattle.hq_job.specs.Plan.{plan}
use Rattle.hq_model.specs.Certificate.{Line, Follows}
use Rattle.hq_ordercheck.proofs.Options.{some_same}
use Rattle.hq_certcheck.specs.Concluded.{bare, conclusion_of}
use Rattle.hq_certcheck.proofs.Alike.{bare_concludes, follows_agreed, they_agree}
use Rattle.hq_certcheck.proofs.lines.line_holds.Goals as goal

pub returns : goal.returns
returns c all same there =
    let job = plan c.args.job.now in
    let k = c.args.k in
    let line = line_of c.args.line.now in
    let said = map bare c.args.lines.now in
    let alike : map conclusion_of said ≡ map conclusion_of all = bare_concludes c.args.lines.now ∙ sym same in (
      λ t other e.
          let P : Line → Type 0 = λ x. Follows job all k x.p x.r x.rule in
          subst P (some_same line other (sym there ∙ e)) (follows_agreed said all k (they_agree said all alike k) job line.p line.r line.rule (c.follows.ensures.0 t)),
      λ h. c.follows.ensures.1 (follows_agreed all said k (they_agree all said (sym alike) k) job line.p line.r line.rule (h line there)),
    )
