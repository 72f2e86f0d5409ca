use Rattle.std.proofs.Common.{sym, subst}
use Rattle.std.specs.List.{slice_split}
use Rattle.hq_text.specs.Lines.{is_line_feed}
use Rattle.hq_jobtext.specs.RewriteSteps.{Numbered}
use Rattle.hq_jobtext.proofs.RewrittenJob.{text_numbered, reads_so}
use Rattle.hq_jobtext.proofs.rewriting.rewrite.Goals as goal

pub rewrite_lines-requires-clause-numbered : goal.rewrite_lines-requires-clause-numbered
rewrite_lines-requires-clause-numbered c =
    subst (λ ns. Numbered ns (slice_split is_line_feed c.args.text.now)) (sym c.submissions.ensures) (text_numbered c.args.text.now c.args.job.now c.requires.text)

pub returns-clause-job : goal.returns-clause-job
returns-clause-job c =
    reads_so (λ v. v.items) c.rewrite_lines.result c.args.heads.now c.args.job.now c.args.text.now c.submissions.result.now c.submissions.ensures c.requires.text c.rewrite_lines.ensures
