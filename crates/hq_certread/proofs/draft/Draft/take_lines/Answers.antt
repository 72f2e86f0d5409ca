use Rattle.std.specs.Prelude.{map, replicate}
use Rattle.hq_cert.specs.View.{line_of}
use Rattle.hq_certread.specs.DraftView.{blank, kept_of}
use Rattle.hq_certread.proofs.Taking.{lines_taken}
use Rattle.hq_certread.proofs.draft.Draft.take_lines.Goals as goal

pub returns-clause-taken : goal.returns-clause-taken
returns-clause-taken c = lines_taken _ _ _ _ (replicate c.args.self.now.gone blank) (kept_of c.args.self.now) (map line_of c.leading_lines.new.lines.items) c.in_ok-taken.ensures c.requires c.in-Some.ensures
