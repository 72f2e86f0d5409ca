use Rattle.std.proofs.Common.{sym, ap, subst, length, map}
use Rattle.std.proofs.lemmas.List.{length-map}
use Rattle.std.proofs.lemmas.Result.{on_ok_weaker}
use Rattle.hq_cert.specs.View.{line_of}
use Rattle.hq_certcheck.specs.Seen.{HasSeen, SeenValue}
use Rattle.hq_certcheck.proofs.Seeing.{seen_lines}
use Rattle.hq_certcheck.proofs.seen.Seen.conclude.Goals as goal

pub returns : goal.returns
returns c =
    let old : SeenValue = record {
      lines = c.self.inside.lines.items;
      bad_line = c.self.inside.bad_line;
      count = c.self.inside.count;
      flags = c.self.inside.flags.items;
      bad_pair = c.self.inside.bad_pair;
    } in
    let lines = c.args.lines.now in
    on_ok_weaker c.conclude.result
    (λ e job before pairs left none h. seen_lines job before (map line_of lines) pairs left (length lines) old _ (sym (length-map lines line_of)) none
    (ap (λ ls. record { lines = ls; bad_line = old.bad_line; count = old.count; flags = old.flags; bad_pair = old.bad_pair }) e)
    (subst (λ (s : SeenValue). HasSeen job before pairs left s) (sym c.self.view_is) h))
    c.conclude.ensures
