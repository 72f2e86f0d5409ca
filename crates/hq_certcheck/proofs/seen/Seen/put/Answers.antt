use Rattle.std.proofs.Common.{ap, sym, subst}
use Rattle.std.specs.Prelude.{map}
use Rattle.hq_cert.specs.View.{pair_of}
use Rattle.hq_certcheck.specs.Concluded.{bare}
use Rattle.hq_certcheck.specs.Listed.{BadPairIs}
use Rattle.hq_certcheck.specs.Seen.{HasSeen, SeenValue}
use Rattle.hq_certcheck.proofs.Seeing.{seen_more}
use Rattle.hq_certcheck.proofs.seen.Seen.put.Goals as goal

pub returns : goal.returns
returns c job lines before left h told =
    let found = map pair_of c.args.pairs.now in
    let old : SeenValue = record {
      lines = c.self.inside.lines.items;
      bad_line = c.self.inside.bad_line;
      count = c.self.inside.count;
      flags = c.self.inside.flags.items;
      bad_pair = c.self.inside.bad_pair;
    } in
    let new = c.mark_all.new.flags.items in
    let put : SeenValue = record { lines = old.lines; bad_line = old.bad_line; count = old.count; flags = new; bad_pair = c.or-self-inside.result } in
    seen_more job lines before found left old put c.args.bad (c.in_ok-mark_all.ensures.marked before)
    (ap (λ b. record { lines = old.lines; bad_line = old.bad_line; count = old.count; flags = new; bad_pair = b }) c.or-self-inside.ensures)
    (subst (λ (s : SeenValue). BadPairIs job (map bare s.lines) found c.args.bad) (sym c.self.view_is) told)
    (subst (λ (s : SeenValue). HasSeen job lines before left s) (sym c.self.view_is) h)
