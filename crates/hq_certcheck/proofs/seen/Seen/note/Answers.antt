use Rattle.std.proofs.Common.{refl, sym, ap, subst, ◌++◌, ◌∷◌}
use Rattle.hq_certcheck.specs.Seen.{HasSeen, SeenValue}
use Rattle.hq_certcheck.proofs.Seeing.{seen_noted}
use Rattle.hq_certcheck.proofs.seen.Seen.note.Goals as goal

pub returns-clause-noted : goal.returns-clause-noted
returns-clause-noted c job lines pairs block front behind h bad =
    let old : SeenValue = record {
      lines = c.self.inside.lines.items;
      bad_line = c.self.inside.bad_line;
      count = c.self.inside.count;
      flags = c.self.inside.flags.items;
      bad_pair = c.self.inside.bad_pair;
    } in
    let least = c.least-self-inside.ensures in
    seen_noted job lines pairs front behind block c.args.bad old _ c.least-self-inside.result refl least.either least.one least.other
    (subst (λ (s : SeenValue). HasSeen job lines pairs (front ++ block ∷ behind) s) (sym c.self.view_is) h) bad

pub returns-clause-lines : goal.returns-clause-lines
returns-clause-lines c = ap (λ (s : SeenValue). s.lines) c.self.view_is
