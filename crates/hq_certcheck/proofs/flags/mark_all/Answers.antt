use Rattle.std.proofs.Common.{◌≡◌, ◌++◌, List, ℕ, map, length, sym, ◌∙◌, subst}
use Rattle.std.proofs.lemmas.List.{with_items_is}
use Rattle.hq_cert.specs.View.{pair_of}
use Rattle.hq_certcheck.specs.Covering.{AreListed}
use Rattle.hq_certcheck.proofs.Flagged.{listed_as}
use Rattle.hq_certcheck.proofs.flags.mark_all.Goals as goal

pub returns-clause-marked : goal.returns-clause-marked
returns-clause-marked c before h =
    let made = c.make_rows.new.flags in
    let new = c.mark_each.new.flags in
    let long : length new ≡ made.len = c.mark_each.ensures.len ∙ sym c.in_ok-make_rows.ensures.len ∙ sym made.ok.0 in
    subst (λ (xs : List ℕ). AreListed (before ++ map pair_of c.args.pairs.now) c.args.count xs) (sym (with_items_is made new long))
    (c.mark_each.ensures.marked before (subst (AreListed before c.args.count) (sym c.deref_mut.ensures.value)
    (listed_as before c.args.count c.args.flags.now.items made.items c.make_rows.ensures.alike h)))
