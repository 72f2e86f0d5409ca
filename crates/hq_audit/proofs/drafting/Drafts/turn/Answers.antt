use Rattle.std.proofs.Common.{◌≡◌, refl, [], ◌∷◌, ◌++◌, ◌∙◌, ap, map}
use Rattle.hq_audit.specs.declared.drafting.Drafts.{Drafts}
use Rattle.hq_audit.specs.Packed.{unpacked}
use Rattle.hq_audit.specs.Drafted.{seen, listed}
use Rattle.hq_audit.proofs.Listing.{turned_same, turned_goes}
use Rattle.hq_audit.proofs.drafting.Drafts.turn.Goals as goal

pub returns : goal.returns
returns c =
    let old = c.args.self.now in
    let next = c.in_ok-next.next in
    let shrunk = c.shrink_to_fit.new.self in
    let last = c.replace-last.new.dest in
    let new : Drafts = record { full = c.push.new.self; last = last; needs = old.needs; chained = old.chained } in
    let same : c.replace-last.result ≡ shrunk = c.replace-last.ensures.value in
    turned_goes c.args.before.now old new c.requires refl refl
    (ap (λ l. listed c.push.new.self.items ++ seen l) c.replace-last.ensures.after
    ∙ ap (λ lists. listed lists ++ seen next) (c.in_ok-push.ensures.items ∙ ap (λ l. old.full.items ++ l ∷ []) same) ∙ turned_same old.full.items shrunk next c.in_ok-next.ensures.items
    ∙ ap (λ items. listed old.full.items ++ map unpacked items) c.shrink_to_fit.ensures.items)
