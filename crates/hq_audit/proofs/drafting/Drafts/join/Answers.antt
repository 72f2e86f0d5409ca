use Rattle.std.proofs.Common.{refl, [], ◌∷◌, ◌++◌, ◌||◌, ◌∙◌, ap}
use Rattle.hq_audit.specs.declared.drafting.Drafts.{Drafts}
use Rattle.hq_audit.specs.Drafted.{seen, listed}
use Rattle.hq_audit.proofs.Listing.{joined_lists, drafts_join}
use Rattle.hq_audit.proofs.drafting.Drafts.join.Goals as goal

pub returns : goal.returns
returns c =
    let old = c.args.self.now in
    let others = c.args.others.now in
    let new : Drafts = record { full = c.append.new.self; last = c.replace-last.new.dest; needs = c.take_in.new.self; chained = old.chained || others.chained } in
    drafts_join c.args.before.now old others new c.requires.are c.requires.others c.take_in.ensures.widens c.take_in.ensures.taken
    (ap (λ l. listed c.append.new.self.items ++ seen l) (c.replace-last.ensures.after ∙ c.replace-next.ensures.value)
    ∙ ap (λ lists. listed lists ++ seen others.last) (c.in_ok-append.ensures.items ∙ ap (λ lists. lists ++ others.full.items) (c.in_ok-push.ensures.items ∙ ap (λ l. old.full.items ++ l ∷ []) c.replace-last.ensures.value)) ∙ joined_lists old.full.items others.full.items old.last others.last) refl
