use Rattle.std.proofs.Common.{◌≡◌, true, false, refl, sym, ◌∙◌}
use Rattle.hq_fence.proofs.Linking.{plain_answer}
use Rattle.hq_fence.proofs.search.Search.find.Goals as goal

pub returns-else-allows_chains : goal.returns-else-allows_chains
returns-else-allows_chains c = λ fences end a.
    let self = c.args.self.now in
    c.in_default.ensures fences end (plain_answer self.before.now self.p self.r self.form self.goal fences end c.requires.plain
    (λ system. let x : false ≡ true = sym c.if-allows_chains.false ∙ c.allows_chains.ensures.1 (refl, c.requires.asked.needed ∙ system) in cc) a)
