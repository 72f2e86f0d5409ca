use Rattle.std.proofs.Common.{◌≡◌, true, false, sym, ◌∙◌}
use Rattle.hq_fence.proofs.Linking.{ends_before}
use Rattle.hq_fence.proofs.search.Search.ending.Goals as goal

pub returns-then-not-holds : goal.returns-then-not-holds
returns-then-not-holds c = λ end e.
    let b = ends_before c.args.self.now.before.now c.args.self.now.p c.args.self.now.r c.args.self.now.form c.args.self.now.goal c.args.other end e in
    let x : false ≡ true = sym c.if-not-holds.true ∙ c.holds.ensures.1 b in
    cc
