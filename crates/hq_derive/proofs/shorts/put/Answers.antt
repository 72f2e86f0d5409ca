use Rattle.hq_derive.proofs.Storing.{line_put, stay_placed}
use Rattle.hq_derive.proofs.shorts.put.Goals as goal

pub returns-clause-puts : goal.returns-clause-puts
returns-clause-puts c =
    let a = c.args in
    let s = c.new.ensures in
    line_put a.form a.p a.r a.first a.second a.shorts.now.items c.push.new.self.items c.new.result c.in_ok-push.ensures.items s.form s.p s.r s.first s.second

pub returns-clause-placed : goal.returns-clause-placed
returns-clause-placed c = stay_placed c.args.form c.args.first c.args.shorts.now.items c.push.new.self.items c.new.result c.in_ok-push.ensures.items c.new.ensures.form c.new.ensures.first
