use Rattle.std.proofs.Common.{◌<◌, length, arith}
use Rattle.hq_derive.proofs.Founded.{within_first, within_second}
use Rattle.hq_derive.proofs.Branching.{add_answers}
use Rattle.hq_derive.proofs.lines.Lines.between.Goals as goal

pub add-requires-clause-p_is : goal.add-requires-clause-p_is
add-requires-clause-p_is c =
    let b = c.requires.middle.first in
    let low : c.args.p < length c.args.before.now.packets = within_first c.args.before.now b.k c.args.p c.args.m b.within in
    let few = c.requires.kept.few in
    omega arith

pub add-requires-clause-r_is : goal.add-requires-clause-r_is
add-requires-clause-r_is c =
    let b = c.requires.middle.second in
    let low : c.args.r < length c.args.before.now.packets = within_second c.args.before.now b.k c.args.m c.args.r b.within in
    let few = c.requires.kept.few in
    omega arith

pub returns : goal.returns
returns c =
    let a = c.requires.middle.first in
    let b = c.requires.middle.second in
    add_answers c.args.before.now c.args.self.now c.joined.new.self c.add.new.self c.args.p c.args.r c.in_ok-rule.rule c.add.result c.in_ok-rule.ensures.goes
    (within_first c.args.before.now a.k c.args.p c.args.m a.within) (within_second c.args.before.now b.k c.args.m c.args.r b.within) c.in_ok-rule.ensures.follows
    c.add.ensures.lines c.add.ensures.number c.add.ensures.small c.add.ensures.ranks
