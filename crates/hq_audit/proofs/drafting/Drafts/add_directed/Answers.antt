use Rattle.hq_audit.proofs.Pairing.{go_more, shown_all}
use Rattle.hq_audit.specs.Drafted.{drafts_of}
use Rattle.hq_audit.proofs.drafting.Drafts.add_directed.Goals as goal

pub returns-clause-goes : goal.returns-clause-goes
returns-clause-goes c =
    let job = c.args.before.now in
    let d0 = c.args.self.now in
    let d1 = c.add_write_read.new.self in
    let d2 = c.add_write_write.new.self in
    let d3 = c.add_read_write.new.self in
    go_more job d0 d1 d3 c.in_ok-add_write_read.ensures.goes (go_more job d1 d2 d3 c.in_ok-add_write_write.ensures.goes c.in_ok-add_read_write.ensures.goes)

pub returns-clause-has : goal.returns-clause-has
returns-clause-has c =
    shown_all c.args.before.now (drafts_of c.add_write_read.new.self) (drafts_of c.add_write_write.new.self) (drafts_of c.add_read_write.new.self) c.args.direction.first c.args.direction.second c.args.direction.shown
    c.requires.shows c.in_ok-add_write_read.ensures.has c.in_ok-add_write_write.ensures.goes.longer c.in_ok-add_write_write.ensures.has c.in_ok-add_read_write.ensures.goes.longer c.in_ok-add_read_write.ensures.has
