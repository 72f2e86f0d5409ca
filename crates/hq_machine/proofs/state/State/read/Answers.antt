use Rattle.std.proofs.Common.{sym, ◌∙◌, ap, subst}
use Rattle.hq_job.specs.Plan.{plan}
use Rattle.hq_model.specs.Machine.{lane_sees}
use Rattle.hq_model.specs.Machine.Event.{Read}
use Rattle.hq_events.specs.Rows.{NextRow}
use Rattle.hq_machine.proofs.Reading.{moved_read}
use Rattle.hq_machine.specs.Changes.{Moved}
use Rattle.hq_machine.specs.View.{row_of, state_of}
use Rattle.hq_machine.proofs.state.State.read.Goals as goal

pub returns-in_ok-take_read-in-Some-clause-ok : goal.returns-in_ok-take_read-in-Some-clause-ok
returns-in_ok-take_read-in-Some-clause-ok c =
    let job = plan c.args.job.now in
    let v = c.args.self.now in
    let p = c.args.packet in
    let i = c.args.entry in
    let t = c.in_ok-take_read-in-Some.ensures.ok in
    let may = c.in-Some.ensures in
    let next = subst (λ n. NextRow (row_of v.reads p) n i c.seen-value.result t.row) c.read_count.ensures t.next in
    subst (Moved job v (Read p i)) (sym t.state) (moved_read job v p i c.seen-value.result t.row c.requires may.0 next (c.seen-value.ensures job c.requires ∙ ap (lane_sees job (state_of job v) p) may.1.byte))
