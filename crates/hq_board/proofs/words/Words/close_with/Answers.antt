use Rattle.std.proofs.Common.{subst, ◌∙◌}
use Rattle.std.specs.Slots.{slots_items}
use Rattle.hq_job.specs.Plan.{plan}
use Rattle.hq_board.specs.Rule.{HasHistory}
use Rattle.hq_board.proofs.Opening.{closes}
use Rattle.hq_board.proofs.words.Words.close_with.Goals as goal

pub returns : goal.returns
returns c =
    let job = plan c.args.self.job.now in
    let (st, h, ws, n, more) = c.close_with-closed.ensures.values.2 in
    let words = slots_items c.close_with-closed.result.words in
    let k : HasHistory job words st.views = subst (λ v. HasHistory (plan v) words st.views) c.args.self.key_is (subst (λ l. HasHistory (plan c.args.self.table.shared.key) l st.views) ws h.0) in
    (k.m, closes job words _ st.views c.requires.valid k (c.copy_out.ensures.count ∙ c.requires.room) c.copy_out.ensures.values (c.histories_run.ensures job k.m c.requires.valid k.legal k.right), k.parts c.args.token.id c.args.token.me.0 h.1)
