use Rattle.std.proofs.Common.{ℕ, ◌↔◌, ap, sym, subst, ◌∙◌, length, List}
use Rattle.hq_bits.specs.Bits.{Grown}
use Rattle.hq_job.specs.Plan.{plan}
use Rattle.hq_rows.specs.Matrix.{row, Marks, IsSquare}
use Rattle.hq_rows.specs.Uniting.{Stepped}
use Rattle.hq_order.specs.Rounds.{Next}
use Rattle.hq_order.proofs.Single.{count}
use Rattle.hq_order.proofs.Stepping.{restored, steps_are}
use Rattle.hq_order.proofs.wide.next_rows_wide.Goals as goal

pub returns-clause-square : goal.returns-clause-square
returns-clause-square g c =
    let job = plan c.args.job.now in
    let n = length c.args.job.now.packets in
    let rows = c.args.known.now.rows.now in
    let old = c.in_ok-new.new in
    let new = c.unite_parts.new.rows in
    let long = c.unite_parts.ensures.len ∙ ap length c.deref_mut.ensures.value in
    let back = restored new old.items old.len long old.ok.0 in
    let steps = steps_are job n rows new (sym (count c.args.job.now)) c.requires.square (long ∙ c.in_ok-new.ensures.len) c.unite_parts.ensures.steps c.requires.no_either in
    subst (IsSquare n) (sym back) steps.square

pub returns-clause-grown : goal.returns-clause-grown
returns-clause-grown g c =
    let job = plan c.args.job.now in
    let n = length c.args.job.now.packets in
    let rows = c.args.known.now.rows.now in
    let old = c.in_ok-new.new in
    let new = c.unite_parts.new.rows in
    let long = c.unite_parts.ensures.len ∙ ap length c.deref_mut.ensures.value in
    let back = restored new old.items old.len long old.ok.0 in
    let steps = steps_are job n rows new (sym (count c.args.job.now)) c.requires.square (long ∙ c.in_ok-new.ensures.len) c.unite_parts.ensures.steps c.requires.no_either in
    subst (λ xs. (r : ℕ) → Grown (row rows r) (row xs r)) (sym back) steps.grown

pub returns-clause-exact : goal.returns-clause-exact
returns-clause-exact g c =
    let job = plan c.args.job.now in
    let n = length c.args.job.now.packets in
    let rows = c.args.known.now.rows.now in
    let old = c.in_ok-new.new in
    let new = c.unite_parts.new.rows in
    let long = c.unite_parts.ensures.len ∙ ap length c.deref_mut.ensures.value in
    let back = restored new old.items old.len long old.ok.0 in
    let steps = steps_are job n rows new (sym (count c.args.job.now)) c.requires.square (long ∙ c.in_ok-new.ensures.len) c.unite_parts.ensures.steps c.requires.no_either in
    subst (λ xs. (p r : ℕ) → Marks xs p r ↔ Next job (Marks rows) p r) (sym back) steps.exact

pub returns-clause-stepped : goal.returns-clause-stepped
returns-clause-stepped g c =
    let job = plan c.args.job.now in
    let n = length c.args.job.now.packets in
    let rows = c.args.known.now.rows.now in
    let old = c.in_ok-new.new in
    let new = c.unite_parts.new.rows in
    let long = c.unite_parts.ensures.len ∙ ap length c.deref_mut.ensures.value in
    let back = restored new old.items old.len long old.ok.0 in
    let steps = steps_are job n rows new (sym (count c.args.job.now)) c.requires.square (long ∙ c.in_ok-new.ensures.len) c.unite_parts.ensures.steps c.requires.no_either in
    subst (λ xs. (renewed : List ℕ) → Stepped rows xs renewed) (sym back) steps.stepped
