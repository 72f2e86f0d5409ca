use Rattle.std.proofs.Common.{rules, ◌≡◌, ◌≤◌, ℕ, ◌∙◌, ap, arith, length, map, subst, sym, refl, List, AllPairs, Bool, true, false, not, IsTrue}
use Rattle.std.proofs.lemmas.List.Elements.{same_from_all_zip}
use Rattle.hq_model.specs.Journal.{numbers}
use Rattle.hq_job.specs.Numbering.{by_number, submissions_of}
use Rattle.hq_tables.specs.TablesView.{tables_of}
use Rattle.hq_tables.specs.declared.rows.Placed.{Placed}
use Rattle.hq_job.proofs.ReadPlan.{fits_read}
use Rattle.hq_job.proofs.Regrouped.{grouped_again, firsts_again}
use Rattle.hq_job.proofs.Submitted.{queue_of}
use Rattle.hq_job.proofs.job.Job.of_tables.Goals as goal

not_set : (b : Bool) → IsTrue (not b) → b ≡ false
not_set false t = refl
not_set true t = absurd cc

pub submissions-requires-clause-firsts : goal.submissions-requires-clause-firsts
submissions-requires-clause-firsts c =
    let copied : c.in_ok-next.next.items ≡ c.in_ok-firsts.firsts.items = same_from_all_zip _ c.in_ok-firsts.firsts.items c.in_ok-next.next.items c.in_ok-next.ensures.cases.0 (λ y e h. h) in
    copied ∙ c.in_ok-firsts.ensures ∙ ap (λ (placed : List Placed). map (λ q. length (by_number q placed)) (numbers c.len-queues.result)) (c.deref.ensures.value ∙ sym c.deref-2.ensures.value)

pub by_number-requires-clause-rises : goal.by_number-requires-clause-rises
by_number-requires-clause-rises c t =
    let placed : c.replace-placed.result.items ≡ c.args.tables.placed.items = ap (λ v. v.items) c.replace-placed.ensures.value in
    subst (λ (ps : List Placed). AllPairs (λ p r. p.queue ≤ r.queue) ps) (sym placed) (c.requires.fit.rises (not_set c.args.tables.rings t))

pub invariant_of-result : goal.invariant_of-result
invariant_of-result c =
    let count : ℕ = length c.args.tables.queues.items in
    let queues : c.len-queues.result ≡ length c.args.tables.queues.items = search rules in
    let placed : c.replace-placed.result.items ≡ c.args.tables.placed.items = ap (λ v. v.items) c.replace-placed.ensures.value in
    let packets : c.in_ok-packets.packets.items ≡ by_number count c.args.tables.placed.items =
    c.in_ok-packets.ensures ∙ ap (λ n. by_number n c.replace-placed.result.items) queues ∙ ap (by_number count) placed in
    let firsts : c.in_ok-firsts.firsts.items ≡ map (λ q. length (by_number q c.args.tables.placed.items)) (numbers count) =
    c.in_ok-firsts.ensures ∙ ap (λ n. map (λ q. length (by_number q c.deref.result.now)) (numbers n)) queues ∙ ap (λ placed. map (λ q. length (by_number q placed)) (numbers count)) c.deref.ensures.value in
    let sent : c.in_ok-submissions.submissions.items ≡ submissions_of c.args.tables.placed.items = c.in_ok-submissions.ensures ∙ ap submissions_of c.deref-2.ensures.value in
    record {
      is_read = rw (packets, sent) (fits_read (tables_of c.args.tables) c.requires.fit c.requires.enough c.requires.exact);
      queues_are = subst (λ ps. map queue_of ps ≡ map queue_of (by_number count ps)) (sym packets) (ap (map queue_of) (sym (grouped_again queue_of count count c.args.tables.placed.items (omega arith))));
      firsts_are = firsts ∙ sym (firsts_again queue_of count count c.args.tables.placed.items (omega arith)) ∙ ap (λ ps. map (λ q. length (by_number q ps)) (numbers count)) (sym packets);
    }
