use Rattle.std.proofs.Common.{◌∙◌, ◌<◌, ℕ, List, Bool, IsTrue, subst, sym, arith}
use Rattle.hq_bits.specs.Bits.{has}
use Rattle.hq_job.specs.Plan.{plan}
use Rattle.hq_ordercheck.proofs.Packets.{packets_count}
use Rattle.hq_certcheck.proofs.Conflicting.{flagged_unless_found}
use Rattle.hq_certcheck.proofs.possible.Possible.suspects.Goals as goal

pub returns : goal.returns
returns c s is out =
    let job = c.args.job.now in
    let flags = c.args.flags.now in
    let low : s < 1024 = omega (arith, is, packets_count job, c.valid.ensures.limits.packets) in
    let writes = λ (w : IsTrue (has c.args.self.now.writers c.args.p)). subst (λ (b : Bool). IsTrue b) (sym c.has-writes.ensures) w in
    let reads = λ (w : IsTrue (has c.args.self.now.readers c.args.p)). subst (λ (b : Bool). IsTrue b) (sym c.has-reads.ensures) w in
    flagged_unless_found (plan job) flags c.args.self.now.readers c.args.self.now.writers c.requires.possible.roles c.args.p s (omega (arith, c.requires.p_is, packets_count job)) is
    c.others-others.result c.others-others.ensures (has c.suspect-3.new.found s) out
    (λ w o a n. c.suspect-3.ensures.kept s (c.suspect-2.ensures.kept s (c.suspect.ensures.taken (writes w) s (subst (λ (row : List ℕ). IsTrue (has row s)) (sym c.bits.ensures.bits) o) a (c.flags_in.ensures.flags s low ∙ n))))
    (λ w o a n. c.suspect-3.ensures.kept s (c.suspect-2.ensures.taken (writes w) s (subst (λ (row : List ℕ). IsTrue (has row s)) (sym c.bits-2.ensures.bits) o) a (c.flags_in-2.ensures.flags s low ∙ n)))
    (λ w o a n. c.suspect-3.ensures.taken (reads w) s (subst (λ (row : List ℕ). IsTrue (has row s)) (sym c.bits-3.ensures.bits) o) a (c.flags_in-3.ensures.flags s low ∙ n))
