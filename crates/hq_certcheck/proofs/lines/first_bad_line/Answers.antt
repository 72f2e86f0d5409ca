use Rattle.std.proofs.Common.{◌≡◌, ◌+◌, ◌-◌, ◌<◌, ◌≤◌, ℕ, false, IsTrue, arith, inl, inr, sym, subst, ◌∙◌, ap, length, map}
use Rattle.std.proofs.lemmas.Bool.{cases_lt, ltb-true}
use Rattle.std.proofs.lemmas.List.{length-map}
use Rattle.std.proofs.lemmas.Option.{slice_get_within, slice_get-get_or}
use Rattle.hq_cert.specs.View.{line_of}
use Rattle.hq_job.specs.Plan.{plan}
use Rattle.hq_model.specs.Certificate as model
use Rattle.hq_model.specs.Certificate.{LineHolds}
use Rattle.hq_certcheck.specs.Concluded.{conclusion_of}
use Rattle.hq_certcheck.proofs.Blocks.{stands_here, within_here}
use Rattle.hq_certcheck.proofs.lines.first_bad_line.Goals as goal

pub returns-then-not-line_holds : goal.returns-then-not-line_holds
returns-then-not-line_holds c all same stand =
    let k = c.loop-k.k in
    let found = c.in_ok-line.ensures.lookup in
    let there = stands_here all c.args.from k c.args.found.now c.in_ok-line.line.now (omega arith) (ltb-true (k - c.args.from) (length c.args.found.now) (sym found.0)) found.1 stand in
    record {
      bad = (
        slice_get_within all k (line_of c.in_ok-line.line.now) there,
        λ h. let t : IsTrue c.line_holds.result = (c.line_holds.ensures all same there).1 h in let no : c.line_holds.result ≡ false = c.if-not-line_holds.true in let never : ⊥ = cc in never,
      );
      here = within_here c.args.from k (length c.args.found.now) (omega arith) (ltb-true (k - c.args.from) (length c.args.found.now) (sym found.0));
      others = λ j within. elim (cases_lt j k) [ inl low ↦ inl (c.loop-k.invariant all same stand j within.0 low) | inr high ↦ inr high ];
    }

pub loop-k-preserved : goal.loop-k-preserved
loop-k-preserved c all same stand j high low =
    let k = c.loop-k.k in
    let found = c.in_ok-line.ensures.lookup in
    let there = stands_here all c.args.from k c.args.found.now c.in_ok-line.line.now (omega arith) (ltb-true (k - c.args.from) (length c.args.found.now) (sym found.0)) found.1 stand in
    elim (cases_lt j k) [
      | inl less ↦ c.loop-k.invariant all same stand j high less
      | inr least ↦
          let e : k ≡ j = omega (arith, low, least) in
          subst (LineHolds (plan c.args.job.now) all) e ((c.line_holds.ensures all same there).0 c.if-not-line_holds.false)
    ]

pub returns : goal.returns
returns c all same stand = record {
  bad = tt;
  here = tt;
  others = λ j within. inl (c.loop-k.invariant all same stand j within.0 (below j within));
}
  where
    blank : model.Line
    blank = record { p = 0; r = 0; rule = model.Rule.Queue }

    below : (j : ℕ) → (c.args.from ≤ j) × (j < c.args.from + length c.args.found.now) → j < c.loop-k.k
    below j within =
        let i = j - c.args.from in
        let low : i < length c.args.found.now = omega (arith, within.0, within.1) in
        let there = stand i _ (slice_get-get_or (map line_of c.args.found.now) i blank (omega (arith, low, length-map c.args.found.now line_of))) in
        let here : j < length all = let x = slice_get_within all (c.args.from + i) _ there in omega (arith, x, within.0) in
        let long : length all ≡ length c.args.lines.now = sym (length-map all conclusion_of) ∙ ap length same in
        omega (arith, here, long, c.loop-k-test.false)
