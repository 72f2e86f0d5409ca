use Rattle.std.proofs.Common.{◌≡◌, ap, sym, ◌∙◌, get_or, arith}
use Rattle.std.proofs.lemmas.Bool.{true≢false}
use Rattle.std.specs.FinMap as finite
use Rattle.hq_model.specs.Machine.{is_dirty}
use Rattle.hq_copies.proofs.Within.{item_is}
use Rattle.hq_copies.proofs.copies.have_no_dirty.Goals as goal

pub returns-then-not-has_no_dirty : goal.returns-then-not-has_no_dirty
returns-then-not-has_no_dirty c = (
  λ t. absurd (true≢false (sym t)),
  λ h.
      let same : c.index-lanes-lane.result ≡ get_or c.args.lanes.now c.lanes.lane finite.empty = item_is c.args.lanes.now c.lanes.lane c.index-lanes-lane.result finite.empty (omega (arith, c.lanes-test.true, c.requires.within)) c.index-lanes-lane.is in
      absurd (true≢false (sym (c.has_no_dirty.ensures.1 (λ b. ap (λ m. is_dirty (finite.get m b)) same ∙ h c.lanes.lane b c.lanes.invariant.from c.lanes-test.true)) ∙ c.if-not-has_no_dirty.true)),
)
