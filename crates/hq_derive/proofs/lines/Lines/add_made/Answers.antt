use Rattle.std.proofs.Common.{[], length, refl, subst}
use Rattle.hq_derive.specs.Short.{ArePlaced}
use Rattle.hq_derive.specs.Through.{AreThrough}
use Rattle.hq_derive.proofs.Middles.{through_placed, goes_if}
use Rattle.hq_derive.proofs.lines.Lines.add_made.Goals as goal

pub take-requires : goal.take-requires
take-requires g c =
    let ahead = c.args.self.now.lines in
    let made = c.deref.result.now in
    subst (ArePlaced []) c.deref.ensures.value (through_placed ahead made (c.if-not-are_through.ensures refl))

pub returns : goal.returns
returns g c =
    let ahead = c.args.self.now.lines in
    let all = subst (λ shorts. AreThrough ahead shorts 0 (length shorts)) c.deref.ensures.value (c.if-not-are_through.ensures refl) in
    goes_if c.args.before.now c.args.self.now _ _ c.take.result c.requires c.take.ensures.taken c.take.ensures.left refl all
