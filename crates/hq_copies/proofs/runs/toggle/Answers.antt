use Rattle.std.proofs.Common.{◌≡◌, ◌<◌, ◌≤◌, ap, ◌∙◌, length, arith, get_or}
use Rattle.std.proofs.lemmas.Bool.{cond-true}
use Rattle.hq_copies.proofs.Edges.{toggled_absent, toggled_present, known}
use Rattle.hq_copies.proofs.runs.toggle.Goals as goal
use Rattle.hq_copies.proofs.runs.toggle.Goals.{else-at-len-via-then-at-len+else-index-edge, else-at-len-via-else-at-len}

pub returns-then-index-edge-clause-edges : goal.returns-then-index-edge-clause-edges
returns-then-index-edge-clause-edges c =
    let low = rw c.deref.ensures.value at c.place-at.ensures.below in
    let l : c.place-at.result < length c.args.edges.now.items = omega (arith, c.args.edges.now.ok.0) in
    c.remove.ensures.items ∙ toggled_present c.args.edge c.place-at.result c.args.edges.now.items l low (known c.args.edges.now.items c.place-at.result c.index.result.now l c.index.ensures ∙ c.if-index-edge.true)

-- the edge isn't there
pub returns-clause-edges : goal.returns-clause-edges
returns-clause-edges c =
    let within : c.place-at.result ≤ length c.args.edges.now.items = omega (arith, c.place-at.ensures.within, ap length c.deref.ensures.value) in
    let low = rw c.deref.ensures.value at c.place-at.ensures.below in
    let high = rw c.deref.ensures.value at c.place-at.ensures.above in
    c.insert.ensures.items ∙ cond-true _ _ _ (c.insert.ensures.succeeds (omega (arith, c.requires)))
    ∙ toggled_absent c.args.edge c.place-at.result c.args.edges.now.items within low (λ h. elim c.else-at-len.branch [
      | else-at-len-via-then-at-len+else-index-edge w ↦
          let same : get_or c.args.edges.now.items c.place-at.result 0 ≡ w.index.result.now = known c.args.edges.now.items c.place-at.result w.index.result.now h w.index.ensures in
          omega (arith, same, high h, w.if-index-edge.false)
      | else-at-len-via-else-at-len w ↦ absurd (omega (arith, c.args.edges.now.ok.0, w.if-at-len.false))
    ])
