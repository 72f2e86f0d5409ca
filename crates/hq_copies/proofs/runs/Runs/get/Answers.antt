use Rattle.std.proofs.Common.{◌≡◌, true, sym, ap, ◌∙◌, arith}
use Rattle.hq_copies.specs.Edges.{has}
use Rattle.hq_copies.specs.Copies.{count_below}
use Rattle.hq_copies.proofs.Marks.{byte_held, place_held}
use Rattle.hq_copies.proofs.runs.Runs.get.Goals as goal

pub index-requires : goal.index-requires
index-requires c =
    let i : c.find-held.result.1 ≡ count_below (has c.args.self.now.edges.items) c.args.number = c.find-held.ensures.index ∙ ap (λ t. count_below (has t) c.args.number) c.deref.ensures.value in
    let h : has c.args.self.now.edges.items c.args.number ≡ true = ap (λ t. has t c.args.number) (sym c.deref.ensures.value) ∙ sym c.find-held.ensures.held ∙ c.if-held.true in
    omega (arith, place_held c.args.self.now.edges.items c.args.self.now.bytes.items c.args.number c.requires h, c.args.self.now.bytes.ok.0)

pub returns-then-held : goal.returns-then-held
returns-then-held c =
    let i : c.find-held.result.1 ≡ count_below (has c.args.self.now.edges.items) c.args.number = c.find-held.ensures.index ∙ ap (λ t. count_below (has t) c.args.number) c.deref.ensures.value in
    let h : has c.args.self.now.edges.items c.args.number ≡ true = ap (λ t. has t c.args.number) (sym c.deref.ensures.value) ∙ sym c.find-held.ensures.held ∙ c.if-held.true in
    byte_held c.args.self.now.edges.items c.args.self.now.bytes.items c.args.number c.find-held.result.1 c.index.result.now c.requires h i c.index.ensures
