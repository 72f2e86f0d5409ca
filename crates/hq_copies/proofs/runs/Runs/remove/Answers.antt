use Rattle.std.proofs.Common.{◌≡◌, true, None, sym, ap, ◌∙◌, arith}
use Rattle.hq_copies.specs.Edges.{has}
use Rattle.hq_copies.specs.Copies.{count_below}
use Rattle.hq_copies.proofs.Marks.{Changed, changed_removed, place_held}
use Rattle.hq_copies.proofs.runs.Runs.remove.Goals as goal

pub remove-requires : goal.remove-requires
remove-requires c =
    let i : c.find-held.result.1 ≡ count_below (has c.args.self.now.edges.items) c.args.number = c.find-held.ensures.index ∙ ap (λ t. count_below (has t) c.args.number) c.deref.ensures.value in
    let h : has c.args.self.now.edges.items c.args.number ≡ true = ap (λ t. has t c.args.number) (sym c.deref.ensures.value) ∙ sym c.find-held.ensures.held ∙ c.if-held.true in
    omega (arith, place_held c.args.self.now.edges.items c.args.self.now.bytes.items c.args.number c.requires.runs h, c.args.self.now.bytes.ok.0)

changed : (c : goal.After-remove) → Changed c.args.self.now.edges.items c.args.self.now.bytes.items c.args.number None c.turn.new.edges.items c.remove.new.self.items
changed c =
    let i : c.find-held.result.1 ≡ count_below (has c.args.self.now.edges.items) c.args.number = c.find-held.ensures.index ∙ ap (λ t. count_below (has t) c.args.number) c.deref.ensures.value in
    let h : has c.args.self.now.edges.items c.args.number ≡ true = ap (λ t. has t c.args.number) (sym c.deref.ensures.value) ∙ sym c.find-held.ensures.held ∙ c.if-held.true in
    changed_removed c.args.self.now.edges.items c.args.self.now.bytes.items c.args.number c.find-held.result.1 c.turn.new.edges.items c.remove.new.self.items c.requires.runs h i c.turn.ensures c.remove.ensures.items

pub returns-then-held-clause-runs : goal.returns-then-held-clause-runs
returns-then-held-clause-runs c = (changed c).runs

pub returns-then-held-clause-same : goal.returns-then-held-clause-same
returns-then-held-clause-same c = (changed c).same

pub returns-then-held-clause-others : goal.returns-then-held-clause-others
returns-then-held-clause-others c = (changed c).others
