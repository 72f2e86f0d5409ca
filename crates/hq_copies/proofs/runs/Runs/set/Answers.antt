use Rattle.std.proofs.Common.{◌≡◌, true, false, Some, set, sym, ap, ◌∙◌, arith}
use Rattle.std.proofs.lemmas.Bool.{cond-true}
use Rattle.hq_copies.specs.Edges.{has}
use Rattle.hq_copies.specs.Copies.{count_below}
use Rattle.hq_copies.proofs.Marks.{Changed, changed_inserted, changed_written, place_held}
use Rattle.hq_copies.proofs.runs.Runs.set.Goals as goal

pub index_mut-requires : goal.index_mut-requires
index_mut-requires c =
    let i : c.find-held.result.1 ≡ count_below (has c.args.self.now.edges.items) c.args.number = c.find-held.ensures.index ∙ ap (λ t. count_below (has t) c.args.number) c.deref.ensures.value in
    let h : has c.args.self.now.edges.items c.args.number ≡ true = ap (λ t. has t c.args.number) (sym c.deref.ensures.value) ∙ sym c.find-held.ensures.held ∙ c.if-held.true in
    omega (arith, place_held c.args.self.now.edges.items c.args.self.now.bytes.items c.args.number c.requires.runs h, c.args.self.now.bytes.ok.0)

written : (c : goal.After-self-1) → Changed c.args.self.now.edges.items c.args.self.now.bytes.items c.args.number (Some c.args.byte) c.args.self.now.edges.items (set c.args.self.now.bytes.items c.find-held.result.1 c.args.byte)
written c =
    let i : c.find-held.result.1 ≡ count_below (has c.args.self.now.edges.items) c.args.number = c.find-held.ensures.index ∙ ap (λ t. count_below (has t) c.args.number) c.deref.ensures.value in
    let h : has c.args.self.now.edges.items c.args.number ≡ true = ap (λ t. has t c.args.number) (sym c.deref.ensures.value) ∙ sym c.find-held.ensures.held ∙ c.if-held.true in
    changed_written c.args.self.now.edges.items c.args.self.now.bytes.items c.args.number c.args.byte c.find-held.result.1 c.requires.runs h i

pub returns-then-held-clause-runs : goal.returns-then-held-clause-runs
returns-then-held-clause-runs c = (written c).runs

pub returns-then-held-clause-same : goal.returns-then-held-clause-same
returns-then-held-clause-same c = (written c).same

pub returns-then-held-clause-others : goal.returns-then-held-clause-others
returns-then-held-clause-others c = (written c).others

inserted : (c : goal.Else-is_err) → Changed c.args.self.now.edges.items c.args.self.now.bytes.items c.args.number (Some c.args.byte) c.turn.new.edges.items c.insert.new.self.items
inserted c =
    let i : c.find-held.result.1 ≡ count_below (has c.args.self.now.edges.items) c.args.number = c.find-held.ensures.index ∙ ap (λ t. count_below (has t) c.args.number) c.deref.ensures.value in
    let h : has c.args.self.now.edges.items c.args.number ≡ false = ap (λ t. has t c.args.number) (sym c.deref.ensures.value) ∙ sym c.find-held.ensures.held ∙ c.if-held.false in
    changed_inserted c.args.self.now.edges.items c.args.self.now.bytes.items c.args.number c.args.byte c.find-held.result.1 c.turn.new.edges.items c.insert.new.self.items c.requires.runs h i c.turn.ensures
    (c.insert.ensures.items ∙ cond-true _ _ _ (c.insert.ensures.succeeds (omega (arith, c.requires.room.1))))

pub returns-clause-runs : goal.returns-clause-runs
returns-clause-runs c = (inserted c).runs

pub returns-clause-same : goal.returns-clause-same
returns-clause-same c = (inserted c).same

pub returns-clause-others : goal.returns-clause-others
returns-clause-others c = (inserted c).others
