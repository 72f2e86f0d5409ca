use Rattle.std.proofs.Common.{◌≡◌, ◌+◌, [], ◌++◌, length, arith, sym, ap, refl, subst, ◌∙◌, take}
use Rattle.std.proofs.lemmas.List.{append-nil}
use Rattle.hq_copies.specs.Edges.{has, toggled, Covered, IsRuns, byte_at}
use Rattle.hq_copies.specs.Copies.{count_below}
use Rattle.hq_copies.specs.Overlays.{run_at, Over}
use Rattle.hq_copies.proofs.Overlays.{Behind, behind_none, covered_last, put_runs, put_over}
use Rattle.hq_copies.proofs.runs.Runs.append.Goals as goal

bytes_are : (c : goal.After-turn) → c.append_bytes.new.all.items ≡ take c.find-index.result.1 c.args.self.now.bytes.items ++ c.args.bytes.now ++ []
bytes_are c =
    c.append_bytes.ensures.items
    ∙ ap (λ t. t ++ c.args.bytes.now) (c.truncate.ensures.items ∙ ap (take c.find-index.result.1) c.reserve-2.ensures.items)
    ∙ sym (append-nil (take c.find-index.result.1 c.args.self.now.bytes.items ++ c.args.bytes.now))

index_is : (c : goal.After-turn) → c.find-index.result.1 ≡ count_below (has c.args.self.now.edges.items) c.args.start
index_is c = c.find-index.ensures.index ∙ ap (λ t. count_below (has t) c.args.start) c.deref.ensures.value

covered : (c : goal.After-turn) → Covered c.args.self.now.edges.items c.args.start (c.args.start + length c.args.bytes.now) c.turn.new.edges.items
covered c =
    let end = c.args.start + length c.args.bytes.now in
    subst (Covered c.args.self.now.edges.items c.args.start end) (sym (c.turn.ensures ∙ ap (λ t. toggled end (toggled c.args.start t)) c.reserve.ensures.items))
    (covered_last c.args.self.now.edges.items c.args.start end c.requires.runs.rising (omega (arith, c.requires.some)) c.requires.beyond)

none : (c : goal.After-turn) → Behind c.args.self.now.edges.items c.args.self.now.bytes.items (c.args.start + length c.args.bytes.now) []
none c = behind_none c.args.self.now.edges.items c.args.self.now.bytes.items (c.args.start + length c.args.bytes.now) (λ n l. c.requires.beyond n (omega arith))

pub returns-clause-runs : goal.returns-clause-runs
returns-clause-runs c = subst (λ bs. IsRuns c.turn.new.edges.items bs) (sym (bytes_are c))
    (put_runs c.args.self.now.edges.items c.args.self.now.bytes.items c.args.bytes.now [] c.args.start (c.args.start + length c.args.bytes.now) c.find-index.result.1 c.turn.new.edges.items c.requires.runs (index_is c) refl (covered c) (none c))

pub returns-clause-ok : goal.returns-clause-ok
returns-clause-ok c =
    subst (λ bs. Over (run_at c.args.start c.args.bytes.now) (byte_at (has c.args.self.now.edges.items) c.args.self.now.bytes.items) (byte_at (has c.turn.new.edges.items) bs)) (sym (bytes_are c))
    (put_over c.args.self.now.edges.items c.args.self.now.bytes.items c.args.bytes.now [] c.args.start (c.args.start + length c.args.bytes.now) c.find-index.result.1 c.turn.new.edges.items c.requires.runs (index_is c) refl (covered c) (none c))
