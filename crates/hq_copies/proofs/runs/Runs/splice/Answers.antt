use Rattle.std.proofs.Common.{◌≡◌, ◌+◌, ◌++◌, length, take, drop, arith, sym, ap, ap₂, subst, refl, ◌∙◌}
use Rattle.std.proofs.lemmas.List.{length-drop}
use Rattle.hq_copies.specs.Edges.{has, byte_at, IsRuns}
use Rattle.hq_copies.specs.Overlays.{run_at, Over}
use Rattle.hq_copies.proofs.Counts.{count_mono}
use Rattle.hq_copies.proofs.Overlays.{behind_dropped, put_runs, put_over}
use Rattle.hq_copies.proofs.runs.Runs.splice.Goals as goal

pub append_bytes-requires-2 : goal.append_bytes-requires-2
append_bytes-requires-2 c =
    let edges = c.args.self.now.edges.items in
    let bytes = c.args.self.now.bytes.items in
    let end = c.args.start + length c.args.bytes.now in
    let tail = ap length (c.deref-2.ensures.value ∙ c.in_ok-behind.ensures.items ∙ c.behind-behind.ensures ∙ ap (drop c.args.last) c.deref.ensures.value) ∙ length-drop c.args.last bytes in
    let order = count_mono (has edges) c.args.start end (omega arith) in
    omega
    (arith, tail, order, c.requires.first, c.requires.last, c.requires.runs.enough end, c.args.self.now.bytes.ok.0, c.reserve.ensures.len, c.in_ok-reserve.ensures.ok, c.truncate.ensures.len, c.truncate.ensures.capacity, c.append_bytes.ensures.len, c.append_bytes.ensures.capacity)

bytes_are : (c : goal.After-drop-behind-2) → c.append_bytes-2.new.all.items ≡ take c.args.first c.args.self.now.bytes.items ++ c.args.bytes.now ++ drop c.args.last c.args.self.now.bytes.items
bytes_are c =
    c.append_bytes-2.ensures.items
    ∙ ap₂ (λ xs ys. xs ++ ys)
    (c.append_bytes.ensures.items ∙ ap (λ t. t ++ c.args.bytes.now) (c.truncate.ensures.items ∙ ap (take c.args.first) c.reserve.ensures.items))
    (c.deref-2.ensures.value ∙ c.in_ok-behind.ensures.items ∙ c.behind-behind.ensures ∙ ap (drop c.args.last) c.deref.ensures.value)

pub returns-clause-runs : goal.returns-clause-runs
returns-clause-runs c =
    let edges = c.args.self.now.edges.items in
    let bytes = c.args.self.now.bytes.items in
    let end = c.args.start + length c.args.bytes.now in
    subst (IsRuns c.cover.new.edges.items) (sym (bytes_are c))
    (put_runs edges bytes c.args.bytes.now (drop c.args.last bytes) c.args.start end c.args.first c.cover.new.edges.items c.requires.runs c.requires.first refl c.in_ok-cover.ensures.ok
    (behind_dropped edges bytes end c.args.last c.requires.runs c.requires.last))

pub returns-clause-ok : goal.returns-clause-ok
returns-clause-ok c =
    let edges = c.args.self.now.edges.items in
    let bytes = c.args.self.now.bytes.items in
    let end = c.args.start + length c.args.bytes.now in
    subst (λ bs. Over (run_at c.args.start c.args.bytes.now) (byte_at (has edges) bytes) (byte_at (has c.cover.new.edges.items) bs)) (sym (bytes_are c))
    (put_over edges bytes c.args.bytes.now (drop c.args.last bytes) c.args.start end c.args.first c.cover.new.edges.items c.requires.runs c.requires.first refl c.in_ok-cover.ensures.ok
    (behind_dropped edges bytes end c.args.last c.requires.runs c.requires.last))
