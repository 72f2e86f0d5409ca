use Rattle.std.proofs.Common.{◌≡◌, ◌+◌, ◌++◌, length, take, drop, arith, sym, ap, subst, refl, ◌∙◌}
use Rattle.hq_copies.specs.Edges.{has, byte_at}
use Rattle.hq_copies.specs.Copies.{count_below}
use Rattle.hq_copies.specs.Overlays.{run_at, Over}
use Rattle.hq_copies.proofs.Overlays.{behind_dropped, covered_held, put_over}
use Rattle.hq_copies.proofs.Within.{lent}
use Rattle.hq_copies.proofs.runs.Runs.overwrite.Goals as goal

pub returns-clause-ok : goal.returns-clause-ok
returns-clause-ok c =
    let edges = c.args.self.now.edges.items in
    let bytes = c.args.self.now.bytes.items in
    let run = c.args.bytes.now in
    let start = c.args.start in
    let first = c.args.first in
    let held : count_below (has edges) (start + length run) ≡ count_below (has edges) start + length run = c.requires.all ∙ ap (λ k. k + length run) c.requires.first in
    let new : c.write_at.new.all ≡ take first bytes ++ run ++ drop (first + length run) bytes = c.write_at.ensures ∙ ap (λ t. take first t ++ run ++ drop (first + length run) t) c.deref_mut.ensures.value in
    let count : length c.write_at.new.all ≡ length bytes = c.write_at.auto.all ∙ ap length c.deref_mut.ensures.value in
    let whole : take c.args.self.now.bytes.len (c.write_at.new.all ++ drop (length c.write_at.new.all) bytes) ≡ c.write_at.new.all = lent c.args.self.now.bytes.len c.write_at.new.all (drop (length c.write_at.new.all) bytes) (omega (arith, count, c.args.self.now.bytes.ok.0)) in
    subst (λ bs. Over (run_at start run) (byte_at (has edges) bytes) (byte_at (has edges) bs)) (sym (whole ∙ new))
    (put_over edges bytes run (drop (first + length run) bytes) start (start + length run) first edges c.requires.runs c.requires.first refl (covered_held edges start (length run) c.requires.runs.rising held)
    (behind_dropped edges bytes (start + length run) (first + length run) c.requires.runs (sym c.requires.all)))
