use Rattle.std.proofs.Common.{codes, refl}
use Rattle.hq_graph.specs.Graph.{ClustersText, Is, PairsText, Then, opening}
use Rattle.hq_graph.specs.declared.part.Part.TheVariants as part
use Rattle.hq_graph.proofs.Joining.{both, both_on, so, so_on}
use Rattle.hq_graph.proofs.drawing.write_all.Goals as goal

pub returns : goal.returns
returns g c =
    let job = c.args.job.now in
    let order = c.args.sight.now.before.now in
    let at = g.W.Write.contents in
    let start = at c.args.writer.now in
    let one = at c.write_opening.new.writer in
    let two = at c.write_clusters.new.writer in
    let three = at c.write_pairs.new.writer in
    let four = at c.write_pairs-2.new.writer in
    let five = at c.write_waits.new.writer in
    let six = at c.write_close.new.writer in
    let A = Is opening in
    let B = Then A (ClustersText job order) in
    let C = Then B (PairsText job order part.Steps) in
    let D = Then C (PairsText job order part.Conflicts) in
    let E = Then D (PairsText job order part.Waits) in
    both_on c.write_close.result start five six E (Is (codes "}\n"))
    (both start four five D (PairsText job order part.Waits)
    (both start three four C (PairsText job order part.Conflicts)
    (both start two three B (PairsText job order part.Steps)
    (both start one two A (ClustersText job order) (so start one A opening refl c.in_ok-write_opening.ensures) c.in_ok-write_clusters.ensures)
    c.in_ok-write_pairs.ensures) c.in_ok-write_pairs-2.ensures) c.in_ok-write_waits.ensures)
    (so_on c.write_close.result five six (Is (codes "}\n")) (codes "}\n") refl c.write_close.ensures)
