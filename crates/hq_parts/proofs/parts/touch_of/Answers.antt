use Rattle.hq_parts.proofs.Parting.{reads_left, range_right}
use Rattle.hq_parts.proofs.parts.touch_of.Goals as goal

pub returns : goal.returns
returns c =
    let reads = c.parts_over.result in
    let written = c.parts_of-written.result in
    record {
      reads = reads_left c.args.size reads written c.args.foot.now.reads c.parts_over.ensures;
      touched = range_right c.args.size reads written c.args.foot.now.write c.parts_of-written.ensures;
      written = c.parts_of-written.ensures;
    }
