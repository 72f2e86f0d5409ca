use Rattle.std.proofs.Common.{◌+◌, ap, sym, ◌∙◌, get_or, arith}
use Rattle.hq_model.specs.Machine.{value_or}
use Rattle.hq_copies.specs.Marks.{byte_of}
use Rattle.hq_copies.specs.Overlays.{byte_over}
use Rattle.hq_copies.proofs.Levels.{got, seen_layers}
use Rattle.hq_copies.proofs.level.Level.write_over.Goals as goal

pub returns : goal.returns
returns c i l =
    let n = c.args.from + i in
    let lower = byte_of c.self.inside.lower n in
    let upper = byte_of c.self.inside.upper n in
    let below = get_or c.args.bytes.now i 0 in
    c.write_to-2.ensures i (omega arith)
    ∙ ap (byte_over upper) (c.write_to.ensures i l)
    ∙ seen_layers c.self.inside.dirty upper lower below
    ∙ ap (λ t. value_or t below) (sym (got c.self.inside c.args.self.now c.self.invariant c.self.view_is n))
