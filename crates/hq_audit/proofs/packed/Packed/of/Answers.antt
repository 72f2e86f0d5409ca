use Rattle.std.proofs.Common.{rules}
use Rattle.hq_audit.proofs.Packing.{packed_is}
use Rattle.hq_audit.proofs.packed.Packed.of.Goals as goal

pub returns : goal.returns
returns c =
    let a = c.args in
    let h = c.requires in
    packed_is _ a.form a.p a.r a.x a.y a.x2 a.y2 h.form h.p_is h.r_is h.x_is h.y_is h.x2_is h.y2_is (search rules)
