use Rattle.std.proofs.Common.{refl, ap, ◌∙◌, take, drop}
use Rattle.hq_lines.proofs.PacketLines.{with_head_found}
use Rattle.hq_lines.proofs.heads.with_head.Goals as goal

pub returns : goal.returns
returns c =
    with_head_found c.args.line.now c.split_at.result.0.now c.split_at-2.result.0.now c.split_at-2.result.1.now c.digits_of.result c.args.head.now c.head_byte.result _ _ c.requires (record {
      front_is = c.split_at.ensures.front;
      old_is = c.split_at-2.ensures.front ∙ ap (take 2) c.split_at.ensures.back;
      behind_is = c.split_at-2.ensures.back ∙ ap (drop 2) c.split_at.ensures.back;
    }) c.head_byte.ensures.byte refl refl c.digits_of.ensures.kept c.digits_of.ensures.changed
