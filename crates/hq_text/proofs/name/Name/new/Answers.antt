use Rattle.std.proofs.Common.{refl, sym}
use Rattle.hq_text.proofs.Spelled.{padded_word}
use Rattle.hq_text.proofs.name.Name.new.Goals as goal

pub invariant_of-result : goal.invariant_of-result
invariant_of-result c =
    padded_word c.args.word.now c.copy_from_slice.new.self _ (c.copy_from_slice.ensures.after) (sym c.if-not-is_name.ensures.value) c.if-not-is_name.ensures.short refl
