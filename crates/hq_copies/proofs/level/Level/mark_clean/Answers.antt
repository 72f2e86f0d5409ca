use Rattle.std.proofs.Common.{ap, refl, sym, ◌∙◌, false}
use Rattle.hq_copies.specs.Copies.{cleaned}
use Rattle.hq_copies.specs.Marks.{byte_of}
use Rattle.hq_copies.proofs.Levels.{got, clean_layers}
use Rattle.hq_copies.proofs.level.Level.mark_clean.Goals as goal

pub returns : goal.returns
returns c n =
    got (record { lower = c.self.inside.lower; upper = c.self.inside.upper; dirty = false }) _ c.self.invariant refl n
    ∙ clean_layers c.self.inside.dirty (byte_of c.self.inside.upper n) (byte_of c.self.inside.lower n)
    ∙ ap cleaned (sym (got c.self.inside c.args.self.now c.self.invariant c.self.view_is n))
