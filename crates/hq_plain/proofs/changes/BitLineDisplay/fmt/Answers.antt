use Rattle.std.proofs.Common.{subst, sym, codes}
use Rattle.std.specs.Fmt.{HasWritten}
use Rattle.hq_plain.specs.Changes.{place_words}
use Rattle.hq_plain.proofs.Joined.{five_joined}
use Rattle.hq_plain.proofs.changes.BitLineDisplay.fmt.Goals as goal

pub returns-in-true-false-clause-writes : goal.returns-in-true-false-clause-writes
returns-in-true-false-clause-writes g c plain ok =
    rw (c.in-true-false.is-0, c.in-true-false.is-1)
    (subst (λ text. HasWritten g.W.Write.write_str_gives c.args.f.now text c.write.new.self)
    (sym (five_joined (codes "hsaq: ") (place_words c.args.self.now.place) (codes ": ") (codes "barrier bit dropped") (codes "\n")))
    (c.write.ensures.writes plain ok))

pub returns-in-false-true-clause-writes : goal.returns-in-false-true-clause-writes
returns-in-false-true-clause-writes g c plain ok =
    rw (c.in-false-true.is-0, c.in-false-true.is-1)
    (subst (λ text. HasWritten g.W.Write.write_str_gives c.args.f.now text c.write-in-false-true.new.self)
    (sym (five_joined (codes "hsaq: ") (place_words c.args.self.now.place) (codes ": ") (codes "barrier bit set") (codes "\n")))
    (c.write-in-false-true.ensures.writes plain ok))
