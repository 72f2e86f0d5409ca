use Rattle.std.proofs.Common.{subst, sym, ap, ◌∙◌, ◌++◌, codes}
use Rattle.std.specs.Fmt.{HasWritten}
use Rattle.hq_report.specs.Shown.{scope_word}
use Rattle.hq_plain.specs.Changes.{place_words}
use Rattle.hq_plain.proofs.Joined.{five_joined, seven_joined}
use Rattle.hq_plain.proofs.changes.FenceLineDisplay.fmt.Goals as goal

pub returns-clause-writes : goal.returns-clause-writes
returns-clause-writes g c plain ok =
    let line = c.args.self.now in
    let place = place_words line.place in
    let old = scope_word line.old in
    let new = scope_word line.new in
    let words = line.fence.now ++ codes " " ++ new ++ codes " (was " ++ old ++ codes ")" in
    rw (sym c.is_other.ensures ∙ c.if-not-is_other.false)
    (subst (λ text. HasWritten g.W.Write.write_str_gives c.args.f.now text c.write.new.self)
    (sym (five_joined (codes "hsaq: ") place (codes ": ") words (codes "\n")
    ∙ ap (λ text. codes "hsaq: " ++ (place ++ (codes ": " ++ text))) (seven_joined line.fence.now (codes " ") new (codes " (was ") old (codes ")") (codes "\n"))))
    (c.write.ensures.writes plain ok))
