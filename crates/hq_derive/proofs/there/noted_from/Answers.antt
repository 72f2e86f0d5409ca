use Rattle.std.proofs.Common.{◌+◌, ◌*◌, ◌^◌, ◌<◌, inl, inr, length, arith, subst}
use Rattle.hq_derive.specs.Gathered.{lines_of}
use Rattle.hq_derive.specs.Needed.{IsNeeded}
use Rattle.hq_derive.specs.Short.{told}
use Rattle.hq_derive.proofs.Noting.{noted_line}
use Rattle.hq_derive.proofs.there.noted_from.Goals as goal
use Rattle.hq_derive.proofs.there.noted_from.Goals.{then-p-lt-WIDTH+then-r-lt-WIDTH, else-p-lt-WIDTH}

pub loop-k-init : goal.loop-k-init
loop-k-init c = λ p r h. absurd (c.in_ok-noted.ensures.none p r h)

pub loop-k-preserved : goal.loop-k-preserved
loop-k-preserved c = elim c.if-p-lt-WIDTH.branch [
  | then-p-lt-WIDTH+then-r-lt-WIDTH w ↦ λ p r h.
      let lines = lines_of c.args.lines.now in
      let at = c.packets-p.result in
      let noted : IsNeeded w.note.new.self p r = subst (λ needs. IsNeeded needs p r) w.noted-is h in
      let low : c.loop-k.k < length lines = omega (arith, c.loop-k-test.true, c.len-k-end.ensures.is) in
      let small : length lines < 2 ^ 32 = omega (arith, c.len-k-end.ensures.is, c.len-k-end.ensures.small) in
      elim (w.note.ensures.only w.if-p-lt-WIDTH.true w.if-r-lt-WIDTH.true (p * 1024 + r) noted.1) [
        | inl was ↦ c.loop-k.invariant p r (noted.0, was)
        | inr same ↦ noted_line lines c.loop-k.k at.0 at.1 p r (told c.line.result) low small c.line.ensures c.packets-p.ensures.0 c.packets-p.ensures.1 w.if-r-lt-WIDTH.true noted.0 same
      ]
  | else-p-lt-WIDTH w ↦ λ p r h. c.loop-k.invariant p r (subst (λ needs. IsNeeded needs p r) w.noted-is h)
]
