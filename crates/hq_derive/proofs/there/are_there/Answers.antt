use Rattle.std.proofs.Common.{◌<◌, inl, inr, IsTrue, sym, subst, arith, rules, length}
use Rattle.std.proofs.lemmas.Bool.{cases_eq}
use Rattle.hq_derive.specs.Gathered.{lines_of}
use Rattle.hq_derive.specs.Needed.{HasLine, IsNeeded}
use Rattle.hq_derive.proofs.Growing.{initial_line}
use Rattle.hq_derive.proofs.Noting.{needed_low}
use Rattle.hq_derive.proofs.there.are_there.Goals as goal

pub loop-p-preserved : goal.loop-p-preserved
loop-p-preserved c =
    let all : IsTrue c.row_is_noted.result = search rules in
    let lines = lines_of c.args.lines.now in
    let ranks = c.args.ranks.now in
    λ p r below h. elim (cases_eq p c.loop-p.p) [
      | inl here ↦
          let few = c.requires.room.few in
          let len = c.requires.room.len in
          let low : p < length c.args.before.now.packets = needed_low c.args.needs.now (length c.args.before.now.packets) p r len h in
          subst (λ q. HasLine lines q r) (sym here)
          (elim (c.row_is_noted.ensures all r
          (c.row.ensures.has (omega (arith, few, low, here)) (omega (arith, len, low, here)) r (subst (λ q. IsNeeded c.args.needs.now q r) here h))) [
            | inl initial ↦ initial_line lines ranks c.loop-p.p r c.requires.initial initial
            | inr noted ↦ c.in_ok-noted.ensures c.loop-p.p r noted
          ])
      | inr apart ↦ c.loop-p.invariant p r (omega (arith, below, apart)) h
    ]

pub returns : goal.returns
returns c = λ t p r h.
    let len = c.requires.room.len in
    let low = needed_low c.args.needs.now (length c.args.before.now.packets) p r len h in
    c.loop-p.invariant p r (omega (arith, low, c.loop-p-test.false)) h
