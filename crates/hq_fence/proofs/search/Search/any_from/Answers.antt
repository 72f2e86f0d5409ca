use Rattle.std.proofs.Common.{◌≡◌, ◌<◌, length, inl, inr, refl, ◌∙◌, arith}
use Rattle.std.proofs.lemmas.Bool.{cases_lt}
use Rattle.hq_fence.specs.Judgement.{end_of}
use Rattle.hq_fence.proofs.Linking.{ends_there, any_release}
use Rattle.hq_fence.proofs.search.Search.any_from.Goals as goal

pub loop-x2-preserved : goal.loop-x2-preserved
loop-x2-preserved c = λ k l fences end b e a. elim (cases_lt k c.loop-x2.x2) [
  | inl low ↦ c.loop-x2.invariant k low fences end b e a
  | inr high ↦
      let here : k ≡ c.loop-x2.x2 = omega arith in
      c.in_default.ensures fences end b (e ∙ here) a
]

pub returns : goal.returns
returns c = λ fences end b a.
    let self = c.args.self.now in
    let there : end_of fences < length self.before.now.packets = ends_there self.before.now self.p self.r fences (any_release self.before.now self.p self.r self.form fences a.release) in
    c.loop-x2.invariant (end_of fences) (omega (arith, there)) fences end b refl a
