use Rattle.std.proofs.Common.{◌≡◌, inl, inr, refl, sym, ◌∙◌, ap, arith}
use Rattle.std.proofs.lemmas.Bool.{cases_lt}
use Rattle.hq_fence.specs.Judgement.{begin_of}
use Rattle.hq_fence.specs.Circuits.{number_at}
use Rattle.hq_fence.proofs.Wrapping.{none_in_queue}
use Rattle.hq_fence.proofs.Linking.{begins_there, any_release, ends_from_first}
use Rattle.hq_fence.proofs.search.Search.release.Goals as goal

pub loop-turn-preserved : goal.loop-turn-preserved
loop-turn-preserved c = λ k l fences end b a. elim (cases_lt k c.loop-turn.turn) [
  | inl low ↦ c.loop-turn.invariant k low fences end b a
  | inr high ↦
      let here : k ≡ c.loop-turn.turn = omega arith in
      c.in_default-release_from.ensures fences end (b ∙ ap (number_at c.args.self.now.queue_of_p) here ∙ sym c.at.ensures.number) a
]

pub returns : goal.returns
returns c = λ fences end a.
    let self = c.args.self.now in
    let there = begins_there self.before.now self.p self.r fences (any_release self.before.now self.p self.r self.form fences a.release) in
    none_in_queue self.before.now self.p self.queue_of_p self.queue_of_p (λ x. begin_of fences ≡ x) c.loop-turn.turn
    c.requires.queue_of_p c.requires.queue_of_p.is_circuit refl refl (omega arith)
    (λ k l b. c.loop-turn.invariant k l fences end b a) (begin_of fences) there.0 there.1 refl

pub returns-in_default-ending : goal.returns-in_default-ending
returns-in_default-ending c = λ fences end a.
    let self = c.args.self.now in
    c.in_default-ending.ensures end (ends_from_first self.before.now self.p self.r self.form self.goal fences end a)

pub release_from-requires-in-loop-turn-clause-x_is : goal.release_from-requires-in-loop-turn-clause-x_is
release_from-requires-in-loop-turn-clause-x_is c = (c.requires.queue_of_p.are.of_queue c.at.result c.at.ensures.above c.at.ensures.below).0
