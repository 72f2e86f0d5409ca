use Rattle.std.proofs.Common.{◌≡◌, ◌++◌, ◌+◌, length, map}
use Rattle.std.specs.Prelude.{MatchOption, unwrap_or}
use Rattle.std.specs.Option.{option_map}
use Rattle.hq_text.specs.Lines.{words_of}
use Rattle.hq_text.proofs.words.words_of.Given as goal

abbrev pub invariant-loop-rest : goal.invariant-loop-rest
invariant-loop-rest l = MatchOption l.rest (words_of l.line ≡ map (λ w. w.now) l.words.items) (λ rest. words_of l.line ≡ map (λ w. w.now) l.words.items ++ words_of rest.now)

abbrev pub decreases-loop-rest : goal.decreases-loop-rest
decreases-loop-rest l = unwrap_or (option_map (λ rest. length rest.now + 1) l.rest) 0
