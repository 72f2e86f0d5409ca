use Rattle.std.proofs.Common.{ℕ, List, Bor, option_map}
use Rattle.hq_words.proofs.words.asked_of_files.Goals as goal

pub returns-in-Some : goal.returns-in-Some
returns-in-Some c =
    let text : Bor (List ℕ) → List ℕ = λ word. word.now in
    rw c.in_ok-job.was (c.in-Some.ensures _ _ _ (option_map text c.args.copies) (option_map text c.args.pair) (option_map text c.args.second) (option_map text c.args.all))
