use Rattle.std.proofs.Common.{◌≡◌, false, true, sym, subst}
use Rattle.hq_runner.specs.Outcomes.{NoFault}
use Rattle.hq_runner.proofs.Endings.{tells_none, where_ok}
use Rattle.hq_runner.proofs.finish.finish.Goals as goal

pub compare-requires-clause-none : goal.compare-requires-clause-none
compare-requires-clause-none g c = subst (λ xs. NoFault xs) c.deref.ensures.value c.in-None.ensures.all

pub returns-in-None-clause-none : goal.returns-in-None-clause-none
returns-in-None-clause-none g c = where_ok c.compare.result (subst (λ xs. NoFault xs) c.deref.ensures.value c.in-None.ensures.all)

pub returns-in-Some-clause-agrees : goal.returns-in-Some-clause-agrees
returns-in-Some-clause-agrees g c = λ none none_of_host agrees.
    let never : true ≡ false = c.in-Some.ensures.none (subst (λ xs. NoFault xs) (sym c.deref.ensures.value) none) none_of_host in
    cc

pub returns-in-Some-clause-receipts : goal.returns-in-Some-clause-receipts
returns-in-Some-clause-receipts g c = tells_none c.run_fault.result _ c.run_fault.ensures.receipts
