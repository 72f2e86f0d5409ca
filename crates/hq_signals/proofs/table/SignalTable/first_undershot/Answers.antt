use Rattle.std.proofs.Common.{None, rules, tests, ap}
use Rattle.std.proofs.lemmas.Iterator.Consumers.{YieldsList-from_rest}
use Rattle.std.proofs.lemmas.Iterator.Search.{find_from_yields_List}
use Rattle.std.specs.Option.{option_map}
use Rattle.hq_signals.specs.Table.{IsUndershot}
use Rattle.hq_signals.proofs.Entries.{undershot, tells_undershot, handle_of, finds}
use Rattle.hq_signals.proofs.table.SignalTable.first_undershot.Goals as goal

pub returns-in_err-handle : goal.returns-in_err-handle
returns-in_err-handle c =
    let es = c.self.inside.signals.entries in
    let found = find_from_yields_List undershot _ _ c.find.result c.find.ensures.ran (YieldsList-from_rest es c.iter.ensures.rest) (λ x b q k. search (rules, tests)) in
    rw (← c.self.view_is, c.from_residual.ensures) (finds IsUndershot undershot tells_undershot es c.find.result None found (ap (option_map handle_of) c.in_err-handle.was))

pub returns : goal.returns
returns c =
    let es = c.self.inside.signals.entries in
    let found = find_from_yields_List undershot _ _ c.find.result c.find.ensures.ran (YieldsList-from_rest es c.iter.ensures.rest) (λ x b q k. search (rules, tests)) in
    rw (← c.self.view_is) (finds IsUndershot undershot tells_undershot es c.find.result _ found (ap (option_map handle_of) c.in_ok-handle.was))
