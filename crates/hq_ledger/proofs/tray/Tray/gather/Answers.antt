use Rattle.std.proofs.Common.{arith, take, sym, ap, ◌∙◌}
use Rattle.std.specs.Prelude.{◌++◌}
use Rattle.std.specs.Option.{option_to_list}
use Rattle.std.proofs.lemmas.List.{append-nil, take_all}
use Rattle.hq_ledger.specs.Trays.{homes_from}
use Rattle.hq_ledger.proofs.Homes.{homes_ahead, gathered_more}
use Rattle.hq_ledger.proofs.Notes.{learned_both}
use Rattle.hq_ledger.proofs.tray.Tray.gather.Goals as goal
use Rattle.hq_ledger.proofs.tray.Tray.gather.Goals.{in-Some+in_ok-push, in_default}

pub returns-clause-order : goal.returns-clause-order
returns-clause-order c = rw c.loop-number.invariant.homes (homes_ahead 0 (take c.loop-number.number c.loop-number.self.known))

pub look-requires : goal.look-requires
look-requires c = omega (arith, c.loop-number-test.true, c.cells-number-end.ensures.cells, c.loop-number.invariant.learned.cells)

pub returns-clause-homes : goal.returns-clause-homes
returns-clause-homes c =
    c.loop-number.invariant.homes
    ∙ ap (homes_from 0) (take_all c.loop-number.number c.loop-number.self.known (omega (arith, c.loop-number-test.false, c.cells-number-end.ensures.cells, c.loop-number.invariant.learned.cells)))

pub returns-in_err-home-clause-packets : goal.returns-in_err-home-clause-packets
returns-in_err-home-clause-packets c = c.look.ensures.packets ∙ c.loop-number.invariant.packets

pub returns-in_err-home-clause-learned : goal.returns-in_err-home-clause-learned
returns-in_err-home-clause-learned c = learned_both c.args.self.now.known c.loop-number.self.known c.look.new.self.known c.loop-number.invariant.learned c.look.ensures.learned

pub returns-in_err-push-clause-packets : goal.returns-in_err-push-clause-packets
returns-in_err-push-clause-packets c = c.look.ensures.packets ∙ c.loop-number.invariant.packets

pub returns-in_err-push-clause-learned : goal.returns-in_err-push-clause-learned
returns-in_err-push-clause-learned c = learned_both c.args.self.now.known c.loop-number.self.known c.look.new.self.known c.loop-number.invariant.learned c.look.ensures.learned

pub loop-number-preserved : goal.loop-number-preserved
loop-number-preserved c = record {
  packets = c.look.ensures.packets ∙ c.loop-number.invariant.packets;
  learned = learned_both c.args.self.now.known c.loop-number.self.known c.look.new.self.known c.loop-number.invariant.learned c.look.ensures.learned;
  homes = gathered_more c.loop-number.self.known c.look.new.self.known c.loop-number.homes.items c.match-branch-2.homes.items c.in_ok-home.field-0 c.loop-number.number
      (omega (arith, c.loop-number-test.true, c.cells-number-end.ensures.cells, c.loop-number.invariant.learned.cells, c.look.ensures.learned.cells)) c.loop-number.invariant.homes c.look.ensures.before c.in_ok-home.ensures.found
      (elim c.match-branch-2.branch [
        | in-Some+in_ok-push w ↦ ap (λ v. v.items) w.homes-is ∙ w.in_ok-push.ensures.items ∙ ap (λ h. c.loop-number.homes.items ++ option_to_list h) (sym w.in-Some.is)
        | in_default w ↦ ap (λ v. v.items) w.homes-is ∙ sym (append-nil c.loop-number.homes.items) ∙ ap (λ h. c.loop-number.homes.items ++ option_to_list h) (sym w.in_default.is)
      ]);
}
