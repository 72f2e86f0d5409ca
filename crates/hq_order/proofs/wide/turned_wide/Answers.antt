use Rattle.std.proofs.Common.{◌≡◌, ◌+◌, ap, sym, subst, ◌∙◌, length, arith}
use Rattle.hq_rows.specs.Matrix.{AreTurned}
use Rattle.hq_order.proofs.Stepping.{restored, turned_are}
use Rattle.hq_order.proofs.wide.turned_wide.Goals as goal

pub returns : goal.returns
returns g c =
    let old = c.in_ok-tables.tables in
    let new = c.turn_each.new.tables in
    let rounds = c.args.rounds.now in
    let long = c.turn_each.ensures.len ∙ ap length c.deref_mut.ensures.value in
    let back = restored new old.items old.len long old.ok.0 in
    let len : length new + 1 ≡ length rounds = omega (arith, long, c.in_ok-tables.ensures.len, c.requires) in
    subst (AreTurned rounds) (sym back) (turned_are rounds new len c.turn_each.ensures.turned)
