use Rattle.std.proofs.Common.{inl, inr, subst, sym}
use Rattle.hq_ledger.specs.declared.grants.Grant.{Grant}
use Rattle.hq_ledger.specs.declared.fault.GrantFault.{GrantFault}
use Rattle.hq_ledger.specs.Grants.{Clash, Refuses}
use Rattle.hq_hall.proofs.hall.let_out.Goals as goal

pub unreachable-requires : goal.unreachable-requires
unreachable-requires c =
    let grant : Grant = record { packet = c.args.packet; foot = c.args.foot.now } in
    elim c.in-Overlap.is [
      | inl o ↦
          let way = subst (λ (f : GrantFault). Refuses c.args.grants.now grant f) o.1 c.in-Err.ensures.fault in
          c.requires.clear way.0 way.1 way.2 (subst (λ (other : Grant). Clash other grant) (sym way.3) way.4.1)
      | inr e ↦ subst (λ (f : GrantFault). Refuses c.args.grants.now grant f) e c.in-Err.ensures.fault
    ]
