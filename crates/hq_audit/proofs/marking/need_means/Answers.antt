use Rattle.std.proofs.Common.{sym, subst}
use Rattle.hq_fence.specs.Judgement.{first_of}
use Rattle.hq_derive.specs.Needed.{IsNeeded}
use Rattle.hq_audit.specs.Drafted.{KnownFor}
use Rattle.hq_audit.proofs.Resting.{release_more, acquire_more}
use Rattle.hq_audit.proofs.marking.need_means.Goals as goal

pub returns-in-WriteRead-clause-needed : goal.returns-in-WriteRead-clause-needed
returns-in-WriteRead-clause-needed c =
    let released = c.need_release-last-in-WriteRead in
    let acquired = c.need_acquire-first in
    let last = c.need-in-WriteRead in
    let n1 = released.new.needs in
    let n2 = acquired.new.needs in
    let n3 = last.new.self in
    let second = acquired.ensures.widens.needed in
    let third = last.ensures.widens.needed in
    subst (KnownFor (IsNeeded n3) c.args.p c.args.r) (sym c.in-WriteRead.is) (
      release_more (IsNeeded n1) (IsNeeded n3) (λ a b k. third a b (second a b k)) c.args.p c.in-WriteRead.release released.ensures.needed,
      subst (λ a. IsNeeded n3 a (first_of c.in-WriteRead.acquire)) released.ensures.last (subst (IsNeeded n3 released.result) acquired.ensures.first last.ensures.needed),
      acquire_more (IsNeeded n2) (IsNeeded n3) third c.args.r c.in-WriteRead.acquire acquired.ensures.needed,
    )
