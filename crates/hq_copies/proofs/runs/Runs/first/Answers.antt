use Rattle.std.proofs.Common.{ℕ, Option, ap, sym, ◌∙◌, ◌≡◌, subst, slice_get, MatchOption}
use Rattle.hq_copies.specs.Marks.{IsFirst, byte_of, IsNowhere}
use Rattle.hq_copies.proofs.Marks.{first_edge}
use Rattle.hq_copies.proofs.runs.Runs.first.Goals as goal

pub returns : goal.returns
returns c =
    let e : c.copied.result ≡ slice_get c.args.self.now.edges.items 0 = c.copied.ensures ∙ c.first.ensures.value ∙ ap (λ t. slice_get t 0) c.deref.ensures.value in
    let P : Option ℕ → Type 0 = λ o. MatchOption o (IsNowhere c.args.self.now) (λ n. IsFirst (byte_of c.args.self.now) n) in
    subst P (sym e) (first_edge c.args.self.now.edges.items c.args.self.now.bytes.items c.requires)
