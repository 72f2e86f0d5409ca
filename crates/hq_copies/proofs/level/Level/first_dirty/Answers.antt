use Rattle.std.proofs.Common.{◌≡◌, ℕ, Option, Some, None, ap, ◌∙◌, MatchOption, is_some}
use Rattle.std.specs.FinMap as finite
use Rattle.hq_model.specs.Machine.{is_dirty}
use Rattle.hq_model.specs.View.{Held}
use Rattle.hq_copies.specs.Copies.{NoneDirty, IsFirstDirty}
use Rattle.hq_copies.specs.Edges.{layered}
use Rattle.hq_copies.specs.Marks.{byte_of, IsFirst}
use Rattle.hq_copies.proofs.Levels.{got, none_dirty, dirty_upper}
use Rattle.hq_copies.proofs.level.Level.first_dirty.Goals as goal

pub returns-then-not-self : goal.returns-then-not-self
returns-then-not-self c n =
    ap is_dirty (got c.self.inside c.args.self.now c.self.invariant c.self.view_is n ∙ ap (λ d. layered d (byte_of c.self.inside.upper n) (byte_of c.self.inside.lower n)) c.if-not-self.true)
    ∙ none_dirty (byte_of c.self.inside.upper n) (byte_of c.self.inside.lower n)

by_case : (m : Held) (upper : ℕ → Option ℕ) (o : Option ℕ) → ((n : ℕ) → is_dirty (finite.get m n) ≡ is_some (upper n)) → MatchOption o ((n : ℕ) → upper n ≡ None) (λ n. IsFirst upper n) → MatchOption o (NoneDirty m) (λ b. IsFirstDirty m b)
by_case m upper None at none = λ n. at n ∙ ap is_some (none n)
by_case m upper (Some b) at first = record { dirty = at b ∙ first.some; least = λ n l. at n ∙ ap is_some (first.none n l) }

pub returns : goal.returns
returns c = by_case c.args.self.now (byte_of c.self.inside.upper) c.first.result
    (λ n.
    ap is_dirty (got c.self.inside c.args.self.now c.self.invariant c.self.view_is n ∙ ap (λ d. layered d (byte_of c.self.inside.upper n) (byte_of c.self.inside.lower n)) c.if-not-self.false)
    ∙ dirty_upper (byte_of c.self.inside.upper n) (byte_of c.self.inside.lower n))
    c.first.ensures
