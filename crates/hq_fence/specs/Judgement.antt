-- What is answered of two packets, and when that is right.
use Rattle.std.specs.Prelude.{◌≡◌, ℕ, ◌<◌, ◌↔◌, IsTrue, IfSome, IsSome, Bool, false}
use Rattle.hq_model.specs.Job.{Job, packet}
use Rattle.hq_model.specs.Order.{Before}
use Rattle.hq_model.specs.Fence as model
use Rattle.hq_model.specs.Fence.{Conflict, Conflicts, need, Releases, Acquires, Forwards, ShownFor, Reason}
use Rattle.hq_packet.specs.declared.packet.Scope.TheVariants as scope
use Rattle.hq_footprint.specs.declared.conflicts.Kinds.{Kinds}
use Rattle.hq_fence.specs.declared.shown.Release.{Release}
use Rattle.hq_fence.specs.declared.shown.Release.TheVariants as release
use Rattle.hq_fence.specs.declared.shown.Acquire.{Acquire}
use Rattle.hq_fence.specs.declared.shown.Acquire.TheVariants as acquire
use Rattle.hq_fence.specs.declared.shown.Shown.{Shown}
use Rattle.hq_fence.specs.declared.shown.NotShown.{NotShown}
use Rattle.hq_finding.specs.declared.kind.Kind.{Kind}
use Rattle.hq_finding.specs.declared.kind.Kind.TheVariants as kind
use Rattle.hq_finding.specs.declared.why.Why.{Why}
use Rattle.hq_finding.specs.declared.why.Why.TheVariants as why

-- the two conflict in some way, a first
abbrev pub HaveConflict : Job → ℕ → ℕ → Type 0
HaveConflict job a b = (kind : Conflict) × Conflicts job kind a b

-- the packet with the first fence of a release
abbrev pub begin_of : Release → ℕ
begin_of (release.Alone x) = x
begin_of (release.Chained x x2) = x

-- that with the last
abbrev pub end_of : Release → ℕ
end_of (release.Alone x) = x
end_of (release.Chained x x2) = x2

-- the packet with the first fence of an acquire
abbrev pub first_of : Acquire → ℕ
first_of (acquire.Alone y) = y
first_of (acquire.Chained y2 y) = y2

-- These fences release p to r: one alone that reaches as far as is needed; or, where that is to the system, one
-- that releases to the agent, and a later one on p's agent that releases to the system.
abbrev pub IsRelease : Job → ℕ → ℕ → Release → Type 0
IsRelease job p r (release.Alone x) = Releases job p x (need job p r)
IsRelease job p r (release.Chained x x2) =
    (need job p r ≡ scope.System) × Releases job p x scope.Agent × Before job x x2
    × Forwards job p x2 (packet job x2).release

-- These fences acquire for r from p, in the same way.
abbrev pub IsAcquire : Job → ℕ → ℕ → Acquire → Type 0
IsAcquire job p r (acquire.Alone y) = Acquires job r y (need job p r)
IsAcquire job p r (acquire.Chained y2 y) =
    (need job p r ≡ scope.System) × Forwards job r y2 (packet job y2).acquire × Before job y2 y
    × Acquires job r y scope.Agent

-- These fences release p, and the last of them is before r.
pub record ReleasesBefore (job : Job) (p r : ℕ) (fences : Release) : Type 0 where
  pub release : IsRelease job p r fences
  pub before : Before job (end_of fences) r

-- These fences release p, and the last of them is before the first of those that acquire for r.
pub record ReleasesToAcquire (job : Job) (p r : ℕ) (fences : Release × Acquire) : Type 0 where
  pub release : IsRelease job p r fences.0
  pub between : Before job (end_of fences.0) (first_of fences.1)
  pub acquire : IsAcquire job p r fences.1

-- Each kind of conflict of p with r that there is, and no other, has its fences.
pub record Shows (job : Job) (p r : ℕ) (shown : Shown) : Type 0 where
  pub has_wr : IsSome shown.wr ↔ Conflicts job model.Conflict.WriteRead p r
  pub wr : IfSome shown.wr (ReleasesToAcquire job p r)
  pub has_ww : IsSome shown.ww ↔ Conflicts job model.Conflict.WriteWrite p r
  pub ww : IfSome shown.ww (ReleasesBefore job p r)
  pub has_rw : IsTrue shown.rw ↔ Conflicts job model.Conflict.ReadWrite p r
  pub rw : IsTrue shown.rw → Before job p r

-- the kinds, as the model has them
abbrev pub conflict_of : Kind → Conflict
conflict_of kind.WriteRead = model.Conflict.WriteRead
conflict_of kind.WriteWrite = model.Conflict.WriteWrite
conflict_of kind.ReadWrite = model.Conflict.ReadWrite

-- and the reasons
abbrev pub why_of : Why → model.Why
why_of why.Unordered = model.Why.Unordered
why_of why.NotReleased = model.Why.NotReleased
why_of why.NotAcquired = model.Why.NotAcquired

-- which kind is told of first
abbrev pub rank : Kind → ℕ
rank kind.WriteRead = 0
rank kind.WriteWrite = 1
rank kind.ReadWrite = 2

-- This kind of conflict of p with r is there and isn't shown, for the reason given, and each kind ahead of it that
-- is there is shown.
pub record IsNotShown (job : Job) (p r : ℕ) (not : NotShown) : Type 0 where
  pub conflicts : Conflicts job (conflict_of not.kind) p r
  pub not_shown : ¬ ShownFor job (conflict_of not.kind) p r
  pub reason : Reason job p r (why_of not.why)
  pub ahead : (kind : Kind) → rank kind < rank not.kind → Conflicts job (conflict_of kind) p r
      → ShownFor job (conflict_of kind) p r

-- whether a kind of conflict is among these
abbrev pub flag_of : Kinds → Kind → Bool
flag_of kinds kind.WriteRead = kinds.wr
flag_of kinds kind.WriteWrite = kinds.ww
flag_of kinds kind.ReadWrite = kinds.rw

-- This kind is among them, and none ahead of it.
pub record IsFirstKind (kinds : Kinds) (kind : Kind) : Type 0 where
  pub there : IsTrue (flag_of kinds kind)
  pub first : (other : Kind) → rank other < rank kind → flag_of kinds other ≡ false
