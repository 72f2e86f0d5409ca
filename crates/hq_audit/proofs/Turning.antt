-- Pairs that are ordered in one direction, one by one.
use Rattle.std.specs.Prelude.{Result, Ok, Err, IfErr}
use Rattle.std.specs.Result.{IsErrAnd}
use Rattle.std.proofs.Common.{◌≡◌, ℕ, ◌+◌, ◌<◌, inl, inr, length, sym, ◌∙◌, subst, arith}
use Rattle.std.proofs.lemmas.Bool.{cases_eq}
use Rattle.hq_model.specs.Job.{Job}
use Rattle.hq_model.specs.Fence.{Shown}
use Rattle.hq_audit.specs.declared.directed.Directed.{Directed}
use Rattle.hq_audit.specs.declared.fault.AuditNo.{AuditNo}
use Rattle.hq_audit.specs.declared.fault.AuditNo.TheVariants as audit
use Rattle.hq_audit.specs.declared.directed.Unshown.{Unshown}
use Rattle.hq_audit.specs.Refused.{ShownOneWay, RowShown, RowsShown, IsDirected, NoOrMemory, no_of_pair}

pub one_way : (job : Job) (a b : ℕ) (d : Directed) → IsDirected job a b d → ShownOneWay job a b
one_way job a b d i = elim i.which [
  | inl w ↦ inl (subst (λ x. Shown job x b) w.0 (subst (λ x. Shown job d.first x) w.1 i.shown))
  | inr w ↦ inr (subst (λ x. Shown job x a) w.0 (subst (λ x. Shown job d.first x) w.1 i.shown))
]

pub row_next : (job : Job) (a b : ℕ) → RowShown job a b → ShownOneWay job a b → RowShown job a (b + 1)
row_next job a b h o = λ s above low is. elim (cases_eq s b) [
  | inl e ↦ subst (ShownOneWay job a) (sym e) o
  | inr apart ↦ h s above (omega arith) is
]

pub rows_next : (job : Job) (a : ℕ) → RowsShown job a → RowShown job a (length job.packets) → RowsShown job (a + 1)
rows_next job a h o = λ q s low above is. elim (cases_eq q a) [
  | inl e ↦ let above' : a < s = omega arith in subst (λ x. ShownOneWay job x s) (sym e) (o s above' is is)
  | inr apart ↦ h q s (omega arith) above is
]

-- what is handed on
pub handed_on : {A : Type 0} (P : Unshown → Type 0) (result : Result A Unshown) (u : Unshown) → IsErrAnd result (λ e. e ≡ u) → P u → IfErr result P
handed_on P (Ok x) u h p = tt
handed_on P (Err e) u h p = subst P (sym h) p

-- what is handed on as an answer
pub refused_on : {A : Type 0} (Is : Unshown → Type 0) (result : Result A AuditNo) (u : Unshown) → IsErrAnd result (λ e. e ≡ no_of_pair u) → Is u → IfErr result (NoOrMemory Is)
refused_on Is (Ok x) u h is = tt
refused_on Is (Err e) u h is = inr (u, h, is)

pub memory_on : {A : Type 0} (Is : Unshown → Type 0) (result : Result A AuditNo) → IsErrAnd result (λ e. e ≡ audit.Memory) → IfErr result (NoOrMemory Is)
memory_on Is (Ok x) h = tt
memory_on Is (Err e) h = inl h

-- of a part, and then of the whole
pub whole_refused : {A : Type 0} (Is So : Unshown → Type 0) (result : Result A AuditNo) (answer : AuditNo) → IsErrAnd result (λ e. e ≡ answer) → NoOrMemory Is answer → ((u : Unshown) → Is u → So u) → IfErr result (NoOrMemory So)
whole_refused Is So (Ok x) answer h is to = tt
whole_refused Is So (Err e) answer h (inl m) to = inl (h ∙ m)
whole_refused Is So (Err e) answer h (inr w) to = inr (w.0, h ∙ w.1, to w.0 w.2)
