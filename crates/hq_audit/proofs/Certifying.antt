-- The certificate holds, and what an ordered job isn't refused for.
use Rattle.std.proofs.Common.{◌≡◌, ℕ, ◌<◌, ◌⊎◌, inl, inr, List, refl, sym, ap, ◌∙◌, subst, Result, Ok, Err}
use Rattle.std.specs.Prelude.{IfErr}
use Rattle.std.specs.Result.{IsErrAnd}
use Rattle.hq_schedule.specs.Faults.{StuckWhereSo}
use Rattle.hq_waits.specs.declared.fault.OrderFault.{OrderFault}
use Rattle.hq_waits.specs.declared.fault.OrderFault.TheVariants as order
use Rattle.hq_fence.specs.Judgement.{conflict_of}
use Rattle.hq_model.specs.Job.{Job, IsPacket}
use Rattle.hq_model.specs.Order.{OrderList}
use Rattle.hq_model.specs.Fence.{Conflict, Conflicts, Ordered}
use Rattle.hq_model.specs.Fence.Conflict.{WriteRead, WriteWrite, ReadWrite}
use Rattle.hq_model.specs.Certificate as model
use Rattle.hq_model.specs.Certificate.{Certificate, CertHolds, LinesHold, HasPairs}
use Rattle.hq_derive.specs.declared.lines.Lines.{Lines}
use Rattle.hq_derive.specs.Gathered.{lines_of, AreSound}
use Rattle.hq_derive.specs.Needed.{AllThere, HasLine, IsNeeded}
use Rattle.hq_audit.specs.declared.drafting.Drafts.{Drafts}
use Rattle.hq_audit.specs.Drafted.{AllDrafts, any_chained, drafts_of}
use Rattle.hq_audit.specs.Rowed.{DraftsAll}
use Rattle.hq_audit.proofs.Resting.{drafts_more}
use Rattle.hq_audit.specs.declared.fault.AuditNo.{AuditNo}
use Rattle.hq_audit.specs.declared.fault.AuditNo.TheVariants as audit
use Rattle.hq_audit.specs.declared.directed.Unshown.{Unshown}
use Rattle.hq_audit.specs.declared.audited.Audited.{Audited}
use Rattle.hq_audit.specs.declared.draft.Draft.{Draft}
use Rattle.hq_audit.specs.Audited.{order_in, lines_in, drafts_in, IsAudited, IsMadeOf}
use Rattle.hq_audit.specs.Paired.{HasAll, AllPaired, ArePairsOf}
use Rattle.hq_audit.proofs.Numbering.{all_hold, has_pair}
use Rattle.hq_audit.specs.Refused.{IsUnshown, AllShown, IsFirstUnshown, IsRefused, AllRefused, no_of_order}
use Rattle.hq_audit.specs.Lawful.{OrderedIsNotRefused}

-- ---- what is made of lines, drafts and an order

pub audited_is : (job : Job) (lines : Lines) (drafts : Drafts) (order : List ℕ) (a : Audited) → OrderList job order → DraftsAll job drafts → AreSound job lines → AllThere drafts.needs (lines_of lines)
    → IsMadeOf lines drafts order a → IsAudited job a
audited_is job lines drafts order a o all sound there made =
    let known = HasLine (lines_of lines) in
    let same : drafts_of drafts ≡ drafts_in a = sym made.drafts in
    let each : AllDrafts job known (drafts_of drafts) = drafts_more (IsNeeded drafts.needs) known there job (drafts_of drafts) all.are.each in
    record {
      order = subst (OrderList job) (sym made.order) o;
      sound = subst (AreSound job) (sym made.lines) sound;
      each = subst (λ (l : Lines). AllDrafts job (HasLine (lines_of l)) (drafts_in a)) (sym made.lines) (subst (AllDrafts job known) same each);
      paired = subst (AllPaired job) same all.paired;
      chained = made.chained ∙ all.are.chained ∙ ap any_chained same;
    }

-- ---- the certificate

abbrev pub parts : List ℕ → List model.Line → List model.Pair → Certificate
parts order lines pairs = record { order = order; lines = lines; pairs = pairs }

has_one : (job : Job) (lines : List model.Line) (drafts : List Draft) (pairs : List model.Pair) (p r : ℕ) → ArePairsOf job lines drafts pairs → HasAll job drafts p r ⊎ HasAll job drafts r p
    → HasPairs job pairs p r ⊎ HasPairs job pairs r p
has_one job lines drafts pairs p r are (inl h) = inl (λ kind c. has_pair job lines drafts pairs p r kind are (h kind c))
has_one job lines drafts pairs p r are (inr h) = inr (λ kind c. has_pair job lines drafts pairs r p kind are (h kind c))

pub cert_holds : (job : Job) (order : List ℕ) (lines : List model.Line) (drafts : List Draft) (pairs : List model.Pair) → OrderList job order → LinesHold job lines → ArePairsOf job lines drafts pairs → AllPaired job drafts
    → CertHolds job (parts order lines pairs)
cert_holds job order lines drafts pairs o f are a = record {
  order = o;
  lines = λ k line e. f k line e;
  conflicts = λ p r kind low is c. has_one job lines drafts pairs p r are (a p r low is);
  pairs = all_hold job lines drafts pairs are;
}

-- what an audit found is a certificate, with its pair lines
pub audited_certifies : (job : Job) (a : Audited) (pairs : List model.Pair) → IsAudited job a → ArePairsOf job (lines_in a) (drafts_in a) pairs → CertHolds job (parts (order_in a) (lines_in a) pairs)
audited_certifies job a pairs is are = cert_holds job (order_in a) (lines_in a) (drafts_in a) pairs is.order is.sound.follow are is.paired

pub cert_same : (job : Job) (c : Certificate) (order : List ℕ) (lines : List model.Line) (pairs : List model.Pair) → c.order ≡ order → c.lines ≡ lines → c.pairs ≡ pairs → CertHolds job (parts order lines pairs) → CertHolds job c
cert_same job c order lines pairs e f g h =
    subst (λ o. CertHolds job (parts o c.lines c.pairs)) (sym e)
    (subst (λ ls. CertHolds job (parts order ls c.pairs)) (sym f)
    (subst (λ ps. CertHolds job (parts order lines ps)) (sym g) h))

-- ---- without a certificate

pub shown_is_ordered : (job : Job) (list : List ℕ) → OrderList job list → AllShown job → Ordered job
shown_is_ordered job list o h = record { list = list; order = o; shown = λ p r kind low is c. h p r low is }

-- ---- refusals

pub turned : (job : Job) (kind : Conflict) (a b : ℕ) → Conflicts job kind b a → (other : Conflict) × Conflicts job other a b
turned job WriteRead a b c = (ReadWrite, (c.0, c.2, c.1))
turned job WriteWrite a b c = (WriteWrite, (c.0, c.2, c.1))
turned job ReadWrite a b c = (WriteRead, (c.0, c.2, c.1))

conflict_there : (job : Job) (a b : ℕ) (u : Unshown) → IsUnshown job a b u → (kind : Conflict) × Conflicts job kind a b
conflict_there job a b u i = elim i.which [
  | inl w ↦ turned job (conflict_of u.fault.kind) a b (subst (λ x. Conflicts job (conflict_of u.fault.kind) x a) w.1 (subst (λ x. Conflicts job (conflict_of u.fault.kind) u.p x) w.2 i.fault.conflicts))
  | inr w ↦ (conflict_of u.fault.kind, subst (λ x. Conflicts job (conflict_of u.fault.kind) x b) w.1 (subst (λ x. Conflicts job (conflict_of u.fault.kind) u.p x) w.2 i.fault.conflicts))
]

-- a pair that isn't ordered
pub unshown_refuses : (job : Job) (a b : ℕ) (u : Unshown) → IsUnshown job a b u → a < b → IsPacket job b → ¬ Ordered job
unshown_refuses job a b u i above is o =
    let c = conflict_there job a b u i in
    i.neither (o.shown a b c.0 above is c.1)

pub first_refuses : (job : Job) (u : Unshown) → IsFirstUnshown job u → ¬ Ordered job
first_refuses job u f = unshown_refuses job f.a f.row.b u f.row.unshown f.row.above f.row.is_packet

pub ordered_is_not_refused : OrderedIsNotRefused
ordered_is_not_refused job (audit.Stuck packets) o r = absurd (r.no_order o.list o.order)
ordered_is_not_refused job (audit.Conflict p r kind why) o h = absurd (first_refuses job (record { p = p; r = r; fault = record { kind = kind; why = why } }) h.1 o)
ordered_is_not_refused job audit.Memory o r = refl

-- ---- what a fault turns into

pub order_refused : (job : Job) (e : OrderFault) → StuckWhereSo job e → IsRefused job (no_of_order e)
order_refused job (order.Stuck packets) h = h
order_refused job order.Memory h = tt

pub err_of : {A : Type 0} (P : AuditNo → Type 0) (result : Result A AuditNo) (v : AuditNo) → IsErrAnd result (λ e. e ≡ v) → P v → IfErr result P
err_of P (Ok x) v h p = tt
err_of P (Err e) v h p = subst P (sym h) p

pub all_refused : (job : Job) (list : List ℕ) (answer : AuditNo) → OrderList job list → AllRefused job answer → IsRefused job answer
all_refused job list answer o (inl m) = subst (IsRefused job) (sym m) tt
all_refused job list answer o (inr w) = subst (IsRefused job) (sym w.1) ((list, o), w.2)
