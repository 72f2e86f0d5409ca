-- What a packet does, and why that cannot be told.
use Rattle.std.proofs.Common.{◌≡◌, ℕ, ◌+◌, ◌*◌, ◌<◌, ◌≤◌, ◌^◌, inl, inr, Bool, List, [], ◌∷◌, length, get_or, Option, Some, None, Result, Ok, Err, refl, sym, subst, arith}
use Rattle.std.specs.Prelude.{All, Any, IsNone, ◌↔◌, unwrap_or, IfOk, IsOk, IsTrue}
use Rattle.std.specs.Option.{IsSomeAnd}
use Rattle.std.proofs.lemmas.Bool.{cases_lt}
use Rattle.std.proofs.lemmas.List.{get_or_default}
use Rattle.hq_packet.specs.declared.packet.AgentCall.{AgentCall}
use Rattle.hq_packet.specs.declared.packet.Kernel as dispatch
use Rattle.hq_packet.specs.declared.packet.Packet.TheVariants as format
use Rattle.hq_footprint.specs.declared.task.Code.{Code}
use Rattle.hq_footprint.specs.declared.fault.FootFault.{FootFault}
use Rattle.hq_footprint.specs.declared.fault.FootFault.TheVariants as foot
use Rattle.hq_footprint.specs.declared.footprint.Range.{Range}
use Rattle.hq_footprint.specs.declared.footprint.Work.{Work}
use Rattle.hq_footprint.specs.Bytes.{ranges_of, Passes, Fits, IsOutside}
use Rattle.hq_footprint.specs.Table.{argument_count, kernel_call, service_call, no_work}
use Rattle.hq_tables.specs.declared.fault.Reason.TheVariants as reason
use Rattle.hq_tables.specs.Tables.{Tables, Test, when, NoneApplies, IsFirst, IsUnknownService, items_of, code_at, arguments_at}
use Rattle.hq_tables.specs.PacketTests.{Calls}

-- ---- ranges

pub none_passes : (rs : List Range) → All Fits rs → ¬ Any Passes rs
none_passes rs fit (k, r, lt, is, p) =
    let here : Fits r = subst Fits is (fit k r lt) in
    omega (arith, here, p)

pub all_fit : (rs : List Range) → ¬ Any Passes rs → All Fits rs
all_fit rs none k d lt = elim (cases_lt (2 ^ 64) ((get_or rs k d).at + (get_or rs k d).len)) [
  | inl over ↦ absurd (none (k, get_or rs k d, lt, get_or_default rs k (get_or rs k d) d lt, over))
  | inr fits ↦ fits
]

-- ---- kernels

abbrev kernel_tests : Code → ℕ → List ℕ → List Test
kernel_tests code n block = when (length block < 8 * argument_count code) (reason.Footprint foot.ArgsShort)
    ∷ when (Any Passes (ranges_of (kernel_call code n block).foot)) (reason.Footprint foot.Overflow)
    ∷ []

abbrev Told : Result Work FootFault → Code → ℕ → List ℕ → Type 0
Told (Ok w) code n block = (w ≡ kernel_call code n block) × NoneApplies (kernel_tests code n block)
Told (Err e) code n block = IsFirst (kernel_tests code n block) (reason.Footprint e)

as_calls : (r : Result Work FootFault) (ts : Tables) (k : dispatch.Kernel) → Told r (code_at ts k.object) (items_of k) (arguments_at ts k.kernarg) → Calls r ts (format.Kernel k)
as_calls (Ok w) ts k h = h
as_calls (Err e) ts k h = h

-- an answer that is neither ok nor one of the two faults
module _ (code : Code) (n : ℕ) (block : List ℕ) (e : FootFault) (differs : ¬ (e ≡ foot.ArgsShort)) (other : ¬ (e ≡ foot.Overflow)) where
  abbrev failed : Result Work FootFault
  failed = Err e

  no_kernel_fault : (IsOk failed ↔ ((8 * argument_count code ≤ length block) × All Fits (ranges_of (kernel_call code n block).foot)))
      → ((failed ≡ Err foot.ArgsShort) ↔ (length block < 8 * argument_count code))
      → ((failed ≡ Err foot.Overflow) ↔ ((8 * argument_count code ≤ length block) × Any Passes (ranges_of (kernel_call code n block).foot))) → ⊥
  no_kernel_fault ok short over = elim (cases_lt (length block) (8 * argument_count code)) [
    | inl low ↦ differs (let h = short.1 low in cc)
    | inr high ↦ (let fit = all_fit (ranges_of (kernel_call code n block).foot) (λ p. other (let h = over.1 (high, p) in cc)) in let h = ok.1 (high, fit) in cc)
  ]

told : (r : Result Work FootFault) (code : Code) (n : ℕ) (block : List ℕ)
    → IfOk r (λ w. w ≡ kernel_call code n block)
    → (IsOk r ↔ ((8 * argument_count code ≤ length block) × All Fits (ranges_of (kernel_call code n block).foot)))
    → ((r ≡ Err foot.ArgsShort) ↔ (length block < 8 * argument_count code))
    → ((r ≡ Err foot.Overflow) ↔ ((8 * argument_count code ≤ length block) × Any Passes (ranges_of (kernel_call code n block).foot)))
    → Told r code n block
told (Ok w) code n block found ok short over =
    let h = ok.0 refl in
    (found, (λ low. omega (arith, h.0, low), (none_passes (ranges_of (kernel_call code n block).foot) h.1, tt)))
told (Err foot.ArgsShort) code n block found ok short over = inl (short.0 refl, refl)
told (Err foot.Overflow) code n block found ok short over = let h = over.0 refl in inr (λ low. omega (arith, h.0, low), inl (h.1, refl))
told (Err foot.OutsideBuffer) code n block found ok short over = absurd (no_kernel_fault code n block foot.OutsideBuffer (λ e. cc) (λ e. cc) ok short over)
told (Err foot.Service) code n block found ok short over = absurd (no_kernel_fault code n block foot.Service (λ e. cc) (λ e. cc) ok short over)

pub calls_kernel : (r : Result Work FootFault) (ts : Tables) (k : dispatch.Kernel) (code : Code) (n : ℕ) (block : List ℕ) → code ≡ code_at ts k.object → n ≡ items_of k → block ≡ arguments_at ts k.kernarg
    → IfOk r (λ w. w ≡ kernel_call code n block)
    → (IsOk r ↔ ((8 * argument_count code ≤ length block) × All Fits (ranges_of (kernel_call code n block).foot)))
    → ((r ≡ Err foot.ArgsShort) ↔ (length block < 8 * argument_count code))
    → ((r ≡ Err foot.Overflow) ↔ ((8 * argument_count code ≤ length block) × Any Passes (ranges_of (kernel_call code n block).foot)))
    → Calls r ts (format.Kernel k)
calls_kernel r ts k code n block a b c found ok short over =
    as_calls r ts k (subst (λ (x : Code). Told r x (items_of k) (arguments_at ts k.kernarg)) a (subst (λ (m : ℕ). Told r code m (arguments_at ts k.kernarg)) b (subst (λ (y : List ℕ). Told r code n y) c (told r code n block found ok short over))))

-- ---- services

abbrev service_tests : Work → List Test
service_tests w = when ⊥ (reason.Footprint foot.ArgsShort) ∷ when (Any Passes (ranges_of w.foot)) (reason.Footprint foot.Overflow) ∷ []

abbrev ToldOf : Result Work FootFault → Work → Type 0
ToldOf (Ok w) work = (w ≡ work) × NoneApplies (service_tests work)
ToldOf (Err e) work = IsFirst (service_tests work) (reason.Footprint e)

service_told : (r : Result Work FootFault) (call : Option Work) → IfOk r (λ w. call ≡ Some w) → (IsOk r ↔ IsSomeAnd call (λ w. All Fits (ranges_of w.foot))) → ((r ≡ Err foot.Service) ↔ (call ≡ None))
    → ((r ≡ Err foot.Overflow) ↔ IsSomeAnd call (λ w. Any Passes (ranges_of w.foot))) → ¬ IsNone call → ToldOf r (unwrap_or call no_work)
service_told r None found ok service over known = absurd (known refl)
service_told (Ok w) (Some x) found ok service over known = ((let e : x ≡ w = cc in sym e), (λ h. h, (none_passes (ranges_of x.foot) (ok.0 refl), tt)))
service_told (Err foot.Overflow) (Some x) found ok service over known = inr (λ h. h, inl (over.0 refl, refl))
service_told (Err foot.Service) (Some x) found ok service over known = absurd (let h = service.0 refl in cc)
service_told (Err foot.ArgsShort) (Some x) found ok service over known = absurd (let h = ok.1 (all_fit (ranges_of x.foot) (λ p. (let g = over.1 p in cc))) in cc)
service_told (Err foot.OutsideBuffer) (Some x) found ok service over known = absurd (let h = ok.1 (all_fit (ranges_of x.foot) (λ p. (let g = over.1 p in cc))) in cc)

as_service : (r : Result Work FootFault) (ts : Tables) (a : AgentCall) → ToldOf r (unwrap_or (service_call a.kind a.args a.ret) no_work) → Calls r ts (format.Agent a)
as_service (Ok w) ts a h = h
as_service (Err e) ts a h = h

pub calls_service : (r : Result Work FootFault) (ts : Tables) (a : AgentCall) → IfOk r (λ w. service_call a.kind a.args a.ret ≡ Some w) → (IsOk r ↔ IsSomeAnd (service_call a.kind a.args a.ret) (λ w. All Fits (ranges_of w.foot)))
    → ((r ≡ Err foot.Service) ↔ (service_call a.kind a.args a.ret ≡ None)) → ((r ≡ Err foot.Overflow) ↔ IsSomeAnd (service_call a.kind a.args a.ret) (λ w. Any Passes (ranges_of w.foot)))
    → ¬ IsUnknownService (format.Agent a) → Calls r ts (format.Agent a)
calls_service r ts a found ok service over known = as_service r ts a (service_told r (service_call a.kind a.args a.ret) found ok service over known)

-- ---- the buffers

pub outside_here : (b : Bool) (rs ranges : List Range) (w v : Work) → rs ≡ ranges → w ≡ v → ¬ Any Passes (ranges_of v.foot) → (All Fits (ranges_of w.foot) → IsTrue b ↔ Any (IsOutside rs) (ranges_of w.foot)) → IsTrue b ↔ Any (IsOutside ranges) (ranges_of v.foot)
outside_here b rs ranges w v e d none h =
    let moved : All Fits (ranges_of w.foot) → IsTrue b ↔ Any (IsOutside ranges) (ranges_of w.foot) = subst (λ (x : List Range). All Fits (ranges_of w.foot) → IsTrue b ↔ Any (IsOutside x) (ranges_of w.foot)) e h in
    let all : All Fits (ranges_of v.foot) → IsTrue b ↔ Any (IsOutside ranges) (ranges_of v.foot) = subst (λ (x : Work). All Fits (ranges_of x.foot) → IsTrue b ↔ Any (IsOutside ranges) (ranges_of x.foot)) d moved in
    all (all_fit (ranges_of v.foot) none)
