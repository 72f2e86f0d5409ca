-- What noting a packet makes of the signals.
use Rattle.std.proofs.Common.{◌≡◌, ℕ, zero, suc, ◌+◌, ◌<◌, ◌≤◌, ◌^◌, ◌*◌, ◌==◌, eqb, ◌⊎◌, inl, inr, Bool, true, false, List, [], ◌∷◌, ◌++◌, length, get_or, take, refl, sym, ap, subst, ◌∙◌, arith, add-one, if◌then◌else◌}
use Rattle.std.specs.Prelude.{map, All, Any, Contains, ◌||◌, IsTrue, ◌↔◌}
use Rattle.std.specs.List.{list_any}
use Rattle.std.proofs.lemmas.Bool.Decides.{eqb_tells, Decides-eqb}
use Rattle.std.proofs.lemmas.Cmp.{nat_eq_equiv}
use Rattle.std.proofs.lemmas.Map.Views.{Contains-from_any, list_any-from_Contains}
use Rattle.std.proofs.lemmas.List.Sums.{sum_by-cons, count_by-le-length}
use Rattle.std.proofs.lemmas.List.Elements.{All-head, All-tail}
use Rattle.hq_signals.specs.Table.{OpenSignal, IsOpen, handles, changed_at, with_decrementer, with_wait, noted}
use Rattle.std.proofs.Math.Nat.{mul-suc}
use Rattle.std.proofs.Math.Seq.{take-suc}
use Rattle.hq_packet.specs.declared.packet.Packet.{Packet}
use Rattle.hq_packet.specs.Parts.{completion_of}
use Rattle.std.specs.Prelude.{slice_get, Some}
use Rattle.std.proofs.lemmas.List.{get_or_default, take_all}
use Rattle.hq_model.specs.Job.{is_signal}
use Rattle.hq_tables.specs.Fits.{TablesFit}
use Rattle.hq_tables.specs.Tables.{Tables, IsUndeclared, deps_of, completed, awaited, noted_by}

or_none : (b : Bool) → (b || false) ≡ b
or_none true = refl
or_none false = refl

not_zero : (h : ℕ) (s : OpenSignal) → h ≡ 0 → 0 < s.handle → eqb s.handle h ≡ false
not_zero h s z lt = elim (eqb_tells s.handle h) [ inl e ↦ absurd (omega (arith, e.1)) | inr e ↦ e.0 ]

-- ---- completions

decremented_one : (h : ℕ) (s : OpenSignal) → (if s.handle == h then with_decrementer s else s) ≡ completed h s
decremented_one h s = by (s.handle == h) where
  by : (b : Bool) → (if b then with_decrementer s else s) ≡ record s { decrementers = s.decrementers + (if b then 1 else 0) }
  by true = refl
  by false = let e : s.decrementers ≡ s.decrementers + 0 = omega arith in λ i. record s { decrementers = e i }

pub decremented : (h : ℕ) (signals : List OpenSignal) → changed_at h with_decrementer signals ≡ map (completed h) signals
decremented h [] = refl
decremented h (s ∷ ss) =
    let first = decremented_one h s in
    let rest = decremented h ss in
    λ i. first i ∷ rest i

unmarked_one : (h : ℕ) (s : OpenSignal) → eqb s.handle h ≡ false → s ≡ completed h s
unmarked_one h s e = ap (λ b. if b then with_decrementer s else s) (sym e) ∙ decremented_one h s

-- a handle of 0 is no signal's
pub unmarked : (h : ℕ) (signals : List OpenSignal) → All (λ s. 0 < s.handle) signals → h ≡ 0 → signals ≡ map (completed h) signals
unmarked h [] some z = refl
unmarked h (s ∷ ss) some z =
    let first = unmarked_one h s (not_zero h s z (All-head (λ (t : OpenSignal). 0 < t.handle) s ss some)) in
    let rest = unmarked h ss (All-tail (λ (t : OpenSignal). 0 < t.handle) s ss some) z in
    λ i. first i ∷ rest i

-- ---- dependencies

pub awaited_none : (signals : List OpenSignal) → signals ≡ map (awaited []) signals
awaited_none [] = refl
awaited_none (s ∷ ss) =
    let w = or_none s.waited in
    let rest = awaited_none ss in
    λ i. record s { waited = sym w i } ∷ rest i

or_both : (a b c d : Bool) → b ≡ (c || d) → (a || b) ≡ ((a || c) || d)
or_both true b c d e = refl
or_both false b c d e = e

list_any_last : (p : ℕ → Bool) (ds : List ℕ) (d : ℕ) → list_any p (ds ++ d ∷ []) ≡ (list_any p ds || p d)
list_any_last p [] d = or_none (p d)
list_any_last p (x ∷ ds) d = or_both (p x) (list_any p (ds ++ d ∷ [])) (list_any p ds) (p d) (list_any_last p ds d)

all_or : (a b : Bool) → true ≡ (a || (b || true))
all_or true b = refl
all_or false true = refl
all_or false false = refl

some_or : (a b : Bool) → (a || b) ≡ (a || (b || false))
some_or true b = refl
some_or false true = refl
some_or false false = refl

waits_one : (ds : List ℕ) (d : ℕ) (s : OpenSignal) → (if s.handle == d then with_wait (awaited ds s) else awaited ds s) ≡ awaited (ds ++ d ∷ []) s
waits_one ds d s = by (s.handle == d) (list_any_last (λ x. s.handle == x) ds d) where
  by : (b : Bool) → list_any (λ x. s.handle == x) (ds ++ d ∷ []) ≡ (list_any (λ x. s.handle == x) ds || b) → (if b then with_wait (awaited ds s) else awaited ds s) ≡ awaited (ds ++ d ∷ []) s
  by true e = let w = all_or s.waited (list_any (λ x. s.handle == x) ds) ∙ ap (λ b. s.waited || b) (sym e) in λ i. record s { waited = w i }
  by false e = let w = some_or s.waited (list_any (λ x. s.handle == x) ds) ∙ ap (λ b. s.waited || b) (sym e) in λ i. record s { waited = w i }

waits : (ds : List ℕ) (d : ℕ) (signals : List OpenSignal) → changed_at d with_wait (map (awaited ds) signals) ≡ map (awaited (ds ++ d ∷ [])) signals
waits ds d [] = refl
waits ds d (s ∷ ss) =
    let first = waits_one ds d s in
    let rest = waits ds d ss in
    λ i. first i ∷ rest i

no_wait : (ds : List ℕ) (d : ℕ) (signals : List OpenSignal) → All (λ s. 0 < s.handle) signals → d ≡ 0 → map (awaited ds) signals ≡ map (awaited (ds ++ d ∷ [])) signals
no_wait ds d [] some z = refl
no_wait ds d (s ∷ ss) some z =
    let e = not_zero d s z (All-head (λ (t : OpenSignal). 0 < t.handle) s ss some) in
    let first = ap (λ b. if b then with_wait (awaited ds s) else awaited ds s) (sym e) ∙ waits_one ds d s in
    let rest = no_wait ds d ss (All-tail (λ (t : OpenSignal). 0 < t.handle) s ss some) z in
    λ i. first i ∷ rest i

-- one turn of the loop over the dependencies
module _ (old mid new : List OpenSignal) (ds : List ℕ) (i d : ℕ) (lt : i < length ds) (is : d ≡ get_or ds i d) (so_far : mid ≡ map (awaited (take i ds)) old) where
  next : take (i + 1) ds ≡ take i ds ++ d ∷ []
  next = ap (λ n. take n ds) (add-one i) ∙ take-suc ds i d lt ∙ ap (λ x. take i ds ++ x ∷ []) (sym is)

  pub turn_waits : new ≡ changed_at d with_wait mid → new ≡ map (awaited (take (i + 1) ds)) old
  turn_waits e = e ∙ ap (changed_at d with_wait) so_far ∙ waits (take i ds) d old ∙ ap (λ xs. map (awaited xs) old) (sym next)

  pub turn_null : All (λ s. 0 < s.handle) old → d ≡ 0 → mid ≡ map (awaited (take (i + 1) ds)) old
  turn_null some z = so_far ∙ no_wait (take i ds) d old some z ∙ ap (λ xs. map (awaited xs) old) (sym next)

pub waits_all : (old mid : List OpenSignal) (ds : List ℕ) (i : ℕ) → length ds ≤ i → mid ≡ map (awaited (take i ds)) old → mid ≡ map (awaited ds) old
waits_all old mid ds i le so_far = so_far ∙ ap (λ xs. map (awaited xs) old) (take_all i ds le)

pub handles-awaited : (ds : List ℕ) (signals : List OpenSignal) → handles (map (awaited ds) signals) ≡ handles signals
handles-awaited ds [] = refl
handles-awaited ds (s ∷ ss) = ap (λ hs. s.handle ∷ hs) (handles-awaited ds ss)

pub handles-completed : (h : ℕ) (signals : List OpenSignal) → handles (map (completed h) signals) ≡ handles signals
handles-completed h [] = refl
handles-completed h (s ∷ ss) = ap (λ hs. s.handle ∷ hs) (handles-completed h ss)

-- both together
pub noted_both : (p : Packet) (signals : List OpenSignal) → map (awaited (deps_of p)) (map (completed (completion_of p)) signals) ≡ noted_by p signals
noted_both p [] = refl
noted_both p (s ∷ ss) = ap (λ xs. awaited (deps_of p) (completed (completion_of p) s) ∷ xs) (noted_both p ss)

-- ---- declared handles

pub stable : (hs : List ℕ) (h : ℕ) → ¬ (¬ Contains hs h) → Contains hs h
stable hs h nn = by (list_any (eqb h) hs) refl where
  by : (b : Bool) → list_any (eqb h) hs ≡ b → Contains hs h
  by true e = Contains-from_any (λ x y t. (Decides-eqb x y).0 t) h hs e
  by false e = absurd (nn (λ c. let t = list_any-from_Contains nat_eq_equiv h hs c in cc))

-- a handle that isn't 0 and isn't undeclared is open
pub open_of : (signals : List OpenSignal) (h : ℕ) → ¬ IsUndeclared signals h → ¬ (h ≡ 0) → IsOpen signals h
open_of signals h declared some = stable (handles signals) h (λ none. declared (some, none))

pub first_declared : (P : ℕ → Type 0) (h : ℕ) (ds : List ℕ) → ¬ Any P (h ∷ ds) → ¬ P h
first_declared P h ds none p = none (0, h, omega arith, refl, p)

pub any_cons : (P : ℕ → Type 0) (h : ℕ) (ds : List ℕ) → Any P (h ∷ ds) → P h ⊎ Any P ds
any_cons P h ds (zero, d, lt, is, p) = inl (subst P (sym is) p)
any_cons P h ds (suc k, d, lt, is, p) = inr (k, d, omega arith, is, p)

pub any_later : (P : ℕ → Type 0) (h : ℕ) (ds : List ℕ) → Any P ds → Any P (h ∷ ds)
any_later P h ds (k, d, lt, is, p) = (suc k, d, omega arith, is, p)

pub any_first : (P : ℕ → Type 0) (h : ℕ) (ds : List ℕ) → P h → Any P (h ∷ ds)
any_first P h ds p = (0, h, omega arith, refl, p)

-- ---- the room for one decrementer more

pub noted_low : (signals : List OpenSignal) → All (λ s. s.decrementers ≤ 1024) signals → noted signals ≤ 1024 * length signals
noted_low [] all = omega arith
noted_low (s ∷ ss) all =
    let first = All-head (λ (x : OpenSignal). x.decrementers ≤ 1024) s ss all in
    let rest = noted_low ss (All-tail (λ (x : OpenSignal). x.decrementers ≤ 1024) s ss all) in
    let sum = sum_by-cons (λ (x : OpenSignal). x.decrementers) s ss in
    omega (arith, mul-suc 1024 (length ss))

pub any_at : (P : ℕ → Type 0) (ds : List ℕ) (i d : ℕ) → i < length ds → d ≡ get_or ds i d → P d → Any P ds
any_at P ds i d lt is p = (i, d, lt, sym is, p)

pub here : (ds : List ℕ) (i : ℕ) → i < length ds → get_or ds i 0 ≡ get_or ds i (get_or ds i 0)
here ds i lt = get_or_default ds i 0 (get_or ds i 0) lt

at_place : {X : Type 0} (xs : List X) (k : ℕ) (d : X) → k < length xs → slice_get xs k ≡ Some (get_or xs k d)
at_place [] k d lt = absurd (omega arith)
at_place (x ∷ xs) zero d lt = refl
at_place (x ∷ xs) (suc k) d lt = at_place xs k d (omega arith)

-- there is room for one decrementer more
pub room : (ts : Tables) → TablesFit ts → noted ts.signals + 1 < 2 ^ 64
room ts fit =
    let few : All (λ s. s.decrementers ≤ 1024) ts.signals = λ k d lt. (
    let held = fit.signals k (get_or ts.signals k d) (at_place ts.signals k d lt) in
    omega (arith, held.decrementers, count_by-le-length (λ p. is_signal k p.done) ts.placed, fit.within.packets)) in
    omega (arith, noted_low ts.signals few, fit.within.signals)

pub any_rest : (P : ℕ → Type 0) (h : ℕ) (ds : List ℕ) (a b : Bool) → IsTrue a ↔ P h → a ≡ false → IsTrue b ↔ Any P ds → IsTrue b ↔ Any P (h ∷ ds)
any_rest P h ds a b first none rest =
    (λ t. any_later P h ds (rest.0 t), λ some. elim (any_cons P h ds some) [ inl p ↦ absurd (let t = first.1 p in cc) | inr later ↦ rest.1 later ])
