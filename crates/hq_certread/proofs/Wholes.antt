-- A text is one certificate's or has one first fault, and not both.
use Rattle.std.proofs.Common.{◌≡◌, ℕ, ◌+◌, ◌⊎◌, inl, inr, true, false, List, [], length, Some, None, refl, sym, ap, subst, ◌∙◌, append-nil}
use Rattle.std.specs.Prelude.{map, Result, Ok, Err, IfOk, IfErr, if◌then◌else◌}
use Rattle.hq_text.specs.LineByLine.{AdmitsAll, FirstRefused, endless}
use Rattle.hq_text.specs.Lines.{words_of}
use Rattle.hq_text.proofs.LineByLine.{AddsAll, admits_of, keeps_lines, one_state, no_first_fault, one_fault}
use Rattle.hq_model.specs.Certificate as model
use Rattle.hq_certread.specs.declared.fault.CertReason.TheVariants as reason
use Rattle.hq_certread.specs.declared.fault.CertFault.{CertFault}
use Rattle.hq_certtext.specs.Grammar.{CertText}
use Rattle.hq_certread.specs.TextFaults.{State, start, added, is_ended, unended, read_of, at_line, FirstFault, OneCertificate, FaultlessWhereCertificate, OneFirstFault}
use Rattle.hq_certread.specs.Gives.{ReadOf, GivesCertificate, no_memory}
use Rattle.hq_certread.specs.SoFar.{HasFault}
use Rattle.hq_certread.proofs.States.{Kept, kept, kept_start, kept_all, ended_of, adds_certificate}
use Rattle.hq_certread.proofs.Turns.{fault_behind}

-- what is admitted to its end is a certificate's
read_found : (lines : List (List ℕ)) (s : State) → AdmitsAll added start lines s → is_ended s ≡ true → CertText lines (read_of s)
read_found lines s h e =
    let k = keeps_lines added Kept kept [] lines start s kept_start h in
    record { chained = s.chained; spelled = kept_all (map words_of lines) s k e; fits = k.fits }

-- and the other way
admitted : (lines : List (List ℕ)) (c : model.Certificate) (h : CertText lines c) → AdmitsAll added start lines (ended_of h.chained c)
admitted lines c h = admits_of added lines start (ended_of h.chained c) (subst (λ (ws : List (List (List ℕ))). AddsAll added start ws (ended_of h.chained c)) (sym h.spelled) (adds_certificate h.chained c h.fits))

-- ---- the laws

pub one_certificate : OneCertificate
one_certificate lines a b h k = ap read_of (one_state added lines start (ended_of h.chained a) (ended_of k.chained b) (admitted lines a h) (admitted lines b k))

pub faultless : FaultlessWhereCertificate
faultless lines c f h fault = no_first_fault added unended start (ended_of h.chained c) lines f.line f.reason (admitted lines c h) refl fault

pub one_first_fault : OneFirstFault
one_first_fault lines f g h k =
    let same = one_fault added unended start lines f.line g.line f.reason g.reason h k in
    ap (λ n. at_line n f.reason) same.0 ∙ ap (λ w. at_line g.line w) same.1

-- ---- what the code learns

pub ended_found : (lines : List (List ℕ)) (s : State) (c : model.Certificate) → AdmitsAll added start lines s → is_ended s ≡ true → c ≡ read_of s → CertText lines c
ended_found lines s c h e is = subst (λ (d : model.Certificate). CertText lines d) (sym is) (read_found lines s h e)

pub not_ended : (lines : List (List ℕ)) (n : ℕ) (s : State) (f : CertFault) → n ≡ length lines → AdmitsAll added start lines s → is_ended s ≡ false → f ≡ at_line (n + 1) reason.NoEnd → HasFault lines f
not_ended lines n s f number h e is =
    inr (subst (λ (g : CertFault). FirstFault lines g) (sym is) (endless s h (ap (λ b. if b then None else Some reason.NoEnd) e) (ap (λ k. k + 1) number)))

-- a line's fault is that of the text of these lines
pub fault_from_start : (lines : List (List ℕ)) (s : State) (f : CertFault) → s ≡ start → (f ≡ no_memory) ⊎ FirstRefused added s lines 0 f.line f.reason → HasFault lines f
fault_from_start lines s f e h = subst (λ (ls : List (List ℕ)). HasFault ls f) (append-nil lines) (fault_behind [] lines [] 0 s f refl e h)

pub read_found_of : (r : Result model.Certificate CertFault) (lines : List (List ℕ)) → ReadOf r lines → IfOk r (λ c. CertText lines c)
read_found_of (Ok c) lines h = h
read_found_of (Err f) lines h = tt

pub read_fault_of : (r : Result model.Certificate CertFault) (lines : List (List ℕ)) → ReadOf r lines → IfErr r (λ f. (f ≡ no_memory) ⊎ FirstFault lines f)
read_fault_of (Ok c) lines h = tt
read_fault_of (Err f) lines h = h

-- a certificate's text has no fault but that memory ran out
pub no_fault : (lines : List (List ℕ)) (c : model.Certificate) (f : CertFault) → CertText lines c → (f ≡ no_memory) ⊎ FirstFault lines f → f ≡ no_memory
no_fault lines c f h (inl e) = e
no_fault lines c f h (inr k) = absurd (faultless lines c f h k)

pub text_only : {X : Type 0} (view : X → model.Certificate) (r : Result X CertFault) (lines : List (List ℕ)) (c : model.Certificate) → IfOk r (λ x. CertText lines (view x)) → IfErr r (λ f. (f ≡ no_memory) ⊎ FirstFault lines f) → CertText lines c → GivesCertificate view r c
text_only view (Ok x) lines c found wrong h = one_certificate lines (view x) c found h
text_only view (Err f) lines c found wrong h = no_fault lines c f h wrong
