-- A text is one job's or has one first fault, and not both.
use Rattle.std.proofs.Common.{◌≡◌, ℕ, suc, ◌+◌, ◌⊎◌, inl, inr, Bool, true, false, List, [], ◌∷◌, ◌++◌, length, Result, Ok, Err, Some, None, refl, sym, ap, ◌∙◌, subst, arith, codes, slice_index, All, append-nil, length-append}
use Rattle.std.proofs.lemmas.List.{get_or_at}
use Rattle.hq_signals.specs.Table.{OpenSignal, IsUndershot, NeverReachesZero, IsFirst as IsFirstSignal}
use Rattle.hq_lines.specs.declared.fault.LineFault.{LineFault}
use Rattle.hq_lines.specs.Meaning as says
use Rattle.hq_lines.specs.Meaning.{Meaning}
use Rattle.hq_lines.specs.Order.{line_fault}
use Rattle.hq_lines.specs.Says.{SaysLine}
use Rattle.hq_lines.proofs.Whole.{one_meaning, no_line_fault}
use Rattle.hq_text.specs.Lines.{words_of}
use Rattle.hq_jobtext.specs.declared.fault.JobFault.{JobFault}
use Rattle.hq_tables.specs.declared.fault.Reason.{Reason}
use Rattle.hq_tables.specs.declared.fault.Reason.TheVariants as reason
use Rattle.hq_job.specs.Value.{JobValue}
use Rattle.hq_tables.specs.Tables.{Tables, Test, empty, tests, added, NoneApplies, IsFirst}
use Rattle.hq_jobtext.specs.JobText.{SaysVersion, one, two, misplaced, Admits, AdmitsAll, IsEnd, Refused, by_itself, by_tables, JobText, at_line, FirstFault, nothing, headless, faulty, behind, endless, at_end, OneJob, FaultlessWhereJob, OneFirstFault}
use Rattle.hq_job.specs.Ended.{value_of}
use Rattle.hq_tables.specs.AtEnd.{RefusedAtEnd, undershoot, never_zero}

-- ---- one line

one_said : (line : List ℕ) (m n : Meaning) → SaysLine line m → SaysLine line n → m ≡ n
one_said line m n h k = one_meaning (words_of line) m n h.words k.words

-- tests of which none applies have no first that does
none_first : (ts : List Test) (why : Reason) → NoneApplies ts → IsFirst ts why → ⊥
none_first [] why none first = first
none_first (t ∷ ts) why none (inl here) = none.0 here.0
none_first (t ∷ ts) why none (inr there) = none_first ts why none.1 there.1

one_reason : (ts : List Test) (why other : Reason) → IsFirst ts why → IsFirst ts other → why ≡ other
one_reason [] why other h k = absurd h
one_reason (t ∷ ts) why other (inl h) (inl k) = h.1 ∙ sym k.1
one_reason (t ∷ ts) why other (inl h) (inr k) = absurd (k.0 h.0)
one_reason (t ∷ ts) why other (inr h) (inl k) = absurd (h.0 k.0)
one_reason (t ∷ ts) why other (inr h) (inr k) = one_reason ts why other h.1 k.1

one_line_fault : (line : List ℕ) (f g : LineFault) → line_fault line ≡ Some f → line_fault line ≡ Some g → f ≡ g
one_line_fault line f g h k = some_is (sym h ∙ k)
  where
    some_is : Some f ≡ Some g → f ≡ g
    some_is e = cc

faultless_line : (line : List ℕ) (m : Meaning) (f : LineFault) → SaysLine line m → line_fault line ≡ Some f → ⊥
faultless_line line m f h fault = none_some (sym (no_line_fault line m h) ∙ fault)
  where
    none_some : None ≡ Some f → ⊥
    none_some e = cc

one_admitted : (ts : Tables) (line : List ℕ) (new other : Tables) → Admits ts line new → Admits ts line other → new ≡ other
one_admitted ts line new other h k = h.adds ∙ ap (added ts) (one_said line h.meaning k.meaning h.says_it k.says_it) ∙ sym k.adds

admitted_not_refused : (ts : Tables) (line : List ℕ) (new : Tables) (why : Reason) → Admits ts line new → Refused ts line why → ⊥
admitted_not_refused ts line new why h (by_itself f fault) = faultless_line line h.meaning f h.says_it fault
admitted_not_refused ts line new why h (by_tables m reasoned says_it first) = none_first (tests ts m) reasoned (subst (λ n. NoneApplies (tests ts n)) (one_said line h.meaning m h.says_it says_it) h.none) first

admitted_not_end : (ts : Tables) (line : List ℕ) (new : Tables) → Admits ts line new → IsEnd line → ⊥
admitted_not_end ts line new h end_it = h.not_end (one_said line h.meaning says.End h.says_it end_it)

end_not_refused : (ts : Tables) (line : List ℕ) (why : Reason) → IsEnd line → Refused ts line why → ⊥
end_not_refused ts line why end_it (by_itself f fault) = faultless_line line says.End f end_it fault
end_not_refused ts line why end_it (by_tables m reasoned says_it first) = subst (λ n. IsFirst (tests ts n) reasoned) (one_said line m says.End says_it end_it) first

one_refusal : (ts : Tables) (line : List ℕ) (why other : Reason) → Refused ts line why → Refused ts line other → why ≡ other
one_refusal ts line why other (by_itself f h) (by_itself g k) = let same : f ≡ g = one_line_fault line f g h k in cc
one_refusal ts line why other (by_itself f h) (by_tables n reasoned says_it first) = absurd (faultless_line line n f says_it h)
one_refusal ts line why other (by_tables m reasoned says_it first) (by_itself g k) = absurd (faultless_line line m g says_it k)
one_refusal ts line why other (by_tables m x h p) (by_tables n y k q) = one_reason (tests ts n) x y (subst (λ l. IsFirst (tests ts l) x) (one_said line m n h k) p) q

-- ---- the signals at the end

first_signal : (Fact : OpenSignal → Type 0) (b c a d : List OpenSignal) (s t : OpenSignal) → b ++ s ∷ a ≡ c ++ t ∷ d → Fact s → Fact t → All (λ x. ¬ Fact x) b → All (λ x. ¬ Fact x) c → s ≡ t
first_signal Fact [] [] a d s t e fs ft nb nc = cc
first_signal Fact [] (y ∷ c) a d s t e fs ft nb nc = let same : s ≡ y = cc in absurd (nc 0 y (omega arith) (subst Fact same fs))
first_signal Fact (x ∷ b) [] a d s t e fs ft nb nc = let same : x ≡ t = cc in absurd (nb 0 x (omega arith) (subst Fact (sym same) ft))
first_signal Fact (x ∷ b) (y ∷ c) a d s t e fs ft nb nc =
    let rest : b ++ s ∷ a ≡ c ++ t ∷ d = cc in
    first_signal Fact b c a d s t rest fs ft (λ k z l. nb (suc k) z (omega arith)) (λ k z l. nc (suc k) z (omega arith))

one_first : (Fact : OpenSignal → Type 0) (table : List OpenSignal) (h k : ℕ) → IsFirstSignal Fact table h → IsFirstSignal Fact table k → h ≡ k
one_first Fact table h k p q =
    sym p.named ∙ ap (λ (s : OpenSignal). s.handle) (first_signal Fact p.before q.before p.after q.after p.signal q.signal (sym p.in_order ∙ q.in_order) p.holds q.holds p.not_before q.not_before) ∙ q.named

not_first : (Fact : OpenSignal → Type 0) (table : List OpenSignal) (h : ℕ) → All (λ s. ¬ Fact s) table → IsFirstSignal Fact table h → ⊥
not_first Fact table h none p =
    let all : All (λ s. ¬ Fact s) (p.before ++ p.signal ∷ p.after) = subst (All (λ s. ¬ Fact s)) p.in_order none in
    subst (λ s. ¬ Fact s) (get_or_at p.before p.signal p.after p.signal (length p.before) refl) (all (length p.before) p.signal (omega (arith, length-append p.before (p.signal ∷ p.after)))) p.holds

one_at_end : (signals : List OpenSignal) (why other : Reason) → RefusedAtEnd signals why → RefusedAtEnd signals other → why ≡ other
one_at_end signals why other (undershoot h p) (undershoot k q) = ap reason.Undershoot (one_first IsUndershot signals h k p q)
one_at_end signals why other (undershoot h p) (never_zero k none q) = absurd (not_first IsUndershot signals h none p)
one_at_end signals why other (never_zero h none p) (undershoot k q) = absurd (not_first IsUndershot signals k none q)
one_at_end signals why other (never_zero h no_over p) (never_zero k none q) = ap reason.NeverZero (one_first NeverReachesZero signals h k p q)

-- no signal is against the text
record Sound (ts : Tables) : Type 0 where
  pub enough : All (λ s. ¬ IsUndershot s) ts.signals
  pub exact : All (λ s. ¬ NeverReachesZero s) ts.signals

sound_not_refused : (ts : Tables) (why : Reason) → Sound ts → RefusedAtEnd ts.signals why → ⊥
sound_not_refused ts why sound (undershoot h p) = not_first IsUndershot ts.signals h sound.enough p
sound_not_refused ts why sound (never_zero h none p) = not_first NeverReachesZero ts.signals h sound.exact p

-- ---- the lines behind the first

-- what comes of a text: its tables at the end, or its fault
abbrev Outcome : Type 0
Outcome = Result Tables JobFault

-- behind the end, which is line n
abbrev AtEnd : Tables → List (List ℕ) → ℕ → Outcome → Type 0
AtEnd ts [] n r = ((why : Reason) × RefusedAtEnd ts.signals why × (r ≡ Err (at_line n why))) ⊎ (Sound ts × (r ≡ Ok ts))
AtEnd ts (more ∷ rest) n r = r ≡ Err (at_line (n + 1) (misplaced more))

-- at line n, with what comes of the lines behind it
data Turn (ts : Tables) (line : List ℕ) (rest : List (List ℕ)) (n : ℕ) (r : Outcome) (More : Tables → Type 0) : Type 0 where
  refused : (why : Reason) → Refused ts line why → r ≡ Err (at_line n why) → Turn ts line rest n r More
  ended : IsEnd line → AtEnd ts rest n r → Turn ts line rest n r More
  admitted : (mid : Tables) → Admits ts line mid → More mid → Turn ts line rest n r More

-- this comes of the lines, of which the first is line n
abbrev Gives : Tables → List (List ℕ) → ℕ → Outcome → Type 0
Gives ts [] n r = r ≡ Err (at_line n reason.NoEnd)
Gives ts (line ∷ rest) n r = Turn ts line rest n r (λ mid. Gives mid rest (n + 1) r)

one_ending : (ts : Tables) (rest : List (List ℕ)) (n : ℕ) (r s : Outcome) → AtEnd ts rest n r → AtEnd ts rest n s → r ≡ s
one_ending ts [] n r s (inl (why, h, e)) (inl (other, k, f)) = e ∙ ap (λ w. Err (at_line n w)) (one_at_end ts.signals why other h k) ∙ sym f
one_ending ts [] n r s (inl (why, h, e)) (inr (sound, f)) = absurd (sound_not_refused ts why sound h)
one_ending ts [] n r s (inr (sound, e)) (inl (other, k, f)) = absurd (sound_not_refused ts other sound k)
one_ending ts [] n r s (inr (sound, e)) (inr (other, f)) = e ∙ sym f
one_ending ts (more ∷ rest) n r s h k = h ∙ sym k

one_outcome : (ts : Tables) (lines : List (List ℕ)) (n : ℕ) (r s : Outcome) → Gives ts lines n r → Gives ts lines n s → r ≡ s
one_outcome ts [] n r s h k = h ∙ sym k
one_outcome ts (line ∷ rest) n r s (refused why h e) (refused other k f) = e ∙ ap (λ w. Err (at_line n w)) (one_refusal ts line why other h k) ∙ sym f
one_outcome ts (line ∷ rest) n r s (refused why h e) (ended k more) = absurd (end_not_refused ts line why k h)
one_outcome ts (line ∷ rest) n r s (refused why h e) (admitted mid k more) = absurd (admitted_not_refused ts line mid why k h)
one_outcome ts (line ∷ rest) n r s (ended h more) (refused other k f) = absurd (end_not_refused ts line other h k)
one_outcome ts (line ∷ rest) n r s (ended h more) (ended k others) = one_ending ts rest n r s more others
one_outcome ts (line ∷ rest) n r s (ended h more) (admitted mid k others) = absurd (admitted_not_end ts line mid k h)
one_outcome ts (line ∷ rest) n r s (admitted mid h more) (refused other k f) = absurd (admitted_not_refused ts line mid other h k)
one_outcome ts (line ∷ rest) n r s (admitted mid h more) (ended k others) = absurd (admitted_not_end ts line mid h k)
one_outcome ts (line ∷ rest) n r s (admitted mid h more) (admitted new k others) =
    one_outcome mid rest (n + 1) r s more (subst (λ t. Gives t rest (n + 1) s) (one_admitted ts line new mid k h) others)

-- behind admitted lines
behind_admitted : (front : List (List ℕ)) (ts mid : Tables) (tail : List (List ℕ)) (n m : ℕ) (r : Outcome) → AdmitsAll ts front mid → m ≡ length front + n → Gives mid tail m r → Gives ts (front ++ tail) n r
behind_admitted [] ts mid tail n m r same e h = subst (λ t. Gives t tail n r) same (subst (λ k. Gives mid tail k r) (e ∙ omega arith) h)
behind_admitted (line ∷ front) ts mid tail n m r (new, here, others) e h = admitted new here (behind_admitted front new mid tail (n + 1) m r others (omega arith) h)

-- ---- whole texts

abbrev Text : List (List ℕ) → Outcome → Type 0
Text [] r = r ≡ Err (at_line 1 reason.NoEnd)
Text (first ∷ others) r = (((rings : Bool) → ¬ SaysVersion first rings) × (r ≡ Err (at_line 1 (misplaced first)))) ⊎ ((rings : Bool) × SaysVersion first rings × Gives (empty rings) others 2 r)

version_is : (first : List ℕ) (rings : Bool) → SaysVersion first rings → ((first ≡ codes "hsaq 1") × (rings ≡ false)) ⊎ ((first ≡ codes "hsaq 2") × (rings ≡ true))
version_is first rings one = inl (refl, refl)
version_is first rings two = inr (refl, refl)

versions_apart : codes "hsaq 1" ≡ codes "hsaq 2" → ⊥
versions_apart e = let last : slice_index (codes "hsaq 1") 5 ≡ slice_index (codes "hsaq 2") 5 = ap (λ (w : List ℕ). slice_index w 5) e in omega arith

one_version : (first : List ℕ) (a b : Bool) → SaysVersion first a → SaysVersion first b → a ≡ b
one_version first a b h k = go (version_is first a h) (version_is first b k)
  where
    go : ((first ≡ codes "hsaq 1") × (a ≡ false)) ⊎ ((first ≡ codes "hsaq 2") × (a ≡ true)) → ((first ≡ codes "hsaq 1") × (b ≡ false)) ⊎ ((first ≡ codes "hsaq 2") × (b ≡ true)) → a ≡ b
    go (inl x) (inl y) = x.1 ∙ sym y.1
    go (inl x) (inr y) = absurd (versions_apart (sym x.0 ∙ y.0))
    go (inr x) (inl y) = absurd (versions_apart (sym y.0 ∙ x.0))
    go (inr x) (inr y) = x.1 ∙ sym y.1

one_text : (lines : List (List ℕ)) (r s : Outcome) → Text lines r → Text lines s → r ≡ s
one_text [] r s h k = h ∙ sym k
one_text (first ∷ others) r s (inl (none, e)) (inl (other, f)) = e ∙ sym f
one_text (first ∷ others) r s (inl (none, e)) (inr (rings, version, k)) = absurd (none rings version)
one_text (first ∷ others) r s (inr (rings, version, h)) (inl (none, f)) = absurd (none rings version)
one_text (first ∷ others) r s (inr (rings, version, h)) (inr (other, same, k)) =
    one_outcome (empty rings) others 2 r s h (subst (λ b. Gives (empty b) others 2 s) (one_version first other rings same version) k)

text_behind : (lines : List (List ℕ)) (rings : Bool) (first : List ℕ) (front tail : List (List ℕ)) (mid : Tables) (r : Outcome)
    → lines ≡ first ∷ (front ++ tail) → SaysVersion first rings → AdmitsAll (empty rings) front mid → Gives mid tail (length front + 2) r → Text lines r
text_behind lines rings first front tail mid r whole version all h =
    subst (λ ls. Text ls r) (sym whole) (inr (rings, version, behind_admitted front (empty rings) mid tail 2 (length front + 2) r all refl h))

job_text : (lines : List (List ℕ)) (job : JobValue) (t : JobText lines job) → Text lines (Ok t.tables)
job_text lines job t =
    text_behind lines t.rings t.first t.front (t.last ∷ []) t.tables (Ok t.tables) t.whole t.version t.admitted (ended t.ends (inr (record { enough = t.enough; exact = t.exact }, refl)))

fault_text : (lines : List (List ℕ)) (f : JobFault) → FirstFault lines f → Text lines (Err f)
fault_text lines f (nothing whole) = subst (λ ls. Text ls (Err f)) (sym whole) refl
fault_text lines f (headless first others whole none) = subst (λ ls. Text ls (Err f)) (sym whole) (inl (none, refl))
fault_text lines f (faulty rings first front line rest mid why whole version all fault) =
    text_behind lines rings first front (line ∷ rest) mid (Err f) whole version all (refused why fault refl)
fault_text lines f (behind rings first front last more rest mid whole version all ends) =
    text_behind lines rings first front (last ∷ more ∷ rest) mid (Err f) whole version all (ended ends (ap (λ n. Err (at_line n (misplaced more))) (omega arith)))
fault_text lines f (endless rings first front mid whole version all) =
    text_behind lines rings first front [] mid (Err f) (whole ∙ ap (λ ls. first ∷ ls) (sym (append-nil front))) version all refl
fault_text lines f (at_end rings first front last mid why whole version all ends fault) =
    text_behind lines rings first front (last ∷ []) mid (Err f) whole version all (ended ends (inl (why, fault, refl)))

-- ---- the laws

ok_is : (t u : Tables) → (let x : Outcome = Ok t in let y : Outcome = Ok u in x ≡ y) → t ≡ u
ok_is t u e = cc

err_is : (f g : JobFault) → (let x : Outcome = Err f in let y : Outcome = Err g in x ≡ y) → f ≡ g
err_is f g e = cc

not_both : (t : Tables) (f : JobFault) → (let x : Outcome = Ok t in let y : Outcome = Err f in x ≡ y) → ⊥
not_both t f e = cc

pub one_job : OneJob
one_job lines a b h k =
    h.job_is ∙ ap value_of (ok_is h.tables k.tables (one_text lines (Ok h.tables) (Ok k.tables) (job_text lines a h) (job_text lines b k))) ∙ sym k.job_is

pub faultless_where_job : FaultlessWhereJob
faultless_where_job lines job f h fault = not_both h.tables f (one_text lines (Ok h.tables) (Err f) (job_text lines job h) (fault_text lines f fault))

pub one_first_fault : OneFirstFault
one_first_fault lines f g h k = err_is f g (one_text lines (Err f) (Err g) (fault_text lines f h) (fault_text lines g k))
