-- Lines taken in one behind another.
use Rattle.std.proofs.Common.{◌≡◌, ℕ, ◌+◌, ◌⊎◌, inl, inr, List, [], ◌∷◌, ◌++◌, length, Option, Some, None, refl, sym, ap, subst, ◌∙◌, arith, append_assoc, append-nil, length-append}
use Rattle.std.specs.Prelude.{map, Result, Ok, Err}
use Rattle.hq_text.specs.Lines.{words_of}
use Rattle.hq_text.specs.LineByLine.{Adds, Admits, Refuses, AdmitsAll, FirstRefused, FirstFault, faulty, endless}
use Rattle.hq_text.proofs.InTurn.{ok_is}

pub admits_both : {S R : Type 0} (added : Adds S R) (front lines : List (List ℕ)) (s mid new : S) → AdmitsAll added s front mid → AdmitsAll added mid lines new → AdmitsAll added s (front ++ lines) new
admits_both {S} {R} added [] lines s mid new h k = subst (λ (t : S). AdmitsAll added t lines new) h k
admits_both added (line ∷ front) lines s mid new h k = (h.0, h.1, admits_both added front lines h.0 mid new h.2 k)

pub admits_more : {S R : Type 0} (added : Adds S R) (front : List (List ℕ)) (s mid new : S) (line : List ℕ) → AdmitsAll added s front mid → Admits added mid line new → AdmitsAll added s (front ++ line ∷ []) new
admits_more added front s mid new line all h = admits_both added front (line ∷ []) s mid new all (new, h, refl)

pub one_state : {S R : Type 0} (added : Adds S R) (lines : List (List ℕ)) (s t u : S) → AdmitsAll added s lines t → AdmitsAll added s lines u → t ≡ u
one_state added [] s t u h k = h ∙ sym k
one_state {S} {R} added (line ∷ lines) s t u h k =
    let same : h.0 ≡ k.0 = ok_is h.0 k.0 (sym h.1 ∙ k.1) in
    one_state added lines k.0 t u (subst (λ (m : S). AdmitsAll added m lines t) same h.2) k.2

-- ---- by their words

-- lines are admitted one behind another, by their words
abbrev pub AddsAll : {S R : Type 0} → Adds S R → S → List (List (List ℕ)) → S → Type 0
AddsAll added s [] t = t ≡ s
AddsAll {S} {R} added s (w ∷ ws) t = (mid : S) × (added s w ≡ Ok mid) × AddsAll added mid ws t

pub adds_both : {S R : Type 0} (added : Adds S R) (s mid t : S) (xs ys : List (List (List ℕ))) → AddsAll added s xs mid → AddsAll added mid ys t → AddsAll added s (xs ++ ys) t
adds_both {S} {R} added s mid t [] ys h k = subst (λ (u : S). AddsAll added u ys t) h k
adds_both added s mid t (w ∷ xs) ys h k = (h.0, h.1, adds_both added h.0 mid t xs ys h.2 k)

pub admits_of : {S R : Type 0} (added : Adds S R) (lines : List (List ℕ)) (s t : S) → AddsAll added s (map words_of lines) t → AdmitsAll added s lines t
admits_of added [] s t h = h
admits_of added (line ∷ lines) s t h = (h.0, h.1, admits_of added lines h.0 t h.2)

-- what is kept of the words of each line, is kept of the words of all
pub keeps_lines : {S R : Type 0} (added : Adds S R) (Kept : List (List (List ℕ)) → S → Type 0)
    → ((words : List (List (List ℕ))) (w : List (List ℕ)) (s t : S) → Kept words s → added s w ≡ Ok t → Kept (words ++ w ∷ []) t)
    → (words : List (List (List ℕ))) (lines : List (List ℕ)) (s t : S) → Kept words s → AdmitsAll added s lines t → Kept (words ++ map words_of lines) t
keeps_lines {S} {R} added Kept kept words [] s t k h = subst (λ (u : S). Kept (words ++ []) u) (sym h) (subst (λ (ws : List (List (List ℕ))). Kept ws s) (sym (append-nil words)) k)
keeps_lines {S} {R} added Kept kept words (line ∷ lines) s t k h =
    subst (λ (ws : List (List (List ℕ))). Kept ws t) (append_assoc words (words_of line ∷ []) (map words_of lines))
    (keeps_lines added Kept kept (words ++ words_of line ∷ []) lines h.0 t (kept words (words_of line) s h.0 k h.1) h.2)

-- ---- on the way

-- behind so many lines more were taken in, which makes so many, and these are left
pub record Taken {S R : Type 0} (added : Adds S R) (all rest : List (List ℕ)) (before count : ℕ) (old s : S) : Type 0 where
  pub front : List (List ℕ)
  pub whole : all ≡ front ++ rest
  pub counted : before + length front ≡ count
  pub admitted : AdmitsAll added old front s

pub one_taken : {S R : Type 0} (added : Adds S R) (all rest more : List (List ℕ)) (line : List ℕ) (before count next : ℕ) (old s new : S) → Taken added all rest before count old s → rest ≡ line ∷ more → next ≡ count + 1 → Admits added s line new → Taken added all more before next old new
one_taken added all rest more line before count next old s new t cut number is =
    record {
      front = t.front ++ line ∷ [];
      whole = t.whole ∙ ap (λ r. t.front ++ r) cut ∙ sym (append_assoc t.front (line ∷ []) more);
      counted = let long = length-append t.front (line ∷ []) in let so = t.counted in omega arith;
      admitted = admits_more added t.front old s new line t.admitted is;
    }

pub next_refused : {S R : Type 0} (added : Adds S R) (all rest more : List (List ℕ)) (line : List ℕ) (before count next : ℕ) (old s : S) (why : R) → Taken added all rest before count old s → rest ≡ line ∷ more → next ≡ count + 1 → Refuses added s line why → FirstRefused added old all before next why
next_refused added all rest more line before count next old s why t cut number is =
    record {
      front = t.front;
      line = line;
      rest = more;
      mid = s;
      whole = t.whole ∙ ap (λ r. t.front ++ r) cut;
      admitted = t.admitted;
      refused = is;
      counted = let so = t.counted in omega arith;
    }

pub refused_behind : {S R : Type 0} (added : Adds S R) (taken lines more : List (List ℕ)) (start s : S) (n number : ℕ) (why : R) → n ≡ length taken → AdmitsAll added start taken s → FirstRefused added s lines n number why → FirstRefused added start (taken ++ (lines ++ more)) 0 number why
refused_behind added taken lines more start s n number why count h r =
    record {
      front = taken ++ r.front;
      line = r.line;
      rest = r.rest ++ more;
      mid = r.mid;
      whole = ap (λ ls. taken ++ (ls ++ more)) r.whole ∙ ap (λ ls. taken ++ ls) (append_assoc r.front (r.line ∷ r.rest) more) ∙ sym (append_assoc taken r.front (r.line ∷ (r.rest ++ more)));
      admitted = admits_both added taken r.front start s r.mid h r.admitted;
      refused = r.refused;
      counted = let so = r.counted in let long = length-append taken r.front in omega arith;
    }

-- ---- what comes of a text

-- its first fault, from line n on, if it has one
abbrev Outcome : {S R : Type 0} → Adds S R → (S → Option R) → S → ℕ → List (List ℕ) → Option (ℕ × R) → Type 0
Outcome {S} {R} added unended s n [] r = ((unended s ≡ None) × (r ≡ None)) ⊎ ((why : R) × (unended s ≡ Some why) × (r ≡ Some (n, why)))
Outcome {S} {R} added unended s n (line ∷ lines) r = ((why : R) × Refuses added s line why × (r ≡ Some (n, why))) ⊎ ((mid : S) × Admits added s line mid × Outcome added unended mid (n + 1) lines r)

err_is : {A F : Type 0} (a b : F) → (let x : Result A F = Err a in let y : Result A F = Err b in x ≡ y) → a ≡ b
err_is a b e = cc

not_both : {A F : Type 0} (a : F) (b : A) → (let x : Result A F = Err a in let y : Result A F = Ok b in x ≡ y) → ⊥
not_both a b e = cc

some_is : {A : Type 0} (a b : A) → Some a ≡ Some b → a ≡ b
some_is a b e = cc

none_some : {A : Type 0} (a : A) → None ≡ Some a → ⊥
none_some a e = cc

one_outcome : {S R : Type 0} (added : Adds S R) (unended : S → Option R) (s : S) (n : ℕ) (lines : List (List ℕ)) (r q : Option (ℕ × R)) → Outcome added unended s n lines r → Outcome added unended s n lines q → r ≡ q
one_outcome added unended s n [] r q (inl h) (inl k) = h.1 ∙ sym k.1
one_outcome added unended s n [] r q (inl h) (inr k) = absurd (none_some k.0 (sym h.0 ∙ k.1))
one_outcome added unended s n [] r q (inr h) (inl k) = absurd (none_some h.0 (sym k.0 ∙ h.1))
one_outcome added unended s n [] r q (inr h) (inr k) = h.2 ∙ ap (λ w. Some (n, w)) (some_is h.0 k.0 (sym h.1 ∙ k.1)) ∙ sym k.2
one_outcome added unended s n (line ∷ lines) r q (inl h) (inl k) = h.2 ∙ ap (λ w. Some (n, w)) (err_is h.0 k.0 (sym h.1 ∙ k.1)) ∙ sym k.2
one_outcome added unended s n (line ∷ lines) r q (inl h) (inr k) = absurd (not_both h.0 k.0 (sym h.1 ∙ k.1))
one_outcome added unended s n (line ∷ lines) r q (inr h) (inl k) = absurd (not_both k.0 h.0 (sym k.1 ∙ h.1))
one_outcome {S} {R} added unended s n (line ∷ lines) r q (inr h) (inr k) =
    let same : h.0 ≡ k.0 = ok_is h.0 k.0 (sym h.1 ∙ k.1) in
    one_outcome added unended k.0 (n + 1) lines r q (subst (λ (m : S). Outcome added unended m (n + 1) lines r) same h.2) k.2

end_outcome : {S R : Type 0} (added : Adds S R) (unended : S → Option R) (lines : List (List ℕ)) (s t : S) (n m : ℕ) (r : Option (ℕ × R)) → AdmitsAll added s lines t → m ≡ n + length lines → Outcome added unended t m [] r → Outcome added unended s n lines r
end_outcome {S} {R} added unended [] s t n m r h len e =
    let same : m ≡ n = omega arith in
    subst (λ (k : ℕ). Outcome added unended s k [] r) same (subst (λ (u : S). Outcome added unended u m [] r) h e)
end_outcome added unended (line ∷ lines) s t n m r h len e = inr (h.0, h.1, end_outcome added unended lines h.0 t (n + 1) m r h.2 (omega arith) e)

refused_outcome : {S R : Type 0} (added : Adds S R) (unended : S → Option R) (front : List (List ℕ)) (line : List ℕ) (rest : List (List ℕ)) (s mid : S) (why : R) (n m : ℕ) → AdmitsAll added s front mid → Refuses added mid line why → m ≡ n + length front → Outcome added unended s n (front ++ line ∷ rest) (Some (m, why))
refused_outcome {S} {R} added unended [] line rest s mid why n m h r len = inl (why, subst (λ (u : S). Refuses added u line why) h r, ap (λ k. Some (k, why)) (let z : m ≡ n = omega arith in z))
refused_outcome added unended (first ∷ front) line rest s mid why n m h r len = inr (h.0, h.1, refused_outcome added unended front line rest h.0 mid why (n + 1) m h.2 r (omega arith))

fault_outcome : {S R : Type 0} (added : Adds S R) (unended : S → Option R) (start : S) (lines : List (List ℕ)) (n : ℕ) (why : R) → FirstFault added unended start lines n why → Outcome added unended start 1 lines (Some (n, why))
fault_outcome {S} {R} added unended start lines n why (faulty r) =
    subst (λ (ls : List (List ℕ)). Outcome added unended start 1 ls (Some (n, why))) (sym r.whole) (refused_outcome added unended r.front r.line r.rest start r.mid why 1 n r.admitted r.refused (let so = r.counted in omega arith))
fault_outcome added unended start lines n why (endless mid h ends number) =
    end_outcome added unended lines start mid 1 n (Some (n, why)) h (omega arith) (inr (why, ends, refl))

-- a text that may end as it does has no fault
pub no_first_fault : {S R : Type 0} (added : Adds S R) (unended : S → Option R) (start s : S) (lines : List (List ℕ)) (n : ℕ) (why : R) → AdmitsAll added start lines s → unended s ≡ None → FirstFault added unended start lines n why → ⊥
no_first_fault added unended start s lines n why h ends f =
    none_some (n, why) (one_outcome added unended start 1 lines None (Some (n, why)) (end_outcome added unended lines start s 1 (1 + length lines) None h refl (inl (ends, refl))) (fault_outcome added unended start lines n why f))

-- a text has one first fault
pub one_fault : {S R : Type 0} (added : Adds S R) (unended : S → Option R) (start : S) (lines : List (List ℕ)) (n m : ℕ) (why other : R) → FirstFault added unended start lines n why → FirstFault added unended start lines m other → (n ≡ m) × (why ≡ other)
one_fault {S} {R} added unended start lines n m why other f g =
    let same = some_is (n, why) (m, other) (one_outcome added unended start 1 lines (Some (n, why)) (Some (m, other)) (fault_outcome added unended start lines n why f) (fault_outcome added unended start lines m other g)) in
    (ap (λ (p : ℕ × R). p.0) same, ap (λ (p : ℕ × R). p.1) same)
