-- What lines lead to, one behind another.
use Rattle.std.proofs.Common.{◌≡◌, ℕ, ◌+◌, ◌⊎◌, inl, inr, Bool, true, eqb, List, [], ◌∷◌, ◌++◌, length, Result, Ok, Err, refl, sym, ap, subst, ◌∙◌, arith, append_assoc, append-nil, length-append}
use Rattle.std.proofs.lemmas.Bool.{eqb-true}
use Rattle.hq_text.specs.Lines.{lines_of}
use Rattle.hq_jobtext.specs.declared.draft.Place.{Place}
use Rattle.hq_jobtext.specs.declared.draft.Place.TheVariants as place
use Rattle.hq_tables.specs.declared.fault.Reason.{Reason}
use Rattle.hq_tables.specs.declared.fault.Reason.TheVariants as reason
use Rattle.hq_jobtext.specs.declared.fault.JobFault.{JobFault}
use Rattle.hq_job.specs.Value.{JobValue}
use Rattle.hq_tables.specs.Tables.{Tables, empty}
use Rattle.hq_jobtext.specs.JobText.{SaysVersion, misplaced, Admits, Refused, FirstFault, headless, faulty, behind, endless, at_end, nothing, at_line}
use Rattle.hq_jobtext.specs.Answered.{Finishes}
use Rattle.hq_jobtext.specs.SoFar.{SoFar, Begun, HasTaken, HasFault, Steps, TakesAll, ReadOf}
use Rattle.hq_jobtext.proofs.Lines.{admits_more}

-- ---- one line

pub headless_at : (line : List ℕ) (why : Reason) (old new : Tables) → ((rings : Bool) → ¬ SaysVersion line rings) → why ≡ misplaced line → Steps (Err why) place.Head old line new
headless_at line why old new none is = inr (λ lines more e. subst (λ ls. FirstFault (ls ++ line ∷ more) (at_line (length ls + 1) why)) (sym e)
    (subst (λ (w : Reason). FirstFault (line ∷ more) (at_line 1 w)) (sym is) (headless line more refl none)))

admits : (lines : List (List ℕ)) (line : List ℕ) (ts new : Tables) → Begun lines ts → Admits ts line new → Begun (lines ++ line ∷ []) new
admits lines line ts new b h =
    record { rings = b.rings; first = b.first; front = b.front ++ line ∷ []; whole = ap (λ ls. ls ++ line ∷ []) b.whole; version = b.version; admitted = admits_more b.front (empty b.rings) ts new line b.admitted h }

refuses : (lines more : List (List ℕ)) (line : List ℕ) (ts : Tables) (why : Reason) → Begun lines ts → Refused ts line why → FirstFault (lines ++ line ∷ more) (at_line (length lines + 1) why)
refuses lines more line ts why b h =
    let count : length b.front + 2 ≡ length lines + 1 = omega (arith, ap length b.whole) in
    subst (λ (n : ℕ). FirstFault (lines ++ line ∷ more) (at_line n why)) count
    (faulty b.rings b.first b.front line more ts why (ap (λ ls. ls ++ line ∷ more) b.whole) b.version b.admitted h)

pub content_steps : (line : List ℕ) (ts new : Tables) → Admits ts line new → Steps (Ok place.Content) place.Content ts line new
content_steps line ts new h lines b = admits lines line ts new b h

pub content_refused : (line : List ℕ) (why : Reason) (ts new : Tables) → (why ≡ reason.Memory) ⊎ Refused ts line why → Steps (Err why) place.Content ts line new
content_refused line why ts new (inl m) = inl m
content_refused line why ts new (inr h) = inr (λ lines more b. refuses lines more line ts why b h)

pub behind_refused : (line : List ℕ) (why : Reason) (ts new : Tables) → why ≡ misplaced line → Steps (Err why) place.Behind ts line new
behind_refused line why ts new is = inr (λ lines more c.
    let b = c.begun in
    let count : length b.front + 3 ≡ length lines + 1 = omega (arith, ap length c.whole, length-append c.front (c.last ∷ []), ap length b.whole) in
    let whole : lines ++ line ∷ more ≡ b.first ∷ (b.front ++ c.last ∷ line ∷ more) = ap (λ ls. ls ++ line ∷ more) c.whole ∙ append_assoc c.front (c.last ∷ []) (line ∷ more) ∙ ap (λ ls. ls ++ c.last ∷ line ∷ more) b.whole in
    subst (λ (w : Reason). FirstFault (lines ++ line ∷ more) (at_line (length lines + 1) w)) (sym is)
    (subst (λ (n : ℕ). FirstFault (lines ++ line ∷ more) (at_line n (misplaced line))) count
    (behind b.rings b.first b.front c.last line more ts whole b.version b.admitted c.ends)))

-- ---- the lines of a text

-- the lines of a text that were taken in, and those that are left
pub record Partly (text rest : List (List ℕ)) (old s : SoFar) : Type 0 where
  pub front : List (List ℕ)
  pub whole : text ≡ front ++ rest
  pub taken : (lines : List (List ℕ)) → HasTaken lines old → HasTaken (lines ++ front) s

pub one_more : (text rest more : List (List ℕ)) (line : List ℕ) (old mid new : SoFar) → Partly text rest old mid → rest ≡ line ∷ more
    → ((lines : List (List ℕ)) → HasTaken lines mid → HasTaken (lines ++ line ∷ []) new) → Partly text more old new
one_more text rest more line old mid new p cut next =
    record {
      front = p.front ++ line ∷ [];
      whole = p.whole ∙ ap (λ ls. p.front ++ ls) cut ∙ sym (append_assoc p.front (line ∷ []) more);
      taken = λ lines h. subst (λ (ls : List (List ℕ)). HasTaken ls new) (append_assoc lines p.front (line ∷ [])) (next (lines ++ p.front) (p.taken lines h));
    }

pub none_more : (text rest more : List (List ℕ)) (line : List ℕ) (old mid new : SoFar) (f : JobFault) → Partly text rest old mid → rest ≡ line ∷ more
    → ((lines others : List (List ℕ)) → HasTaken lines mid → HasFault (lines ++ line ∷ others) f) → TakesAll (Err f) old text new
none_more text rest more line old mid new f p cut wrong lines others h =
    let whole : (lines ++ p.front) ++ line ∷ (more ++ others) ≡ lines ++ (text ++ others) =
    append_assoc lines p.front (line ∷ (more ++ others)) ∙ ap (λ ls. lines ++ ls) (sym (append_assoc p.front (line ∷ more) others) ∙ ap (λ ls. (p.front ++ ls) ++ others) (sym cut) ∙ ap (λ ls. ls ++ others) (sym p.whole)) in
    subst (λ (ls : List (List ℕ)). HasFault ls f) whole (wrong (lines ++ p.front) (more ++ others) (p.taken lines h))

pub all_taken : (text rest : List (List ℕ)) (old new : SoFar) → Partly text rest old new → rest ≡ [] → TakesAll (Ok tt) old text new
all_taken text rest old new p none lines h =
    subst (λ (ls : List (List ℕ)). HasTaken (lines ++ ls) new) (sym (p.whole ∙ ap (λ ls. p.front ++ ls) none ∙ append-nil p.front)) (p.taken lines h)

pub no_lines : (rest : List ℕ) → true ≡ eqb (length rest) 0 → lines_of rest ≡ []
no_lines [] e = refl
no_lines (b ∷ rest) e = let none = eqb-true (length (b ∷ rest)) 0 (sym e) in absurd (omega arith)

-- what is wrong with these lines and nothing around them
pub wrong_alone : (text : List (List ℕ)) (f : JobFault) → HasFault ([] ++ (text ++ [])) f → HasFault text f
wrong_alone text f h = subst (λ (ls : List (List ℕ)). HasFault ls f) (append-nil text) h

-- ---- the end of a text

pub no_end : (here : Place) (ts : Tables) (count number : ℕ) (f : JobFault) → (here ≡ place.Behind → ⊥) → number ≡ count + 1 → f ≡ at_line number reason.NoEnd
    → (lines : List (List ℕ)) → HasTaken lines (record { place = here; tables = ts; count = count }) → HasFault lines f
no_end place.Head ts count number f other is told lines h =
    let first : number ≡ 1 = omega (arith, is, h.counted, ap length h.leads) in
    inr (subst (λ (g : JobFault). FirstFault lines g) (ap (λ k. at_line k reason.NoEnd) (sym first) ∙ sym told) (nothing h.leads))
no_end place.Content ts count number f other is told lines h =
    let b = h.leads in
    let last : length b.front + 2 ≡ number = omega (arith, is, h.counted, ap length b.whole) in
    inr (subst (λ (g : JobFault). FirstFault lines g) (ap (λ k. at_line k reason.NoEnd) last ∙ sym told) (endless b.rings b.first b.front ts b.whole b.version b.admitted))
no_end place.Behind ts count number f other is told lines h = absurd (other refl)

pub finished : {X : Type 0} (view : X → JobValue) (r : Result X JobFault) (ts : Tables) (count : ℕ) → Finishes view r count ts
    → (lines : List (List ℕ)) → HasTaken lines (record { place = place.Behind; tables = ts; count = count }) → ReadOf view r lines
finished view (Ok j) ts count done lines h =
    let c = h.leads in
    let b = c.begun in
    record {
      rings = b.rings;
      first = b.first;
      front = b.front;
      last = c.last;
      tables = ts;
      whole = c.whole ∙ ap (λ ls. ls ++ c.last ∷ []) b.whole;
      version = b.version;
      admitted = b.admitted;
      ends = c.ends;
      enough = done.0;
      exact = done.1;
      job_is = done.2;
    }
finished view (Err f) ts count (inl m) lines h = inl m
finished view (Err f) ts count (inr told) lines h =
    let c = h.leads in
    let b = c.begun in
    let number : length b.front + 2 ≡ count = omega (arith, h.counted, ap length c.whole, length-append c.front (c.last ∷ []), ap length b.whole) in
    inr (subst (λ (g : JobFault). FirstFault lines g) (ap (λ k. at_line k told.0) number ∙ sym told.2)
    (at_end b.rings b.first b.front c.last ts told.0 (c.whole ∙ ap (λ ls. ls ++ c.last ∷ []) b.whole) b.version b.admitted c.ends told.1))
