-- Lines taken in where lines of the certificate and pair lines were let go: the tests ask how many lines there are, and
-- neither what they say nor for pair lines; and behind a pair line no more lines come.
use Rattle.std.proofs.Common.{◌≡◌, ℕ, ◌+◌, ◌⊎◌, inl, inr, Bool, true, false, cond, List, [], ◌∷◌, ◌++◌, length, refl, sym, ap, subst, ◌∙◌, append_assoc, append-nil, length-append}
use Rattle.std.specs.Prelude.{◌&&◌, codes, replicate, Result, Ok, Err, OnOk, IfErr}
use Rattle.std.specs.Str.{bytes_eq}
use Rattle.std.proofs.lemmas.List.{length-replicate}
use Rattle.hq_text.specs.InTurn.{◌>>=◌}
use Rattle.hq_text.specs.LineByLine.{AdmitsAll, FirstRefused}
use Rattle.hq_text.specs.Lines.{words_of}
use Rattle.hq_text.proofs.InTurn.{steps, ok_is}
use Rattle.hq_text.proofs.LineByLine.{keeps_lines}
use Rattle.hq_model.specs.Certificate as model
use Rattle.hq_certread.specs.declared.fault.CertReason.{CertReason}
use Rattle.hq_certread.specs.declared.fault.CertReason.TheVariants as reason
use Rattle.hq_certread.specs.declared.draft.Stage.{Stage}
use Rattle.hq_certread.specs.declared.draft.Stage.TheVariants as stage
use Rattle.hq_certread.specs.declared.fault.CertFault.{CertFault}
use Rattle.hq_certread.specs.DraftView.{behind, blank}
use Rattle.hq_certread.specs.Gives.{no_memory}
use Rattle.hq_certread.specs.LineTests.{head_said, order_said, line_said, pair_said}
use Rattle.hq_certread.specs.declared.progress.Progress.{Progress}
use Rattle.hq_certread.specs.SoFar.{HasFault, HasTaken, IsPast, LinesStand, lines_in, pairs_in}
use Rattle.hq_certread.specs.TextFaults.{State, start, with_head, with_order, with_line, with_pair, with_end, add_head, add_order, add_line, add_pair, add_end, add_behind, add_content, add_at, added}
use Rattle.hq_certread.proofs.States.{Shape, Kept, kept, kept_start}

-- ---- what is admitted, and what is refused, is so whatever stands in front, as long as the lines there are as many

-- lists with the same in front, which are one, are one behind it
pub same_front : {A : Type 0} (xs ys zs : List A) → xs ++ ys ≡ xs ++ zs → ys ≡ zs
same_front [] ys zs e = e
same_front (x ∷ xs) ys zs e = same_front xs ys zs cc

-- what is no longer than what stands in front of it, is that
pub none_behind : {A : Type 0} (xs ys : List A) → xs ++ ys ≡ xs → ys ≡ []
none_behind xs ys e = same_front xs ys [] (e ∙ sym (append-nil xs))

-- an answer isn't both
ok_no_err : (a : State) (why : CertReason) → (let x : Result State CertReason = Ok a in x ≡ Err why) → ⊥
ok_no_err a why e = cc

-- states of the same parts
same_state : (st su : Stage) (c d : Bool) (o q : List ℕ) (ls ms : List model.Line) (ps qs : List model.Pair) → st ≡ su → c ≡ d → o ≡ q → ls ≡ ms → ps ≡ qs
    → (let s : State = record { stage = st; chained = c; order = o; lines = ls; pairs = ps } in let t : State = record { stage = su; chained = d; order = q; lines = ms; pairs = qs } in s ≡ t)
same_state st su c d o q ls ms ps qs a b e f g = cc

module _ (xs ys : List model.Line) (gone : List model.Pair) (many : length xs ≡ length ys) where
  -- the same answer, of a state with those in front
  abbrev onto : List model.Line → List model.Pair → Result State CertReason → Result State CertReason
  onto front pairs (Ok s) = Ok (behind front pairs s)
  onto front pairs (Err e) = Err e

  -- two answers are one, but for what stands in front
  record Alike (r q : Result State CertReason) : Type 0 where
    out : Result State CertReason
    first : r ≡ onto xs [] out
    second : q ≡ onto ys gone out

  abbrev one : State → State
  one s = behind xs [] s

  abbrev other : State → State
  other s = behind ys gone s

  -- as many lines
  as_many : (ls : List model.Line) → length (xs ++ ls) ≡ length (ys ++ ls)
  as_many ls = length-append xs ls ∙ ap (λ n. n + length ls) many ∙ sym (length-append ys ls)

  alike_step : {X : Type 0} (r q : Result X CertReason) (f g h : X → State) → r ≡ q → ((x : X) → g x ≡ one (f x)) → ((x : X) → h x ≡ other (f x)) → Alike (r >>= λ x. Ok (g x)) (q >>= λ x. Ok (h x))
  alike_step {X} r q f g h e first second = subst (λ (p : Result X CertReason). Alike (r >>= λ x. Ok (g x)) (p >>= λ x. Ok (h x))) e (by r) where
    by : (r : Result X CertReason) → Alike (r >>= λ x. Ok (g x)) (r >>= λ x. Ok (h x))
    by (Ok x) = record { out = Ok (f x); first = ap Ok (first x); second = ap Ok (second x) }
    by (Err why) = record { out = Err why; first = refl; second = refl }

  alike_fault : (why : CertReason) → Alike (Err why) (Err why)
  alike_fault why = record { out = Err why; first = refl; second = refl }

  alike_either : (b : Bool) (x y v w : Result State CertReason) → Alike x v → Alike y w → Alike (cond b x y) (cond b v w)
  alike_either true x y v w a c = a
  alike_either false x y v w a c = c

  alike_head : (s : State) (w : List (List ℕ)) → Alike (add_head (one s) w) (add_head (other s) w)
  unfolding add_head
  alike_head s w = alike_step (head_said w) (head_said w) (λ ch. with_head s ch) (λ ch. with_head (one s) ch) (λ ch. with_head (other s) ch) refl (λ ch. refl) (λ ch. refl)

  alike_order : (s : State) (w : List (List ℕ)) → Alike (add_order (one s) w) (add_order (other s) w)
  unfolding add_order
  alike_order s w = alike_step (order_said w) (order_said w) (λ o. with_order s o) (λ o. with_order (one s) o) (λ o. with_order (other s) o) refl (λ o. refl) (λ o. refl)

  alike_line : (s : State) (w : List (List ℕ)) → Alike (add_line (one s) w) (add_line (other s) w)
  unfolding add_line
  alike_line s w =
      alike_step (line_said (length (xs ++ s.lines)) w) (line_said (length (ys ++ s.lines)) w) (λ l. with_line s l) (λ l. with_line (one s) l) (λ l. with_line (other s) l) (ap (λ n. line_said n w) (as_many s.lines))
      (λ l. ap (λ (ls : List model.Line). record { stage = stage.Lines; chained = s.chained; order = s.order; lines = ls; pairs = s.pairs }) (append_assoc xs s.lines (l ∷ [])))
      (λ l. ap (λ (ls : List model.Line). record { stage = stage.Lines; chained = s.chained; order = s.order; lines = ls; pairs = gone ++ s.pairs }) (append_assoc ys s.lines (l ∷ [])))

  alike_pair : (s : State) (w : List (List ℕ)) → Alike (add_pair (one s) w) (add_pair (other s) w)
  unfolding add_pair
  alike_pair s w =
      alike_step (pair_said s.chained (length (xs ++ s.lines)) w) (pair_said s.chained (length (ys ++ s.lines)) w) (λ p. with_pair s p) (λ p. with_pair (one s) p) (λ p. with_pair (other s) p) (ap (λ n. pair_said s.chained n w) (as_many s.lines))
      (λ p. refl)
      (λ p. ap (λ (ps : List model.Pair). record { stage = stage.Pairs; chained = s.chained; order = s.order; lines = ys ++ s.lines; pairs = ps }) (append_assoc gone s.pairs (p ∷ [])))

  alike_end : (s : State) (w : List (List ℕ)) → Alike (add_end (one s) w) (add_end (other s) w)
  unfolding add_end
  alike_end s [] = record { out = Ok (with_end s); first = refl; second = refl }
  alike_end s (x ∷ w) = alike_fault reason.Word

  alike_rest : (s : State) (first : List ℕ) (w : List (List ℕ)) → Alike (add_behind (one s) first w) (add_behind (other s) first w)
  unfolding add_behind
  alike_rest s first w =
      alike_either (bytes_eq first (codes "pair")) (add_pair (one s) w) (cond (bytes_eq first (codes "end")) (add_end (one s) w) (Err reason.Word)) (add_pair (other s) w)
      (cond (bytes_eq first (codes "end")) (add_end (other s) w) (Err reason.Word)) (alike_pair s w)
      (alike_either (bytes_eq first (codes "end")) (add_end (one s) w) (Err reason.Word) (add_end (other s) w) (Err reason.Word) (alike_end s w) (alike_fault reason.Word))

  alike_content : (lines : Bool) (s : State) (w : List (List ℕ)) → Alike (add_content lines (one s) w) (add_content lines (other s) w)
  unfolding add_content
  alike_content lines s [] = alike_fault reason.Word
  alike_content lines s (first ∷ others) =
      alike_either (bytes_eq first (codes "line") && lines) (add_line (one s) others) (add_behind (one s) first others) (add_line (other s) others) (add_behind (other s) first others) (alike_line s others) (alike_rest s first others)

  alike_at : (st : Stage) (s : State) (w : List (List ℕ)) → Alike (add_at st (one s) w) (add_at st (other s) w)
  alike_at stage.Head s w = alike_head s w
  alike_at stage.Order s w = alike_order s w
  alike_at stage.Lines s w = alike_content true s w
  alike_at stage.Pairs s w = alike_content false s w
  alike_at stage.Ended s w = alike_fault reason.Word

  alike_added : (s : State) (w : List (List ℕ)) → Alike (added (one s) w) (added (other s) w)
  unfolding added
  alike_added s w = alike_at s.stage s w

  -- what more lines leave of a state, with what stands in front of it, and with the other in front
  record Reached (s : State) (lines : List (List ℕ)) (a : State) : Type 0 where
    kept : State
    is : a ≡ one kept
    too : AdmitsAll added (other s) lines (other kept)

  -- one line more
  record Next (s : State) (w : List (List ℕ)) (a : State) : Type 0 where
    kept : State
    is : a ≡ one kept
    too : added (other s) w ≡ Ok (other kept)

  next : (s a : State) (w : List (List ℕ)) → added (one s) w ≡ Ok a → Next s w a
  next s a w e = let h = alike_added s w in by h.out h.first h.second where
    by : (r : Result State CertReason) → added (one s) w ≡ onto xs [] r → added (other s) w ≡ onto ys gone r → Next s w a
    by (Ok t) p q = record { kept = t; is = ok_is a (one t) (sym e ∙ p); too = q }
    by (Err why) p q = absurd (ok_no_err a why (sym e ∙ p))

  reached : (lines : List (List ℕ)) (s a : State) → AdmitsAll added (one s) lines a → Reached s lines a
  reached [] s a e = record { kept = s; is = e; too = refl }
  reached (line ∷ lines) s a (mid, here, rest) =
      let n = next s mid (words_of line) here in
      let r = reached lines n.kept a (subst (λ (t : State). AdmitsAll added t lines a) n.is rest) in
      record { kept = r.kept; is = r.is; too = (other n.kept, n.too, r.too) }

  refused_too : (s : State) (w : List (List ℕ)) (why : CertReason) → added (one s) w ≡ Err why → added (other s) w ≡ Err why
  refused_too s w why e = let h = alike_added s w in by h.out h.first h.second where
    by : (r : Result State CertReason) → added (one s) w ≡ onto xs [] r → added (other s) w ≡ onto ys gone r → added (other s) w ≡ Err why
    by (Ok t) p q = absurd (ok_no_err (one t) why (sym p ∙ e))
    by (Err f) p q = q ∙ sym p ∙ e

  -- what stands in front hides no difference
  one_once : (s t : State) → one s ≡ one t → s ≡ t
  one_once s t e =
      same_state s.stage t.stage s.chained t.chained s.order t.order s.lines t.lines s.pairs t.pairs (ap (λ (u : State). u.stage) e) (ap (λ (u : State). u.chained) e) (ap (λ (u : State). u.order) e)
      (same_front xs s.lines t.lines (ap (λ (u : State). u.lines) e)) (ap (λ (u : State). u.pairs) e)

  pub all_behind : (lines : List (List ℕ)) (s t : State) → AdmitsAll added (behind xs [] s) lines (behind xs [] t) → AdmitsAll added (behind ys gone s) lines (behind ys gone t)
  all_behind lines s t h =
      let r = reached lines s (one t) h in
      subst (λ (u : State). AdmitsAll added (other s) lines (other u)) (sym (one_once t r.kept r.is)) r.too

  pub refused_behind : (lines : List (List ℕ)) (s : State) (n number : ℕ) (why : CertReason) → FirstRefused added (behind xs [] s) lines n number why → FirstRefused added (behind ys gone s) lines n number why
  refused_behind lines s n number why r =
      let m = reached r.front s r.mid r.admitted in
      record {
        front = r.front;
        line = r.line;
        rest = r.rest;
        mid = other m.kept;
        whole = r.whole;
        admitted = m.too;
        refused = refused_too m.kept (words_of r.line) why (subst (λ (t : State). added t (words_of r.line) ≡ Err why) m.is r.refused);
        counted = r.counted;
      }

  -- a fault of more lines is theirs, whatever was let go
  pub takes_behind : (lines : List (List ℕ)) (s : State) (n : ℕ) (f : CertFault) → (f ≡ no_memory) ⊎ FirstRefused added (behind xs [] s) lines n f.line f.reason → (f ≡ no_memory) ⊎ FirstRefused added (behind ys gone s) lines n f.line f.reason
  takes_behind lines s n f (inl e) = inl e
  takes_behind lines s n f (inr r) = inr (refused_behind lines s n f.line f.reason r)

-- ---- behind a pair line no more lines come

pub record StaysPast (s t : State) : Type 0 where
  pub past : IsPast t.stage
  pub lines : t.lines ≡ s.lines

stays_if : (s t u : State) → u ≡ t → StaysPast s u → StaysPast s t
stays_if s t u e h = subst (λ (v : State). StaysPast s v) e h

pair_stays : (s t : State) (w : List (List ℕ)) → add_pair s w ≡ Ok t → StaysPast s t
unfolding add_pair
pair_stays s t w e =
    let h = steps (pair_said s.chained (length s.lines) w) (λ pair. Ok (with_pair s pair)) t e in
    stays_if s t (with_pair s h.value) (ok_is _ t h.next) (record { past = tt; lines = refl })

end_stays : (s t : State) (w : List (List ℕ)) → add_end s w ≡ Ok t → StaysPast s t
unfolding add_end
end_stays s t [] e = stays_if s t (with_end s) (ok_is _ t e) (record { past = tt; lines = refl })
end_stays s t (x ∷ w) e = absurd cc

rest_stays : (s t : State) (first : List ℕ) (w : List (List ℕ)) → add_behind s first w ≡ Ok t → StaysPast s t
unfolding add_behind
rest_stays s t first w e = by (bytes_eq first (codes "pair")) (bytes_eq first (codes "end")) e where
  by : (x y : Bool) → cond x (add_pair s w) (cond y (add_end s w) (Err reason.Word)) ≡ Ok t → StaysPast s t
  by true y e = pair_stays s t w e
  by false true e = end_stays s t w e
  by false false e = absurd cc

content_stays : (s t : State) (w : List (List ℕ)) → add_content false s w ≡ Ok t → StaysPast s t
unfolding add_content
content_stays s t [] e = absurd cc
content_stays s t (first ∷ others) e = by (bytes_eq first (codes "line")) e where
  by : (x : Bool) → cond (x && false) (add_line s others) (add_behind s first others) ≡ Ok t → StaysPast s t
  by true e = rest_stays s t first others e
  by false e = rest_stays s t first others e

at_stays : (st : Stage) (s t : State) (w : List (List ℕ)) → IsPast st → add_at st s w ≡ Ok t → StaysPast s t
at_stays stage.Head s t w past e = absurd past
at_stays stage.Order s t w past e = absurd past
at_stays stage.Lines s t w past e = absurd past
at_stays stage.Pairs s t w past e = content_stays s t w e
at_stays stage.Ended s t w past e = absurd cc

added_stays : (s t : State) (w : List (List ℕ)) → IsPast s.stage → added s w ≡ Ok t → StaysPast s t
unfolding added
added_stays s t w past e = at_stays s.stage s t w past e

pub all_stay : (lines : List (List ℕ)) (s t : State) → IsPast s.stage → AdmitsAll added s lines t → StaysPast s t
all_stay [] s t past e = stays_if s t s (sym e) (record { past = past; lines = refl })
all_stay (line ∷ lines) s t past (mid, here, rest) =
    let h = added_stays s mid (words_of line) past here in
    let k = all_stay lines mid t h.past rest in
    record { past = k.past; lines = k.lines ∙ h.lines }

-- where pair lines were read, no more lines come
pub lines_stand : (before more : List (List ℕ)) (s t : State) → AdmitsAll added start before s → AdmitsAll added s more t → (s.pairs ≡ []) ⊎ (t.lines ≡ s.lines)
lines_stand before more s t admitted h =
    let k = keeps_lines added Kept kept [] before start s kept_start admitted in
    by s.stage k.shape refl
  where
    by : (st : Stage) → Shape st s → s.stage ≡ st → (s.pairs ≡ []) ⊎ (t.lines ≡ s.lines)
    by stage.Head shape e = inl shape.1
    by stage.Order shape e = inl shape.1
    by stage.Lines shape e = inl shape
    by stage.Pairs shape e = inr (all_stay more s t (subst IsPast (sym e) tt) h).lines
    by stage.Ended shape e = inr (all_stay more s t (subst IsPast (sym e) tt) h).lines

-- the same of the lines behind those that were let go
pub kept_lines_stand : (front : List model.Line) (gone : List model.Pair) (before more : List (List ℕ)) (s t : State) → AdmitsAll added start before (behind front gone s) → AdmitsAll added (behind front gone s) more (behind front gone t) → ((gone ++ s.pairs) ≡ []) ⊎ (t.lines ≡ s.lines)
kept_lines_stand front gone before more s t admitted h = by (lines_stand before more (behind front gone s) (behind front gone t) admitted h) where
  by : ((gone ++ s.pairs) ≡ []) ⊎ (front ++ t.lines ≡ front ++ s.lines) → ((gone ++ s.pairs) ≡ []) ⊎ (t.lines ≡ s.lines)
  by (inl e) = inl e
  by (inr e) = inr (same_front front t.lines s.lines e)

-- where no more lines could come, that is still so
pub closed_still : (xs ys : List model.Line) (more : List (List ℕ)) (s t : State) → ys ≡ xs → IsPast s.stage → AdmitsAll added (behind xs [] s) more (behind ys [] t) → IsPast t.stage × (t.lines ≡ s.lines)
closed_still xs ys more s t same past h =
    let k = all_stay more (behind xs [] s) (behind ys [] t) past h in
    (k.past, same_front xs t.lines s.lines (ap (λ (ls : List model.Line). ls ++ t.lines) (sym same) ∙ k.lines))

-- in front of nothing nothing was let go
pub nothing_in_front : {A : Type 0} (gone more : List A) → gone ++ more ≡ [] → gone ≡ []
nothing_in_front [] more e = refl
nothing_in_front (p ∷ gone) more e = absurd cc

-- the same of those that were let go alone
pub stand_gone : (gone : List model.Pair) (old new : Progress) → LinesStand gone old new → (gone ≡ []) ⊎ (lines_in new ≡ lines_in old)
stand_gone gone old new (inl none) = inl (nothing_in_front gone (pairs_in old) none)
stand_gone gone old new (inr same) = inr same

-- so many blank lines are as many as were let go
pub many_blank : (front : List model.Line) (n : ℕ) → n ≡ length front → length (replicate n blank) ≡ length front
many_blank front n e = length-replicate n blank ∙ e

-- ---- where nothing was let go

pub took_all : {X F : Type 0} (r : Result X F) (old new : Progress) (more : List (List ℕ)) → OnOk r ((lines : List (List ℕ)) (front : List model.Line) (gone : List model.Pair) → HasTaken lines front gone old → HasTaken (lines ++ more) front gone new)
    → OnOk r (Progress → (lines : List (List ℕ)) → HasTaken lines [] [] old → HasTaken (lines ++ more) [] [] new)
took_all (Ok u) old new more h = λ from lines taken. h lines [] [] taken
took_all (Err f) old new more h = tt

pub fault_all : {X : Type 0} (r : Result X CertFault) (old : Progress) (text : List (List ℕ))
    → IfErr r (λ f. (lines more : List (List ℕ)) (front : List model.Line) (gone : List model.Pair) → HasTaken lines front gone old → HasFault (lines ++ (text ++ more)) f)
    → IfErr r (λ f. Progress → (lines more : List (List ℕ)) → HasTaken lines [] [] old → HasFault (lines ++ (text ++ more)) f)
fault_all (Ok x) old text h = tt
fault_all (Err f) old text h = λ from lines more taken. h lines more [] [] taken
