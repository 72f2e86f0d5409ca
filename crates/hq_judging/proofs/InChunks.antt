-- A certificate that is read and checked in chunks.
use Rattle.std.proofs.Common.{◌≡◌, ℕ, zero, suc, ◌+◌, ◌-◌, ◌<◌, ◌≤◌, ◌⊎◌, inl, inr, List, [], ◌∷◌, ◌++◌, length, map, take, drop, slice_index_or, slice_get, slice_set as set, refl, sym, ap, subst, ◌∙◌, arith, append_assoc, append-nil, Option, None, Some, MatchOption, Result, Ok, Err, OnOk, IfErr}
use Rattle.std.specs.Prelude.{IfOk, true, false, if◌then◌else◌}
use Rattle.std.specs.Result.{is_ok, is_err}
use Rattle.std.proofs.lemmas.List.{drop_more, drop-set-lt, drop-take, length-drop, length-take-le, map-append, take-append-drop}
use Rattle.std.proofs.Math.Seq.{take-length}
use Rattle.std.proofs.lemmas.Option.{slice_get_within}
use Rattle.hq_text.specs.Intake.{IsWhole, Stays}
use Rattle.hq_text.specs.Lines.{lines_of}
use Rattle.hq_text.proofs.Pieces.{stays_more, whole_lines, whole_both}
use Rattle.hq_job.specs.Plan.{plan}
use Rattle.hq_job.specs.Value.{JobValue}
use Rattle.hq_model.specs.Job.{Job}
use Rattle.hq_model.specs.Certificate as model
use Rattle.hq_certread.specs.Ahead.{lines_ahead, pairs_ahead}
use Rattle.hq_certread.specs.SoFar.{HasFault, HasPassed, IsClosed}
use Rattle.hq_certread.specs.declared.fault.CertFault.{CertFault}
use Rattle.hq_certread.specs.declared.progress.Progress.{Progress}
use Rattle.hq_certcheck.specs.declared.conclusion.Conclusion.{Conclusion}
use Rattle.hq_certcheck.specs.Concluded.{bare, conclusion_of}
use Rattle.hq_certcheck.specs.Listed.{BadLineOf, BadPairIs, Block, StandAt}
use Rattle.hq_certcheck.specs.Seen.{SeenValue, HasSeen}
use Rattle.hq_certcheck.proofs.Behind.{got_left}
use Rattle.hq_certcheck.proofs.Blocks.{stand_behind}
use Rattle.hq_certcheck.proofs.Seeing.{bad_of_any, seen_but, seen_left}
use Rattle.hq_judging.specs.Checking.{AreHeld, HasCheckedBut, IsHeld, StaysSaid, block_of}
use Rattle.hq_judging.specs.Chunks.{AreJudged, AreLookedAt, HasRead, HasWaiting, IsLookedAt}
use Rattle.hq_judging.specs.declared.checking.Checking.{Checking}
use Rattle.hq_judging.specs.declared.chunk.Chunk.{Chunk}
use Rattle.hq_judging.specs.declared.chunks.Chunks.{Chunks}
use Rattle.hq_judging.specs.declared.checking_wide.Reading.{Reading}
use Rattle.hq_judging.specs.declared.checking_wide.Reading.TheVariants.{Taking, Faulty}

-- ---- results

pub on_both : {X F : Type 0} (r : Result X F) {P Q R : Type 0} → OnOk r P → OnOk r Q → (P → Q → R) → OnOk r R
on_both (Ok x) p q f = f p q
on_both (Err e) p q f = tt

pub on_err : {X F : Type 0} (r : Result X F) {P Q : F → Type 0} → IfErr r P → ((e : F) → P e → Q e) → IfErr r Q
on_err (Ok x) p f = tt
on_err (Err e) p f = f e p

pub on_ok : {X F : Type 0} (r : Result X F) {P Q : Type 0} → OnOk r P → (P → Q) → OnOk r Q
on_ok (Ok x) p f = f p
on_ok (Err e) p f = tt

pub ok_told : {X F : Type 0} (r : Result X F) (x : X) (P : Type 0) → r ≡ Ok x → OnOk r P → P
ok_told r x P e h = subst (λ q. OnOk q P) e h

pub err_told : {X F : Type 0} (r : Result X F) (f : F) (P : F → Type 0) → r ≡ Err f → IfErr r P → P f
err_told r f P e h = subst (λ q. IfErr q P) e h

-- the same of what holds of a result alone
pub no_fault : {X F : Type 0} (r : Result X F) (P : Type 0) → is_err r ≡ false → OnOk r P → P
no_fault (Ok x) P so h = h
no_fault (Err e) P so h = absurd cc

-- what is so of a result that is no fault
pub none_lost : {F : Type 0} (r : Result (Unit {0}) F) (P : Type 0) → is_err r ≡ false → IfOk r (λ _. P) → P
none_lost (Ok x) P so h = h
none_lost (Err e) P so h = absurd cc

pub was_held : {F X : Type 0} (r : Result (Unit {0}) F) (new more old : List X) → is_err r ≡ false → new ≡ (if is_ok r then more else old) → new ≡ more
was_held (Ok x) new more old so h = h
was_held (Err e) new more old so h = absurd cc

pub was_lost : {F X : Type 0} (r : Result (Unit {0}) F) (new more old : List X) → is_err r ≡ true → new ≡ (if is_ok r then more else old) → new ≡ old
was_lost (Ok x) new more old so h = absurd cc
was_lost (Err e) new more old so h = h

pub some_told : {X : Type 0} (o : Option X) (x : X) (N : Type 0) (S : X → Type 0) → o ≡ Some x → MatchOption o N S → S x
some_told o x N S e h = subst (λ (p : Option _). MatchOption p N S) e h

pub none_told : {X : Type 0} (o : Option X) (N : Type 0) (S : X → Type 0) → o ≡ None → MatchOption o N S → N
none_told o N S e h = subst (λ (p : Option _). MatchOption p N S) e h

-- ---- once no more lines can come

pub stays_both : (a b c : Checking) → StaysSaid a b → StaysSaid b c → StaysSaid a c
stays_both a b c h k past = let x = h past in let y = k x.0 in (y.0, y.1 ∙ x.1)

pub stays_same : (a : Checking) → StaysSaid a a
stays_same a past = (past, refl)

-- ---- lines that are held

-- they are lines of the certificate still, though more came
pub held_longer : (lines more : List model.Line) (chunks : List Chunk) → AreHeld lines chunks → AreHeld (lines ++ more) chunks
held_longer lines more [] h = tt
held_longer lines more (chunk ∷ chunks) h = (λ i line there. by i line (h.0 i line there), held_longer lines more chunks h.1) where
  by : (i : ℕ) (line : model.Line) → slice_get lines (chunk.ahead.before + i) ≡ Some line → slice_get (lines ++ more) (chunk.ahead.before + i) ≡ Some line
  by i line e = got_left lines more (chunk.ahead.before + i) (slice_get_within lines (chunk.ahead.before + i) line e) ∙ e

pub held_too : (lines : List model.Line) (chunks : List Chunk) (chunk : Chunk) → AreHeld lines chunks → IsHeld lines chunk → AreHeld lines (chunks ++ chunk ∷ [])
held_too lines [] chunk h held = (held, tt)
held_too lines (first ∷ chunks) chunk h held = (h.0, held_too lines chunks chunk h.1 held)

-- a chunk that holds no line
none_held : (lines : List model.Line) (chunk : Chunk) → lines_ahead chunk.ahead ≡ [] → IsHeld lines chunk
none_held lines chunk none i line there = let never : None ≡ Some line = ap (λ ls. slice_get ls i) (sym none) ∙ there in absurd cc

-- what was taken in, beside one more chunk that holds no line
pub hold_none : (from : Checking) (chunks : List Chunk) (lines : List (List ℕ)) (c : Checking) (chunk : Chunk) → lines_ahead chunk.ahead ≡ [] → HasCheckedBut from chunks lines c → HasCheckedBut from (chunks ++ chunk ∷ []) lines c
hold_none from chunks lines c chunk none h = record {
  same = h.same;
  front = h.front;
  gone = h.gone;
  taken = h.taken;
  seen = seen_left (plan c.job) h.front h.gone (map block_of chunks ++ block_of chunk ∷ []) (map block_of (chunks ++ chunk ∷ [])) c.seen (sym (map-append block_of chunks (chunk ∷ [])))
      (seen_but (plan c.job) h.front h.gone (map block_of chunks) (block_of chunk ∷ []) c.seen h.seen);
  held = held_too h.front chunks chunk h.held (none_held h.front chunk none);
  no_lines = h.no_lines;
  no_pairs = h.no_pairs;
}

-- ---- a chunk

-- the first pair line that doesn't hold is still that, though lines may have come
bad_now : (job : Job) (at now : Checking) (text : List ℕ) (chunk : Chunk) (said : List Conclusion) → IsLookedAt job at text chunk → (IsClosed at.progress → said ≡ at.seen.lines) → BadPairIs job (map bare said) (pairs_ahead chunk.ahead) chunk.bad_pair
bad_now job at now text chunk said looked still =
    bad_of_any job (pairs_ahead chunk.ahead) (map bare at.seen.lines) (map bare said) chunk.bad_pair (elim looked.closed [ inl none ↦ inl none | inr closed ↦ inr (ap (map bare) (still closed)) ]) looked.bad

-- what lines conclude of which none came
pub same_said : (front more : List model.Line) (old new : List Conclusion) → more ≡ [] → map conclusion_of front ≡ old → map conclusion_of (front ++ more) ≡ new → new ≡ old
same_said front more old new none e f = sym f ∙ ap (λ ls. map conclusion_of (front ++ ls)) none ∙ ap (map conclusion_of) (append-nil front) ∙ e

-- What was read ahead of a chunk was taken in: its lines are held, and its pair lines seen.
pub chunk_passed : (at from : Checking) (chunks : List Chunk) (lines : List (List ℕ)) (old : Checking) (new : Progress) (mid seen : SeenValue) (text : List ℕ) (chunk : Chunk) (i count : ℕ) → IsLookedAt (plan from.job) at text chunk → StaysSaid at old
    → (h : HasCheckedBut from chunks lines old) → (p : HasPassed text chunk.ahead lines h.front h.gone i old.progress new) → count ≡ length (lines_ahead chunk.ahead)
    → ((pairs : List model.Pair) → (pairs ≡ []) ⊎ (lines_ahead chunk.ahead ≡ []) → HasSeen (plan old.job) h.front pairs (map block_of chunks) old.seen
    → HasSeen (plan old.job) (h.front ++ lines_ahead chunk.ahead) pairs (map block_of chunks ++ record { from = length h.front; count = count } ∷ []) mid)
    → ((ls : List model.Line) (left : List Block) → HasSeen (plan old.job) ls h.gone left mid → BadPairIs (plan old.job) (map bare mid.lines) (pairs_ahead chunk.ahead) chunk.bad_pair → HasSeen (plan old.job) ls (h.gone ++ pairs_ahead chunk.ahead) left seen)
    → HasCheckedBut from (chunks ++ chunk ∷ []) (lines ++ p.more) (record { job = old.job; progress = new; seen = seen }) × StaysSaid old (record { job = old.job; progress = new; seen = seen })
chunk_passed at from chunks lines old new mid seen text chunk i count looked still h p counted conclude put = (
  record {
    same = h.same;
    front = all;
    gone = h.gone ++ pairs_ahead chunk.ahead;
    taken = p.taken;
    seen = now;
    held = held_too all chunks chunk (held_longer h.front (lines_ahead chunk.ahead) chunks h.held) (subst (λ n. StandAt all n (lines_ahead chunk.ahead)) p.before (stand_behind h.front (lines_ahead chunk.ahead)));
    no_lines = p.no_lines;
    no_pairs = p.no_pairs;
  },
  λ past. let c = p.closed past in (c.0, same_said h.front (lines_ahead chunk.ahead) old.seen.lines seen.lines c.1 h.seen.concluded now.concluded),
)
  where
    all : List model.Line
    all = h.front ++ lines_ahead chunk.ahead

    concluded : HasSeen (plan old.job) all h.gone (map block_of chunks ++ record { from = length h.front; count = count } ∷ []) mid
    concluded = conclude h.gone p.stand h.seen

    said : IsClosed at.progress → mid.lines ≡ at.seen.lines
    said past =
        let o = still past in
        same_said h.front (lines_ahead chunk.ahead) old.seen.lines mid.lines (p.closed o.0).1 h.seen.concluded concluded.concluded ∙ o.1

    bad : BadPairIs (plan old.job) (map bare mid.lines) (pairs_ahead chunk.ahead) chunk.bad_pair
    bad = subst (λ (j : JobValue). BadPairIs (plan j) (map bare mid.lines) (pairs_ahead chunk.ahead) chunk.bad_pair) (sym h.same) (bad_now (plan from.job) at old text chunk mid.lines looked said)

    blocks : map block_of chunks ++ record { from = length h.front; count = count } ∷ [] ≡ map block_of (chunks ++ chunk ∷ [])
    blocks =
        ap (λ n. map block_of chunks ++ record { from = n; count = count } ∷ []) p.before ∙ ap (λ n. map block_of chunks ++ record { from = chunk.ahead.before; count = n } ∷ []) counted
        ∙ sym (map-append block_of chunks (chunk ∷ []))

    now : HasSeen (plan old.job) all (h.gone ++ pairs_ahead chunk.ahead) (map block_of (chunks ++ chunk ∷ [])) seen
    now = seen_left (plan old.job) all (h.gone ++ pairs_ahead chunk.ahead) _ _ seen blocks (put all _ concluded bad)

-- the lines of a text in two parts
pub in_two : (lines front rest all : List (List ℕ)) → all ≡ front ++ rest → (lines ++ front) ++ rest ≡ lines ++ all
in_two lines front rest all e = append_assoc lines front rest ∙ ap (λ ls. lines ++ ls) (sym e)

-- the same with more behind them
pub in_two_and_more : (lines front rest all more : List (List ℕ)) → all ≡ front ++ rest → (lines ++ front) ++ (rest ++ more) ≡ lines ++ (all ++ more)
in_two_and_more lines front rest all more e = append_assoc lines front (rest ++ more) ∙ ap (λ ls. lines ++ ls) (sym (append_assoc front rest more) ∙ ap (λ ls. ls ++ more) (sym e))

-- a checking of which the progress is the same
pub checked_as : (from : Checking) (chunks : List Chunk) (lines : List (List ℕ)) (c : Checking) (p : Progress) → p ≡ c.progress → HasCheckedBut from chunks lines c → HasCheckedBut from chunks lines (record { job = c.job; progress = p; seen = c.seen })
checked_as from chunks lines c p e h = subst (λ (q : Progress). HasCheckedBut from chunks lines (record { job = c.job; progress = q; seen = c.seen })) (sym e) h

-- ---- chunks of a text

-- the first of the chunks that are left, and the others
pub looked_first : (job : Job) (at : Checking) (chunks : List Chunk) (i : ℕ) (d : Chunk) (text : List ℕ) → i < length chunks → AreLookedAt job at (drop i chunks) text
    → (((slice_index_or chunks i d).len ≤ length text) × IsWhole (take (slice_index_or chunks i d).len text) × IsLookedAt job at (take (slice_index_or chunks i d).len text) (slice_index_or chunks i d) × AreLookedAt job at (drop (i + 1) chunks) (drop (slice_index_or chunks i d).len text))
looked_first job at chunks i d text low h = subst (λ (cs : List Chunk). AreLookedAt job at cs text) (drop_more chunks i d low) h

-- the others, when the first was taken in
pub later_looked : (job : Job) (at : Checking) (chunks : List Chunk) (i : ℕ) (taken : Chunk) (text behind : List ℕ) (len : ℕ) → behind ≡ drop len text → AreLookedAt job at (drop (i + 1) chunks) (drop len text) → AreLookedAt job at (drop (i + 1) (set chunks i taken)) behind
later_looked job at chunks i taken text behind len e h =
    subst (λ (cs : List Chunk). AreLookedAt job at cs behind) (sym (drop-set-lt (i + 1) chunks i taken (omega arith))) (subst (λ (t : List ℕ). AreLookedAt job at (drop (i + 1) chunks) t) (sym e) h)

-- chunks that were looked at where the same had been taken in, but for what is known of lines that were left
pub looked_as : (job : Job) (at now : Checking) (chunks : List Chunk) (text : List ℕ) → now.progress ≡ at.progress → now.seen.lines ≡ at.seen.lines → AreLookedAt job at chunks text → AreLookedAt job now chunks text
looked_as job at now [] text e f h = tt
looked_as job at now (chunk ∷ chunks) text e f h = (
  h.0,
  h.1,
  record {
    ahead = h.2.ahead;
    bad = subst (λ said. BadPairIs job (map bare said) (pairs_ahead chunk.ahead) chunk.bad_pair) (sym f) h.2.bad;
    closed = elim h.2.closed [ inl none ↦ inl none | inr closed ↦ inr (subst (λ (q : Progress). IsClosed q) (sym e) closed) ];
  },
  looked_as job at now chunks (drop chunk.len text) e f h.3,
)

-- ---- lines that were left, and were judged

rest_of : List Chunk → List Chunk
rest_of [] = []
rest_of (c ∷ cs) = cs

drop_next : (chunks : List Chunk) (i : ℕ) (o : Chunk) (os : List Chunk) → drop i chunks ≡ o ∷ os → drop (suc i) chunks ≡ os
unfolding rest_of
drop_next [] zero o os e = absurd cc
drop_next [] (suc i) o os e = absurd cc
drop_next (c ∷ cs) zero o os e = ap rest_of e
drop_next (c ∷ cs) (suc i) o os e = drop_next cs i o os e

drop_first : (chunks : List Chunk) (i : ℕ) (o : Chunk) (os : List Chunk) → drop i chunks ≡ o ∷ os → drop (i + 1) chunks ≡ os
drop_first chunks i o os e = let next : i + 1 ≡ suc i = omega arith in ap (λ n. drop n chunks) next ∙ drop_next chunks i o os e

pub record NextJudged (job : Job) (lines : List model.Line) (olds news : List Chunk) (i : ℕ) (d : Chunk) : Type 0 where
  pub old : Chunk
  pub cut : drop i olds ≡ old ∷ drop (i + 1) olds
  pub bad : BadLineOf job lines (block_of old) (slice_index_or news i d).bad_line
  pub rest : AreJudged job lines (drop (i + 1) olds) (drop (i + 1) news)

pub judged_next : (job : Job) (lines : List model.Line) (olds news : List Chunk) (i : ℕ) (d : Chunk) → i < length news → AreJudged job lines (drop i olds) (drop i news) → NextJudged job lines olds news i d
judged_next job lines olds news i d low h = by (drop i olds) refl (subst (λ (cs : List Chunk). AreJudged job lines (drop i olds) cs) (drop_more news i d low) h) where
  by : (os : List Chunk) → drop i olds ≡ os → AreJudged job lines (drop i olds) (slice_index_or news i d ∷ drop (i + 1) news) → NextJudged job lines olds news i d
  by [] e k = absurd (subst (λ (cs : List Chunk). AreJudged job lines cs (slice_index_or news i d ∷ drop (i + 1) news)) e k)
  by (o ∷ os) e k =
      let next : os ≡ drop (i + 1) olds = sym (drop_first olds i o os e) in
      let both = subst (λ (cs : List Chunk). AreJudged job lines cs (slice_index_or news i d ∷ drop (i + 1) news)) e k in
      record {
        old = o;
        cut = e ∙ ap (λ cs. o ∷ cs) next;
        bad = both.0;
        rest = subst (λ (cs : List Chunk). AreJudged job lines cs (drop (i + 1) news)) next both.1;
      }

pub none_judged : (job : Job) (lines : List model.Line) (olds : List Chunk) → AreJudged job lines olds [] → olds ≡ []
none_judged job lines [] h = refl
none_judged job lines (o ∷ os) h = absurd h

-- of the lines that these chunks held, those of the later ones are left, and were judged
pub record StillLeft (from : Checking) (olds news : List Chunk) (lines : List (List ℕ)) (c : Checking) (i : ℕ) : Type 0 where
  pub checked : HasCheckedBut from (drop i olds) lines c
  pub judged : AreJudged (plan c.job) checked.front (drop i olds) (drop i news)

-- a text that is cut a bit later
pub cut_later : (text front rest first behind : List ℕ) (n : ℕ) → text ≡ front ++ rest → first ≡ take n rest → behind ≡ drop n rest → text ≡ (front ++ first) ++ behind
cut_later text front rest first behind n e f g =
    e ∙ ap (λ t. front ++ t) (sym (take-append-drop n rest) ∙ ap (λ t. t ++ drop n rest) (sym f) ∙ ap (λ t. first ++ t) (sym g)) ∙ sym (append_assoc front first behind)

-- lines behind those of whole lines
pub behind_front : (lines : List (List ℕ)) (front rest : List ℕ) → IsWhole front → (lines ++ lines_of front) ++ lines_of rest ≡ lines ++ lines_of (front ++ rest)
behind_front lines front rest whole = append_assoc lines (lines_of front) (lines_of rest) ∙ ap (λ ls. lines ++ ls) (sym (whole_lines front rest whole))

pub more_behind_front : (lines : List (List ℕ)) (front rest : List ℕ) (more : List (List ℕ)) → IsWhole front → (lines ++ lines_of front) ++ (lines_of rest ++ more) ≡ lines ++ (lines_of (front ++ rest) ++ more)
more_behind_front lines front rest more whole =
    append_assoc lines (lines_of front) (lines_of rest ++ more) ∙ ap (λ ls. lines ++ ls) (sym (append_assoc (lines_of front) (lines_of rest) more) ∙ ap (λ ls. ls ++ more) (sym (whole_lines front rest whole)))

-- the lines of a chunk in the middle of a text
pub chunk_around : (lines : List (List ℕ)) (front first behind text : List ℕ) (more : List (List ℕ)) → IsWhole front → IsWhole first → text ≡ (front ++ first) ++ behind
    → (lines ++ lines_of front) ++ (lines_of first ++ (lines_of behind ++ more)) ≡ lines ++ (lines_of text ++ more)
chunk_around lines front first behind text more whole here cut =
    ap (λ ls. (lines ++ lines_of front) ++ ls) (sym (append_assoc (lines_of first) (lines_of behind) more) ∙ ap (λ ls. ls ++ more) (sym (whole_lines first behind here)))
    ∙ more_behind_front lines front (first ++ behind) more whole ∙ ap (λ t. lines ++ (lines_of t ++ more)) (sym (cut ∙ append_assoc front first behind))

-- ---- what waits

in_front : (text lines rest waiting front : List ℕ) → text ≡ front ++ waiting → waiting ≡ lines ++ rest → text ≡ (front ++ lines) ++ rest
in_front text lines rest waiting front e f = e ∙ ap (λ t. front ++ t) f ∙ sym (append_assoc front lines rest)

-- whole lines of what stands behind a text, with that text
pub whole_behind : (text : List ℕ) (from more : ℕ) → 0 < more → from ≤ length text → more ≤ length (take (length text - from) (drop from text)) → IsWhole (take more (take (length text - from) (drop from text))) → IsWhole (take (from + more) text)
whole_behind text from more some low few is = subst (λ (t : List ℕ). IsWhole t) joined (elim whole [
  | inl e ↦ let none : length (take more (drop from text)) ≡ 0 = ap (λ t. length t) e in absurd (omega (arith, none, some, length-take-le more (drop from text) within))
  | inr e ↦ inr (record { front = front ++ e.front; is = ap (λ t. front ++ t) e.is ∙ sym (append_assoc front e.front (10 ∷ [])) })
])
  where
    rest : take (length text - from) (drop from text) ≡ drop from text
    rest = ap (λ n. take n (drop from text)) (sym (length-drop from text)) ∙ take-length (drop from text)

    within : more ≤ length (drop from text)
    within = subst (λ (t : List ℕ). more ≤ length t) rest few

    whole : IsWhole (take more (drop from text))
    whole = subst (λ (t : List ℕ). IsWhole (take more t)) rest is

    front : List ℕ
    front = take from (take (from + more) text)

    joined : front ++ take more (drop from text) ≡ take (from + more) text
    joined = ap (λ t. front ++ t) (sym (drop-take from more text)) ∙ take-append-drop from (take (from + more) text)

-- a text of which more whole lines were taken in, and behind which more came
pub waits_later : (from : Checking) (text given lines rest : List ℕ) (old new : Chunks) (h : HasWaiting from text old) → IsWhole lines → old.waiting.items ≡ lines ++ rest → new.waiting.items ≡ rest ++ given
    → HasCheckedBut from new.chunks.items (lines_of h.front ++ lines_of lines) new.checking → HasWaiting from (text ++ given) new
waits_later from text given lines rest old new h whole cut waiting checked = record {
  front = h.front ++ lines;
  whole = whole_both h.front lines h.whole whole;
  cut = ap (λ t. t ++ given) (in_front text lines rest old.waiting.items h.front h.cut cut) ∙ append_assoc (h.front ++ lines) rest given ∙ ap (λ t. (h.front ++ lines) ++ t) (sym waiting);
  checked = subst (λ (ls : List (List ℕ)). HasCheckedBut from new.chunks.items ls new.checking) (sym (whole_lines h.front lines h.whole)) checked;
}

-- what is wrong with lines that waited is wrong with the text, whatever follows it
pub waits_faulty : (from : Checking) (text lines rest : List ℕ) (old : Chunks) (f : CertFault) (h : HasWaiting from text old) → IsWhole lines → old.waiting.items ≡ lines ++ rest
    → ((more : List (List ℕ)) → HasFault (lines_of h.front ++ (lines_of lines ++ more)) f) → (more : List ℕ) → HasFault (lines_of (text ++ more)) f
waits_faulty from text lines rest old f h whole cut fault more =
    subst (λ (ls : List (List ℕ)). HasFault ls f)
    (sym (ap (λ t. lines_of (t ++ more)) (in_front text lines rest old.waiting.items h.front h.cut cut)
    ∙ ap lines_of (append_assoc (h.front ++ lines) rest more)
    ∙ whole_lines (h.front ++ lines) (rest ++ more) (whole_both h.front lines h.whole whole)
    ∙ ap (λ ls. ls ++ lines_of (rest ++ more)) (whole_lines h.front lines h.whole)
    ∙ append_assoc (lines_of h.front) (lines_of lines) (lines_of (rest ++ more))))
    (fault (lines_of (rest ++ more)))

-- the lines of a text at its end
pub last_lines : (from : Checking) (text waiting : List ℕ) (p : Chunks) (h : HasWaiting from text p) → waiting ≡ p.waiting.items → lines_of h.front ++ lines_of waiting ≡ lines_of text
last_lines from text waiting p h e = ap (λ t. lines_of h.front ++ lines_of t) e ∙ sym (whole_lines h.front p.waiting.items h.whole) ∙ ap lines_of (sym h.cut)

-- ---- what was read

pub was_taking : (from : Checking) (text : List ℕ) (r : Reading) (chunks : Chunks) → r ≡ Taking chunks → HasRead from text r → HasWaiting from text chunks
was_taking from text r chunks e h = subst (λ (q : Reading). HasRead from text q) e h

pub was_faulty : (from : Checking) (text : List ℕ) (r : Reading) (f : CertFault) → r ≡ Faulty f → HasRead from text r → Stays (λ lines. HasFault lines f) text
was_faulty from text r f e h = subst (λ (q : Reading). HasRead from text q) e h

-- a fault is one whatever follows
pub still_faulty : (from : Checking) (text given : List ℕ) (r : Reading) (f : CertFault) → r ≡ Faulty f → HasRead from text r → HasRead from (text ++ given) r
still_faulty from text given r f e h = subst (λ (q : Reading). HasRead from (text ++ given) q) (sym e) (stays_more (λ lines. HasFault lines f) text given (was_faulty from text r f e h))
