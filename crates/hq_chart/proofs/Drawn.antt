-- What is drawn of one more event.
use Rattle.std.proofs.Common.{◌≡◌, ◌<◌, ◌+◌, ℕ, zero, suc, Bool, List, [], ◌∷◌, ◌++◌, Option, None, Some, length, take, slice_index_or, ap, sym, subst, ◌∙◌, arith, append_assoc, append-nil, add-one, Result, Ok, Err, OnOk}
use Rattle.std.specs.Io.KnownBytes.{Appends}
use Rattle.hq_job.specs.Value.{JobValue}
use Rattle.hq_events.specs.declared.event.Event.{Event}
use Rattle.hq_chart.specs.declared.rows.Row.{Row}
use Rattle.hq_chart.specs.Rows.{moved, rows_after, shape_of}
use Rattle.hq_chart.specs.Chart.{events_text, part_text}

pub appends_more : (a b c : Option (List ℕ)) (xs ys : List ℕ) → Appends a b xs → Appends b c ys → Appends a c (xs ++ ys)
appends_more None b c xs ys p q = tt
appends_more (Some zs) None c xs ys p q = absurd p
appends_more (Some zs) (Some ws) None xs ys p q = absurd q
appends_more (Some zs) (Some ws) (Some vs) xs ys p q = q ∙ ap (λ us. us ++ ys) p ∙ append_assoc zs xs ys

-- what is written by one call and then by another
pub then_more : {A E : Type 0} (r : Result A E) (a b c : Option (List ℕ)) (xs ys : List ℕ) → Appends a b xs → OnOk r (Appends b c ys) → OnOk r (Appends a c (xs ++ ys))
then_more (Ok x) a b c xs ys p q = appends_more a b c xs ys p q
then_more (Err e) a b c xs ys p q = tt

-- what packets do behind one more event
rows_next : (rows : List Row) (n : ℕ) (es : List Event) (i : ℕ) (d : Event) → i < length es → rows_after rows n (take (suc i) es) ≡ moved (rows_after rows n (take i es)) (n + i) (slice_index_or es i d)
rows_next rows n [] i d l = absurd (omega arith)
rows_next rows n (x ∷ es) zero d l = ap (λ m. moved rows m x) (omega arith)
rows_next rows n (x ∷ es) (suc i) d l =
    let place : n + 1 + i ≡ n + suc i = omega arith in
    rows_next (moved rows n x) (n + 1) es i d (omega arith) ∙ ap (λ m. moved (rows_after (moved rows n x) (n + 1) (take i es)) m (slice_index_or es i d)) place

-- what is drawn of it
text_next : (job : JobValue) (copies : Bool) (rows : List Row) (n : ℕ) (es : List Event) (i : ℕ) (d : Event) → i < length es
    → events_text job copies rows n (take (suc i) es) ≡ events_text job copies rows n (take i es) ++ part_text job (shape_of copies (rows_after rows n (take i es)) (n + i) (slice_index_or es i d))
text_next job copies rows n [] i d l = absurd (omega arith)
text_next job copies rows n (x ∷ es) zero d l = append-nil (part_text job (shape_of copies rows n x)) ∙ ap (λ m. part_text job (shape_of copies rows m x)) (omega arith)
text_next job copies rows n (x ∷ es) (suc i) d l =
    let place : n + 1 + i ≡ n + suc i = omega arith in
    let first = part_text job (shape_of copies rows n x) in
    let after = rows_after (moved rows n x) (n + 1) (take i es) in
    let e = slice_index_or es i d in
    ap (λ t. first ++ t) (text_next job copies (moved rows n x) (n + 1) es i d (omega arith))
    ∙ sym (append_assoc first (events_text job copies (moved rows n x) (n + 1) (take i es)) (part_text job (shape_of copies after (n + 1 + i) e)))
    ∙ ap (λ m. (first ++ events_text job copies (moved rows n x) (n + 1) (take i es)) ++ part_text job (shape_of copies after m e)) place

pub rows_more : (rows now : List Row) (es : List Event) (i : ℕ) (d : Event) → i < length es → now ≡ rows_after rows 0 (take i es) → moved now i (slice_index_or es i d) ≡ rows_after rows 0 (take (i + 1) es)
rows_more rows now es i d l is =
    let start : 0 + i ≡ i = omega arith in
    let e = slice_index_or es i d in
    ap (λ r. moved r i e) is ∙ ap (λ m. moved (rows_after rows 0 (take i es)) m e) (sym start) ∙ sym (rows_next rows 0 es i d l) ∙ ap (λ k. rows_after rows 0 (take k es)) (sym (add-one i))

pub text_more : (old mid new : Option (List ℕ)) (job : JobValue) (copies : Bool) (rows now : List Row) (es : List Event) (i : ℕ) (d : Event) → i < length es → now ≡ rows_after rows 0 (take i es)
    → Appends old mid (events_text job copies rows 0 (take i es)) → Appends mid new (part_text job (shape_of copies now i (slice_index_or es i d))) → Appends old new (events_text job copies rows 0 (take (i + 1) es))
text_more old mid new job copies rows now es i d l is so_far part =
    let start : 0 + i ≡ i = omega arith in
    let e = slice_index_or es i d in
    let same : part_text job (shape_of copies now i e) ≡ part_text job (shape_of copies (rows_after rows 0 (take i es)) (0 + i) e) =
    ap (λ r. part_text job (shape_of copies r i e)) is ∙ ap (λ m. part_text job (shape_of copies (rows_after rows 0 (take i es)) m e)) (sym start) in
    subst (Appends old new) (ap (λ t. events_text job copies rows 0 (take i es) ++ t) same ∙ sym (text_next job copies rows 0 es i d l) ∙ ap (λ k. events_text job copies rows 0 (take k es)) (sym (add-one i)))
    (appends_more old mid new (events_text job copies rows 0 (take i es)) (part_text job (shape_of copies now i e)) so_far part)

-- five texts behind one another
pub five_parts : (a b c d e : List ℕ) → a ++ (b ++ (c ++ (d ++ e))) ≡ a ++ b ++ c ++ d ++ e
five_parts a b c d e = sym (append_assoc (a ++ b ++ c) d e ∙ append_assoc (a ++ b) c (d ++ e) ∙ append_assoc a b (c ++ (d ++ e)))
