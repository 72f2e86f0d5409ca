-- Lines and pair lines are printed, one behind another, and then they are a certificate's.
use Rattle.std.proofs.Common.{◌≡◌, ℕ, zero, suc, add-one, ◌+◌, ◌<◌, ◌≤◌, List, [], ◌∷◌, ◌++◌, length, refl, sym, ◌∙◌, ap, subst, arith, Bool, false, ◌||◌, Option, Some, slice_get, slice_index_or, map, take, drop, codes, append-nil, append_assoc, ◌-◌}
use Rattle.std.specs.List.{list_any, AllZip}
use Rattle.std.specs.Io.KnownBytes.{Appends}
use Rattle.std.proofs.lemmas.List.{map-append, take_all, take_more, length-take-le, length-drop, get_or-drop}
use Rattle.std.proofs.lemmas.List.Folds.{list_any-append}
use Rattle.std.proofs.lemmas.Grind.{flat_map-append}
use Rattle.std.proofs.lemmas.Option.{slice_get-get_or, slice_get_within, get_or_from_slice_get}
use Rattle.hq_text.specs.Printed.{line_text, lines_text}
use Rattle.hq_model.specs.Job.{Job}
use Rattle.hq_model.specs.Certificate as model
use Rattle.hq_model.specs.Certificate.Fences.{ForReadWrite, ForWriteWrite, ForWriteRead, ForWriteWriteChained, ForWriteReadChained}
use Rattle.hq_audit.specs.declared.audited.Audited.{Audited}
use Rattle.std.specs.Global.{Vec}
use Rattle.hq_audit.specs.declared.draft.Draft.{Draft}
use Rattle.hq_audit.specs.declared.packed.Packed.{Packed}
use Rattle.hq_audit.specs.Drafted.{seen, listed}
use Rattle.hq_audit.specs.declared.draft.Means.TheVariants.{ReadWrite}
use Rattle.hq_audit.specs.Audited.{order_in, lines_in, list_in, if_there, IsAudited, IsPairAt}
use Rattle.hq_audit.specs.Paired.{IsPairOf, IsPlain}
use Rattle.hq_audit.proofs.Numbering.{cited_more}
use Rattle.hq_audit.proofs.Certifying.{audited_certifies}
use Rattle.hq_certtext.specs.Grammar.{line_words, lines_words, pair_words, head_words, order_words}
use Rattle.hq_certtext.specs.Printed.{is_chain}
use Rattle.hq_certtext.specs.Printing.{IsEmpty, HasPrinted, Prints}
use Rattle.hq_certtext.specs.declared.printer.Printer.{Printer}
use Rattle.hq_certtext.proofs.Puts.{plain_text, lines_more as words_more}
use Rattle.hq_judging.specs.Giving.{IsLinesText, IsPairsText, IsWholeText, PrintsSuch, WritesCertificate}

-- ---- the text of pair lines

not_chain : (f : model.Fences) → IsPlain f → is_chain f ≡ false
not_chain (ForReadWrite line) h = refl
not_chain (ForWriteWrite x from on) h = refl
not_chain (ForWriteRead x y from between to) h = refl
not_chain (ForWriteWriteChained x x2 from link on) h = absurd h
not_chain (ForWriteReadChained x x2 y2 y from link between link2 to) h = absurd h

none_of_both : (p : model.Pair → Bool) (xs ys : List model.Pair) → list_any p xs ≡ false → list_any p ys ≡ false → list_any p (xs ++ ys) ≡ false
none_of_both p xs ys none more = list_any-append p xs ys ∙ ap (λ b. b || list_any p ys) none ∙ more

text_both : (ps qs : List model.Pair) → lines_text (map pair_words (ps ++ qs)) ≡ lines_text (map pair_words ps) ++ lines_text (map pair_words qs)
text_both ps qs = ap lines_text (map-append pair_words ps qs) ∙ flat_map-append line_text (map pair_words ps) (map pair_words qs)

zip_both : {A B : Type 0} (R : A → B → Type 0) (xs us : List A) (ys vs : List B) → AllZip R xs ys → AllZip R us vs → AllZip R (xs ++ us) (ys ++ vs)
zip_both R [] us [] vs h k = k
zip_both R [] us (y ∷ ys) vs h k = absurd h
zip_both R (x ∷ xs) us [] vs h k = absurd h
zip_both R (x ∷ xs) us (y ∷ ys) vs h k = (h.0, zip_both R xs us ys vs h.1 k)

pub pairs_none : (job : Job) (a : Audited) → IsPairsText job a [] []
pairs_none job a = record { pairs = []; are = tt; plain = refl; is = refl }

pub pairs_both : (job : Job) (a : Audited) (ds es : List Draft) (t u : List ℕ) → IsPairsText job a ds t → IsPairsText job a es u → IsPairsText job a (ds ++ es) (t ++ u)
pairs_both job a ds es t u h k = record {
  pairs = h.pairs ++ k.pairs;
  are = zip_both (IsPairOf job (lines_in a)) ds es h.pairs k.pairs h.are k.are;
  plain = none_of_both (λ pair. is_chain pair.fences) h.pairs k.pairs h.plain k.plain;
  is = ap (λ s. s ++ u) h.is ∙ ap (λ s. lines_text (map pair_words h.pairs) ++ s) k.is ∙ sym (text_both h.pairs k.pairs);
}

-- one more pair line
pub pairs_more : (job : Job) (a : Audited) (i k : ℕ) (pair : model.Pair) (t u : List ℕ) → k < length (list_in a i) → IsPairAt job a i k pair → IsPairsText job a (take k (list_in a i)) t → u ≡ line_text (pair_words pair)
    → IsPairsText job a (take (k + 1) (list_in a i)) (t ++ u)
pairs_more job a i k pair t u low at h e =
    let d : Draft = record { p = 0; r = 0; means = ReadWrite } in
    let ds = list_in a i in
    record {
      pairs = h.pairs ++ pair ∷ [];
      are = cited_more job (lines_in a) ds h.pairs k d pair low h.are (at.is (slice_index_or ds k d) (slice_get-get_or ds k d low));
      plain = none_of_both (λ p. is_chain p.fences) h.pairs (pair ∷ []) h.plain (ap (λ b. b || false) (not_chain pair.fences at.plain));
      is = ap (λ s. s ++ u) h.is ∙ ap (λ s. lines_text (map pair_words h.pairs) ++ s) (e ∙ sym (append-nil (line_text (pair_words pair)))) ∙ sym (text_both h.pairs (pair ∷ []));
    }

-- ---- lists

pub listed_step : (lists : List (Vec Packed)) (i : ℕ) → listed (take i lists) ++ if_there (slice_get lists i) ≡ listed (take (i + 1) lists)
listed_step lists i = rw add-one (step lists i)
  where
    step : (vs : List (Vec Packed)) (k : ℕ) → listed (take k vs) ++ if_there (slice_get vs k) ≡ listed (take (suc k) vs)
    step [] zero = refl
    step [] (suc k) = refl
    step (v ∷ vs) zero = sym (append-nil (seen v))
    step (v ∷ vs) (suc k) = append_assoc (seen v) (listed (take k vs)) (if_there (slice_get vs k)) ∙ ap (λ ds. seen v ++ ds) (step vs k)

-- ---- the text of lines

pub lines_none : (a : Audited) (from : ℕ) → IsLinesText a from from []
lines_none a from = let none : from - from ≡ 0 = omega arith in ap (λ n. lines_text (lines_words from (take n (drop from (lines_in a))))) (sym none)

-- one more line
pub lines_more : (a : Audited) (from k : ℕ) (line : model.Line) (t u : List ℕ) → from ≤ k → slice_get (lines_in a) k ≡ Some line → IsLinesText a from k t → u ≡ line_text (line_words k line) → IsLinesText a from (k + 1) (t ++ u)
lines_more a from k line t u order at h e =
    let ls = lines_in a in
    let rest = drop from ls in
    let i = k - from in
    let low : k < length ls = slice_get_within ls k line at in
    let back : from + i ≡ k = omega (arith, order) in
    let long : length rest ≡ length ls - from = length-drop from ls in
    let within : i < length rest = omega (arith, low, order, long) in
    let here : slice_index_or rest i line ≡ line = get_or-drop from ls i line ∙ ap (λ n. slice_index_or ls n line) back ∙ get_or_from_slice_get ls k line line at in
    let next : i + 1 ≡ k + 1 - from = omega (arith, order) in
    ap (λ x. x ++ u) h ∙ ap (λ x. lines_text (lines_words from (take i rest)) ++ x) e
    ∙ lines_put from rest i line within here back ∙ ap (λ n. lines_text (lines_words from (take n rest))) next
  where
    lines_put : (n : ℕ) (xs : List model.Line) (j : ℕ) (x : model.Line) → j < length xs → slice_index_or xs j x ≡ x → n + j ≡ k → lines_text (lines_words n (take j xs)) ++ line_text (line_words k x) ≡ lines_text (lines_words n (take (j + 1) xs))
    lines_put n xs j x within is back =
        let front = take j xs in
        let number : n + length front ≡ k = omega (arith, back, length-take-le j xs (omega (arith, within))) in
        sym
        (ap (λ l. lines_text (lines_words n l)) (take_more xs j x within ∙ ap (λ y. front ++ y ∷ []) is)
        ∙ ap lines_text (words_more n front x ∙ ap (λ m. lines_words n front ++ line_words m x ∷ []) number)
        ∙ flat_map-append line_text (lines_words n front) (line_words k x ∷ []) ∙ ap (λ t. lines_text (lines_words n front) ++ t) (append-nil (line_text (line_words k x))))

-- ---- what is printed

prints_both : (u v w : Option (List ℕ)) (a b c : Printer) (t s : List ℕ) → Prints u a v b t → Prints v b w c s → Prints u a w c (t ++ s)
prints_both u v w a b c t s f g = λ x text h. subst (λ all. HasPrinted x all w c) (append_assoc text t s) (g x (text ++ t) (f x text h))

pub such_none : (P : List ℕ → Type 0) (u : Option (List ℕ)) (a : Printer) → P [] → PrintsSuch P u a u a
such_none P u a is = record { text = []; is = is; prints = λ w text h. subst (λ t. HasPrinted w t u a) (sym (append-nil text)) h }

pub such_both : (P Q R : List ℕ → Type 0) {u v w : Option (List ℕ)} {a b c : Printer} → ((t s : List ℕ) → P t → Q s → R (t ++ s)) → PrintsSuch P u a v b → PrintsSuch Q v b w c → PrintsSuch R u a w c
such_both P Q R {u} {v} {w} {a} {b} {c} f h k = record { text = h.text ++ k.text; is = f h.text k.text h.is k.is; prints = prints_both u v w a b c h.text k.text h.prints k.prints }

pub such_as : (P Q : List ℕ → Type 0) {u v : Option (List ℕ)} {a b : Printer} → ((t : List ℕ) → P t → Q t) → PrintsSuch P u a v b → PrintsSuch Q u a v b
such_as P Q f h = record { text = h.text; is = f h.text h.is; prints = h.prints }

-- what a printer gives to a writer that held nothing is what it printed
pub given_such : (P : List ℕ → Type 0) {u v : Option (List ℕ)} {a b : Printer} (given : List ℕ) → u ≡ Some [] → IsEmpty a → PrintsSuch P u a v b → ((w : Option (List ℕ)) (text : List ℕ) → HasPrinted w text v b → Appends w (Some given) text) → P given
given_such P {u} {v} {a} {b} given none empty h gives =
    let appended : Appends u (Some given) h.text = gives u h.text (h.prints u [] (empty u)) in
    subst P (sym (subst (λ o. Appends o (Some given) h.text) none appended)) h.is

pub this_one : (t : List ℕ) {u v : Option (List ℕ)} {a b : Printer} → Prints u a v b t → PrintsSuch (λ s. s ≡ t) u a v b
this_one t h = record { text = t; is = refl; prints = h }

-- ---- all of it

pub certificate_written : (job : Job) (a : Audited) (u v w x : Option (List ℕ)) (p q r : Printer) → IsAudited job a → IsEmpty p → Prints u p v q (line_text (head_words false) ++ line_text (order_words (order_in a)))
    → PrintsSuch (IsWholeText job a) v q w r → ((y : Option (List ℕ)) (text : List ℕ) → HasPrinted y text w r → Appends y x (text ++ codes "end\n")) → WritesCertificate job u x
certificate_written job a u v w x p q r is empty begun body ended =
    let front = line_text (head_words false) ++ line_text (order_words (order_in a)) in
    let whole = body.is in
    let pairs = whole.pairs in
    let lines = lines_text (lines_words 0 (lines_in a)) in
    let behind = lines_text (map pair_words pairs.pairs) in
    let all : body.text ≡ lines ++ behind = whole.is ∙ ap (λ ls. lines_text (lines_words 0 ls) ++ whole.behind) (take_all (length (lines_in a)) (lines_in a) (omega arith)) ∙ ap (λ s. lines ++ s) pairs.is in
    let printed : front ++ body.text ≡ (front ++ lines) ++ behind = ap (λ s. front ++ s) all ∙ sym (append_assoc front lines behind) in
    record {
      certificate = record { order = order_in a; lines = lines_in a; pairs = pairs.pairs };
      holds = audited_certifies job a pairs.pairs is pairs.are;
      appends = subst (Appends u x) (ap (λ s. s ++ codes "end\n") printed ∙ plain_text (order_in a) (lines_in a) pairs.pairs pairs.plain) (ended u (front ++ body.text) (body.prints u front (begun u [] (empty u))));
    }
