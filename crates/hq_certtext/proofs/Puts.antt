-- Texts put behind one another in a buffer, and written in between.
use Rattle.std.proofs.Common.{◌≡◌, ℕ, Bool, false, zero, suc, ◌+◌, ◌<◌, List, [], ◌∷◌, ◌++◌, length, get_or, take, Option, Some, None, refl, sym, ap, subst, ◌∙◌, append_assoc, append-nil, arith, add-one, length-take}
use Rattle.std.specs.Prelude.{codes, ◌||◌, map}
use Rattle.std.specs.Fmt.{decimal}
use Rattle.std.specs.List.{list_any}
use Rattle.std.specs.Io.KnownBytes.{Appends, append_known}
use Rattle.std.proofs.lemmas.List.{map-append, length-map}
use Rattle.std.proofs.lemmas.Grind.{flat_map-append}
use Rattle.hq_model.specs.Certificate as model
use Rattle.hq_certtext.specs.Gains.{Gains}
use Rattle.hq_certtext.specs.Grammar.{rule_words, line_words, lines_words, head_words, order_words, pair_words, certificate_words}
use Rattle.hq_text.specs.Printed.{spaced, line_text, lines_text}
use Rattle.hq_certtext.specs.Printed.{is_chain, has_chain, text_of}

-- ---- with a writer

pub appends_both : (a b c : Option (List ℕ)) (s t : List ℕ) → Appends a b s → Appends b c t → Appends a c (s ++ t)
appends_both None b c s t h k = tt
appends_both (Some xs) None c s t h k = absurd h
appends_both (Some xs) (Some ys) None s t h k = absurd k
appends_both (Some xs) (Some ys) (Some zs) s t h k = k ∙ ap (λ r. r ++ t) h ∙ append_assoc xs s t

appends_known : (w : Option (List ℕ)) (old new t : List ℕ) → new ≡ old ++ t → Appends (append_known w old) (append_known w new) t
appends_known None old new t e = tt
appends_known (Some xs) old new t e = ap (λ ys. xs ++ ys) e ∙ sym (append_assoc xs old t)

pub then_gains : {u v w : Option (List ℕ)} {a b c s t : List ℕ} {i j k : ℕ} → Gains u a i v b j s → Gains v b j w c k t → Gains u a i w c k (s ++ t)
then_gains {u} {v} {w} {a} {b} {c} {s} {t} {i} {j} {k} h l =
    record { gained = appends_both (append_known u (take i a)) (append_known v (take j b)) (append_known w (take k c)) s t h.gained l.gained }

pub as_text : {u v : Option (List ℕ)} {a b s t : List ℕ} {i j : ℕ} → Gains u a i v b j s → s ≡ t → Gains u a i v b j t
as_text {u} {v} {a} {b} {s} {t} {i} {j} h e = subst (λ (r : List ℕ). Gains u a i v b j r) e h

-- and room was made for more
pub roomed : {u v w : Option (List ℕ)} {a b c s : List ℕ} {i j k : ℕ} → Gains u a i v b j s → Gains v b j w c k [] → Gains u a i w c k s
roomed {s = s} h l = as_text (then_gains h l) (append-nil s)

-- a text that was put in the buffer alone
pub put_gains : (u : Option (List ℕ)) {a b s : List ℕ} {i j : ℕ} → take j b ≡ take i a ++ s → Gains u a i u b j s
put_gains u {a} {b} {s} {i} {j} e = record { gained = appends_known u (take i a) (take j b) s e }

-- so it is when nothing is left in the buffer
nothing_left : (u v : Option (List ℕ)) (t : List ℕ) → Appends u (append_known v []) t → Appends u v t
nothing_left None v t k = tt
nothing_left (Some xs) None t k = absurd k
nothing_left (Some xs) (Some ys) t k = sym (append-nil ys) ∙ k

-- nothing was put
pub nothing_put : (w : Option (List ℕ)) → Appends w (append_known w []) []
nothing_put None = tt
nothing_put (Some xs) = refl

pub all_gone : (u v w : Option (List ℕ)) (a b s t : List ℕ) (i : ℕ) → Appends u (append_known v (take i a)) s → Gains v a i w b 0 t → Appends u w (s ++ t)
all_gone u v w a b s t i h g = nothing_left u w (s ++ t) (appends_both u (append_known v (take i a)) (append_known w []) s t h g.gained)

pub from_front : {u v : Option (List ℕ)} {a b t : List ℕ} → Gains u a 0 v b 0 t → Appends u v t
from_front {u} {v} {a} {b} {t} g = nothing_left u v t (by u (append_known v []) g.gained) where
  by : (u w : Option (List ℕ)) → Appends (append_known u []) w t → Appends u w t
  by None w k = tt
  by (Some xs) None k = absurd k
  by (Some xs) (Some ws) k = k ∙ ap (λ r. r ++ t) (append-nil xs)

-- ---- lists of texts

next : {A B : Type 0} (v : A → B) (xs : List A) (i : ℕ) (d : A) → i < length xs → map v (take (suc i) xs) ≡ map v (take i xs) ++ v (get_or xs i d) ∷ []
next v [] i d lt = absurd (omega arith)
next v (x ∷ xs) zero d lt = refl
next v (x ∷ xs) (suc i) d lt = ap (λ ys. v x ∷ ys) (next v xs i d (omega arith))

one_text : (ws : List (List ℕ)) → lines_text (ws ∷ []) ≡ line_text ws
one_text ws = append-nil (line_text ws)

-- the words of lines, and of one more behind them
pub lines_more : (k : ℕ) (ls : List model.Line) (l : model.Line) → lines_words k (ls ++ l ∷ []) ≡ lines_words k ls ++ line_words (k + length ls) l ∷ []
lines_more k [] l = ap (λ n. line_words n l ∷ []) (omega arith)
lines_more k (x ∷ ls) l =
    let n : k + 1 + length ls ≡ k + length (x ∷ ls) = omega arith in
    ap (λ ws. line_words k x ∷ ws) (lines_more (k + 1) ls l ∙ ap (λ m. lines_words (k + 1) ls ++ line_words m l ∷ []) n)

-- the text of the lines up to i, of which the first has number n, and of the line behind them
pub line_next : {A : Type 0} (v : A → model.Line) (n : ℕ) (xs : List A) (i : ℕ) (d : A) → i < length xs
    → lines_text (lines_words n (map v (take i xs))) ++ line_text (line_words (n + i) (v (get_or xs i d))) ≡ lines_text (lines_words n (map v (take (i + 1) xs)))
line_next v n xs i d lt =
    let long : n + length (map v (take i xs)) ≡ n + i = omega (arith, length-map (take i xs) v, length-take i xs) in
    sym
    (ap (λ ls. lines_text (lines_words n ls)) (rw add-one (next v xs i d lt))
    ∙ ap lines_text (lines_more n (map v (take i xs)) (v (get_or xs i d)) ∙ ap (λ m. lines_words n (map v (take i xs)) ++ line_words m (v (get_or xs i d)) ∷ []) long)
    ∙ flat_map-append line_text (lines_words n (map v (take i xs))) (line_words (n + i) (v (get_or xs i d)) ∷ [])
    ∙ ap (λ t. lines_text (lines_words n (map v (take i xs))) ++ t) (one_text (line_words (n + i) (v (get_or xs i d)))))

pub pair_next : {A B : Type 0} (f : B → List (List ℕ)) (v : A → B) (xs : List A) (i : ℕ) (d : A) → i < length xs
    → lines_text (map f (map v (take i xs))) ++ line_text (f (v (get_or xs i d))) ≡ lines_text (map f (map v (take (i + 1) xs)))
pair_next f v xs i d lt =
    sym
    (ap (λ ls. lines_text (map f ls)) (rw add-one (next v xs i d lt))
    ∙ ap lines_text (map-append f (map v (take i xs)) (v (get_or xs i d) ∷ []))
    ∙ flat_map-append line_text (map f (map v (take i xs))) (f (v (get_or xs i d)) ∷ [])
    ∙ ap (λ t. lines_text (map f (map v (take i xs))) ++ t) (one_text (f (v (get_or xs i d)))))

one_word : (w : List ℕ) → spaced (w ∷ []) ≡ 32 ∷ w
one_word w = append-nil (32 ∷ w)

pub number_next : {A : Type 0} (f : A → List ℕ) (xs : List A) (i : ℕ) (d : A) → i < length xs → spaced (map f (take i xs)) ++ 32 ∷ f (get_or xs i d) ≡ spaced (map f (take (i + 1) xs))
number_next f xs i d lt =
    sym
    (ap spaced (rw add-one (next f xs i d lt)) ∙ flat_map-append (λ word. 32 ∷ word) (map f (take i xs)) (f (get_or xs i d) ∷ [])
    ∙ ap (λ t. spaced (map f (take i xs)) ++ t) (one_word (f (get_or xs i d))))

pub citation_next : {A B : Type 0} (f : B → List ℕ) (v : A → B) (xs : List A) (i : ℕ) (d : A) → i < length xs
    → spaced (map f (map v (take i xs))) ++ 32 ∷ f (v (get_or xs i d)) ≡ spaced (map f (map v (take (i + 1) xs)))
citation_next f v xs i d lt =
    sym
    (ap (λ ys. spaced (map f ys)) (rw add-one (next v xs i d lt)) ∙ ap spaced (map-append f (map v (take i xs)) (v (get_or xs i d) ∷ []))
    ∙ flat_map-append (λ word. 32 ∷ word) (map f (map v (take i xs))) (f (v (get_or xs i d)) ∷ []) ∙ ap (λ t. spaced (map f (map v (take i xs))) ++ t) (one_word (f (v (get_or xs i d)))))

-- a line is its beginning, its rule and a line feed
pub line_is : (k : ℕ) (l : model.Line) → (codes "line" ++ spaced (decimal k ∷ decimal l.p ∷ decimal l.r ∷ [])) ++ (spaced (rule_words l.rule) ++ 10 ∷ []) ≡ line_text (line_words k l)
line_is k l =
    let numbers = decimal k ∷ decimal l.p ∷ decimal l.r ∷ [] in
    append_assoc (codes "line") (spaced numbers) (spaced (rule_words l.rule) ++ 10 ∷ [])
    ∙ ap (λ t. codes "line" ++ t) (sym (append_assoc (spaced numbers) (spaced (rule_words l.rule)) (10 ∷ [])) ∙ ap (λ t. t ++ 10 ∷ []) (sym (flat_map-append (λ word. 32 ∷ word) numbers (rule_words l.rule))))

-- ---- the whole text

-- the text by its parts
pub text_parts : (head order last : List (List ℕ)) (ls ps : List (List (List ℕ))) → lines_text (head ∷ order ∷ (ls ++ (ps ++ last ∷ []))) ≡ line_text head ++ (line_text order ++ (lines_text ls ++ (lines_text ps ++ line_text last)))
text_parts head order last ls ps =
    ap (λ t. line_text head ++ (line_text order ++ t))
    (flat_map-append line_text ls (ps ++ last ∷ []) ∙ ap (λ t. lines_text ls ++ t) (flat_map-append line_text ps (last ∷ []) ∙ ap (λ t. lines_text ps ++ t) (one_text last)))

pub any_map : {A B : Type 0} (p : B → Bool) (v : A → B) (xs : List A) → list_any (λ x. p (v x)) xs ≡ list_any p (map v xs)
any_map p v [] = refl
any_map p v (x ∷ xs) = ap (λ b. p (v x) || b) (any_map p v xs)

-- what is printed one part behind another is the text of a certificate without chained pair lines
pub plain_text : (order : List ℕ) (ls : List model.Line) (ps : List model.Pair) → list_any (λ pair. is_chain pair.fences) ps ≡ false
    → (((line_text (head_words false) ++ line_text (order_words order)) ++ lines_text (lines_words 0 ls)) ++ lines_text (map pair_words ps)) ++ codes "end\n" ≡ text_of (record { order = order; lines = ls; pairs = ps })
plain_text order ls ps plain =
    let head = line_text (head_words false) in
    let second = line_text (order_words order) in
    let lines = lines_text (lines_words 0 ls) in
    let pairs = lines_text (map pair_words ps) in
    append_assoc ((head ++ second) ++ lines) pairs (codes "end\n") ∙ append_assoc (head ++ second) lines (pairs ++ codes "end\n") ∙ append_assoc head second (lines ++ (pairs ++ codes "end\n"))
    ∙ sym (ap (λ b. lines_text (certificate_words b (record { order = order; lines = ls; pairs = ps }))) plain ∙ text_parts (head_words false) (order_words order) (codes "end" ∷ []) (lines_words 0 ls) (map pair_words ps))

-- what was put is the text of the certificate
pub text_is : {A : Type 0} (p : model.Pair → Bool) (v : A → model.Pair) (c : model.Certificate) (chained : Bool) (order : List ℕ) (ls : List model.Line) (looked ps : List A)
    → ((d : model.Certificate) → has_chain d ≡ list_any p d.pairs) → chained ≡ list_any (λ x. p (v x)) looked → map v looked ≡ c.pairs → order ≡ c.order → ls ≡ c.lines → map v ps ≡ c.pairs
    → (line_text (head_words chained) ++ line_text (order_words order)) ++ (lines_text (lines_words 0 ls) ++ (lines_text (map pair_words (map v ps)) ++ codes "end\n")) ≡ text_of c
text_is p v c chained order ls looked ps tells a g e f h =
    let flag : chained ≡ has_chain c = a ∙ any_map p v looked ∙ ap (list_any p) g ∙ sym (tells c) in
    rw (flag, e, f, h) (append_assoc (line_text (head_words (has_chain c))) (line_text (order_words c.order)) _ ∙ sym (text_parts (head_words (has_chain c)) (order_words c.order) (codes "end" ∷ []) (lines_words 0 c.lines) (map pair_words c.pairs)))
