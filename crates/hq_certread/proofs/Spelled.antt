-- What a line of a form is refused for: a number, or what it cites.
use Rattle.std.proofs.Common.{◌≡◌, ℕ, ◌≤◌, ◌^◌, ◌⊎◌, inl, inr, Bool, true, false, cond, List, [], ◌∷◌, length, Option, Some, None, refl, sym, ap, subst, ◌∙◌, arith, eqb}
use Rattle.std.specs.Prelude.{codes, map, Result, Ok, Err, nat_le, nat_lt}
use Rattle.std.specs.List.{AllByRecursion}
use Rattle.std.specs.Fmt.{decimal}
use Rattle.std.specs.Str.{bytes_eq}
use Rattle.std.proofs.lemmas.Bool.{ltb-true, le-leb}
use Rattle.std.proofs.lemmas.List.{length-map}
use Rattle.hq_text.specs.Lines.{words_of}
use Rattle.hq_text.specs.Ahead.{IsSmall}
use Rattle.hq_text.specs.Numbers.{number_of}
use Rattle.hq_model.specs.Certificate as model
use Rattle.hq_model.specs.Certificate.Rule.{Bit, Queue, And, Or, Through}
use Rattle.hq_model.specs.Certificate.Fences.{ForReadWrite, ForWriteWrite, ForWriteRead, ForWriteWriteChained, ForWriteReadChained}
use Rattle.hq_certread.specs.declared.fault.CertReason.{CertReason}
use Rattle.hq_certread.specs.declared.fault.CertReason.TheVariants as reason
use Rattle.hq_certread.specs.declared.forms.RuleKind.{RuleKind}
use Rattle.hq_certread.specs.declared.forms.RuleKind.TheVariants as rules
use Rattle.hq_certread.specs.declared.forms.FencesKind.{FencesKind}
use Rattle.hq_certread.specs.declared.forms.FencesKind.TheVariants as kinds
use Rattle.hq_certread.specs.declared.pairs.Numbers.{Numbers}
use Rattle.hq_certread.specs.declared.draft.Stage.{Stage}
use Rattle.hq_certread.specs.declared.draft.Stage.TheVariants as stage
use Rattle.hq_certtext.specs.Grammar.{IsBelow, IsCited, citation_word, rule_words, fences_words, head_words, order_words, RuleFits, FencesFit, OrderFits}
use Rattle.hq_text.specs.InTurn.{◌>>=◌}
use Rattle.hq_certread.specs.LineTests.{small, number_said, next_said, citation_said, below, cited_below, each, rule_kind, bit_said, and_said, or_said, through_of, through_said, rule_said, line_of, line_if, line_said, fences_kind, read_write_said, write_write_of, write_write_said, write_read_of, write_read_said, write_chain_of, write_chain_said, packets_said, links_said, links_below, read_chain_of, read_chain_said, fences_said, pair_of, pair_said, head_said, order_said}
use Rattle.hq_certread.specs.TextFaults.{State, add_head, add_order, add_line, add_pair, add_end, add_behind, add_content, add_at, added, with_head, with_order, with_line, with_pair, with_end}
use Rattle.hq_certread.specs.LineForms.{RuleForm, KindForm, MayPair, behind_lines, behind_pairs, HasForm, SpellsLine, SpellsPair, Spells, a_head, an_order, a_line, a_pair, an_end, Misspells, CitesWrongly, wrong_line, wrong_pair, WordMeans, NumberMeans, CitationMeans}
use Rattle.hq_certread.specs.LineForms as form
use Rattle.hq_certtext.proofs.Split.{SmallCited, small_of}
use Rattle.hq_certread.proofs.Parts.{number_ok, number_is, next_ok, next_is, citation_ok, citation_is, citations_ok, citations_are, numbers_ok, numbers_are}
use Rattle.hq_certread.proofs.LinesRead.{RuleRead, or_kind, line_is}
use Rattle.hq_certread.proofs.PairsRead.{FencesRead, five_words, packets_ok, links_ok, pair_is}
use Rattle.hq_certread.proofs.Reasons.{OrWord, form_or}

-- ---- words that are read: refused for a number, or a value

abbrev OrNumber : Type 0 → {A : Type 0} → Result A CertReason → Type 0
OrNumber P r = (r ≡ Err reason.Number) ⊎ P

record Value {A : Type 0} (r : Result A CertReason) : Type 0 where
  value : A
  is : r ≡ Ok value

abbrev Reads : {A : Type 0} → Result A CertReason → Type 0
Reads r = OrNumber (Value r) r

fine : {A : Type 0} (x : A) → (let r : Result A CertReason = Ok x in Reads r)
fine x = inr (record { value = x; is = refl })

-- a step, with what it read
then : {A B : Type 0} (P : Type 0) (r : Result A CertReason) (f : A → Result B CertReason) → Reads r → ((x : A) → r ≡ Ok x → OrNumber P (f x)) → OrNumber P (r >>= f)
then P (Ok x) f h k = k x refl
then P (Err e) f (inl p) k = inl (ap (λ x. x >>= f) p)
then P (Err e) f (inr v) k = let is = v.is in absurd cc

-- the last step
last : {A B : Type 0} (P Q : Type 0) (r : Result A CertReason) (f : A → B) → (P → Q) → OrNumber P r → OrNumber Q (r >>= λ x. Ok (f x))
last P Q r f g (inl e) = inl (ap (λ x. x >>= λ y. Ok (f y)) e)
last P Q r f g (inr p) = inr (g p)

on : {A B : Type 0} (r : Result A CertReason) (f : A → Result B CertReason) → Reads r → ((x : A) → Reads (f x)) → Reads (r >>= f)
on (Ok x) f h k = k x
on (Err e) f (inl p) k = inl (ap (λ x. x >>= f) p)
on (Err e) f (inr v) k = let is = v.is in absurd cc

guard : {A : Type 0} (b : Bool) (x : A) → (let r : Result A CertReason = cond b (Ok x) (Err reason.Number) in Reads r)
guard true x = fine x
guard false x = inl refl

number_reads : (word : List ℕ) → Reads (number_said word)
unfolding number_said
number_reads word = by (number_of word) where
  by : (o : Option ℕ) → Reads (small o)
  by None = inl refl
  by (Some n) = guard (nat_lt n (2 ^ 32)) n

next_reads : (k : ℕ) (word : List ℕ) → Reads (next_said k word)
unfolding next_said
next_reads k word = on (number_said word) _ (number_reads word) (λ n. guard (eqb n k) n)

citation_reads : (word : List ℕ) → Reads (citation_said word)
unfolding citation_said
citation_reads word = by (bytes_eq word (codes "=")) where
  by : (b : Bool) → Reads (cond b (Ok None) (number_said word >>= λ n. Ok (Some n)))
  by true = fine None
  by false = on (number_said word) _ (number_reads word) (λ n. fine (Some n))

each_reads : {A B : Type 0} (f : A → Result B CertReason) → ((x : A) → Reads (f x)) → (xs : List A) → Reads (each f xs)
unfolding each
each_reads f h [] = fine []
each_reads f h (x ∷ xs) = on (f x) _ (h x) (λ y. on (each f xs) _ (each_reads f h xs) (λ ys. fine (y ∷ ys)))

packets_read : (x x2 y2 y : List ℕ) → Reads (packets_said x x2 y2 y)
unfolding packets_said
packets_read x x2 y2 y = on (number_said x) _ (number_reads x) (λ a. on (number_said x2) _ (number_reads x2) (λ b. on (number_said y2) _ (number_reads y2) (λ c. on (number_said y) _ (number_reads y) (λ d. fine _))))

links_read : (a b c d i : List ℕ) → Reads (links_said a b c d i)
unfolding links_said
links_read a b c d i =
    on (citation_said a) _ (citation_reads a) (λ u. on (citation_said b) _ (citation_reads b) (λ v. on (number_said c) _ (number_reads c) (λ w. on (citation_said d) _ (citation_reads d) (λ x. on (citation_said i) _ (citation_reads i) (λ y. fine _)))))

-- ---- numbers that aren't looked up

wide : (n : ℕ) → IsSmall n → IsBelow (2 ^ 32) n
wide n h = record { small = h; below = h }

wide_cited : (c : Option ℕ) → SmallCited c → IsCited (2 ^ 32) c
wide_cited None h = tt
wide_cited (Some n) h = wide n h

wide_all : (cs : List (Option ℕ)) → AllByRecursion SmallCited cs → AllByRecursion (IsCited (2 ^ 32)) cs
wide_all [] h = tt
wide_all (c ∷ cs) h = (wide_cited c h.0, wide_all cs h.1)

-- ---- lines of a form: refused for a number, or spelled

record SpelledRule (name : List ℕ) (operands : List (List ℕ)) : Type 0 where
  rule : model.Rule
  read : RuleRead (2 ^ 32) name operands rule

record SpelledLine (k : ℕ) (others : List (List ℕ)) : Type 0 where
  line : model.Line
  read : SpellsLine k (codes "line" ∷ others) line

bit_spelled : (k : ℕ) (j : List ℕ) → OrNumber (SpelledRule (codes "bit") (j ∷ [])) (rule_said k rules.Bit (j ∷ []))
unfolding rule_said bit_said
bit_spelled k j = then _ (number_said j) _ (number_reads j) (λ n is. let m = number_ok j n is in inr (record { rule = Bit n; read = record { spelled = ap (λ w. codes "bit" ∷ w ∷ []) m.spelled; fits = m.small } }))

and_spelled : (k : ℕ) (j : List ℕ) → OrNumber (SpelledRule (codes "and") (j ∷ [])) (rule_said k rules.And (j ∷ []))
unfolding rule_said and_said
and_spelled k j = then _ (number_said j) _ (number_reads j) (λ n is. let m = number_ok j n is in inr (record { rule = And n; read = record { spelled = ap (λ w. codes "and" ∷ w ∷ []) m.spelled; fits = m.small } }))

or_spelled : (k : ℕ) (operands : List (List ℕ)) → 1 ≤ length operands → length operands ≤ 5 → OrNumber (SpelledRule (codes "or") operands) (rule_said k rules.Or operands)
unfolding rule_said or_said
or_spelled k operands some few =
    then _ (each citation_said operands) _ (each_reads citation_said citation_reads operands) (λ cs is.
    let c = citations_ok operands cs is in
    let long : length operands ≡ length cs = ap length c.0 ∙ length-map cs citation_word in
    inr (record { rule = Or cs; read = record { spelled = ap (λ ws. codes "or" ∷ ws) c.0; fits = record { some = omega arith; few = omega arith; cited = wide_all cs c.1 } } }))

through_spelled : (k : ℕ) (a b : List ℕ) → OrNumber (SpelledRule (codes "through") (a ∷ b ∷ [])) (rule_said k rules.Through (a ∷ b ∷ []))
unfolding rule_said through_said through_of
through_spelled k a b =
    then _ (number_said a) _ (number_reads a) (λ x first. then _ (number_said b) _ (number_reads b) (λ y second.
    let m = number_ok a x first in
    let n = number_ok b y second in
    inr (record { rule = Through x y; read = record { spelled = ap (λ w. codes "through" ∷ w ∷ b ∷ []) m.spelled ∙ ap (λ w. codes "through" ∷ decimal x ∷ w ∷ []) n.spelled; fits = (wide x m.small, wide y n.small) } })))

line_of_spelled : (k : ℕ) (number p r name : List ℕ) (kind : RuleKind) (operands : List (List ℕ)) → OrNumber (SpelledRule name operands) (rule_said k kind operands)
    → OrNumber (SpelledLine k (number ∷ p ∷ r ∷ name ∷ operands)) (line_of k number p r kind operands)
unfolding line_of
line_of_spelled k number p r name kind operands h =
    then _ (next_said k number) _ (next_reads k number) (λ n own. then _ (number_said p) _ (number_reads p) (λ x first. then _ (number_said r) _ (number_reads r) (λ y second.
    last (SpelledRule name operands) _ (rule_said k kind operands) _ (λ d.
    let a = next_ok k number n own in
    let b = number_ok p x first in
    let c = number_ok r y second in
    record {
      line = record { p = x; r = y; rule = d.rule };
      read = record {
        spelled = ap (λ w. codes "line" ∷ w ∷ p ∷ r ∷ name ∷ operands) a.spelled ∙ ap (λ w. codes "line" ∷ decimal k ∷ w ∷ r ∷ name ∷ operands) b.spelled
            ∙ ap (λ w. codes "line" ∷ decimal k ∷ decimal x ∷ w ∷ name ∷ operands) c.spelled ∙ ap (λ ws. codes "line" ∷ decimal k ∷ decimal x ∷ decimal y ∷ ws) d.read.spelled;
        number = a.small;
        p = b.small;
        r = c.small;
        rule = d.read.fits;
      };
    }) h)))

line_spelled : (k : ℕ) (number p r name : List ℕ) (operands : List (List ℕ)) (count : ℕ) → RuleForm name count → count ≡ length operands → OrNumber (SpelledLine k (number ∷ p ∷ r ∷ name ∷ operands)) (line_said k (number ∷ p ∷ r ∷ name ∷ operands))
unfolding line_said rule_kind
line_spelled k number p r name [] count form.bit e = absurd (omega arith)
line_spelled k number p r name (j ∷ []) count form.bit e = line_of_spelled k number p r _ rules.Bit (j ∷ []) (bit_spelled k j)
line_spelled k number p r name (j ∷ x ∷ more) count form.bit e = absurd (omega arith)
line_spelled k number p r name [] count form.queue e = line_of_spelled k number p r (codes "queue") rules.Queue [] (queue_spelled k)
  where
    queue_spelled : (k : ℕ) → OrNumber (SpelledRule (codes "queue") []) (rule_said k rules.Queue [])
    queue_spelled k = inr (record { rule = Queue; read = record { spelled = refl; fits = tt } })
line_spelled k number p r name (x ∷ more) count form.queue e = absurd (omega arith)
line_spelled k number p r name [] count form.and e = absurd (omega arith)
line_spelled k number p r name (j ∷ []) count form.and e = line_of_spelled k number p r _ rules.And (j ∷ []) (and_spelled k j)
line_spelled k number p r name (j ∷ x ∷ more) count form.and e = absurd (omega arith)
line_spelled k number p r name operands count (form.or n some few) e =
    let kind : rule_kind (codes "or") (length operands) ≡ Some rules.Or = or_kind (length operands) (omega arith) (omega arith) in
    subst (λ (o : Option RuleKind). OrNumber (SpelledLine k (number ∷ p ∷ r ∷ codes "or" ∷ operands)) (line_if k number p r operands o)) (sym kind)
    (line_of_spelled k number p r (codes "or") rules.Or operands (or_spelled k operands (omega arith) (omega arith)))
line_spelled k number p r name [] count form.through e = absurd (omega arith)
line_spelled k number p r name (a ∷ []) count form.through e = absurd (omega arith)
line_spelled k number p r name (a ∷ b ∷ []) count form.through e = line_of_spelled k number p r _ rules.Through (a ∷ b ∷ []) (through_spelled k a b)
line_spelled k number p r name (a ∷ b ∷ x ∷ more) count form.through e = absurd (omega arith)

-- ---- pair lines of a form

record SpelledFences (ch : Bool) (name : List ℕ) (operands : List (List ℕ)) : Type 0 where
  fences : model.Fences
  read : FencesRead ch (2 ^ 32) name operands fences

record SpelledPair (ch : Bool) (others : List (List ℕ)) : Type 0 where
  pair : model.Pair
  read : SpellsPair ch (codes "pair" ∷ others) pair

read_write_spelled : (ch : Bool) (count : ℕ) (a : List ℕ) → OrNumber (SpelledFences ch (codes "rw") (a ∷ [])) (fences_said count kinds.ReadWrite (a ∷ []))
unfolding fences_said read_write_said
read_write_spelled ch count a = then _ (number_said a) _ (number_reads a) (λ l is. let m = number_ok a l is in inr (record { fences = ForReadWrite l; read = record { spelled = ap (λ w. codes "rw" ∷ w ∷ []) m.spelled; fits = wide l m.small } }))

write_write_spelled : (ch : Bool) (count : ℕ) (x a b : List ℕ) → OrNumber (SpelledFences ch (codes "ww") (x ∷ a ∷ b ∷ [])) (fences_said count kinds.WriteWrite (x ∷ a ∷ b ∷ []))
unfolding fences_said write_write_said write_write_of
write_write_spelled ch count x a b =
    then _ (number_said x) _ (number_reads x) (λ s first. then _ (citation_said a) _ (citation_reads a) (λ t second. then _ (number_said b) _ (number_reads b) (λ u third.
    let m = number_ok x s first in
    let c = citation_ok a t second in
    let n = number_ok b u third in
    inr (record {
      fences = ForWriteWrite s t u;
      read = record {
        spelled = ap (λ y. codes "ww" ∷ y ∷ a ∷ b ∷ []) m.spelled ∙ ap (λ y. codes "ww" ∷ decimal s ∷ y ∷ b ∷ []) c.spelled ∙ ap (λ y. codes "ww" ∷ decimal s ∷ citation_word t ∷ y ∷ []) n.spelled;
        fits = (m.small, wide_cited t c.small, wide u n.small);
      };
    }))))

write_read_spelled : (ch : Bool) (count : ℕ) (x y a b c : List ℕ) → OrNumber (SpelledFences ch (codes "wr") (x ∷ y ∷ a ∷ b ∷ c ∷ [])) (fences_said count kinds.WriteRead (x ∷ y ∷ a ∷ b ∷ c ∷ []))
unfolding fences_said write_read_said write_read_of
write_read_spelled ch count x y a b c =
    then _ (number_said x) _ (number_reads x) (λ s first. then _ (number_said y) _ (number_reads y) (λ t second. then _ (citation_said a) _ (citation_reads a) (λ u third.
    then _ (number_said b) _ (number_reads b) (λ v fourth. then _ (citation_said c) _ (citation_reads c) (λ w fifth.
    let m = number_ok x s first in
    let n = number_ok y t second in
    let i = citation_ok a u third in
    let j = number_ok b v fourth in
    let k = citation_ok c w fifth in
    inr (record {
      fences = ForWriteRead s t u v w;
      read = record {
        spelled = five_words (codes "wr") x _ y _ a _ b _ c _ m.spelled n.spelled i.spelled j.spelled k.spelled;
        fits = (m.small, n.small, wide_cited u i.small, wide v j.small, wide_cited w k.small);
      };
    }))))))

write_chain_spelled : (count : ℕ) (x y a b c : List ℕ) → OrNumber (SpelledFences true (codes "wwc") (x ∷ y ∷ a ∷ b ∷ c ∷ [])) (fences_said count kinds.WriteWriteChained (x ∷ y ∷ a ∷ b ∷ c ∷ []))
unfolding fences_said write_chain_said write_chain_of
write_chain_spelled count x y a b c =
    then _ (number_said x) _ (number_reads x) (λ s first. then _ (number_said y) _ (number_reads y) (λ t second. then _ (citation_said a) _ (citation_reads a) (λ u third.
    then _ (number_said b) _ (number_reads b) (λ v fourth. then _ (number_said c) _ (number_reads c) (λ w fifth.
    let m = number_ok x s first in
    let n = number_ok y t second in
    let i = citation_ok a u third in
    let j = number_ok b v fourth in
    let k = number_ok c w fifth in
    inr (record {
      fences = ForWriteWriteChained s t u v w;
      read = record {
        spelled = five_words (codes "wwc") x _ y _ a _ b _ c _ m.spelled n.spelled i.spelled j.spelled k.spelled;
        fits = (refl, m.small, n.small, wide_cited u i.small, wide v j.small, wide w k.small);
      };
    }))))))

nine_words : (a aa b bb c cc1 d dd e ee f ff g gg h hh i ii : List ℕ) → a ≡ aa → b ≡ bb → c ≡ cc1 → d ≡ dd → e ≡ ee → f ≡ ff → g ≡ gg → h ≡ hh → i ≡ ii
    → codes "wrc" ∷ a ∷ b ∷ c ∷ d ∷ e ∷ f ∷ g ∷ h ∷ i ∷ [] ≡ codes "wrc" ∷ aa ∷ bb ∷ cc1 ∷ dd ∷ ee ∷ ff ∷ gg ∷ hh ∷ ii ∷ []
nine_words a aa b bb c cc1 d dd e ee f ff g gg h hh i ii pa pb pc pd pe pf pg ph pi = cc

read_chain_spelled : (count : ℕ) (x x2 y2 y from link between link2 to : List ℕ)
    → OrNumber (SpelledFences true (codes "wrc") (x ∷ x2 ∷ y2 ∷ y ∷ from ∷ link ∷ between ∷ link2 ∷ to ∷ [])) (fences_said count kinds.WriteReadChained (x ∷ x2 ∷ y2 ∷ y ∷ from ∷ link ∷ between ∷ link2 ∷ to ∷ []))
unfolding fences_said read_chain_said read_chain_of
read_chain_spelled count x x2 y2 y from link between link2 to =
    then _ (packets_said x x2 y2 y) _ (packets_read x x2 y2 y) (λ s first. then _ (links_said from link between link2 to) _ (links_read from link between link2 to) (λ t second.
    let p = packets_ok x x2 y2 y s first in
    let n = links_ok from link between link2 to t second in
    inr (record {
      fences = ForWriteReadChained s.x s.x2 s.y2 s.y t.from t.link t.between t.link2 t.to;
      read = record {
        spelled = nine_words x _ x2 _ y2 _ y _ from _ link _ between _ link2 _ to _ p.first.spelled p.second.spelled p.third.spelled p.fourth.spelled n.first.0 n.second.0 n.third.spelled n.fourth.0 n.fifth.0;
        fits = (refl, p.first.small, p.second.small, p.third.small, p.fourth.small, wide_cited t.from n.first.1, wide_cited t.link n.second.1, wide t.between n.third.small, wide_cited t.link2 n.fourth.1, wide_cited t.to n.fifth.1);
      };
    })))

pair_of_spelled : (ch : Bool) (count : ℕ) (p r name : List ℕ) (kind : FencesKind) (operands : List (List ℕ)) → OrNumber (SpelledFences ch name operands) (fences_said count kind operands)
    → OrNumber (SpelledPair ch (p ∷ r ∷ name ∷ operands)) (pair_of count p r kind operands)
unfolding pair_of
pair_of_spelled ch count p r name kind operands h =
    then _ (number_said p) _ (number_reads p) (λ x first. then _ (number_said r) _ (number_reads r) (λ y second.
    last (SpelledFences ch name operands) _ (fences_said count kind operands) _ (λ d.
    let a = number_ok p x first in
    let b = number_ok r y second in
    record {
      pair = record { p = x; r = y; fences = d.fences };
      read = record {
        spelled = ap (λ w. codes "pair" ∷ w ∷ r ∷ name ∷ operands) a.spelled ∙ ap (λ w. codes "pair" ∷ decimal x ∷ w ∷ name ∷ operands) b.spelled ∙ ap (λ ws. codes "pair" ∷ decimal x ∷ decimal y ∷ ws) d.read.spelled;
        fits = record { p = a.small; r = b.small; fences = d.read.fits };
      };
    }) h))

pair_spelled : (ch : Bool) (many : ℕ) (p r name : List ℕ) (operands : List (List ℕ)) (count : ℕ) → KindForm ch name count → count ≡ length operands → OrNumber (SpelledPair ch (p ∷ r ∷ name ∷ operands)) (pair_said ch many (p ∷ r ∷ name ∷ operands))
unfolding pair_said fences_kind
pair_spelled ch many p r name [] count (form.rw c) e = absurd (omega arith)
pair_spelled ch many p r name (a ∷ []) count (form.rw c) e = pair_of_spelled c many p r _ kinds.ReadWrite (a ∷ []) (read_write_spelled c many a)
pair_spelled ch many p r name (a ∷ x ∷ more) count (form.rw c) e = absurd (omega arith)
pair_spelled ch many p r name [] count (form.ww c) e = absurd (omega arith)
pair_spelled ch many p r name (a ∷ []) count (form.ww c) e = absurd (omega arith)
pair_spelled ch many p r name (a ∷ b ∷ []) count (form.ww c) e = absurd (omega arith)
pair_spelled ch many p r name (a ∷ b ∷ d ∷ []) count (form.ww c) e = pair_of_spelled c many p r _ kinds.WriteWrite (a ∷ b ∷ d ∷ []) (write_write_spelled c many a b d)
pair_spelled ch many p r name (a ∷ b ∷ d ∷ x ∷ more) count (form.ww c) e = absurd (omega arith)
pair_spelled ch many p r name [] count (form.wr c) e = absurd (omega arith)
pair_spelled ch many p r name (a ∷ []) count (form.wr c) e = absurd (omega arith)
pair_spelled ch many p r name (a ∷ b ∷ []) count (form.wr c) e = absurd (omega arith)
pair_spelled ch many p r name (a ∷ b ∷ d ∷ []) count (form.wr c) e = absurd (omega arith)
pair_spelled ch many p r name (a ∷ b ∷ d ∷ f ∷ []) count (form.wr c) e = absurd (omega arith)
pair_spelled ch many p r name (a ∷ b ∷ d ∷ f ∷ g ∷ []) count (form.wr c) e = pair_of_spelled c many p r _ kinds.WriteRead (a ∷ b ∷ d ∷ f ∷ g ∷ []) (write_read_spelled c many a b d f g)
pair_spelled ch many p r name (a ∷ b ∷ d ∷ f ∷ g ∷ x ∷ more) count (form.wr c) e = absurd (omega arith)
pair_spelled ch many p r name [] count form.wwc e = absurd (omega arith)
pair_spelled ch many p r name (a ∷ []) count form.wwc e = absurd (omega arith)
pair_spelled ch many p r name (a ∷ b ∷ []) count form.wwc e = absurd (omega arith)
pair_spelled ch many p r name (a ∷ b ∷ d ∷ []) count form.wwc e = absurd (omega arith)
pair_spelled ch many p r name (a ∷ b ∷ d ∷ f ∷ []) count form.wwc e = absurd (omega arith)
pair_spelled ch many p r name (a ∷ b ∷ d ∷ f ∷ g ∷ []) count form.wwc e = pair_of_spelled true many p r _ kinds.WriteWriteChained (a ∷ b ∷ d ∷ f ∷ g ∷ []) (write_chain_spelled many a b d f g)
pair_spelled ch many p r name (a ∷ b ∷ d ∷ f ∷ g ∷ x ∷ more) count form.wwc e = absurd (omega arith)
pair_spelled ch many p r name [] count form.wrc e = absurd (omega arith)
pair_spelled ch many p r name (a ∷ []) count form.wrc e = absurd (omega arith)
pair_spelled ch many p r name (a ∷ b ∷ []) count form.wrc e = absurd (omega arith)
pair_spelled ch many p r name (a ∷ b ∷ d ∷ []) count form.wrc e = absurd (omega arith)
pair_spelled ch many p r name (a ∷ b ∷ d ∷ f ∷ []) count form.wrc e = absurd (omega arith)
pair_spelled ch many p r name (a ∷ b ∷ d ∷ f ∷ g ∷ []) count form.wrc e = absurd (omega arith)
pair_spelled ch many p r name (a ∷ b ∷ d ∷ f ∷ g ∷ h ∷ []) count form.wrc e = absurd (omega arith)
pair_spelled ch many p r name (a ∷ b ∷ d ∷ f ∷ g ∷ h ∷ i ∷ []) count form.wrc e = absurd (omega arith)
pair_spelled ch many p r name (a ∷ b ∷ d ∷ f ∷ g ∷ h ∷ i ∷ j ∷ []) count form.wrc e = absurd (omega arith)
pair_spelled ch many p r name (a ∷ b ∷ d ∷ f ∷ g ∷ h ∷ i ∷ j ∷ k ∷ []) count form.wrc e = pair_of_spelled true many p r _ kinds.WriteReadChained (a ∷ b ∷ d ∷ f ∷ g ∷ h ∷ i ∷ j ∷ k ∷ []) (read_chain_spelled many a b d f g h i j k)
pair_spelled ch many p r name (a ∷ b ∷ d ∷ f ∷ g ∷ h ∷ i ∷ j ∷ k ∷ x ∷ more) count form.wrc e = absurd (omega arith)

-- ---- what is spelled: refused for what it cites, or right

abbrev OrCited : Type 0 → {A : Type 0} → Result A CertReason → Type 0
OrCited P r = (r ≡ Err reason.Citation) ⊎ P

found : {B : Type 0} (P : Type 0) (limit n : ℕ) (f : ℕ → Result B CertReason) → IsSmall n → (IsBelow limit n → OrCited P (f n)) → OrCited P (below limit n >>= f)
unfolding below
found P limit n f h k = by (nat_lt n limit) refl where
  by : (b : Bool) → nat_lt n limit ≡ b → OrCited P (cond b (Ok n) (Err reason.Citation) >>= f)
  by true e = k (record { small = h; below = ltb-true n limit e })
  by false e = inl refl

cited : {B : Type 0} (P : Type 0) (limit : ℕ) (c : Option ℕ) (f : Option ℕ → Result B CertReason) → SmallCited c → (IsCited limit c → OrCited P (f c)) → OrCited P (cited_below limit c >>= f)
unfolding below
cited P limit None f h k = k tt
cited P limit (Some n) f h k = by (nat_lt n limit) refl where
  by : (b : Bool) → nat_lt n limit ≡ b → OrCited P ((cond b (Ok n) (Err reason.Citation) >>= λ m. Ok (Some m)) >>= f)
  by true e = k (record { small = h; below = ltb-true n limit e })
  by false e = inl refl

ends : {A B : Type 0} (P Q : Type 0) (r : Result A CertReason) (f : A → B) → (P → Q) → OrCited P r → OrCited Q (r >>= λ x. Ok (f x))
ends P Q r f g (inl e) = inl (ap (λ x. x >>= λ y. Ok (f y)) e)
ends P Q r f g (inr p) = inr (g p)

all_cited : (limit : ℕ) (cs : List (Option ℕ)) → AllByRecursion (IsCited (2 ^ 32)) cs → OrCited (AllByRecursion (IsCited limit) cs) (each (cited_below limit) cs)
unfolding each
all_cited limit [] h = inr tt
all_cited limit (c ∷ cs) h =
    cited _ limit c _ (small_of (2 ^ 32) c h.0) (λ p. ends (AllByRecursion (IsCited limit) cs) _ (each (cited_below limit) cs) _ (λ more. (p, more)) (all_cited limit cs h.1))

line_cites : (k p r : ℕ) (rule : model.Rule) → IsSmall k → IsSmall p → IsSmall r → RuleFits (2 ^ 32) rule → OrCited (RuleFits k rule) (line_said k (decimal k ∷ decimal p ∷ decimal r ∷ rule_words rule))
unfolding line_said line_of rule_said rule_kind bit_said and_said or_said through_said through_of
line_cites k p r (Bit j) hk hp hr h = inr h
line_cites k p r Queue hk hp hr h = inr tt
line_cites k p r (And slot) hk hp hr h = inr h
line_cites k p r (Or branches) hk hp hr h =
    let long : length (map citation_word branches) ≡ length branches = length-map branches citation_word in
    let kind : rule_kind (codes "or") (length (map citation_word branches)) ≡ Some rules.Or = ap (rule_kind (codes "or")) long ∙ or_kind (length branches) h.some h.few in
    subst (λ (o : Option RuleKind). OrCited (RuleFits k (Or branches)) (line_if k (decimal k) (decimal p) (decimal r) (map citation_word branches) o)) (sym kind)
    (rw (next_is k hk, number_is p hp, number_is r hr, citations_are (2 ^ 32) branches h.cited)
    (ends (RuleFits k (Or branches)) (RuleFits k (Or branches)) (each (cited_below k) branches >>= λ ds. Ok (Or ds)) _ (λ fits. fits)
    (ends (AllByRecursion (IsCited k) branches) _ (each (cited_below k) branches) Or (λ all. record { some = h.some; few = h.few; cited = all }) (all_cited k branches h.cited))))
line_cites k p r (Through a b) hk hp hr h =
    rw (next_is k hk, number_is p hp, number_is r hr, number_is a h.0.small, number_is b h.1.small)
    (ends (RuleFits k (Through a b)) (RuleFits k (Through a b)) (below k a >>= λ m. below k b >>= λ n. Ok (Through m n)) _ (λ fits. fits)
    (found (RuleFits k (Through a b)) k a _ h.0.small (λ first. found (RuleFits k (Through a b)) k b _ h.1.small (λ second. inr (first, second)))))

links_cite : (count : ℕ) (a b : Option ℕ) (c : ℕ) (d e : Option ℕ) → SmallCited a → SmallCited b → IsSmall c → SmallCited d → SmallCited e
    → OrCited (IsCited count a × IsCited count b × IsBelow count c × IsCited count d × IsCited count e) (links_below count (record { from = a; link = b; between = c; link2 = d; to = e }))
unfolding links_below
links_cite count a b c d e ha hb hc hd he =
    cited _ count a _ ha (λ pa. cited _ count b _ hb (λ pb. found _ count c _ hc (λ pc. cited _ count d _ hd (λ pd. cited _ count e _ he (λ pe. inr (pa, pb, pc, pd, pe))))))

pair_cites : (ch : Bool) (count p r : ℕ) (fences : model.Fences) → IsSmall p → IsSmall r → FencesFit ch (2 ^ 32) fences → OrCited (FencesFit ch count fences) (pair_said ch count (decimal p ∷ decimal r ∷ fences_words fences))
unfolding pair_said pair_of fences_said fences_kind read_write_said write_write_said write_write_of write_read_said write_read_of write_chain_said write_chain_of read_chain_said read_chain_of packets_said links_said
pair_cites ch count p r (ForReadWrite l) hp hr h =
    let Fits = FencesFit ch count (ForReadWrite l) in
    rw (number_is p hp, number_is r hr, number_is l h.small)
    (ends Fits Fits (below count l >>= λ n. Ok (ForReadWrite n)) _ (λ fits. fits) (found Fits count l _ h.small (λ p. inr p)))
pair_cites ch count p r (ForWriteWrite x a b) hp hr h =
    let Fits = FencesFit ch count (ForWriteWrite x a b) in
    let ha = small_of (2 ^ 32) a h.1 in
    rw (number_is p hp, number_is r hr, number_is x h.0, citation_is a ha, number_is b h.2.small)
    (ends Fits Fits (cited_below count a >>= λ c. below count b >>= λ d. Ok (ForWriteWrite x c d)) _ (λ fits. fits) (cited Fits count a _ ha (λ pa. found Fits count b _ h.2.small (λ pb. inr (h.0, pa, pb)))))
pair_cites ch count p r (ForWriteRead x y a b c) hp hr h =
    let Fits = FencesFit ch count (ForWriteRead x y a b c) in
    let ha = small_of (2 ^ 32) a h.2 in
    let hc = small_of (2 ^ 32) c h.4 in
    rw (number_is p hp, number_is r hr, number_is x h.0, number_is y h.1, citation_is a ha, number_is b h.3.small, citation_is c hc)
    (ends Fits Fits (cited_below count a >>= λ d. below count b >>= λ e. cited_below count c >>= λ f. Ok (ForWriteRead x y d e f)) _ (λ fits. fits)
    (cited Fits count a _ ha (λ pa. found Fits count b _ h.3.small (λ pb. cited Fits count c _ hc (λ pc. inr (h.0, h.1, pa, pb, pc))))))
pair_cites ch count p r (ForWriteWriteChained x y a b c) hp hr h =
    let Fits = FencesFit true count (ForWriteWriteChained x y a b c) in
    let ha = small_of (2 ^ 32) a h.3 in
    rw (h.0, number_is p hp, number_is r hr, number_is x h.1, number_is y h.2, citation_is a ha, number_is b h.4.small, number_is c h.5.small)
    (ends Fits Fits (cited_below count a >>= λ d. below count b >>= λ e. below count c >>= λ f. Ok (ForWriteWriteChained x y d e f)) _ (λ fits. fits)
    (cited Fits count a _ ha (λ pa. found Fits count b _ h.4.small (λ pb. found Fits count c _ h.5.small (λ pc. inr (refl, h.1, h.2, pa, pb, pc))))))
pair_cites ch count p r (ForWriteReadChained x x2 y2 y a b c d e) hp hr h =
    let Fits = FencesFit true count (ForWriteReadChained x x2 y2 y a b c d e) in
    let Cited = IsCited count a × IsCited count b × IsBelow count c × IsCited count d × IsCited count e in
    let ha = small_of (2 ^ 32) a h.5 in
    let hb = small_of (2 ^ 32) b h.6 in
    let hd = small_of (2 ^ 32) d h.8 in
    let he = small_of (2 ^ 32) e h.9 in
    let links : Numbers = record { from = a; link = b; between = c; link2 = d; to = e } in
    rw (h.0, number_is p hp, number_is r hr, number_is x h.1, number_is x2 h.2, number_is y2 h.3, number_is y h.4, citation_is a ha, citation_is b hb, number_is c h.7.small, citation_is d hd, citation_is e he)
    (ends Fits Fits (links_below count links >>= λ l. Ok (ForWriteReadChained x x2 y2 y l.from l.link l.between l.link2 l.to)) _ (λ fits. fits)
    (ends Cited Fits (links_below count links) _ (λ l. (refl, h.1, h.2, h.3, h.4, l.0, l.1, l.2, l.3, l.4)) (links_cite count a b c d e ha hb h.7.small hd he)))

-- ---- a line in its place

-- what a line leaves, by the words behind `line` or `pair`
line_at : (s : State) (others : List (List ℕ)) → s.stage ≡ stage.Lines → added s (codes "line" ∷ others) ≡ (line_said (length s.lines) others >>= λ l. Ok (with_line s l))
unfolding added add_content add_line
line_at s others at = ap (λ st. add_at st s (codes "line" ∷ others)) at

pair_at : (s : State) (others : List (List ℕ)) → MayPair s.stage → added s (codes "pair" ∷ others) ≡ (pair_said s.chained (length s.lines) others >>= λ p. Ok (with_pair s p))
unfolding added add_content add_behind add_pair
pair_at s others may = by s.stage may where
  by : (st : Stage) → MayPair st → add_at st s (codes "pair" ∷ others) ≡ (pair_said s.chained (length s.lines) others >>= λ p. Ok (with_pair s p))
  by st behind_lines = refl
  by st behind_pairs = refl

order_spelled : (s : State) (ns : List (List ℕ)) → s.stage ≡ stage.Order → length ns ≤ 1024 → OrNumber (Spells s (codes "order" ∷ ns)) (added s (codes "order" ∷ ns))
unfolding added add_order order_said
order_spelled s ns at few =
    let test : nat_le (length ns) 1024 ≡ true = le-leb (length ns) 1024 few in
    subst (λ (st : Stage). OrNumber (Spells s (codes "order" ∷ ns)) (add_at st s (codes "order" ∷ ns))) (sym at)
    (rw test (then _ (each number_said ns) _ (each_reads number_said number_reads ns) (λ order is.
    let numbers = numbers_ok ns order is in
    let long : length ns ≡ length order = ap length numbers.0 ∙ length-map order decimal in
    inr (an_order order at (ap (λ ws. codes "order" ∷ ws) numbers.0) (record { few = omega arith; small = numbers.1 })))))

-- a form is refused for a number, or spelled
form_spelled : (s : State) (words : List (List ℕ)) → HasForm s.stage s.chained words → OrNumber (Spells s words) (added s words)
form_spelled s words h = by s.stage s.chained words refl refl h where
  by : (st : Stage) (ch : Bool) (words : List (List ℕ)) → s.stage ≡ st → s.chained ≡ ch → HasForm st ch words → OrNumber (Spells s words) (added s words)
  by st ch words at is (form.head chained here) = inr (a_head chained at refl)
  by st ch words at is (form.order here ns few) = order_spelled s ns at few
  by st ch words at is (form.line here k p r name operands f) =
      let others = k ∷ p ∷ r ∷ name ∷ operands in
      subst (λ x. OrNumber (Spells s (codes "line" ∷ others)) x) (sym (line_at s others at))
      (last _ _ (line_said (length s.lines) others) _ (λ l. a_line l.line at l.read) (line_spelled (length s.lines) k p r name operands (length operands) f refl))
  by st ch words at is (form.pair place here p r name operands may f) =
      let others = p ∷ r ∷ name ∷ operands in
      let may_here = subst (λ (t : Stage). MayPair t) (sym at) may in
      subst (λ x. OrNumber (Spells s (codes "pair" ∷ others)) x) (sym (pair_at s others may_here))
      (last _ _ (pair_said s.chained (length s.lines) others) _ (λ l. a_pair l.pair may_here l.read)
      (pair_spelled s.chained (length s.lines) p r name operands (length operands) (subst (λ (c : Bool). KindForm c name (length operands)) (sym is) f) refl))
  by st ch words at is (form.ends place here may) = inr (an_end (subst (λ (t : Stage). MayPair t) (sym at) may) refl)

-- what is spelled cites wrongly, or is admitted
abbrev OrAdmitted : State → List (List ℕ) → Type 0
OrAdmitted s words = ((added s words ≡ Err reason.Citation) × CitesWrongly s words) ⊎ Value (added s words)

-- it can't be both
not_both : {A : Type 0} (w : CertReason) (x : A) → (let a : Result A CertReason = Err w in let b : Result A CertReason = Ok x in a ≡ b) → ⊥
not_both w x e = absurd cc

settle : {A : Type 0} (P : Type 0) (r : Result A CertReason) (f : A → State) (x : A) (s : State) (words : List (List ℕ)) → added s words ≡ (r >>= λ y. Ok (f y)) → (P → r ≡ Ok x) → ((¬ P) → CitesWrongly s words) → OrCited P r → OrAdmitted s words
settle P r f x s words left right wrong (inl e) = inl (left ∙ ap (λ y. y >>= λ z. Ok (f z)) e, wrong (λ p. not_both reason.Citation x (sym e ∙ right p)))
settle P r f x s words left right wrong (inr p) = inr (record { value = f x; is = left ∙ ap (λ y. y >>= λ z. Ok (f z)) (right p) })

refused : {A : Type 0} (P : Type 0) (r : Result A CertReason) (f : A → State) (s : State) (words : List (List ℕ)) → added s words ≡ (r >>= λ y. Ok (f y)) → (¬ P) → OrCited P r → added s words ≡ Err reason.Citation
refused P r f s words left none (inl e) = left ∙ ap (λ y. y >>= λ z. Ok (f z)) e
refused P r f s words left none (inr p) = absurd (none p)

-- the words behind `line`, and those behind `pair`
abbrev line_rest : State → model.Line → List (List ℕ)
line_rest s l = decimal (length s.lines) ∷ decimal l.p ∷ decimal l.r ∷ rule_words l.rule

abbrev pair_rest : model.Pair → List (List ℕ)
pair_rest p = decimal p.p ∷ decimal p.r ∷ fences_words p.fences

line_left : (s : State) (words : List (List ℕ)) (l : model.Line) → s.stage ≡ stage.Lines → SpellsLine (length s.lines) words l → added s words ≡ (line_said (length s.lines) (line_rest s l) >>= λ x. Ok (with_line s x))
line_left s words l at h = ap (λ ws. added s ws) h.spelled ∙ line_at s (line_rest s l) at

pair_left : (s : State) (words : List (List ℕ)) (p : model.Pair) → MayPair s.stage → SpellsPair s.chained words p → added s words ≡ (pair_said s.chained (length s.lines) (pair_rest p) >>= λ x. Ok (with_pair s x))
pair_left s words p may h = ap (λ ws. added s ws) h.spelled ∙ pair_at s (pair_rest p) may

line_tests : (s : State) (words : List (List ℕ)) (l : model.Line) → SpellsLine (length s.lines) words l → OrCited (RuleFits (length s.lines) l.rule) (line_said (length s.lines) (line_rest s l))
line_tests s words l h = line_cites (length s.lines) l.p l.r l.rule h.number h.p h.r h.rule

pair_tests : (s : State) (words : List (List ℕ)) (p : model.Pair) → SpellsPair s.chained words p → OrCited (FencesFit s.chained (length s.lines) p.fences) (pair_said s.chained (length s.lines) (pair_rest p))
pair_tests s words p h = pair_cites s.chained (length s.lines) p.p p.r p.fences h.fits.p h.fits.r h.fits.fences

head_is : (s : State) (ch : Bool) → add_head s (head_words ch) ≡ Ok (with_head s ch)
unfolding add_head head_said
head_is s true = refl
head_is s false = refl

order_is : (s : State) (order : List ℕ) → OrderFits order → add_order s (order_words order) ≡ Ok (with_order s order)
unfolding add_order order_said
order_is s order h =
    let long : length (map decimal order) ≡ length order = length-map order decimal in
    rw (le-leb (length (map decimal order)) 1024 (let few = h.few in omega arith), numbers_are order h.small) refl

end_is : (st : Stage) (s : State) → MayPair st → add_at st s (codes "end" ∷ []) ≡ Ok (with_end s)
unfolding add_content add_behind add_end
end_is st s behind_lines = refl
end_is st s behind_pairs = refl

admitted : (s new : State) (words w : List (List ℕ)) → words ≡ w → add_at s.stage s w ≡ Ok new → OrAdmitted s words
unfolding added
admitted s new words w e is = inr (record { value = new; is = ap (λ ws. add_at s.stage s ws) e ∙ is })

spelled_or : (s : State) (words : List (List ℕ)) → Spells s words → OrAdmitted s words
spelled_or s words (a_head ch at e) = admitted s (with_head s ch) words (head_words ch) e (ap (λ st. add_at st s (head_words ch)) at ∙ head_is s ch)
spelled_or s words (an_order order at e fits) = admitted s (with_order s order) words (order_words order) e (ap (λ st. add_at st s (order_words order)) at ∙ order_is s order fits)
spelled_or s words (a_line l at h) =
    settle (RuleFits (length s.lines) l.rule) (line_said (length s.lines) (line_rest s l)) (with_line s) l s words (line_left s words l at h)
    (λ fits. line_is (length s.lines) l (record { number = h.number; p = h.p; r = h.r; rule = fits })) (λ none. wrong_line l at h none) (line_tests s words l h)
spelled_or s words (a_pair p may h) =
    settle (FencesFit s.chained (length s.lines) p.fences) (pair_said s.chained (length s.lines) (pair_rest p)) (with_pair s) p s words (pair_left s words p may h)
    (λ fits. pair_is s.chained (length s.lines) p (record { p = h.fits.p; r = h.fits.r; fences = fits })) (λ none. wrong_pair p may h (λ fits. none fits.fences)) (pair_tests s words p h)
spelled_or s words (an_end may e) = admitted s (with_end s) words (codes "end" ∷ []) e (end_is s.stage s may)

wrongly_refused : (s : State) (words : List (List ℕ)) → CitesWrongly s words → added s words ≡ Err reason.Citation
wrongly_refused s words (wrong_line l at h none) = refused (RuleFits (length s.lines) l.rule) _ (with_line s) s words (line_left s words l at h) none (line_tests s words l h)
wrongly_refused s words (wrong_pair p may h none) =
    refused (FencesFit s.chained (length s.lines) p.fences) _ (with_pair s) s words (pair_left s words p may h) (λ fits. none (record { p = h.fits.p; r = h.fits.r; fences = fits })) (pair_tests s words p h)

-- ---- the three laws, from what a line is refused for

-- one reason and no other
abbrev Is : State → List (List ℕ) → CertReason → Type 0
Is s words why = added s words ≡ Err why

formed : (s : State) (words : List (List ℕ)) → OrWord (HasForm s.stage s.chained words) (added s words)
unfolding added
formed s words = form_or s.stage s words

number_or_word : (s : State) (words : List (List ℕ)) → Is s words reason.Number → Is s words reason.Word → ⊥
number_or_word s words a b = let e : (let x : Result State CertReason = Err reason.Number in let y : Result State CertReason = Err reason.Word in x ≡ y) = sym a ∙ b in absurd cc

number_or_citation : (s : State) (words : List (List ℕ)) → Is s words reason.Number → Is s words reason.Citation → ⊥
number_or_citation s words a b = let e : (let x : Result State CertReason = Err reason.Number in let y : Result State CertReason = Err reason.Citation in x ≡ y) = sym a ∙ b in absurd cc

word_or_citation : (s : State) (words : List (List ℕ)) → Is s words reason.Word → Is s words reason.Citation → ⊥
word_or_citation s words a b = let e : (let x : Result State CertReason = Err reason.Word in let y : Result State CertReason = Err reason.Citation in x ≡ y) = sym a ∙ b in absurd cc

-- what is spelled is refused for what it cites, if at all
only_cited : (s : State) (words : List (List ℕ)) (why : CertReason) → Spells s words → (Is s words why → Is s words reason.Citation → ⊥) → Is s words why → ⊥
only_cited s words why h none e = by (spelled_or s words h) where
  by : OrAdmitted s words → ⊥
  by (inl c) = none e c.0
  by (inr v) = not_both why v.value (sym e ∙ v.is)

-- what has a form is refused for a number or for what it cites, if at all
never_word : (s : State) (words : List (List ℕ)) → HasForm s.stage s.chained words → Is s words reason.Word → ⊥
never_word s words h e = by (form_spelled s words h) where
  by : OrNumber (Spells s words) (added s words) → ⊥
  by (inl n) = number_or_word s words n e
  by (inr p) = only_cited s words reason.Word p (word_or_citation s words) e

pub word_means : WordMeans
word_means s text = (λ e h. never_word s (words_of text) h e, λ none. by none (formed s (words_of text))) where
  by : (¬ HasForm s.stage s.chained (words_of text)) → OrWord (HasForm s.stage s.chained (words_of text)) (added s (words_of text)) → Is s (words_of text) reason.Word
  by none (inl h) = absurd (none h)
  by none (inr e) = e

misspelled : (s : State) (words : List (List ℕ)) → Is s words reason.Number → OrWord (HasForm s.stage s.chained words) (added s words) → Misspells s words
misspelled s words e (inl h) = record { form = h; unspelled = λ p. only_cited s words reason.Number p (number_or_citation s words) e }
misspelled s words e (inr w) = absurd (number_or_word s words e w)

pub number_means : NumberMeans
number_means s text = (λ e. misspelled s (words_of text) e (formed s (words_of text)), λ h. by h (form_spelled s (words_of text) h.form)) where
  by : Misspells s (words_of text) → OrNumber (Spells s (words_of text)) (added s (words_of text)) → Is s (words_of text) reason.Number
  by h (inl e) = e
  by h (inr p) = absurd (h.unspelled p)

cited_wrongly : (s : State) (words : List (List ℕ)) → Is s words reason.Citation → OrWord (HasForm s.stage s.chained words) (added s words) → CitesWrongly s words
cited_wrongly s words e (inr w) = absurd (word_or_citation s words w e)
cited_wrongly s words e (inl h) = by (form_spelled s words h) where
  spelled : OrAdmitted s words → CitesWrongly s words
  spelled (inl c) = c.1
  spelled (inr v) = absurd (not_both reason.Citation v.value (sym e ∙ v.is))

  by : OrNumber (Spells s words) (added s words) → CitesWrongly s words
  by (inl n) = absurd (number_or_citation s words n e)
  by (inr p) = spelled (spelled_or s words p)

pub citation_means : CitationMeans
citation_means s text = (λ e. cited_wrongly s (words_of text) e (formed s (words_of text)), λ h. wrongly_refused s (words_of text) h)
