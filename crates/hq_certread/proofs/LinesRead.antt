-- Lines, both ways.
use Rattle.std.proofs.Common.{◌≡◌, ℕ, ◌≤◌, Bool, true, false, cond, List, [], ◌∷◌, length, Option, Some, None, refl, sym, ap, subst, ◌∙◌, arith, eqb}
use Rattle.std.specs.Prelude.{◌&&◌, codes, map, Ok, nat_le}
use Rattle.std.specs.Fmt.{decimal}
use Rattle.std.specs.Str.{bytes_eq}
use Rattle.std.proofs.lemmas.Bool.{leb-true, le-leb, eqb-true}
use Rattle.std.proofs.lemmas.List.{length-map}
use Rattle.hq_model.specs.Certificate as model
use Rattle.hq_model.specs.Certificate.Rule.{Bit, Queue, And, Or, Through}
use Rattle.hq_certread.specs.declared.forms.RuleKind.{RuleKind}
use Rattle.hq_certread.specs.declared.forms.RuleKind.TheVariants as kinds
use Rattle.hq_certtext.specs.Grammar.{citation_word, rule_words, line_words, RuleFits, LineFits}
use Rattle.hq_certread.specs.LineTests.{number_said, next_said, citation_said, below, cited_below, each, rule_kind, bit_said, and_said, or_said, through_of, through_said, rule_said, line_of, line_if, line_said}
use Rattle.hq_text.specs.Ahead.{IsSmall}
use Rattle.hq_text.proofs.InTurn.{steps, ok_is, both, word_is}
use Rattle.hq_certread.proofs.Parts.{number_ok, number_is, next_ok, next_is, below_ok, below_is, citations_ok, citations_are, all_ok, all_are}

-- the words are those of the rule of line k
pub record RuleRead (k : ℕ) (name : List ℕ) (operands : List (List ℕ)) (rule : model.Rule) : Type 0 where
  pub spelled : name ∷ operands ≡ rule_words rule
  pub fits : RuleFits k rule

rule_if : (k : ℕ) (name : List ℕ) (operands : List (List ℕ)) (a b : model.Rule) → a ≡ b → RuleRead k name operands a → RuleRead k name operands b
rule_if k name operands a b e h = subst (λ (r : model.Rule). RuleRead k name operands r) e h

bit_ok : (k : ℕ) (operands : List (List ℕ)) (rule : model.Rule) → bit_said operands ≡ Ok rule → RuleRead k (codes "bit") operands rule
unfolding bit_said
bit_ok k [] rule e = absurd cc
bit_ok k (j ∷ []) rule e =
    let s = steps (number_said j) (λ n. Ok (Bit n)) rule e in
    let n = number_ok j s.value s.first in
    rule_if k (codes "bit") (j ∷ []) (Bit s.value) rule (ok_is _ rule s.next) (record { spelled = ap (λ w. codes "bit" ∷ w ∷ []) n.spelled; fits = n.small })
bit_ok k (j ∷ x ∷ more) rule e = absurd cc

and_ok : (k : ℕ) (operands : List (List ℕ)) (rule : model.Rule) → and_said operands ≡ Ok rule → RuleRead k (codes "and") operands rule
unfolding and_said
and_ok k [] rule e = absurd cc
and_ok k (j ∷ []) rule e =
    let s = steps (number_said j) (λ n. Ok (And n)) rule e in
    let n = number_ok j s.value s.first in
    rule_if k (codes "and") (j ∷ []) (And s.value) rule (ok_is _ rule s.next) (record { spelled = ap (λ w. codes "and" ∷ w ∷ []) n.spelled; fits = n.small })
and_ok k (j ∷ x ∷ more) rule e = absurd cc

or_ok : (k : ℕ) (operands : List (List ℕ)) (rule : model.Rule) → 1 ≤ length operands → length operands ≤ 5 → or_said k operands ≡ Ok rule → RuleRead k (codes "or") operands rule
unfolding or_said
or_ok k operands rule some few e =
    let s = steps (each citation_said operands) _ rule e in
    let t = steps (each (cited_below k) s.value) (λ ds. Ok (Or ds)) rule s.next in
    let c = citations_ok operands s.value s.first in
    let d = all_ok k s.value t.value c.1 t.first in
    let long : length operands ≡ length s.value = ap length c.0 ∙ length-map s.value citation_word in
    rule_if k (codes "or") operands (Or s.value) rule (ap Or d.1 ∙ ok_is _ rule t.next)
    (record {
      spelled = ap (λ ws. codes "or" ∷ ws) c.0;
      fits = record { some = omega arith; few = omega arith; cited = d.0 };
    })

through_ok : (k : ℕ) (operands : List (List ℕ)) (rule : model.Rule) → through_said k operands ≡ Ok rule → RuleRead k (codes "through") operands rule
unfolding through_said through_of
through_ok k [] rule e = absurd cc
through_ok k (a ∷ []) rule e = absurd cc
through_ok k (a ∷ b ∷ []) rule e =
    let s = steps (number_said a) _ rule e in
    let t = steps (number_said b) _ rule s.next in
    let u = steps (below k s.value) _ rule t.next in
    let v = steps (below k t.value) (λ n. Ok (Through u.value n)) rule u.next in
    let m = number_ok a s.value s.first in
    let n = number_ok b t.value t.first in
    let p = below_ok k s.value u.value m.small u.first in
    let q = below_ok k t.value v.value n.small v.first in
    rule_if k (codes "through") (a ∷ b ∷ []) (Through s.value t.value) rule (ap (λ x. Through x t.value) p.1 ∙ ap (λ x. Through u.value x) q.1 ∙ ok_is _ rule v.next)
    (record { spelled = ap (λ w. codes "through" ∷ w ∷ b ∷ []) m.spelled ∙ ap (λ w. codes "through" ∷ decimal s.value ∷ w ∷ []) n.spelled; fits = (p.0, q.0) })
through_ok k (a ∷ b ∷ x ∷ more) rule e = absurd cc

queue_ok : (k : ℕ) (operands : List (List ℕ)) (rule : model.Rule) → length operands ≡ 0 → Queue ≡ rule → RuleRead k (codes "queue") operands rule
queue_ok k [] rule none e = rule_if k (codes "queue") [] Queue rule e (record { spelled = refl; fits = tt })
queue_ok k (x ∷ more) rule none e = absurd (omega arith)

-- what the kind of a rule says of its name and its operands
abbrev pub KindIs : RuleKind → List ℕ → ℕ → Type 0
KindIs kinds.Bit name count = name ≡ codes "bit"
KindIs kinds.Queue name count = (name ≡ codes "queue") × (count ≡ 0)
KindIs kinds.And name count = name ≡ codes "and"
KindIs kinds.Or name count = (name ≡ codes "or") × (1 ≤ count) × (count ≤ 5)
KindIs kinds.Through name count = name ≡ codes "through"

kind_step : (b : Bool) (kind found : RuleKind) (rest : Option RuleKind) (name : List ℕ) (count : ℕ) → (b ≡ true → KindIs kind name count) → (rest ≡ Some found → KindIs found name count) → cond b (Some kind) rest ≡ Some found → KindIs found name count
kind_step true kind found rest name count this more e = let same : kind ≡ found = cc in subst (λ (k : RuleKind). KindIs k name count) same (this refl)
kind_step false kind found rest name count this more e = more e

pub kind_of : (name : List ℕ) (count : ℕ) (kind : RuleKind) → rule_kind name count ≡ Some kind → KindIs kind name count
unfolding rule_kind
kind_of name count kind e =
    kind_step _ kinds.Bit kind _ name count (λ t. word_is name _ (both (bytes_eq name (codes "bit")) (eqb count 1) t).0)
    (kind_step _ kinds.Queue kind _ name count (λ t. let b = both (bytes_eq name (codes "queue")) (eqb count 0) t in (word_is name _ b.0, zero_if b.1))
    (kind_step _ kinds.And kind _ name count (λ t. word_is name _ (both (bytes_eq name (codes "and")) (eqb count 1) t).0)
    (kind_step _ kinds.Or kind _ name count (λ t. let b = both (bytes_eq name (codes "or") && nat_le 1 count) (nat_le count 5) t in let d = both (bytes_eq name (codes "or")) (nat_le 1 count) b.0 in (word_is name _ d.0, leb-true 1 count d.1, leb-true count 5 b.1))
    (kind_step _ kinds.Through kind _ name count (λ t. word_is name _ (both (bytes_eq name (codes "through")) (eqb count 2) t).0)
    (λ h. absurd cc)))))
    e
  where
    zero_if : eqb count 0 ≡ true → count ≡ 0
    zero_if t = eqb-true count 0 t

renamed : (k : ℕ) (name word : List ℕ) (operands : List (List ℕ)) (rule : model.Rule) → name ≡ word → RuleRead k word operands rule → RuleRead k name operands rule
renamed k name word operands rule e h = subst (λ (w : List ℕ). RuleRead k w operands rule) (sym e) h

rule_ok : (k : ℕ) (name : List ℕ) (kind : RuleKind) (operands : List (List ℕ)) (rule : model.Rule) → KindIs kind name (length operands) → rule_said k kind operands ≡ Ok rule → RuleRead k name operands rule
unfolding rule_said
rule_ok k name kinds.Bit operands rule h e = renamed k name _ operands rule h (bit_ok k operands rule e)
rule_ok k name kinds.Queue operands rule h e = renamed k name _ operands rule h.0 (queue_ok k operands rule h.1 (ok_is Queue rule e))
rule_ok k name kinds.And operands rule h e = renamed k name _ operands rule h (and_ok k operands rule e)
rule_ok k name kinds.Or operands rule h e = renamed k name _ operands rule h.0 (or_ok k operands rule h.1 h.2 e)
rule_ok k name kinds.Through operands rule h e = renamed k name _ operands rule h (through_ok k operands rule e)

-- the words behind `line` are those of line k
pub record LineRead (k : ℕ) (others : List (List ℕ)) (line : model.Line) : Type 0 where
  pub spelled : codes "line" ∷ others ≡ line_words k line
  pub fits : LineFits k line

line_of_ok : (k : ℕ) (number p r name : List ℕ) (operands : List (List ℕ)) (kind : RuleKind) (line : model.Line) → KindIs kind name (length operands) → line_of k number p r kind operands ≡ Ok line → LineRead k (number ∷ p ∷ r ∷ name ∷ operands) line
unfolding line_of
line_of_ok k number p r name operands kind line h e =
    let s = steps (next_said k number) _ line e in
    let t = steps (number_said p) _ line s.next in
    let u = steps (number_said r) _ line t.next in
    let v = steps (rule_said k kind operands) _ line u.next in
    let a = next_ok k number s.value s.first in
    let b = number_ok p t.value t.first in
    let c = number_ok r u.value u.first in
    let d = rule_ok k name kind operands v.value h v.first in
    subst (λ (l : model.Line). LineRead k (number ∷ p ∷ r ∷ name ∷ operands) l) (ok_is _ line v.next)
    (record {
      spelled = ap (λ w. codes "line" ∷ w ∷ p ∷ r ∷ name ∷ operands) a.spelled ∙ ap (λ w. codes "line" ∷ decimal k ∷ w ∷ r ∷ name ∷ operands) b.spelled
          ∙ ap (λ w. codes "line" ∷ decimal k ∷ decimal t.value ∷ w ∷ name ∷ operands) c.spelled ∙ ap (λ ws. codes "line" ∷ decimal k ∷ decimal t.value ∷ decimal u.value ∷ ws) d.spelled;
      fits = record { number = a.small; p = b.small; r = c.small; rule = d.fits };
    })

line_if_ok : (k : ℕ) (number p r name : List ℕ) (operands : List (List ℕ)) (line : model.Line) (o : Option RuleKind) → rule_kind name (length operands) ≡ o → line_if k number p r operands o ≡ Ok line → LineRead k (number ∷ p ∷ r ∷ name ∷ operands) line
line_if_ok k number p r name operands line None is e = absurd cc
line_if_ok k number p r name operands line (Some kind) is e = line_of_ok k number p r name operands kind line (kind_of name (length operands) kind is) e

pub line_ok : (k : ℕ) (others : List (List ℕ)) (line : model.Line) → line_said k others ≡ Ok line → LineRead k others line
unfolding line_said
line_ok k [] line e = absurd cc
line_ok k (a ∷ []) line e = absurd cc
line_ok k (a ∷ b ∷ []) line e = absurd cc
line_ok k (a ∷ b ∷ c ∷ []) line e = absurd cc
line_ok k (number ∷ p ∷ r ∷ name ∷ operands) line e = line_if_ok k number p r name operands line (rule_kind name (length operands)) refl e

-- ---- and back

pub or_kind : (count : ℕ) → 1 ≤ count → count ≤ 5 → rule_kind (codes "or") count ≡ Some kinds.Or
unfolding rule_kind
or_kind count some few = rw (le-leb 1 count some, le-leb count 5 few) refl

-- the words behind the numbers
rule_is : (k : ℕ) (p r : ℕ) (rule : model.Rule) → IsSmall k → IsSmall p → IsSmall r → RuleFits k rule
    → line_said k (decimal k ∷ decimal p ∷ decimal r ∷ rule_words rule) ≡ Ok (record { p = p; r = r; rule = rule })
unfolding line_said line_of rule_said rule_kind bit_said and_said or_said through_said through_of
rule_is k p r (Bit j) hk hp hr h = rw (next_is k hk, number_is p hp, number_is r hr, number_is j h) refl
rule_is k p r Queue hk hp hr h = rw (next_is k hk, number_is p hp, number_is r hr) refl
rule_is k p r (And slot) hk hp hr h = rw (next_is k hk, number_is p hp, number_is r hr, number_is slot h) refl
rule_is k p r (Or branches) hk hp hr h =
    let long : length (map citation_word branches) ≡ length branches = length-map branches citation_word in
    let kind : rule_kind (codes "or") (length (map citation_word branches)) ≡ Some kinds.Or = ap (rule_kind (codes "or")) long ∙ or_kind (length branches) h.some h.few in
    ap (line_if k (decimal k) (decimal p) (decimal r) (map citation_word branches)) kind
    ∙ rw (next_is k hk, number_is p hp, number_is r hr, citations_are k branches h.cited, all_are k branches h.cited) refl
rule_is k p r (Through a b) hk hp hr h = rw (next_is k hk, number_is p hp, number_is r hr, number_is a h.0.small, number_is b h.1.small, below_is k a h.0, below_is k b h.1) refl

pub line_is : (k : ℕ) (line : model.Line) → LineFits k line → line_said k (decimal k ∷ decimal line.p ∷ decimal line.r ∷ rule_words line.rule) ≡ Ok line
line_is k line h = rule_is k line.p line.r line.rule h.number h.p h.r h.rule
