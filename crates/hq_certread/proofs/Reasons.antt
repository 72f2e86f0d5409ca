-- Lines without a form are refused for their words.
use Rattle.std.proofs.Common.{◌≡◌, ℕ, ◌⊎◌, inl, inr, Bool, true, false, cond, List, [], ◌∷◌, length, Option, Some, None, refl, sym, ap, subst, eqb}
use Rattle.std.specs.Prelude.{◌&&◌, codes, Result, Ok, Err, nat_le}
use Rattle.std.specs.Str.{bytes_eq}
use Rattle.std.proofs.lemmas.Bool.{leb-true, eqb-true}
use Rattle.hq_certread.specs.declared.fault.CertReason.{CertReason}
use Rattle.hq_certread.specs.declared.fault.CertReason.TheVariants as reason
use Rattle.hq_certread.specs.declared.forms.RuleKind.{RuleKind}
use Rattle.hq_certread.specs.declared.forms.RuleKind.TheVariants as rules
use Rattle.hq_certread.specs.declared.forms.FencesKind.{FencesKind}
use Rattle.hq_certread.specs.declared.forms.FencesKind.TheVariants as kinds
use Rattle.hq_certread.specs.declared.draft.Stage.{Stage}
use Rattle.hq_certread.specs.declared.draft.Stage.TheVariants as stage
use Rattle.hq_certtext.specs.Grammar.{head_words}
use Rattle.hq_text.specs.InTurn.{◌>>=◌}
use Rattle.hq_certread.specs.LineTests.{number_said, each, rule_kind, line_if, line_said, fences_kind, pair_if, pair_said, head_said, order_said}
use Rattle.hq_certread.specs.TextFaults.{State, add_head, add_order, add_line, add_pair, add_end, add_behind, add_content, add_at}
use Rattle.hq_certread.specs.LineForms.{RuleForm, KindForm, MayPair, HasForm}
use Rattle.hq_certread.specs.LineForms as form
use Rattle.hq_text.proofs.InTurn.{both, word_is}

abbrev pub OrWord : Type 0 → {A : Type 0} → Result A CertReason → Type 0
OrWord P r = P ⊎ (r ≡ Err reason.Word)

-- by the kind
kinds_step : {K : Type 0} (b : Bool) (P : Type 0) (kind found : K) (rest : Option K) → (b ≡ true → P) → (rest ≡ Some found → P) → cond b (Some kind) rest ≡ Some found → P
kinds_step true P kind found rest this more e = this refl
kinds_step false P kind found rest this more e = more e

rule_named : (name w : List ℕ) (count n : ℕ) → name ≡ w → count ≡ n → RuleForm w n → RuleForm name count
rule_named name w count n p q f = subst (λ (v : List ℕ). RuleForm v count) (sym p) (subst (λ (m : ℕ). RuleForm w m) (sym q) f)

rule_form : (name : List ℕ) (count : ℕ) (kind : RuleKind) → rule_kind name count ≡ Some kind → RuleForm name count
unfolding rule_kind
rule_form name count kind e =
    kinds_step _ _ rules.Bit kind _ (λ t. let b = both (bytes_eq name (codes "bit")) (eqb count 1) t in rule_named name _ count 1 (word_is name _ b.0) (eqb-true count 1 b.1) form.bit)
    (kinds_step _ _ rules.Queue kind _ (λ t. let b = both (bytes_eq name (codes "queue")) (eqb count 0) t in rule_named name _ count 0 (word_is name _ b.0) (eqb-true count 0 b.1) form.queue)
    (kinds_step _ _ rules.And kind _ (λ t. let b = both (bytes_eq name (codes "and")) (eqb count 1) t in rule_named name _ count 1 (word_is name _ b.0) (eqb-true count 1 b.1) form.and)
    (kinds_step _ _ rules.Or kind _ (λ t. let b = both (bytes_eq name (codes "or") && nat_le 1 count) (nat_le count 5) t in let d = both (bytes_eq name (codes "or")) (nat_le 1 count) b.0 in rule_named name _ count count (word_is name _ d.0) refl (form.or count (leb-true 1 count d.1) (leb-true count 5 b.1)))
    (kinds_step _ _ rules.Through kind _ (λ t. let b = both (bytes_eq name (codes "through")) (eqb count 2) t in rule_named name _ count 2 (word_is name _ b.0) (eqb-true count 2 b.1) form.through)
    (λ h. absurd cc)))))
    e

kind_named : (ch : Bool) (name w : List ℕ) (count n : ℕ) → name ≡ w → count ≡ n → KindForm ch w n → KindForm ch name count
kind_named ch name w count n p q f = subst (λ (v : List ℕ). KindForm ch v count) (sym p) (subst (λ (m : ℕ). KindForm ch w m) (sym q) f)

kind_form : (ch : Bool) (name : List ℕ) (count : ℕ) (kind : FencesKind) → fences_kind ch name count ≡ Some kind → KindForm ch name count
unfolding fences_kind
kind_form ch name count kind e =
    kinds_step _ _ kinds.ReadWrite kind _ (λ t. let b = both (bytes_eq name (codes "rw")) (eqb count 1) t in kind_named ch name _ count 1 (word_is name _ b.0) (eqb-true count 1 b.1) (form.rw ch))
    (kinds_step _ _ kinds.WriteWrite kind _ (λ t. let b = both (bytes_eq name (codes "ww")) (eqb count 3) t in kind_named ch name _ count 3 (word_is name _ b.0) (eqb-true count 3 b.1) (form.ww ch))
    (kinds_step _ _ kinds.WriteRead kind _ (λ t. let b = both (bytes_eq name (codes "wr")) (eqb count 5) t in kind_named ch name _ count 5 (word_is name _ b.0) (eqb-true count 5 b.1) (form.wr ch))
    (kinds_step _ _ kinds.WriteWriteChained kind _ (λ t. let b = both (bytes_eq name (codes "wwc") && eqb count 5) ch t in let d = both (bytes_eq name (codes "wwc")) (eqb count 5) b.0 in chained (sym b.1) (kind_named true name _ count 5 (word_is name _ d.0) (eqb-true count 5 d.1) form.wwc))
    (kinds_step _ _ kinds.WriteReadChained kind _ (λ t. let b = both (bytes_eq name (codes "wrc") && eqb count 9) ch t in let d = both (bytes_eq name (codes "wrc")) (eqb count 9) b.0 in chained (sym b.1) (kind_named true name _ count 9 (word_is name _ d.0) (eqb-true count 9 d.1) form.wrc))
    (λ h. absurd cc)))))
    e
  where
    chained : true ≡ ch → KindForm true name count → KindForm ch name count
    chained p f = subst (λ (c : Bool). KindForm c name count) p f

head_or : (words : List (List ℕ)) (here : Bool) → OrWord (HasForm stage.Head here words) (head_said words)
unfolding head_said
head_or [] here = inr refl
head_or (a ∷ []) here = inr refl
head_or (a ∷ b ∷ []) here = by (bytes_eq a (codes "hsac") && bytes_eq b (codes "1")) (bytes_eq a (codes "hsac") && bytes_eq b (codes "2")) refl refl where
  named : (ch : Bool) → a ∷ b ∷ [] ≡ head_words ch → HasForm stage.Head here (a ∷ b ∷ [])
  named ch e = subst (λ (ws : List (List ℕ)). HasForm stage.Head here ws) (sym e) (form.head ch here)

  same : (c d : List ℕ) → a ≡ c → b ≡ d → a ∷ b ∷ [] ≡ c ∷ d ∷ []
  same c d p q = cc

  by : (x y : Bool) → (bytes_eq a (codes "hsac") && bytes_eq b (codes "1")) ≡ x → (bytes_eq a (codes "hsac") && bytes_eq b (codes "2")) ≡ y → OrWord (HasForm stage.Head here (a ∷ b ∷ [])) (cond x (Ok false) (cond y (Ok true) (Err reason.Word)))
  by true y p q = let t = both (bytes_eq a (codes "hsac")) (bytes_eq b (codes "1")) p in inl (named false (same _ _ (word_is a _ t.0) (word_is b _ t.1)))
  by false true p q = let t = both (bytes_eq a (codes "hsac")) (bytes_eq b (codes "2")) q in inl (named true (same _ _ (word_is a _ t.0) (word_is b _ t.1)))
  by false false p q = inr refl
head_or (a ∷ b ∷ c ∷ more) here = inr refl

order_or : (words : List (List ℕ)) (here : Bool) → OrWord (HasForm stage.Order here words) (order_said words)
unfolding order_said
order_or [] here = inr refl
order_or (a ∷ ns) here = by (bytes_eq a (codes "order") && nat_le (length ns) 1024) refl where
  by : (x : Bool) → (bytes_eq a (codes "order") && nat_le (length ns) 1024) ≡ x → OrWord (HasForm stage.Order here (a ∷ ns)) (cond x (each number_said ns) (Err reason.Word))
  by true p =
      let t = both (bytes_eq a (codes "order")) (nat_le (length ns) 1024) p in
      inl (subst (λ (w : List ℕ). HasForm stage.Order here (w ∷ ns)) (sym (word_is a (codes "order") t.0)) (form.order here ns (leb-true (length ns) 1024 t.1)))
  by false p = inr refl

line_or : (k : ℕ) (others : List (List ℕ)) (here : Bool) → OrWord (HasForm stage.Lines here (codes "line" ∷ others)) (line_said k others)
unfolding line_said
line_or k [] here = inr refl
line_or k (a ∷ []) here = inr refl
line_or k (a ∷ b ∷ []) here = inr refl
line_or k (a ∷ b ∷ c ∷ []) here = inr refl
line_or k (number ∷ p ∷ r ∷ name ∷ operands) here = by (rule_kind name (length operands)) refl where
  by : (o : Option RuleKind) → rule_kind name (length operands) ≡ o → OrWord (HasForm stage.Lines here (codes "line" ∷ number ∷ p ∷ r ∷ name ∷ operands)) (line_if k number p r operands o)
  by None e = inr refl
  by (Some kind) e = inl (form.line here number p r name operands (rule_form name (length operands) kind e))

pair_or : (st : Stage) (ch : Bool) (many : ℕ) (others : List (List ℕ)) → MayPair st → OrWord (HasForm st ch (codes "pair" ∷ others)) (pair_said ch many others)
unfolding pair_said
pair_or st ch many [] may = inr refl
pair_or st ch many (a ∷ []) may = inr refl
pair_or st ch many (a ∷ b ∷ []) may = inr refl
pair_or st ch many (p ∷ r ∷ name ∷ operands) may = by (fences_kind ch name (length operands)) refl where
  by : (o : Option FencesKind) → fences_kind ch name (length operands) ≡ o → OrWord (HasForm st ch (codes "pair" ∷ p ∷ r ∷ name ∷ operands)) (pair_if many p r operands o)
  by None e = inr refl
  by (Some kind) e = inl (form.pair st ch p r name operands may (kind_form ch name (length operands) kind e))

passed : {A B : Type 0} (P : Type 0) (r : Result A CertReason) (f : A → Result B CertReason) → OrWord P r → OrWord P (r >>= f)
passed P r f (inl p) = inl p
passed P r f (inr e) = inr (ap (λ x. x >>= f) e)

behind_or : (st : Stage) (s : State) (first : List ℕ) (others : List (List ℕ)) → MayPair st → OrWord (HasForm st s.chained (first ∷ others)) (add_behind s first others)
unfolding add_behind add_pair add_end
behind_or st s first others may = by (bytes_eq first (codes "pair")) (bytes_eq first (codes "end")) refl refl where
  ends_or : (others : List (List ℕ)) → OrWord (HasForm st s.chained (codes "end" ∷ others)) (add_end s others)
  ends_or [] = inl (form.ends st s.chained may)
  ends_or (x ∷ more) = inr refl

  named : {A : Type 0} (w : List ℕ) (r : Result A CertReason) → first ≡ w → OrWord (HasForm st s.chained (w ∷ others)) r → OrWord (HasForm st s.chained (first ∷ others)) r
  named w r e h = subst (λ (v : List ℕ). OrWord (HasForm st s.chained (v ∷ others)) r) (sym e) h

  by : (x y : Bool) → bytes_eq first (codes "pair") ≡ x → bytes_eq first (codes "end") ≡ y → OrWord (HasForm st s.chained (first ∷ others)) (cond x (add_pair s others) (cond y (add_end s others) (Err reason.Word)))
  by true y p q = named (codes "pair") _ (word_is first _ p) (passed _ (pair_said s.chained (length s.lines) others) _ (pair_or st s.chained (length s.lines) others may))
  by false true p q = named (codes "end") _ (word_is first _ q) (ends_or others)
  by false false p q = inr refl

lines_or : (s : State) (words : List (List ℕ)) → OrWord (HasForm stage.Lines s.chained words) (add_content true s words)
unfolding add_content add_line
lines_or s [] = inr refl
lines_or s (first ∷ others) = by (bytes_eq first (codes "line")) refl where
  by : (x : Bool) → bytes_eq first (codes "line") ≡ x → OrWord (HasForm stage.Lines s.chained (first ∷ others)) (cond (x && true) (add_line s others) (add_behind s first others))
  by true p = subst (λ (v : List ℕ). OrWord (HasForm stage.Lines s.chained (v ∷ others)) (add_line s others)) (sym (word_is first (codes "line") p)) (passed _ (line_said (length s.lines) others) _ (line_or (length s.lines) others s.chained))
  by false p = behind_or stage.Lines s first others form.behind_lines

pairs_or : (s : State) (words : List (List ℕ)) → OrWord (HasForm stage.Pairs s.chained words) (add_content false s words)
unfolding add_content
pairs_or s [] = inr refl
pairs_or s (first ∷ others) = by (bytes_eq first (codes "line")) where
  by : (x : Bool) → OrWord (HasForm stage.Pairs s.chained (first ∷ others)) (cond (x && false) (add_line s others) (add_behind s first others))
  by true = behind_or stage.Pairs s first others form.behind_pairs
  by false = behind_or stage.Pairs s first others form.behind_pairs

pub form_or : (st : Stage) (s : State) (words : List (List ℕ)) → OrWord (HasForm st s.chained words) (add_at st s words)
unfolding add_head add_order
form_or stage.Head s words = passed _ (head_said words) _ (head_or words s.chained)
form_or stage.Order s words = passed _ (order_said words) _ (order_or words s.chained)
form_or stage.Lines s words = lines_or s words
form_or stage.Pairs s words = pairs_or s words
form_or stage.Ended s words = inr refl
