-- Pair lines, both ways.
use Rattle.std.proofs.Common.{◌≡◌, ℕ, Bool, true, false, cond, List, [], ◌∷◌, length, Option, Some, None, refl, sym, ap, subst, ◌∙◌, eqb}
use Rattle.std.specs.Prelude.{◌&&◌, IsTrue, codes, Ok}
use Rattle.std.specs.Fmt.{decimal}
use Rattle.std.specs.Str.{bytes_eq}
use Rattle.hq_model.specs.Certificate as model
use Rattle.hq_model.specs.Certificate.Fences.{ForReadWrite, ForWriteWrite, ForWriteRead, ForWriteWriteChained, ForWriteReadChained}
use Rattle.hq_certread.specs.declared.forms.FencesKind.{FencesKind}
use Rattle.hq_certread.specs.declared.forms.FencesKind.TheVariants as kinds
use Rattle.hq_certread.specs.declared.pairs.Packets.{Packets}
use Rattle.hq_certread.specs.declared.pairs.Numbers.{Numbers}
use Rattle.hq_certtext.specs.Grammar.{IsBelow, IsCited, citation_word, fences_words, pair_words, FencesFit, PairFits}
use Rattle.hq_certread.specs.LineTests.{number_said, citation_said, below, cited_below, fences_kind, read_write_said, write_write_of, write_write_said, write_read_of, write_read_said, write_chain_of, write_chain_said, packets_said, links_said, links_below, chain_of, read_chain_of, read_chain_said, fences_said, pair_of, pair_if, pair_said}
use Rattle.hq_text.specs.Ahead.{IsSmall}
use Rattle.hq_text.proofs.InTurn.{steps, ok_is, both, word_is}
use Rattle.hq_certtext.proofs.Split.{SmallCited, small_of}
use Rattle.hq_certread.proofs.Parts.{Number, number_ok, number_is, citation_ok, citation_is, below_ok, below_is, cited_ok, cited_is}

-- the words are those of the fences
pub record FencesRead (chained : Bool) (count : ℕ) (name : List ℕ) (operands : List (List ℕ)) (fences : model.Fences) : Type 0 where
  pub spelled : name ∷ operands ≡ fences_words fences
  pub fits : FencesFit chained count fences

fences_if : (chained : Bool) (count : ℕ) (name : List ℕ) (operands : List (List ℕ)) (a b : model.Fences) → a ≡ b → FencesRead chained count name operands a → FencesRead chained count name operands b
fences_if chained count name operands a b e h = subst (λ (r : model.Fences). FencesRead chained count name operands r) e h

pub five_words : (name a aa b bb c cc1 d dd e ee : List ℕ) → a ≡ aa → b ≡ bb → c ≡ cc1 → d ≡ dd → e ≡ ee → name ∷ a ∷ b ∷ c ∷ d ∷ e ∷ [] ≡ name ∷ aa ∷ bb ∷ cc1 ∷ dd ∷ ee ∷ []
five_words name a aa b bb c cc1 d dd e ee pa pb pc pd pe = cc

write_read_same : (x y : ℕ) (a aa : Option ℕ) (b bb : ℕ) (c cc1 : Option ℕ) (f : model.Fences) → a ≡ aa → b ≡ bb → c ≡ cc1 → ForWriteRead x y aa bb cc1 ≡ f → ForWriteRead x y a b c ≡ f
write_read_same x y a aa b bb c cc1 f pa pb pc e = cc

write_chain_same : (x y : ℕ) (a aa : Option ℕ) (b bb c cc1 : ℕ) (f : model.Fences) → a ≡ aa → b ≡ bb → c ≡ cc1 → ForWriteWriteChained x y aa bb cc1 ≡ f → ForWriteWriteChained x y a b c ≡ f
write_chain_same x y a aa b bb c cc1 f pa pb pc e = cc

read_write_ok : (ch : Bool) (count : ℕ) (operands : List (List ℕ)) (fences : model.Fences) → read_write_said count operands ≡ Ok fences → FencesRead ch count (codes "rw") operands fences
unfolding read_write_said
read_write_ok ch count [] fences e = absurd cc
read_write_ok ch count (a ∷ []) fences e =
    let s = steps (number_said a) _ fences e in
    let t = steps (below count s.value) (λ n. Ok (ForReadWrite n)) fences s.next in
    let m = number_ok a s.value s.first in
    let p = below_ok count s.value t.value m.small t.first in
    fences_if ch count (codes "rw") (a ∷ []) (ForReadWrite s.value) fences (ap ForReadWrite p.1 ∙ ok_is _ fences t.next)
    (record { spelled = ap (λ w. codes "rw" ∷ w ∷ []) m.spelled; fits = p.0 })
read_write_ok ch count (a ∷ x ∷ more) fences e = absurd cc

write_write_of_ok : (ch : Bool) (count : ℕ) (x a b : List ℕ) (fences : model.Fences) → write_write_of count x a b ≡ Ok fences → FencesRead ch count (codes "ww") (x ∷ a ∷ b ∷ []) fences
unfolding write_write_of
write_write_of_ok ch count x a b fences e =
    let s = steps (number_said x) _ fences e in
    let t = steps (citation_said a) _ fences s.next in
    let u = steps (number_said b) _ fences t.next in
    let v = steps (cited_below count t.value) _ fences u.next in
    let w = steps (below count u.value) _ fences v.next in
    let m = number_ok x s.value s.first in
    let c = citation_ok a t.value t.first in
    let n = number_ok b u.value u.first in
    let p = cited_ok count t.value v.value c.small v.first in
    let q = below_ok count u.value w.value n.small w.first in
    fences_if ch count (codes "ww") (x ∷ a ∷ b ∷ []) (ForWriteWrite s.value t.value u.value) fences (ap (λ y. ForWriteWrite s.value y u.value) p.1 ∙ ap (λ y. ForWriteWrite s.value v.value y) q.1 ∙ ok_is _ fences w.next)
    (record {
      spelled = ap (λ y. codes "ww" ∷ y ∷ a ∷ b ∷ []) m.spelled ∙ ap (λ y. codes "ww" ∷ decimal s.value ∷ y ∷ b ∷ []) c.spelled ∙ ap (λ y. codes "ww" ∷ decimal s.value ∷ citation_word t.value ∷ y ∷ []) n.spelled;
      fits = (m.small, p.0, q.0);
    })

write_write_ok : (ch : Bool) (count : ℕ) (operands : List (List ℕ)) (fences : model.Fences) → write_write_said count operands ≡ Ok fences → FencesRead ch count (codes "ww") operands fences
unfolding write_write_said
write_write_ok ch count [] fences e = absurd cc
write_write_ok ch count (a ∷ []) fences e = absurd cc
write_write_ok ch count (a ∷ b ∷ []) fences e = absurd cc
write_write_ok ch count (a ∷ b ∷ c ∷ []) fences e = write_write_of_ok ch count a b c fences e
write_write_ok ch count (a ∷ b ∷ c ∷ d ∷ more) fences e = absurd cc

write_read_of_ok : (ch : Bool) (count : ℕ) (x y a b c : List ℕ) (fences : model.Fences) → write_read_of count x y a b c ≡ Ok fences → FencesRead ch count (codes "wr") (x ∷ y ∷ a ∷ b ∷ c ∷ []) fences
unfolding write_read_of
write_read_of_ok ch count x y a b c fences e =
    let s = steps (number_said x) _ fences e in
    let t = steps (number_said y) _ fences s.next in
    let u = steps (citation_said a) _ fences t.next in
    let v = steps (number_said b) _ fences u.next in
    let w = steps (citation_said c) _ fences v.next in
    let f = steps (cited_below count u.value) _ fences w.next in
    let g = steps (below count v.value) _ fences f.next in
    let h = steps (cited_below count w.value) _ fences g.next in
    let m = number_ok x s.value s.first in
    let n = number_ok y t.value t.first in
    let i = citation_ok a u.value u.first in
    let j = number_ok b v.value v.first in
    let k = citation_ok c w.value w.first in
    let p = cited_ok count u.value f.value i.small f.first in
    let q = below_ok count v.value g.value j.small g.first in
    let r = cited_ok count w.value h.value k.small h.first in
    fences_if ch count (codes "wr") (x ∷ y ∷ a ∷ b ∷ c ∷ []) (ForWriteRead s.value t.value u.value v.value w.value) fences
    (write_read_same s.value t.value u.value f.value v.value g.value w.value h.value fences p.1 q.1 r.1 (ok_is _ fences h.next))
    (record {
      spelled = five_words (codes "wr") x _ y _ a _ b _ c _ m.spelled n.spelled i.spelled j.spelled k.spelled;
      fits = (m.small, n.small, p.0, q.0, r.0);
    })

write_read_ok : (ch : Bool) (count : ℕ) (operands : List (List ℕ)) (fences : model.Fences) → write_read_said count operands ≡ Ok fences → FencesRead ch count (codes "wr") operands fences
unfolding write_read_said
write_read_ok ch count [] fences e = absurd cc
write_read_ok ch count (a ∷ []) fences e = absurd cc
write_read_ok ch count (a ∷ b ∷ []) fences e = absurd cc
write_read_ok ch count (a ∷ b ∷ c ∷ []) fences e = absurd cc
write_read_ok ch count (a ∷ b ∷ c ∷ d ∷ []) fences e = absurd cc
write_read_ok ch count (a ∷ b ∷ c ∷ d ∷ f ∷ []) fences e = write_read_of_ok ch count a b c d f fences e
write_read_ok ch count (a ∷ b ∷ c ∷ d ∷ f ∷ g ∷ more) fences e = absurd cc

write_chain_of_ok : (ch : Bool) (count : ℕ) (x y a b c : List ℕ) (fences : model.Fences) → IsTrue ch → write_chain_of count x y a b c ≡ Ok fences → FencesRead ch count (codes "wwc") (x ∷ y ∷ a ∷ b ∷ c ∷ []) fences
unfolding write_chain_of
write_chain_of_ok ch count x y a b c fences may e =
    let s = steps (number_said x) _ fences e in
    let t = steps (number_said y) _ fences s.next in
    let u = steps (citation_said a) _ fences t.next in
    let v = steps (number_said b) _ fences u.next in
    let w = steps (number_said c) _ fences v.next in
    let f = steps (cited_below count u.value) _ fences w.next in
    let g = steps (below count v.value) _ fences f.next in
    let h = steps (below count w.value) _ fences g.next in
    let m = number_ok x s.value s.first in
    let n = number_ok y t.value t.first in
    let i = citation_ok a u.value u.first in
    let j = number_ok b v.value v.first in
    let k = number_ok c w.value w.first in
    let p = cited_ok count u.value f.value i.small f.first in
    let q = below_ok count v.value g.value j.small g.first in
    let r = below_ok count w.value h.value k.small h.first in
    fences_if ch count (codes "wwc") (x ∷ y ∷ a ∷ b ∷ c ∷ []) (ForWriteWriteChained s.value t.value u.value v.value w.value) fences
    (write_chain_same s.value t.value u.value f.value v.value g.value w.value h.value fences p.1 q.1 r.1 (ok_is _ fences h.next))
    (record {
      spelled = five_words (codes "wwc") x _ y _ a _ b _ c _ m.spelled n.spelled i.spelled j.spelled k.spelled;
      fits = (may, m.small, n.small, p.0, q.0, r.0);
    })

write_chain_ok : (ch : Bool) (count : ℕ) (operands : List (List ℕ)) (fences : model.Fences) → IsTrue ch → write_chain_said count operands ≡ Ok fences → FencesRead ch count (codes "wwc") operands fences
unfolding write_chain_said
write_chain_ok ch count [] fences may e = absurd cc
write_chain_ok ch count (a ∷ []) fences may e = absurd cc
write_chain_ok ch count (a ∷ b ∷ []) fences may e = absurd cc
write_chain_ok ch count (a ∷ b ∷ c ∷ []) fences may e = absurd cc
write_chain_ok ch count (a ∷ b ∷ c ∷ d ∷ []) fences may e = absurd cc
write_chain_ok ch count (a ∷ b ∷ c ∷ d ∷ f ∷ []) fences may e = write_chain_of_ok ch count a b c d f fences may e
write_chain_ok ch count (a ∷ b ∷ c ∷ d ∷ f ∷ g ∷ more) fences may e = absurd cc

pub record PacketsRead (x x2 y2 y : List ℕ) (a : Packets) : Type 0 where
  pub first : Number x a.x
  pub second : Number x2 a.x2
  pub third : Number y2 a.y2
  pub fourth : Number y a.y

pub packets_ok : (x x2 y2 y : List ℕ) (a : Packets) → packets_said x x2 y2 y ≡ Ok a → PacketsRead x x2 y2 y a
unfolding packets_said
packets_ok x x2 y2 y a e =
    let s = steps (number_said x) _ a e in
    let t = steps (number_said x2) _ a s.next in
    let u = steps (number_said y2) _ a t.next in
    let v = steps (number_said y) _ a u.next in
    subst (λ (p : Packets). PacketsRead x x2 y2 y p) (ok_is _ a v.next)
    (record { first = number_ok x s.value s.first; second = number_ok x2 t.value t.first; third = number_ok y2 u.value u.first; fourth = number_ok y v.value v.first })

pub record LinksRead (from link between link2 to : List ℕ) (a : Numbers) : Type 0 where
  pub first : (from ≡ citation_word a.from) × SmallCited a.from
  pub second : (link ≡ citation_word a.link) × SmallCited a.link
  pub third : Number between a.between
  pub fourth : (link2 ≡ citation_word a.link2) × SmallCited a.link2
  pub fifth : (to ≡ citation_word a.to) × SmallCited a.to

cited_word : (word : List ℕ) (c : Option ℕ) → citation_said word ≡ Ok c → (word ≡ citation_word c) × SmallCited c
cited_word word c e = let h = citation_ok word c e in (h.spelled, h.small)

pub links_ok : (from link between link2 to : List ℕ) (a : Numbers) → links_said from link between link2 to ≡ Ok a → LinksRead from link between link2 to a
unfolding links_said
links_ok from link between link2 to a e =
    let s = steps (citation_said from) _ a e in
    let t = steps (citation_said link) _ a s.next in
    let u = steps (number_said between) _ a t.next in
    let v = steps (citation_said link2) _ a u.next in
    let w = steps (citation_said to) _ a v.next in
    subst (λ (p : Numbers). LinksRead from link between link2 to p) (ok_is _ a w.next)
    (record { first = cited_word from s.value s.first; second = cited_word link t.value t.first; third = number_ok between u.value u.first; fourth = cited_word link2 v.value v.first; fifth = cited_word to w.value w.first })

record LinksBelow (count : ℕ) (a : Numbers) : Type 0 where
  pub first : IsCited count a.from
  pub second : IsCited count a.link
  pub third : IsBelow count a.between
  pub fourth : IsCited count a.link2
  pub fifth : IsCited count a.to

lower_ok : (count : ℕ) (from link between link2 to : List ℕ) (a b : Numbers) → LinksRead from link between link2 to a → links_below count a ≡ Ok b → LinksBelow count a × (a ≡ b)
unfolding links_below
lower_ok count from link between link2 to a b h e =
    let s = steps (cited_below count a.from) _ b e in
    let t = steps (cited_below count a.link) _ b s.next in
    let u = steps (below count a.between) _ b t.next in
    let v = steps (cited_below count a.link2) _ b u.next in
    let w = steps (cited_below count a.to) _ b v.next in
    let k = cited_ok count a.from s.value h.first.1 s.first in
    let l = cited_ok count a.link t.value h.second.1 t.first in
    let m = below_ok count a.between u.value h.third.small u.first in
    let n = cited_ok count a.link2 v.value h.fourth.1 v.first in
    let o = cited_ok count a.to w.value h.fifth.1 w.first in
    let made : Numbers = record { from = s.value; link = t.value; between = u.value; link2 = v.value; to = w.value } in
    let whole : made ≡ b = ok_is made b w.next in
    let same : a ≡ made = parts_same a s.value t.value u.value v.value w.value k.1 l.1 m.1 n.1 o.1 in
    (record { first = k.0; second = l.0; third = m.0; fourth = n.0; fifth = o.0 }, same ∙ whole)
  where
    parts_same : (a : Numbers) (p q : Option ℕ) (r : ℕ) (s t : Option ℕ) → a.from ≡ p → a.link ≡ q → a.between ≡ r → a.link2 ≡ s → a.to ≡ t → (let made : Numbers = record { from = p; link = q; between = r; link2 = s; to = t } in a ≡ made)
    parts_same a p q r s t ep eq er es et =
        ap (λ x. record a { from = x }) ep ∙ ap (λ x. record a { from = p; link = x }) eq ∙ ap (λ x. record a { from = p; link = q; between = x }) er
        ∙ ap (λ x. record a { from = p; link = q; between = r; link2 = x }) es ∙ ap (λ x. record a { from = p; link = q; between = r; link2 = s; to = x }) et

read_chain_of_ok : (ch : Bool) (count : ℕ) (x x2 y2 y from link between link2 to : List ℕ) (fences : model.Fences) → IsTrue ch → read_chain_of count (packets_said x x2 y2 y) (links_said from link between link2 to) ≡ Ok fences
    → FencesRead ch count (codes "wrc") (x ∷ x2 ∷ y2 ∷ y ∷ from ∷ link ∷ between ∷ link2 ∷ to ∷ []) fences
unfolding read_chain_of
read_chain_of_ok ch count x x2 y2 y from link between link2 to fences may e =
    let s = steps (packets_said x x2 y2 y) _ fences e in
    let t = steps (links_said from link between link2 to) _ fences s.next in
    let u = steps (links_below count t.value) _ fences t.next in
    let p = packets_ok x x2 y2 y s.value s.first in
    let n = links_ok from link between link2 to t.value t.first in
    let l = lower_ok count from link between link2 to t.value u.value n u.first in
    let b = l.0 in
    fences_if ch count (codes "wrc") (x ∷ x2 ∷ y2 ∷ y ∷ from ∷ link ∷ between ∷ link2 ∷ to ∷ []) (chain_of s.value t.value) fences (ap (λ z. chain_of s.value z) l.1 ∙ ok_is _ fences u.next)
    (record {
      spelled = words_same x _ x2 _ y2 _ y _ from _ link _ between _ link2 _ to _ p.first.spelled p.second.spelled p.third.spelled p.fourth.spelled n.first.0 n.second.0 n.third.spelled n.fourth.0 n.fifth.0;
      fits = (may, p.first.small, p.second.small, p.third.small, p.fourth.small, b.first, b.second, b.third, b.fourth, b.fifth);
    })
  where
    words_same : (a aa b bb c cc1 d dd e ee f ff g gg h hh i ii : List ℕ) → a ≡ aa → b ≡ bb → c ≡ cc1 → d ≡ dd → e ≡ ee → f ≡ ff → g ≡ gg → h ≡ hh → i ≡ ii
        → codes "wrc" ∷ a ∷ b ∷ c ∷ d ∷ e ∷ f ∷ g ∷ h ∷ i ∷ [] ≡ codes "wrc" ∷ aa ∷ bb ∷ cc1 ∷ dd ∷ ee ∷ ff ∷ gg ∷ hh ∷ ii ∷ []
    words_same a aa b bb c cc1 d dd e ee f ff g gg h hh i ii pa pb pc pd pe pf pg ph pi = cc

read_chain_ok : (ch : Bool) (count : ℕ) (operands : List (List ℕ)) (fences : model.Fences) → IsTrue ch → read_chain_said count operands ≡ Ok fences → FencesRead ch count (codes "wrc") operands fences
unfolding read_chain_said
read_chain_ok ch count [] fences may e = absurd cc
read_chain_ok ch count (a ∷ []) fences may e = absurd cc
read_chain_ok ch count (a ∷ b ∷ []) fences may e = absurd cc
read_chain_ok ch count (a ∷ b ∷ c ∷ []) fences may e = absurd cc
read_chain_ok ch count (a ∷ b ∷ c ∷ d ∷ []) fences may e = absurd cc
read_chain_ok ch count (a ∷ b ∷ c ∷ d ∷ f ∷ []) fences may e = absurd cc
read_chain_ok ch count (a ∷ b ∷ c ∷ d ∷ f ∷ g ∷ []) fences may e = absurd cc
read_chain_ok ch count (a ∷ b ∷ c ∷ d ∷ f ∷ g ∷ h ∷ []) fences may e = absurd cc
read_chain_ok ch count (a ∷ b ∷ c ∷ d ∷ f ∷ g ∷ h ∷ i ∷ []) fences may e = absurd cc
read_chain_ok ch count (a ∷ b ∷ c ∷ d ∷ f ∷ g ∷ h ∷ i ∷ j ∷ []) fences may e = read_chain_of_ok ch count a b c d f g h i j fences may e
read_chain_ok ch count (a ∷ b ∷ c ∷ d ∷ f ∷ g ∷ h ∷ i ∷ j ∷ k ∷ more) fences may e = absurd cc

-- what the kind says of its name
abbrev pub KindIs : Bool → FencesKind → List ℕ → Type 0
KindIs ch kinds.ReadWrite name = name ≡ codes "rw"
KindIs ch kinds.WriteWrite name = name ≡ codes "ww"
KindIs ch kinds.WriteRead name = name ≡ codes "wr"
KindIs ch kinds.WriteWriteChained name = (name ≡ codes "wwc") × IsTrue ch
KindIs ch kinds.WriteReadChained name = (name ≡ codes "wrc") × IsTrue ch

kind_step : (ch b : Bool) (kind found : FencesKind) (rest : Option FencesKind) (name : List ℕ) → (b ≡ true → KindIs ch kind name) → (rest ≡ Some found → KindIs ch found name) → cond b (Some kind) rest ≡ Some found → KindIs ch found name
kind_step ch true kind found rest name this more e = let same : kind ≡ found = cc in subst (λ (k : FencesKind). KindIs ch k name) same (this refl)
kind_step ch false kind found rest name this more e = more e

pub kind_of : (ch : Bool) (name : List ℕ) (count : ℕ) (kind : FencesKind) → fences_kind ch name count ≡ Some kind → KindIs ch kind name
unfolding fences_kind
kind_of ch name count kind e =
    kind_step ch _ kinds.ReadWrite kind _ name (λ t. word_is name _ (both (bytes_eq name (codes "rw")) (eqb count 1) t).0)
    (kind_step ch _ kinds.WriteWrite kind _ name (λ t. word_is name _ (both (bytes_eq name (codes "ww")) (eqb count 3) t).0)
    (kind_step ch _ kinds.WriteRead kind _ name (λ t. word_is name _ (both (bytes_eq name (codes "wr")) (eqb count 5) t).0)
    (kind_step ch _ kinds.WriteWriteChained kind _ name (λ t. let b = both (bytes_eq name (codes "wwc") && eqb count 5) ch t in (word_is name _ (both (bytes_eq name (codes "wwc")) (eqb count 5) b.0).0, b.1))
    (kind_step ch _ kinds.WriteReadChained kind _ name (λ t. let b = both (bytes_eq name (codes "wrc") && eqb count 9) ch t in (word_is name _ (both (bytes_eq name (codes "wrc")) (eqb count 9) b.0).0, b.1))
    (λ h. absurd cc)))))
    e

renamed : (ch : Bool) (count : ℕ) (name word : List ℕ) (operands : List (List ℕ)) (fences : model.Fences) → name ≡ word → FencesRead ch count word operands fences → FencesRead ch count name operands fences
renamed ch count name word operands fences e h = subst (λ (w : List ℕ). FencesRead ch count w operands fences) (sym e) h

fences_ok : (ch : Bool) (count : ℕ) (name : List ℕ) (kind : FencesKind) (operands : List (List ℕ)) (fences : model.Fences) → KindIs ch kind name → fences_said count kind operands ≡ Ok fences → FencesRead ch count name operands fences
unfolding fences_said
fences_ok ch count name kinds.ReadWrite operands fences h e = renamed ch count name _ operands fences h (read_write_ok ch count operands fences e)
fences_ok ch count name kinds.WriteWrite operands fences h e = renamed ch count name _ operands fences h (write_write_ok ch count operands fences e)
fences_ok ch count name kinds.WriteRead operands fences h e = renamed ch count name _ operands fences h (write_read_ok ch count operands fences e)
fences_ok ch count name kinds.WriteWriteChained operands fences h e = renamed ch count name _ operands fences h.0 (write_chain_ok ch count operands fences h.1 e)
fences_ok ch count name kinds.WriteReadChained operands fences h e = renamed ch count name _ operands fences h.0 (read_chain_ok ch count operands fences h.1 e)

-- the words behind `pair` are those of the pair line
pub record PairRead (ch : Bool) (count : ℕ) (others : List (List ℕ)) (pair : model.Pair) : Type 0 where
  pub spelled : codes "pair" ∷ others ≡ pair_words pair
  pub fits : PairFits ch count pair

pair_if_ok : (ch : Bool) (count : ℕ) (p r name : List ℕ) (operands : List (List ℕ)) (pair : model.Pair) (o : Option FencesKind) → fences_kind ch name (length operands) ≡ o → pair_if count p r operands o ≡ Ok pair → PairRead ch count (p ∷ r ∷ name ∷ operands) pair
unfolding pair_of
pair_if_ok ch count p r name operands pair None is e = absurd cc
pair_if_ok ch count p r name operands pair (Some kind) is e =
    let s = steps (number_said p) _ pair e in
    let t = steps (number_said r) _ pair s.next in
    let u = steps (fences_said count kind operands) _ pair t.next in
    let a = number_ok p s.value s.first in
    let b = number_ok r t.value t.first in
    let d = fences_ok ch count name kind operands u.value (kind_of ch name (length operands) kind is) u.first in
    subst (λ (l : model.Pair). PairRead ch count (p ∷ r ∷ name ∷ operands) l) (ok_is _ pair u.next)
    (record {
      spelled = ap (λ w. codes "pair" ∷ w ∷ r ∷ name ∷ operands) a.spelled ∙ ap (λ w. codes "pair" ∷ decimal s.value ∷ w ∷ name ∷ operands) b.spelled
          ∙ ap (λ ws. codes "pair" ∷ decimal s.value ∷ decimal t.value ∷ ws) d.spelled;
      fits = record { p = a.small; r = b.small; fences = d.fits };
    })

pub pair_ok : (ch : Bool) (count : ℕ) (others : List (List ℕ)) (pair : model.Pair) → pair_said ch count others ≡ Ok pair → PairRead ch count others pair
unfolding pair_said
pair_ok ch count [] pair e = absurd cc
pair_ok ch count (a ∷ []) pair e = absurd cc
pair_ok ch count (a ∷ b ∷ []) pair e = absurd cc
pair_ok ch count (p ∷ r ∷ name ∷ operands) pair e = pair_if_ok ch count p r name operands pair (fences_kind ch name (length operands)) refl e

-- ---- and back

fences_is : (ch : Bool) (count p r : ℕ) (fences : model.Fences) → IsSmall p → IsSmall r → FencesFit ch count fences
    → pair_said ch count (decimal p ∷ decimal r ∷ fences_words fences) ≡ Ok (record { p = p; r = r; fences = fences })
unfolding pair_said pair_of fences_said fences_kind read_write_said write_write_said write_write_of write_read_said write_read_of write_chain_said write_chain_of read_chain_said read_chain_of packets_said links_said links_below
fences_is ch count p r (ForReadWrite l) hp hr h = rw (number_is p hp, number_is r hr, number_is l h.small, below_is count l h) refl
fences_is ch count p r (ForWriteWrite x a b) hp hr h = rw (number_is p hp, number_is r hr, number_is x h.0, citation_is a (small_of count a h.1), number_is b h.2.small, cited_is count a h.1, below_is count b h.2) refl
fences_is ch count p r (ForWriteRead x y a b c) hp hr h =
    rw (number_is p hp, number_is r hr, number_is x h.0, number_is y h.1, citation_is a (small_of count a h.2), number_is b h.3.small, citation_is c (small_of count c h.4), cited_is count a h.2, below_is count b h.3, cited_is count c h.4) refl
fences_is ch count p r (ForWriteWriteChained x y a b c) hp hr h =
    rw (h.0, number_is p hp, number_is r hr, number_is x h.1, number_is y h.2, citation_is a (small_of count a h.3), number_is b h.4.small, number_is c h.5.small, cited_is count a h.3, below_is count b h.4, below_is count c h.5) refl
fences_is ch count p r (ForWriteReadChained x x2 y2 y a b c d e) hp hr h =
    rw (
      h.0,
      number_is p hp,
      number_is r hr,
      number_is x h.1,
      number_is x2 h.2,
      number_is y2 h.3,
      number_is y h.4,
      citation_is a (small_of count a h.5),
      citation_is b (small_of count b h.6),
      number_is c h.7.small,
      citation_is d (small_of count d h.8),
      citation_is e (small_of count e h.9),
      cited_is count a h.5,
      cited_is count b h.6,
      below_is count c h.7,
      cited_is count d h.8,
      cited_is count e h.9,
    ) refl

pub pair_is : (ch : Bool) (count : ℕ) (pair : model.Pair) → PairFits ch count pair → pair_said ch count (decimal pair.p ∷ decimal pair.r ∷ fences_words pair.fences) ≡ Ok pair
pair_is ch count pair h = fences_is ch count pair.p pair.r pair.fences h.p h.r h.fences
