-- What is cited for the dependencies of a barrier-OR.
use Rattle.std.proofs.Common.{◌≡◌, ℕ, ◌+◌, ◌^◌, ◌<◌, inl, inr, List, [], ◌∷◌, ◌++◌, length, sym, ◌∙◌, ap, subst, Option, Some, None, Result, Ok, Err, IfOk, map, take, slice_index_or, append-nil}
use Rattle.std.specs.List.{AllZip}
use Rattle.std.proofs.lemmas.List.{take_more}
use Rattle.std.proofs.lemmas.List.Elements.{filter_map-append}
use Rattle.hq_cert.specs.declared.citation.Citation.{Citation}
use Rattle.hq_cert.specs.declared.certificate.Rule.{Rule}
use Rattle.hq_cert.specs.View.{cited, rule_of}
use Rattle.hq_model.specs.Job.{Job, packet, IsPacket, Decrements}
use Rattle.hq_model.specs.Certificate as model
use Rattle.hq_model.specs.Certificate.{Cites, Follows, signals}
use Rattle.hq_model.specs.Certificate.Rule.{Or as OrRule, Through as ThroughRule}
use Rattle.hq_order.specs.Rounds.{ByOr}
use Rattle.hq_derive.specs.declared.lines.Lines.{Lines}
use Rattle.hq_derive.specs.Rests.{Below, ByBranch}
use Rattle.hq_derive.specs.Gathered.{lines_of, Grown, Goes, Numbered, CitesBranch, Branched, AllBranched}
use Rattle.hq_derive.proofs.Growing.{zip_more, cites_more, says_more}
use Rattle.hq_derive.proofs.Adding.{goes_more, numbered_added, numbered_from, line_by}

-- ---- signals, slot by slot

signals_append : (a b : List (Option ℕ)) → signals (a ++ b) ≡ signals a ++ signals b
signals_append a b = filter_map-append (λ dep. dep) a b

signals_next : (slots : List (Option ℕ)) (i : ℕ) (dep : Option ℕ) → i < length slots → slice_index_or slots i None ≡ dep → signals (take (i + 1) slots) ≡ signals (take i slots) ++ signals (dep ∷ [])
signals_next slots i dep l e = ap signals (take_more slots i None l ∙ ap (λ x. take i slots ++ x ∷ []) e) ∙ signals_append (take i slots) (dep ∷ [])

pub signals_some : (slots : List (Option ℕ)) (i s : ℕ) → i < length slots → slice_index_or slots i None ≡ Some s → signals (take (i + 1) slots) ≡ signals (take i slots) ++ s ∷ []
signals_some slots i s l e = signals_next slots i (Some s) l e

pub signals_none : (slots : List (Option ℕ)) (i : ℕ) → i < length slots → slice_index_or slots i None ≡ None → signals (take (i + 1) slots) ≡ signals (take i slots)
signals_none slots i l e = signals_next slots i None l e ∙ append-nil (signals (take i slots))

-- ---- citations

pub zip_push : {A B : Type 0} (R : A → B → Type 0) (xs : List A) (ys : List B) (x : A) (y : B) → AllZip R xs ys → R x y → AllZip R (xs ++ x ∷ []) (ys ++ y ∷ [])
zip_push R [] [] x y h r = (r, tt)
zip_push R [] (b ∷ ys) x y h r = absurd h
zip_push R (a ∷ xs) [] x y h r = absurd h
zip_push R (a ∷ xs) (b ∷ ys) x y h r = (h.0, zip_push R xs ys x y h.1 r)

branch_more : (job : Job) (old new : List model.Line) (p s : ℕ) (c : Citation) → Grown old new → CitesBranch job old p s c → CitesBranch job new p s c
branch_more job old new p s c g h = (h.0, h.1, cites_more old new (length old) (length new) (cited c) p h.0 g g.len h.2)

pub branched_push : (job : Job) (a b d : Lines) (p s : ℕ) (ss : List ℕ) (cs : List Citation) (c : Citation)
    → AllBranched job a b p ss cs → Branched job b d p s c → AllBranched job a d p (ss ++ s ∷ []) (cs ++ c ∷ [])
branched_push job a b d p s ss cs c h n = record {
  goes = goes_more job a b d h.goes n.goes;
  cite = zip_push (CitesBranch job (lines_of d) p) ss cs s c
      (zip_more (CitesBranch job (lines_of b) p) (CitesBranch job (lines_of d) p) ss cs (λ t e. branch_more job (lines_of b) (lines_of d) p t e n.goes.grown) h.cite) n.cites;
}

zip_map : {A B C : Type 0} (R : A → C → Type 0) (f : B → C) (xs : List A) (ys : List B) → AllZip (λ x y. R x (f y)) xs ys → AllZip R xs (map f ys)
zip_map R f [] [] h = h
zip_map R f [] (y ∷ ys) h = h
zip_map R f (x ∷ xs) [] h = h
zip_map R f (x ∷ xs) (y ∷ ys) h = (h.0, zip_map R f xs ys h.1)

pub either_follows : (job : Job) (a b : Lines) (p r : ℕ) (slots : List (Option ℕ)) (cs : List Citation) (known : ℕ → ℕ → Type 0)
    → ByOr job known p r → slots ≡ (packet job r).deps → AllBranched job a b p (signals slots) cs → Follows job (lines_of b) (length (lines_of b)) p r (OrRule (map cited cs))
either_follows job a b p r slots cs known e same h = (
  e.any.some.2.is_packet,
  e.any.kind,
  zip_map (λ s branch. (d : ℕ) × Decrements job d s × Cites (lines_of b) (length (lines_of b)) branch p d) cited (signals (packet job r).deps) cs
      (subst (λ deps. AllZip (CitesBranch job (lines_of b) p) (signals deps) cs) same h.cite),
)

pub through_follows : (job : Job) (a b d : Lines) (p m r first second : ℕ) → Numbered job a b p m first → Numbered job b d m r second → Follows job (lines_of d) (length (lines_of d)) p r (ThroughRule first second)
through_follows job a b d p m r first second f s = (m, says_more (lines_of b) (lines_of d) (length (lines_of b)) (length (lines_of d)) first p m s.goes.grown s.goes.grown.len f.says, s.says)

pub branch_before : (job : Job) (round p s d : ℕ) → ByBranch job round p s d → (d ≡ p → ⊥) → Below job round p d
branch_before job round p s d b ban = elim b.upto [ inl e ↦ absurd (ban (sym e)) | inr w ↦ w ]

-- ---- a line that may have no room

pub add_answers : {E : Type 0} (job : Job) (a b d : Lines) (p r : ℕ) (rule : Rule) (result : Result ℕ E) → Goes job a b → IsPacket job p → IsPacket job r
    → Follows job (lines_of b) (length (lines_of b)) p r (rule_of rule)
    → IfOk result (λ _. lines_of d ≡ lines_of b ++ line_by p r rule ∷ [])
    → IfOk result (λ k. k ≡ length (lines_of b))
    → IfOk result (λ k. k + 1 < 2 ^ 32)
    → IfOk result (λ _. d.ranks ≡ b.ranks)
    → IfOk result (λ k. Numbered job a d p r k)
add_answers job a b d p r rule (Ok k) g p_is r_is f l i s e =
    numbered_from job a b d p r k g (numbered_added job b d p r rule k g.kept p_is r_is f (record { lines = l; number = i; ranks = e }) s)
add_answers job a b d p r rule (Err x) g p_is r_is f l i s e = tt
