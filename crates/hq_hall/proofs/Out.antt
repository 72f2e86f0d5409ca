-- Which packets are out, as grants come and go.
use Rattle.std.proofs.Common.{◌≡◌, ℕ, ◌⊎◌, ◌≢◌, ◌==◌, ◌||◌, inl, inr, Bool, true, false, cond, not, List, [], ◌∷◌, ◌++◌, refl, sym, ap, ◌∙◌, true≢false}
use Rattle.std.specs.List.{list_any}
use Rattle.std.proofs.lemmas.Bool.{cases_eq, eq-eqb, eqb-true, ne_eqb}
use Rattle.std.proofs.lemmas.List.{append-nil}
use Rattle.std.proofs.lemmas.List.Elements.{filter-append}
use Rattle.std.proofs.lemmas.List.Folds.{list_any-append, list_any-from_Any, Any-from_list_any}
use Rattle.std.proofs.lemmas.Map.Views.{any-filter_same}
use Rattle.hq_ledger.specs.declared.grants.Grant.{Grant}
use Rattle.hq_ledger.specs.Grants.{IsOut, without}

pub either_true : (a b : Bool) → (a || b) ≡ true → (a ≡ true) ⊎ (b ≡ true)
either_true true b e = inl refl
either_true false b e = inr e

abbrev is_of : ℕ → Grant → Bool
is_of p grant = grant.packet == p

pub out_tested : (out : List Grant) (p : ℕ) → IsOut out p → list_any (is_of p) out ≡ true
out_tested out p (k, grant, low, at, is) = list_any-from_Any (is_of p) out (k, grant, low, at, eq-eqb grant.packet p is)

pub tested_out : (out : List Grant) (p : ℕ) → list_any (is_of p) out ≡ true → IsOut out p
tested_out out p t = let found = Any-from_list_any (is_of p) out t in (found.0, found.1, found.2, found.3, eqb-true found.1.packet p found.4)

one_tested : (p : ℕ) (grant : Grant) → list_any (is_of p) (grant ∷ []) ≡ true → grant.packet ≡ p
one_tested p grant t = elim (either_true (is_of p grant) false t) [
  | inl e ↦ eqb-true grant.packet p e
  | inr e ↦ absurd (true≢false (sym e))
]

-- a grant more
pub pushed_out : (out : List Grant) (grant : Grant) (q : ℕ) → IsOut (out ++ grant ∷ []) q → IsOut out q ⊎ (grant.packet ≡ q)
pushed_out out grant q is = elim (either_true (list_any (is_of q) out) (list_any (is_of q) (grant ∷ [])) (sym (list_any-append (is_of q) out (grant ∷ [])) ∙ out_tested (out ++ grant ∷ []) q is)) [
  | inl e ↦ inl (tested_out out q e)
  | inr e ↦ inr (one_tested q grant e)
]

or_true : (a : Bool) → (a || true) ≡ true
or_true true = refl
or_true false = refl

pub out_pushed : (out : List Grant) (grant : Grant) (q : ℕ) → IsOut out q → IsOut (out ++ grant ∷ []) q
out_pushed out grant q is = tested_out (out ++ grant ∷ []) q (list_any-append (is_of q) out (grant ∷ []) ∙ ap (λ b. b || list_any (is_of q) (grant ∷ [])) (out_tested out q is))

pub last_out : (out : List Grant) (grant : Grant) → IsOut (out ++ grant ∷ []) grant.packet
last_out out grant =
    tested_out (out ++ grant ∷ []) grant.packet
    (list_any-append (is_of grant.packet) out (grant ∷ [])
    ∙ ap (λ b. list_any (is_of grant.packet) out || (b || false)) (eq-eqb grant.packet grant.packet refl)
    ∙ or_true (list_any (is_of grant.packet) out))

-- a packet's grants taken away
pub others_out : (out : List Grant) (p q : ℕ) → IsOut (without p out) q → IsOut out q × (q ≢ p)
others_out out p q is =
    let t = out_tested (without p out) q is in
    elim (cases_eq q p) [
      | inl e ↦ absurd (true≢false (sym t ∙ any-filter_same (is_of q) (λ grant. not (grant.packet == p)) false (λ grant h. ap not (eq-eqb grant.packet p (eqb-true grant.packet q h ∙ e))) out))
      | inr d ↦ (tested_out out q (sym (any-filter_same (is_of q) (λ grant. not (grant.packet == p)) true (λ grant h. ap not (ne_eqb grant.packet p (λ e. d (sym (eqb-true grant.packet q h) ∙ e)))) out) ∙ t), d)
    ]

pub out_others : (out : List Grant) (p q : ℕ) → IsOut out q → q ≢ p → IsOut (without p out) q
out_others out p q is d =
    tested_out (without p out) q
    (any-filter_same (is_of q) (λ grant. not (grant.packet == p)) true (λ grant h. ap not (ne_eqb grant.packet p (λ e. d (sym (eqb-true grant.packet q h) ∙ e)))) out ∙ out_tested out q is)

-- a grant that is taken back at once leaves all as it was
kept_one : (out : List Grant) (grant : Grant) (p : ℕ) (b : Bool) → (grant.packet == p) ≡ b → list_any (is_of p) (grant ∷ out) ≡ false → (list_any (is_of p) out ≡ false → without p out ≡ out)
    → without p (grant ∷ out) ≡ grant ∷ out
kept_one out grant p true e none rest = absurd (true≢false (sym (ap (λ b. b || list_any (is_of p) out) e) ∙ none))
kept_one out grant p false e none rest =
    ap (λ b. cond (not b) (grant ∷ without p out) (without p out)) e ∙ ap (λ gs. grant ∷ gs) (rest (sym (ap (λ b. b || list_any (is_of p) out) e) ∙ none))

kept : (out : List Grant) (p : ℕ) → list_any (is_of p) out ≡ false → without p out ≡ out
kept [] p none = refl
kept (grant ∷ out) p none = kept_one out grant p (grant.packet == p) refl none (kept out p)

not_tested : (b : Bool) → (b ≡ true → ⊥) → b ≡ false
not_tested true n = absurd (n refl)
not_tested false n = refl

pub taken_back : (out : List Grant) (grant : Grant) → (IsOut out grant.packet → ⊥) → without grant.packet (out ++ grant ∷ []) ≡ out
taken_back out grant none =
    filter-append (λ g. not (g.packet == grant.packet)) out (grant ∷ [])
    ∙ ap (λ b. without grant.packet out ++ cond (not b) (grant ∷ []) []) (eq-eqb grant.packet grant.packet refl)
    ∙ append-nil (without grant.packet out)
    ∙ kept out grant.packet (not_tested (list_any (is_of grant.packet) out) (λ t. none (tested_out out grant.packet t)))
