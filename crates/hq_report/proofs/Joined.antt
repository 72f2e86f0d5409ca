-- Handles with commas between them, one by one.
use Rattle.std.proofs.Common.{◌≡◌, ℕ, Bool, true, false, ◌||◌, not, ◌==◌, cond, List, [], ◌∷◌, ◌++◌, map, filter, codes, refl, sym, ◌∙◌, ap, append-nil}
use Rattle.std.specs.Fmt.{decimal}
use Rattle.hq_report.specs.Shown.{behind, joined, handle_item, handles_text}

abbrev is_handle : ℕ → Bool
is_handle h = not (h == 0)

abbrev kept : List ℕ → List ℕ
kept hs = filter is_handle hs

-- the items of a list, where a handle stood before or not
abbrev items : Bool → List ℕ → List ℕ
items before [] = []
items before (h ∷ hs) = handle_item before h ++ items (before || is_handle h) hs

-- whether a handle stood before or is in the list
abbrev some_handle : Bool → List ℕ → Bool
some_handle before [] = before
some_handle before (h ∷ hs) = some_handle (before || is_handle h) hs

items_behind : (hs : List ℕ) → items true hs ≡ behind (map decimal (kept hs))
items_behind [] = refl
items_behind (h ∷ hs) = go (h == 0) (items_behind hs)
  where
    go : (z : Bool) → items true hs ≡ behind (map decimal (kept hs)) → cond z [] (codes "," ++ decimal h) ++ items (true || not z) hs ≡ behind (map decimal (cond (not z) (h ∷ kept hs) (kept hs)))
    go true e = e
    go false e = ap (λ ys. codes "," ++ decimal h ++ ys) e

items_joined : (hs : List ℕ) → some_handle false hs ≡ true → items false hs ≡ joined (map decimal (kept hs))
items_joined [] s = absurd (cc)
items_joined (h ∷ hs) s = go (h == 0) (items_joined hs) s
  where
    go : (z : Bool) → (some_handle false hs ≡ true → items false hs ≡ joined (map decimal (kept hs))) → some_handle (false || not z) hs ≡ true → cond z [] ([] ++ decimal h) ++ items (false || not z) hs ≡ joined (map decimal (cond (not z) (h ∷ kept hs) (kept hs)))
    go true more s = more s
    go false more s = ap (λ ys. decimal h ++ ys) (items_behind hs)

pub five_joined : (hs : List ℕ) (a b c d e : ℕ) (s t u v w : Bool) → hs ≡ a ∷ b ∷ c ∷ d ∷ e ∷ [] → s ≡ (false || is_handle a) → t ≡ (s || is_handle b) → u ≡ (t || is_handle c) → v ≡ (u || is_handle d) → w ≡ (v || is_handle e) → w ≡ true → handle_item false a ++ (handle_item s b ++ (handle_item t c ++ (handle_item u d ++ handle_item v e))) ≡ handles_text hs
five_joined hs a b c d e s t u v w whole es et eu ev ew some =
    let A : Bool = is_handle a in
    let some-v : (v || is_handle e) ≡ true = sym ew ∙ some in
    let some-u : ((u || is_handle d) || is_handle e) ≡ true = ap (λ x. x || is_handle e) (sym ev) ∙ some-v in
    let some-t : (((t || is_handle c) || is_handle d) || is_handle e) ≡ true = ap (λ x. (x || is_handle d) || is_handle e) (sym eu) ∙ some-u in
    let some-s : ((((s || is_handle b) || is_handle c) || is_handle d) || is_handle e) ≡ true = ap (λ x. ((x || is_handle c) || is_handle d) || is_handle e) (sym et) ∙ some-t in
    let all : ((((A || is_handle b) || is_handle c) || is_handle d) || is_handle e) ≡ true = ap (λ x. (((x || is_handle b) || is_handle c) || is_handle d) || is_handle e) (sym es) ∙ some-s in
    rw (whole, ev, eu, et, es)
    (ap (λ z. handle_item false a ++ (handle_item A b ++ (handle_item (A || is_handle b) c ++ (handle_item ((A || is_handle b) || is_handle c) d ++ z))))
    (sym (append-nil (handle_item (((A || is_handle b) || is_handle c) || is_handle d) e)))
    ∙ items_joined (a ∷ b ∷ c ∷ d ∷ e ∷ []) all)
