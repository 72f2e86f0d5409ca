-- What a line says, by what it concludes.
use Rattle.std.proofs.Common.{◌≡◌, ℕ, ◌<◌, ◌↔◌, List, length, map, sym, ◌∙◌, ap, arith, Some, slice_get, slice_index_or}
use Rattle.std.proofs.lemmas.List.{length-map}
use Rattle.std.proofs.lemmas.Option.{slice_get-get_or, slice_get_within}
use Rattle.std.proofs.lemmas.List.{get_or-map}
use Rattle.hq_certcheck.specs.declared.conclusion.Conclusion.{Conclusion}
use Rattle.hq_certcheck.specs.Concluded.{bare}
use Rattle.hq_model.specs.Certificate as model
use Rattle.hq_ordercheck.proofs.Options.{some_same}

-- what a list of meanings has where the code's list has an item
pub meant_at : {X Y : Type 0} (f : X → Y) (xs : List X) (k : ℕ) (x : X) → k < length xs → x ≡ slice_index_or xs k x → slice_get (map f xs) k ≡ Some (f x)
meant_at f xs k x l e = slice_get-get_or (map f xs) k (f x) (omega (arith, l, length-map xs f)) ∙ ap Some (get_or-map f xs k x (f x) l ∙ ap f (sym e))

pub meant_within : {X Y : Type 0} (f : X → Y) (xs : List X) (k : ℕ) (y : Y) → slice_get (map f xs) k ≡ Some y → k < length xs
meant_within f xs k y e = omega (arith, slice_get_within (map f xs) k y e, length-map xs f)

pub says_here : (lines : List Conclusion) (limit k p : ℕ) (line : Conclusion) → k < length lines → line ≡ slice_index_or lines k line → k < limit → line.p ≡ p → (r : ℕ) → (Some line.r ≡ Some r) ↔ model.Says (map bare lines) limit k p r
says_here lines limit k p line l e m same r = (
  λ h. record { lower = m; line = bare line; there = meant_at bare lines k line l e; first = same; second = some_same line.r r h },
  λ s. let x : bare line ≡ s.line = some_same (bare line) s.line (sym (meant_at bare lines k line l e) ∙ s.there) in ap Some (ap (λ y. y.r) x ∙ s.second),
)

pub says_of : (lines : List Conclusion) (limit k p r : ℕ) (line : Conclusion) → k < length lines → line ≡ slice_index_or lines k line → model.Says (map bare lines) limit k p r → (k < limit) × (line.p ≡ p)
says_of lines limit k p r line l e s = let x : bare line ≡ s.line = some_same (bare line) s.line (sym (meant_at bare lines k line l e) ∙ s.there) in (s.lower, ap (λ y. y.p) x ∙ s.first)
