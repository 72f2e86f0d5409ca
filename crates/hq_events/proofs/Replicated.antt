-- Lists of one thing many times, and lists that are told place by place.
use Rattle.std.proofs.Common.{◌≡◌, ℕ, zero, suc, ◌+◌, List, [], ◌∷◌, ◌++◌, length, map, replicate, Some, slice_get, get_or, refl, sym, ◌∙◌, ap, ext_get_or}
use Rattle.std.proofs.lemmas.List.{replicate-append-replicate}
use Rattle.std.proofs.lemmas.Option.{get_or_from_slice_get}
use Rattle.hq_events.specs.Packets.{AllAre}

pub replicate_more : {X : Type 0} (xs ys : List X) (n : ℕ) (x : X) → xs ≡ replicate n x → ys ≡ xs ++ x ∷ [] → ys ≡ replicate (n + 1) x
replicate_more xs ys n x e g = g ∙ ap (λ l. l ++ x ∷ []) e ∙ replicate-append-replicate n 1 x

pub all_get : (xs ys : List ℕ) → AllAre (λ i x. slice_get ys i ≡ Some x) xs → length xs ≡ length ys → xs ≡ ys
all_get xs ys a e = ext_get_or 0 xs ys e (λ i l. sym (get_or_from_slice_get ys i (get_or xs i 0) 0 (a.at i 0 l)))

pub of_replicate : {X : Type 0} (n i : ℕ) (x : X) → get_or (replicate n x) i x ≡ x
of_replicate zero i x = refl
of_replicate (suc n) zero x = refl
of_replicate (suc n) (suc i) x = of_replicate n i x

pub map_replicate : {X Y : Type 0} (f : X → Y) (n : ℕ) (x : X) → map f (replicate n x) ≡ replicate n (f x)
map_replicate f zero x = refl
map_replicate f (suc n) x = ap (λ l. f x ∷ l) (map_replicate f n x)
