-- Names and rows that a search finds.
use Rattle.std.proofs.Common.{◌≡◌, ℕ, suc, ◌+◌, ◌<◌, Bool, true, false, cond, List, [], ◌∷◌, length, get_or, ◌==◌, Option, Some, None, refl, sym, ap, subst, ◌∙◌, arith, is_some, ltb, Decides}
use Rattle.std.specs.Prelude.{map, Any, Contains, IsTrue, ◌↔◌, position, ◌||◌, not}
use Rattle.std.specs.List.{list_any}
use Rattle.std.specs.Str.{bytes_eq}
use Rattle.std.specs.Option.{option_map}
use Rattle.std.proofs.lemmas.List.{get_or-map, get_or_default, length-map}
use Rattle.std.proofs.lemmas.Cmp.{nat_list_eq_equiv}
use Rattle.std.proofs.lemmas.Slice.Eq.{bytes_eq-Decides}
use Rattle.std.proofs.lemmas.Map.Views.{Contains-from_any, list_any-from_Contains}
use Rattle.std.proofs.lemmas.Bool.Decides.{nat_tests, Decides-eqb}
use Rattle.std.proofs.lemmas.List.Folds.{Any-from_list_any, list_any-from_Any}

-- ---- names

any_of_map : {X B : Type 0} (v : X → B) (p : B → Bool) (xs : List X) → list_any (λ x. p (v x)) xs ≡ list_any p (map v xs)
any_of_map v p [] = refl
any_of_map v p (x ∷ xs) = ap (λ b. p (v x) || b) (any_of_map v p xs)

-- a test over names tells whether one is there
pub name_there : (names : List (List ℕ)) (name : List ℕ) → list_any (bytes_eq name) names ≡ true → Contains names name
name_there names name h = Contains-from_any (λ x y. (bytes_eq-Decides x y).0) name names h

pub name_tested : (names : List (List ℕ)) (name : List ℕ) → Contains names name → list_any (bytes_eq name) names ≡ true
name_tested names name h = list_any-from_Contains nat_list_eq_equiv name names h

-- so does one over rows
pub row_named : {X : Type 0} (v : X → List ℕ) (xs : List X) (name : List ℕ) (b : Bool) → b ≡ list_any (λ x. bytes_eq name (v x)) xs → IsTrue b ↔ Contains (map v xs) name
row_named v xs name b e =
    let same : b ≡ list_any (bytes_eq name) (map v xs) = e ∙ any_of_map v (bytes_eq name) xs in
    (λ t. name_there (map v xs) name (sym same ∙ t), λ h. same ∙ name_tested (map v xs) name h)

pub map_twice : {X Y Z : Type 0} (f : X → Y) (g : Y → Z) (xs : List X) → map g (map f xs) ≡ map (λ x. g (f x)) xs
map_twice f g [] = refl
map_twice f g (x ∷ xs) = ap (λ ys. g (f x) ∷ ys) (map_twice f g xs)

-- ---- rows

pub any_in_map : {X Y : Type 0} (f : X → Y) (P : Y → Type 0) (xs : List X) → Any P (map f xs) → Any (λ x. P (f x)) xs
any_in_map f P [] h = absurd (omega arith)
any_in_map f P (x ∷ xs) h =
    let lt : h.0 < length (x ∷ xs) = omega (arith, length-map (x ∷ xs) f) in
    let row = get_or (x ∷ xs) h.0 x in
    let is : f row ≡ h.1 = sym (get_or-map f (x ∷ xs) h.0 x h.1 lt) ∙ h.3 in
    (h.0, row, lt, get_or_default (x ∷ xs) h.0 row x lt, subst P (sym is) h.4)

pub any_of_rows : {X Y : Type 0} (f : X → Y) (P : Y → Type 0) (xs : List X) → Any (λ x. P (f x)) xs → Any P (map f xs)
any_of_rows f P xs h = (h.0, f h.1, omega (arith, length-map xs f), get_or-map f xs h.0 h.1 (f h.1) h.2 ∙ ap f h.3, h.4)

-- ---- places

place_step : (b : Bool) (n m : ℕ) → cond (ltb (cond (not b) (1 + n) 0) (suc m)) (Some (cond (not b) (1 + n) 0)) None ≡ cond b (Some 0) (option_map (λ k. suc k) (cond (ltb n m) (Some n) None))
place_step true n m = let lt : ltb 0 (suc m) ≡ true = grind (arith, nat_tests) in rw lt refl
place_step false n m = let one : 1 + n ≡ suc n = omega arith in rw one (by (ltb n m) (let same : ltb (suc n) (suc m) ≡ ltb n m = grind (arith, nat_tests) in same)) where
  by : (c : Bool) → ltb (suc n) (suc m) ≡ c → cond (ltb (suc n) (suc m)) (Some (suc n)) None ≡ option_map (λ k. suc k) (cond c (Some n) None)
  by true e = rw e refl
  by false e = rw e refl

pub position-cons : {X : Type 0} (p : X → Bool) (x : X) (xs : List X) → position p (x ∷ xs) ≡ cond (p x) (Some 0) (option_map (λ k. suc k) (position p xs))
position-cons p x xs = place_step (p x) _ (length xs)

some_step : (b : Bool) (o : Option ℕ) (c : Bool) → is_some o ≡ c → is_some (cond b (Some 0) (option_map (λ k. suc k) o)) ≡ (b || c)
some_step true o c e = refl
some_step false None c e = e
some_step false (Some k) c e = e

pub place_found : {X : Type 0} (p : X → Bool) (xs : List X) → is_some (position p xs) ≡ list_any p xs
place_found p [] = refl
place_found p (x ∷ xs) = ap is_some (position-cons p x xs) ∙ some_step (p x) (position p xs) (list_any p xs) (place_found p xs)

pub position-map : {X Y : Type 0} (v : X → Y) (p : Y → Bool) (xs : List X) → position (λ x. p (v x)) xs ≡ position p (map v xs)
position-map v p [] = refl
position-map v p (x ∷ xs) =
    position-cons (λ y. p (v y)) x xs ∙ ap (λ o. cond (p (v x)) (Some 0) (option_map (λ k. suc k) o)) (position-map v p xs) ∙ sym (position-cons p (v x) (map v xs))

-- the place of a name, where it has one
pub no_place : (names : List (List ℕ)) (name : List ℕ) → position (bytes_eq name) names ≡ None → ¬ Contains names name
no_place names name e h = let there : is_some (position (bytes_eq name) names) ≡ true = place_found (bytes_eq name) names ∙ name_tested names name h in let none : is_some (position (bytes_eq name) names) ≡ false = ap is_some e in cc

pub has_place : (names : List (List ℕ)) (name : List ℕ) (i : ℕ) → position (bytes_eq name) names ≡ Some i → Contains names name
has_place names name i e = name_there names name (sym (place_found (bytes_eq name) names) ∙ ap is_some e)

pub place_of_some : (names : List (List ℕ)) (name : List ℕ) → is_some (position (bytes_eq name) names) ≡ true → Contains names name
place_of_some names name e = name_there names name (sym (place_found (bytes_eq name) names) ∙ e)

pub absent_name : (names : List (List ℕ)) (name : List ℕ) → list_any (bytes_eq name) names ≡ false → ¬ Contains names name
absent_name names name e h = let there = name_tested names name h in cc

pub refuted : {P : Type 0} {b : Bool} → IsTrue b ↔ P → b ≡ false → ¬ P
refuted h e p = let t = h.1 p in cc

pub no_name_place : (names : List (List ℕ)) (name : List ℕ) → is_some (position (bytes_eq name) names) ≡ false → ¬ Contains names name
no_name_place names name e h = let there : is_some (position (bytes_eq name) names) ≡ true = place_found (bytes_eq name) names ∙ name_tested names name h in cc

pub any_tested : {X : Type 0} (p : X → Bool) (P : X → Type 0) → ((x : X) → Decides (p x) (P x)) → (xs : List X) (b : Bool) → b ≡ list_any p xs → IsTrue b ↔ Any P xs
any_tested p P d xs b e =
    (λ t. let h = Any-from_list_any p xs (sym e ∙ t) in (h.0, h.1, h.2, h.3, (d h.1).0 h.4), λ h. e ∙ list_any-from_Any p xs (h.0, h.1, h.2, h.3, (d h.1).1 h.4))

pub unless : (b : Bool) → ¬ IsTrue b → b ≡ false
unless true h = absurd (h refl)
unless false h = refl

-- a number that is looked for among the numbers of rows
sought : (n k : ℕ) → Decides (n == k) (k ≡ n)
sought n k = let d = Decides-eqb n k in (λ t. sym (d.0 t), λ e. d.1 (sym e))

pub row_numbered : {X : Type 0} (f : X → ℕ) (xs : List X) (n : ℕ) (b : Bool) → b ≡ list_any (λ k. n == k) (map f xs) → IsTrue b ↔ Any (λ x. f x ≡ n) xs
row_numbered f xs n b e =
    let there = any_tested (λ k. n == k) (λ k. k ≡ n) (sought n) (map f xs) b e in
    (λ t. any_in_map f (λ k. k ≡ n) xs (there.0 t), λ h. there.1 (any_of_rows f (λ k. k ≡ n) xs h))
