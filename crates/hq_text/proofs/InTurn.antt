-- What tests one behind another found.
use Rattle.std.proofs.Common.{◌≡◌, ℕ, Bool, true, false, cond, List, refl}
use Rattle.std.specs.Prelude.{◌&&◌, Result, Ok, Err}
use Rattle.std.specs.Str.{bytes_eq}
use Rattle.std.proofs.lemmas.Slice.Eq.{bytes_eq-Decides}
use Rattle.hq_text.specs.InTurn.{◌>>=◌}

-- a step that went on
pub record Steps {A B F : Type 0} (r : Result A F) (f : A → Result B F) (y : B) : Type 0 where
  pub value : A
  pub first : r ≡ Ok value
  pub next : f value ≡ Ok y

pub steps : {A B F : Type 0} (r : Result A F) (f : A → Result B F) (y : B) → (r >>= f) ≡ Ok y → Steps r f y
steps (Ok x) f y e = record { value = x; first = refl; next = e }
steps (Err r) f y e = absurd cc

pub ok_is : {A F : Type 0} (a b : A) → (let x : Result A F = Ok a in let y : Result A F = Ok b in x ≡ y) → a ≡ b
ok_is a b e = cc

pub both : (a b : Bool) → (a && b) ≡ true → (a ≡ true) × (b ≡ true)
both true b e = (refl, e)
both false b e = absurd cc

pub word_is : (a b : List ℕ) → bytes_eq a b ≡ true → a ≡ b
word_is a b e = (bytes_eq-Decides a b).0 e

pub guarded : {A F : Type 0} (b : Bool) (x y : A) (e : F) → (let r : Result A F = cond b (Ok x) (Err e) in r ≡ Ok y) → (b ≡ true) × (x ≡ y)
guarded true x y e h = (refl, cc)
guarded false x y e h = absurd cc
