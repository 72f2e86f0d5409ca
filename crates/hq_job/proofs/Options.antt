-- When two options of numbers are equal.
use Rattle.std.proofs.Common.{◌≡◌, ℕ, Option, Some, None, nat_eq, refl, sym, ap, true≢false, Decides}
use Rattle.std.specs.Option.{option_eq}
use Rattle.std.proofs.lemmas.Bool.Decides.{Decides-eqb}

pub optional_decides : (a b : Option ℕ) → Decides (option_eq nat_eq a b) (a ≡ b)
optional_decides None None = (λ _. refl, λ _. refl)
optional_decides None (Some y) = (λ e. absurd (true≢false (sym e)), λ e. absurd cc)
optional_decides (Some x) None = (λ e. absurd (true≢false (sym e)), λ e. absurd cc)
optional_decides (Some x) (Some y) =
    let numbers = Decides-eqb x y in
    (λ e. ap (λ n. Some n) (numbers.0 e), λ e. numbers.1 cc)
