-- Texts of some parts, joined from the left as they are written down, and from the right as they are printed.
use Rattle.std.proofs.Common.{ℕ, List, ◌++◌, ◌≡◌, ◌∙◌, append_assoc}

pub four_joined : (a b c d : List ℕ) → a ++ b ++ c ++ d ≡ a ++ (b ++ (c ++ d))
four_joined a b c d = append_assoc (a ++ b) c d ∙ append_assoc a b (c ++ d)

pub five_joined : (a b c d e : List ℕ) → a ++ b ++ c ++ d ++ e ≡ a ++ (b ++ (c ++ (d ++ e)))
five_joined a b c d e = append_assoc (a ++ b ++ c) d e ∙ four_joined a b c (d ++ e)

pub seven_joined : (a b c d e f g : List ℕ) → a ++ b ++ c ++ d ++ e ++ f ++ g ≡ a ++ (b ++ (c ++ (d ++ (e ++ (f ++ g)))))
seven_joined a b c d e f g = append_assoc (a ++ b ++ c ++ d ++ e) f g ∙ append_assoc (a ++ b ++ c ++ d) e (f ++ g) ∙ five_joined a b c d (e ++ (f ++ g))
