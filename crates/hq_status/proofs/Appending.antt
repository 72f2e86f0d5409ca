-- Texts written one behind another.
use Rattle.std.proofs.Common.{ℕ, List, [], ◌++◌, Option, Some, None, sym, ap, ◌∙◌, append-nil}
use Rattle.std.proofs.lemmas.List.{append_assoc}
use Rattle.std.specs.Io.KnownBytes.{Appends}

pub appends_none : (old : Option (List ℕ)) → Appends old old []
appends_none None = tt
appends_none (Some xs) = sym (append-nil xs)

pub appends_more : (old mid new : Option (List ℕ)) (xs ys : List ℕ) → Appends old mid xs → Appends mid new ys → Appends old new (xs ++ ys)
appends_more None mid new xs ys a b = tt
appends_more (Some zs) None new xs ys a b = absurd a
appends_more (Some zs) (Some ws) None xs ys a b = absurd b
appends_more (Some zs) (Some ws) (Some vs) xs ys a b = b ∙ ap (λ us. us ++ ys) a ∙ append_assoc zs xs ys
