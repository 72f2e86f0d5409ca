-- Numbers written one behind another.
use Rattle.std.proofs.Common.{◌≡◌, ℕ, zero, suc, ◌+◌, ◌<◌, List, [], ◌∷◌, ◌++◌, length, take, Option, sym, ap, ◌∙◌, subst, arith, slice_index, append-nil, add-one, codes}
use Rattle.std.proofs.lemmas.List.{append_assoc}
use Rattle.std.specs.Io.KnownBytes.{Appends}
use Rattle.std.specs.Fmt.{decimal}
use Rattle.hq_status.proofs.Appending.{appends_more}
use Rattle.hq_judging.specs.Audit.{numbers_text}

numbers_next : (ns : List ℕ) (i n : ℕ) → i < length ns → n ≡ slice_index ns i → numbers_text (take (suc i) ns) ≡ numbers_text (take i ns) ++ (codes " " ++ decimal n)
numbers_next [] i n l e = absurd (omega arith)
numbers_next (m ∷ ns) zero n l e = append-nil (codes " " ++ decimal m) ∙ ap (λ k. codes " " ++ decimal k) (sym e)
numbers_next (m ∷ ns) (suc i) n l e =
    ap (λ t. (codes " " ++ decimal m) ++ t) (numbers_next ns i n (omega arith) e)
    ∙ sym (append_assoc (codes " " ++ decimal m) (numbers_text (take i ns)) (codes " " ++ decimal n))

pub numbers_more : (old mid new : Option (List ℕ)) (ns : List ℕ) (i n : ℕ) → Appends old mid (numbers_text (take i ns)) → i < length ns → n ≡ slice_index ns i → Appends mid new (codes " " ++ decimal n) → Appends old new (numbers_text (take (i + 1) ns))
numbers_more old mid new ns i n so_far l e one =
    subst (Appends old new) (sym (ap (λ k. numbers_text (take k ns)) (add-one i) ∙ numbers_next ns i n l e)) (appends_more old mid new (numbers_text (take i ns)) (codes " " ++ decimal n) so_far one)
