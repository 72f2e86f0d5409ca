-- What is written to two writers.
use Rattle.std.proofs.Common.{◌≡◌, ℕ, inl, inr, List, [], Option, Some, None, sym, subst}
use Rattle.std.proofs.lemmas.List.{append-nil}
use Rattle.std.specs.Io.KnownBytes.{Appends}
use Rattle.hq_status.specs.Reports.{Said}
use Rattle.hq_engines.specs.Recording.{BothSaid}
use Rattle.hq_status.specs.declared.status.Status.{Status}

-- nothing is written behind what is known
stays : (known : Option (List ℕ)) → Appends known known []
stays None = tt
stays (Some bytes) = sym (append-nil bytes)

unwritten : (begun recorded : Option (List ℕ)) → recorded ≡ begun → Appends begun recorded []
unwritten begun recorded same = subst (λ known. Appends begun known []) (sym same) (stays begun)

-- a timeline and an answer
pub both : (begun recorded old new : Option (List ℕ)) (events text : List ℕ) (status answered : Status) → Appends begun recorded events → Said old new text status answered
    → BothSaid begun recorded events old new text status answered
both begun recorded old new events text status answered written (inl said) = inl (said.0, written, said.1)
both begun recorded old new events text status answered written (inr failed) = inr failed

-- an answer alone
pub alone : (begun recorded old new : Option (List ℕ)) (text : List ℕ) (status answered : Status) → recorded ≡ begun → Said old new text status answered
    → BothSaid begun recorded [] old new text status answered
alone begun recorded old new text status answered same said = both begun recorded old new [] text status answered (unwritten begun recorded same) said
