-- What a packet sees of ranges of bytes.
use Rattle.std.proofs.Common.{◌≡◌, ℕ, zero, suc, ◌+◌, ◌<◌, All, List, [], ◌∷◌, ◌++◌, length, map, take, get_or, refl, sym, ◌∙◌, ap, arith}
use Rattle.std.proofs.Math.Seq.{take-suc, take-length}
use Rattle.std.proofs.lemmas.List.{append-nil, map-append, length-map}
use Rattle.std.proofs.lemmas.List.FromFn.{get_or-map-range_with_len}
use Rattle.std.proofs.lemmas.Grind.{flat_map-append}
use Rattle.std.specs.List.{flat_map}
use Rattle.hq_footprint.specs.Bytes.{bytes_of}
use Rattle.hq_footprint.specs.declared.footprint.Range.{Range}
use Rattle.hq_footprint.proofs.RangeBytes.{bytes_counted}
use Rattle.hq_model.specs.Machine.{listed}
use Rattle.hq_model.proofs.Given.{listed_is}
use Rattle.hq_events.proofs.Jobs.{entry_within, rest_all}

pub range_listed : (f : ℕ → ℕ) (range : Range) → listed range.len (λ i. f (range.at + i)) ≡ map f (bytes_of range)
range_listed f range =
    let count : length (map f (bytes_of range)) ≡ range.len = length-map (bytes_of range) f ∙ bytes_counted range in
    listed_is range.len (λ i. f (range.at + i)) (map f (bytes_of range)) (omega (arith, count)) (λ i l. sym (get_or-map-range_with_len f range.at range.len i (range.at + i) 0 l refl))
    ∙ ap (λ n. take n (map f (bytes_of range))) (sym count)
    ∙ take-length (map f (bytes_of range))

pub ranges_more : (f : ℕ → ℕ) (ranges : List Range) (i : ℕ) (d : Range) → i < length ranges → map f (flat_map bytes_of (take (i + 1) ranges)) ≡ map f (flat_map bytes_of (take i ranges)) ++ map f (bytes_of (get_or ranges i d))
ranges_more f ranges i d l =
    let one : i + 1 ≡ suc i = omega arith in
    let range = get_or ranges i d in
    ap (λ n. map f (flat_map bytes_of (take n ranges))) one
    ∙ ap (λ rs. map f (flat_map bytes_of rs)) (take-suc ranges i d l)
    ∙ ap (map f) (flat_map-append bytes_of (take i ranges) (range ∷ []) ∙ ap (λ t. flat_map bytes_of (take i ranges) ++ t) (append-nil (bytes_of range)))
    ∙ map-append f (flat_map bytes_of (take i ranges)) (bytes_of range)

-- a byte of one of the ranges
pub range_below : (ranges : List Range) (i k limit : ℕ) (d : Range) → All (λ b. b < limit) (flat_map bytes_of ranges) → i < length ranges → k < Range.len (get_or ranges i d) → Range.at (get_or ranges i d) + k < limit
range_below [] i k limit d all l h = absurd (omega arith)
range_below (r ∷ rs) zero k limit d all l h = entry_within r (flat_map bytes_of rs) limit k all h
range_below (r ∷ rs) (suc i) k limit d all l h = range_below rs i k limit d (rest_all (bytes_of r) (flat_map bytes_of rs) limit all) (omega arith) h
