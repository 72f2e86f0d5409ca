-- A certificate that holds for a job within the limits has a text.
use Rattle.std.proofs.Common.{◌≡◌, ◌≢◌, ℕ, zero, suc, ◌+◌, ◌^◌, ◌<◌, ◌≤◌, Bool, true, false, ◌||◌, eqb, List, [], ◌∷◌, length, get_or, Option, Some, None, slice_get, refl, sym, ap, subst, arith}
use Rattle.std.specs.Prelude.{All}
use Rattle.std.specs.List.{AllByRecursion, AllPairs, AllZip, IsDistinct, list_any}
use Rattle.std.proofs.lemmas.Bool.{eqb-true, ne_eqb}
use Rattle.std.proofs.lemmas.Map.Steps.{length-le_from_distinct_below}
use Rattle.hq_model.specs.Job.{Job, packet, IsPacket, Decrements}
use Rattle.hq_model.specs.Order.{EachOnce}
use Rattle.hq_model.specs.Theorems.{Valid}
use Rattle.hq_model.specs.Certificate.{Certificate, Line, Pair, Rule, Fences, Says, Cites, signals, Follows, LinesHold, ReleaseHolds, AcquireHolds, FencesHold, PairHolds, CertHolds}
use Rattle.hq_model.specs.Certificate.Rule.{Bit, Queue, And, Or, Through}
use Rattle.hq_model.specs.Certificate.Fences.{ForReadWrite, ForWriteWrite, ForWriteRead, ForWriteWriteChained, ForWriteReadChained}
use Rattle.hq_model.proofs.Orders.{bit_packet, earlier_packet}
use Rattle.hq_text.specs.Ahead.{IsSmall}
use Rattle.hq_certtext.specs.Grammar.{IsBelow, IsCited, RuleFits, LineFits, LinesFit, FencesFit, PairFits, OrderFits, CertificateFits}
use Rattle.hq_certtext.specs.Printed.{is_chain, has_chain, Limited, PrintedIsRead}
use Rattle.hq_certtext.proofs.Split.{printed_is_text}

all_by : {X : Type 0} (P : X → Type 0) (xs : List X) → ((k : ℕ) (d : X) → k < length xs → P (get_or xs k d)) → AllByRecursion P xs
all_by P [] h = tt
all_by P (x ∷ xs) h = (h 0 x (omega arith), all_by P xs (λ k d l. h (suc k) d (omega arith)))

within : {X : Type 0} (xs : List X) (k : ℕ) (x : X) → slice_get xs k ≡ Some x → k < length xs
within [] k x e = absurd (none_some x e) where
  none_some : {X : Type 0} (x : X) → None ≡ Some x → ⊥
  none_some x e = cc
within (y ∷ xs) zero x e = omega arith
within (y ∷ xs) (suc k) x e = let l = within xs k x e in omega arith

-- ---- the order

apart : (x : ℕ) (xs : List ℕ) → ((k d : ℕ) → k < length xs → x ≢ get_or xs k d) → AllByRecursion (λ y. eqb x y ≡ false) xs
apart x xs h = all_by (λ y. eqb x y ≡ false) xs (λ k d l. ne_eqb x (get_or xs k d) (h k d l))

distinct : (xs : List ℕ) → AllPairs (λ p r. p ≢ r) xs → IsDistinct eqb xs
unfolding IsDistinct
distinct [] h = tt
distinct (x ∷ xs) h = (apart x xs (λ k d l. h 0 (suc k) d (omega arith) (omega arith)), distinct xs (λ i j d lt l. h (suc i) (suc j) d (omega arith) (omega arith)))

each_below : (n : ℕ) (xs : List ℕ) → All (λ p. p < n) xs → (q : ℕ) → list_any (eqb q) xs ≡ true → q < n
each_below n [] h q e = absurd cc
each_below n (x ∷ xs) h q e = by (eqb q x) refl e (each_below n xs (λ k d l. h (suc k) d (omega arith)) q) where
  by : (b : Bool) → eqb q x ≡ b → (b || list_any (eqb q) xs) ≡ true → (list_any (eqb q) xs ≡ true → q < n) → q < n
  by true is e more = subst (λ (k : ℕ). k < n) (sym (eqb-true q x is)) (h 0 0 (omega arith))
  by false is e more = more e

order_fits : (job : Job) (order : List ℕ) → length job.packets ≤ 1024 → EachOnce job order → OrderFits order
order_fits job order few once =
    let long = length-le_from_distinct_below order (length job.packets) (distinct order once.once) (each_below (length job.packets) order once.packets) in
    record { few = omega arith; small = all_by IsSmall order (λ k d l. let p : get_or order k d < length job.packets = once.packets k d l in omega arith) }

-- ---- the packets of lines

none_there : (s : ℕ) → ◌≡◌ {A = Option (Option ℕ)} (Some None) (Some (Some s)) → ⊥
none_there s e = cc

nothing_there : (s : ℕ) → ◌≡◌ {A = Option (Option ℕ)} None (Some (Some s)) → ⊥
nothing_there s e = cc

first_branch : (R : ℕ → Option ℕ → Type 0) (deps : List (Option ℕ)) (branches : List (Option ℕ)) (slot s : ℕ) → AllZip R (signals deps) branches → slice_get deps slot ≡ Some (Some s)
    → (t : ℕ) × (branch : Option ℕ) × R t branch
first_branch R [] branches slot s h e = absurd (nothing_there s e)
first_branch R (None ∷ deps) branches zero s h e = absurd (none_there s e)
first_branch R (None ∷ deps) branches (suc slot) s h e = first_branch R deps branches slot s h e
first_branch R (Some t ∷ deps) [] slot s h e = absurd h
first_branch R (Some t ∷ deps) (branch ∷ branches) slot s h e = (t, branch, h.0)

cited_packet : (job : Job) (lines : List Line) (limit : ℕ) → ((k p r : ℕ) → Says lines limit k p r → IsPacket job p × IsPacket job r) → (p d s : ℕ) (branch : Option ℕ) → Decrements job d s → Cites lines limit branch p d → IsPacket job p
cited_packet job lines limit h p d s None f c = subst (λ (x : ℕ). IsPacket job x) (sym c) f.is_packet
cited_packet job lines limit h p d s (Some k) f c = (h k p d c).0

follows_packets : (job : Job) (lines : List Line) (limit : ℕ) → Valid job → ((k p r : ℕ) → Says lines limit k p r → IsPacket job p × IsPacket job r) → (p r : ℕ) (rule : Rule) → Follows job lines limit p r rule → IsPacket job p × IsPacket job r
follows_packets job lines limit valid h p r (Bit j) by = (earlier_packet job p j by.earlier, bit_packet job p r by)
follows_packets job lines limit valid h p r Queue by = (earlier_packet job p r by.earlier, by.earlier.is_packet)
follows_packets job lines limit valid h p r (And slot) (s, by) = (by.decrements.is_packet, by.dependency.is_packet)
follows_packets job lines limit valid h p r (Or branches) (there, k, all) =
    let (slot, s, w) = valid.not_null r there k in
    let (t, branch, found) = first_branch (λ t branch. (d : ℕ) × Decrements job d t × Cites lines limit branch p d) (packet job r).deps branches slot s all w.signal in
    (cited_packet job lines limit h p found.0 t branch found.1 found.2, there)
follows_packets job lines limit valid h p r (Through first second) (m, f, g) = ((h first p m f).0, (h second m r g).1)

says_packets : (job : Job) (c : Certificate) → Valid job → LinesHold job c.lines → (n k p r : ℕ) → Says c.lines n k p r → IsPacket job p × IsPacket job r
says_packets job c valid lines zero k p r s = absurd (omega (arith, s.lower))
says_packets job c valid lines (suc n) k p r s =
    let both = follows_packets job c.lines k valid
    (λ i q t u. says_packets job c valid lines n i q t (record { lower = omega (arith, u.lower, s.lower); line = u.line; there = u.there; first = u.first; second = u.second })) s.line.p s.line.r s.line.rule (lines k s.line s.there) in
    (subst (λ (x : ℕ). IsPacket job x) s.first both.0, subst (λ (x : ℕ). IsPacket job x) s.second both.1)

-- ---- lines

zip_length : (R : ℕ → Option ℕ → Type 0) (xs : List ℕ) (ys : List (Option ℕ)) → AllZip R xs ys → length xs ≡ length ys
zip_length R [] [] h = refl
zip_length R [] (y ∷ ys) h = absurd h
zip_length R (x ∷ xs) [] h = absurd h
zip_length R (x ∷ xs) (y ∷ ys) h = ap (λ n. suc n) (zip_length R xs ys h.1)

zip_all : (R : ℕ → Option ℕ → Type 0) (Q : Option ℕ → Type 0) → ((t : ℕ) (branch : Option ℕ) → R t branch → Q branch) → (xs : List ℕ) (ys : List (Option ℕ)) → AllZip R xs ys → AllByRecursion Q ys
zip_all R Q f [] [] h = tt
zip_all R Q f [] (y ∷ ys) h = absurd h
zip_all R Q f (x ∷ xs) [] h = absurd h
zip_all R Q f (x ∷ xs) (y ∷ ys) h = (f x y h.0, zip_all R Q f xs ys h.1)

few_signals : (deps : List (Option ℕ)) → length (signals deps) ≤ length deps
few_signals [] = omega arith
few_signals (None ∷ deps) = let l = few_signals deps in omega arith
few_signals (Some t ∷ deps) = let l = few_signals deps in omega arith

some_signal : (deps : List (Option ℕ)) (slot s : ℕ) → slice_get deps slot ≡ Some (Some s) → 1 ≤ length (signals deps)
some_signal [] slot s e = absurd (nothing_there s e)
some_signal (None ∷ deps) zero s e = absurd (none_there s e)
some_signal (None ∷ deps) (suc slot) s e = some_signal deps slot s e
some_signal (Some t ∷ deps) slot s e = omega arith

says_below : (lines : List Line) (limit k p r : ℕ) → limit ≤ 2 ^ 32 → Says lines limit k p r → IsBelow limit k
says_below lines limit k p r few s = let l = s.lower in record { small = omega arith; below = l }

cites_below : (lines : List Line) (limit : ℕ) (c : Option ℕ) (p r : ℕ) → limit ≤ 2 ^ 32 → Cites lines limit c p r → IsCited limit c
cites_below lines limit None p r few s = tt
cites_below lines limit (Some k) p r few s = says_below lines limit k p r few s

rule_fits : (job : Job) (lines : List Line) (limit p r : ℕ) (rule : Rule) → limit ≤ 2 ^ 32 → Valid job → Limited job → Follows job lines limit p r rule → RuleFits limit rule
rule_fits job lines limit p r (Bit j) few valid limits by = let i : j < length job.packets = by.earlier.is_packet in let l = limits.packets in omega arith
rule_fits job lines limit p r Queue few valid limits h = tt
rule_fits job lines limit p r (And slot) few valid limits (s, by) = let i = within (packet job r).deps slot (Some s) by.dependency.signal in let l = limits.slots r in omega arith
rule_fits job lines limit p r (Or branches) few valid limits (there, k, all) =
    let (slot, s, w) = valid.not_null r there k in
    let R : ℕ → Option ℕ → Type 0 = λ t branch. (d : ℕ) × Decrements job d t × Cites lines limit branch p d in
    let long = zip_length R (signals (packet job r).deps) branches all in
    let most = few_signals (packet job r).deps in
    let least = some_signal (packet job r).deps slot s w.signal in
    let l = limits.slots r in
    record { some = omega arith; few = omega arith; cited = zip_all R (IsCited limit) (λ t branch found. cites_below lines limit branch p found.0 few found.2) (signals (packet job r).deps) branches all }
rule_fits job lines limit p r (Through first second) few valid limits (m, f, g) = (says_below lines limit first p m few f, says_below lines limit second m r few g)

lines_fit : (ls : List Line) (k : ℕ) → ((i : ℕ) (line : Line) → slice_get ls i ≡ Some line → LineFits (k + i) line) → LinesFit k ls
lines_fit [] k h = tt
lines_fit (line ∷ ls) k h =
    (subst (λ (n : ℕ). LineFits n line) (let e : k + 0 ≡ k = omega arith in e) (h 0 line refl), lines_fit ls (k + 1) (λ i l e. subst (λ (n : ℕ). LineFits n l) (let f : k + suc i ≡ k + 1 + i = omega arith in f) (h (suc i) l e)))

line_fits : (job : Job) (c : Certificate) → Valid job → Limited job → LinesHold job c.lines → length c.lines ≤ 2 ^ 32 → (k : ℕ) (line : Line) → slice_get c.lines k ≡ Some line → LineFits (0 + k) line
line_fits job c valid limits lines few k line there =
    let l = within c.lines k line there in
    let both = says_packets job c valid lines (suc k) k line.p line.r (record { lower = omega arith; line = line; there = there; first = refl; second = refl }) in
    let p : line.p < length job.packets = both.0 in
    let r : line.r < length job.packets = both.1 in
    let most = limits.packets in
    subst (λ (n : ℕ). LineFits n line) (let e : k ≡ 0 + k = omega arith in e)
    (record { number = omega arith; p = omega arith; r = omega arith; rule = rule_fits job c.lines k line.p line.r line.rule (omega arith) valid limits (lines k line there) })

-- ---- pair lines

small : (job : Job) (p : ℕ) → Limited job → IsPacket job p → IsSmall p
small job p limits h = let l = limits.packets in let q : p < length job.packets = h in omega arith

release_fits : (job : Job) (lines : List Line) (p r x x2 : ℕ) (link : Option ℕ) → length lines ≤ 2 ^ 32 → Limited job → ReleaseHolds job lines p r x x2 link → IsSmall x × IsSmall x2 × IsCited (length lines) link
release_fits job lines p r x x2 None few limits (e, fit) = (small job x limits fit.is_packet, subst (λ (y : ℕ). IsSmall y) e (small job x limits fit.is_packet), tt)
release_fits job lines p r x x2 (Some link) few limits (system, fit, s, on) = (small job x limits fit.is_packet, small job x2 limits on.is_packet, says_below lines (length lines) link x x2 few s)

acquire_fits : (job : Job) (lines : List Line) (p r y2 y : ℕ) (link : Option ℕ) → length lines ≤ 2 ^ 32 → Limited job → AcquireHolds job lines p r y2 y link → IsSmall y2 × IsSmall y × IsCited (length lines) link
acquire_fits job lines p r y2 y None few limits (e, fit) = (subst (λ (x : ℕ). IsSmall x) (sym e) (small job y limits fit.is_packet), small job y limits fit.is_packet, tt)
acquire_fits job lines p r y2 y (Some link) few limits (system, on, s, fit) = (small job y2 limits on.is_packet, small job y limits fit.is_packet, says_below lines (length lines) link y2 y few s)

fences_fit : (job : Job) (lines : List Line) (chained : Bool) (p r : ℕ) (fences : Fences) → length lines ≤ 2 ^ 32 → Limited job → (is_chain fences ≡ true → chained ≡ true) → FencesHold job lines p r fences → FencesFit chained (length lines) fences
fences_fit job lines ch p r (ForReadWrite line) few limits flag s = says_below lines (length lines) line p r few s
fences_fit job lines ch p r (ForWriteWrite x from on) few limits flag (fit, a, b) = (small job x limits fit.is_packet, cites_below lines (length lines) from p x few a, says_below lines (length lines) on x r few b)
fences_fit job lines ch p r (ForWriteRead x y from between to) few limits flag (fit, fit2, a, b, d) =
    (small job x limits fit.is_packet, small job y limits fit2.is_packet, cites_below lines (length lines) from p x few a, says_below lines (length lines) between x y few b, cites_below lines (length lines) to y r few d)
fences_fit job lines ch p r (ForWriteWriteChained x x2 from link on) few limits flag (release, a, b) =
    let f = release_fits job lines p r x x2 (Some link) few limits release in
    (flag refl, f.0, f.1, cites_below lines (length lines) from p x few a, f.2, says_below lines (length lines) on x2 r few b)
fences_fit job lines ch p r (ForWriteReadChained x x2 y2 y from link between link2 to) few limits flag (needed, release, acquire, a, b, d) =
    let f = release_fits job lines p r x x2 link few limits release in
    let g = acquire_fits job lines p r y2 y link2 few limits acquire in
    (flag refl, f.0, f.1, g.0, g.1, cites_below lines (length lines) from p x few a, f.2, says_below lines (length lines) between x2 y2 few b, g.2, cites_below lines (length lines) to y r few d)

chain_there : (ps : List Pair) (k : ℕ) (d : Pair) → k < length ps → is_chain (get_or ps k d).fences ≡ true → list_any (λ pair. is_chain pair.fences) ps ≡ true
chain_there [] k d l e = absurd (omega arith)
chain_there (p ∷ ps) zero d l e = rw e refl
chain_there (p ∷ ps) (suc k) d l e = by (is_chain p.fences) (chain_there ps k d (omega arith) e) where
  by : (b : Bool) → list_any (λ pair. is_chain pair.fences) ps ≡ true → (b || list_any (λ pair. is_chain pair.fences) ps) ≡ true
  by true h = refl
  by false h = h

pair_fits : (job : Job) (c : Certificate) → Limited job → length c.lines ≤ 2 ^ 32 → All (PairHolds job c.lines) c.pairs → (k : ℕ) (d : Pair) → k < length c.pairs → PairFits (has_chain c) (length c.lines) (get_or c.pairs k d)
pair_fits job c limits few holds k d l =
    let pair = get_or c.pairs k d in
    let h = holds k d l in
    record { p = small job pair.p limits h.0; r = small job pair.r limits h.1; fences = fences_fit job c.lines (has_chain c) pair.p pair.r pair.fences few limits (chain_there c.pairs k d l) h.2 }

-- ---- the whole

certificate_fits : (job : Job) (c : Certificate) → Valid job → Limited job → CertHolds job c → length c.lines ≤ 2 ^ 32 → CertificateFits (has_chain c) c
certificate_fits job c valid limits holds few =
    record {
      order = order_fits job c.order limits.packets holds.order.each_once;
      lines = lines_fit c.lines 0 (line_fits job c valid limits holds.lines few);
      pairs = all_by (PairFits (has_chain c) (length c.lines)) c.pairs (pair_fits job c limits few holds.pairs);
    }

pub printed_is_read : PrintedIsRead
printed_is_read job c valid limits holds few = printed_is_text c (certificate_fits job c valid limits holds few)
