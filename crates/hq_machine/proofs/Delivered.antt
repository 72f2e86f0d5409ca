-- All stores of a packet at once are its stores one after another.
use Rattle.std.proofs.Common.{◌≡◌, ℕ, zero, suc, ◌+◌, ◌<◌, true, false, List, ◌∷◌, ◌++◌, length, take, replicate, set, slice_index, refl, sym, ◌∙◌, ap, subst, arith}
use Rattle.std.proofs.lemmas.List.{append-nil, length-replicate, length-take-le, take_more, take_all}
use Rattle.hq_model.specs.Job.{Job, packet, IsPacket}
use Rattle.hq_model.specs.Machine.{bytes_stored}
use Rattle.hq_model.specs.Journal.Coarse.{Deliver}
use Rattle.hq_model.specs.Theorems.{Valid}
use Rattle.hq_copies.specs.Copies.{CopiesValue, stored, stored_run}
use Rattle.hq_copies.proofs.StoredRuns.{stored_more}
use Rattle.hq_events.proofs.Replicated.{of_replicate}
use Rattle.hq_events.specs.Rows.{StoresValue}
use Rattle.hq_machine.proofs.EachStore.{DeliveredUpTo, delivered_first, delivered_more}
use Rattle.hq_machine.specs.Changes.{Applied, with_byte_stored, with_stores}
use Rattle.hq_machine.specs.Entries.{MayDeliver}
use Rattle.hq_machine.specs.State.{StateValue}
use Rattle.hq_machine.specs.View.{IsStateOf, state_of}

set_next : (n m : ℕ) → set (replicate n true ++ replicate (suc m) false) n true ≡ replicate (suc n) true ++ replicate m false
set_next zero m = refl
set_next (suc n) m = ap (λ t. true ∷ t) (set_next n m)

delivered_run : (job : Job) (v : StateValue) (p at : ℕ) (bytes : List ℕ) → Valid job → IsStateOf job v → MayDeliver job (state_of job v) p → 0 < length (packet job p).writes → bytes ≡ bytes_stored job (state_of job v) p → length bytes ≡ length (packet job p).writes
    → ((i : ℕ) → i < length (packet job p).writes → slice_index (packet job p).writes i ≡ at + i)
    → (n m : ℕ) → n + m ≡ length (packet job p).writes → DeliveredUpTo job v p n (record { bytes = bytes; stored = replicate n true ++ replicate m false }) (stored_run v.copies p at (take n bytes))
delivered_run job v p at bytes valid k may some is count place zero m e =
    delivered_first job v p (record { bytes = bytes; stored = replicate m false }) k may some is (length-replicate m false ∙ omega (arith, e)) (λ j. of_replicate m j false)
delivered_run job v p at bytes valid k may some is count place (suc n) m e =
    let s : StoresValue = record { bytes = bytes; stored = replicate n true ++ replicate (suc m) false } in
    let copies : CopiesValue = stored_run v.copies p at (take n bytes) in
    let f : DeliveredUpTo job v p n s copies = delivered_run job v p at bytes valid k may some is count place n (suc m) (omega (arith, e)) in
    let few : n < length (packet job p).writes = omega (arith, e) in
    let next : DeliveredUpTo job v p (n + 1) (with_byte_stored s n) (stored copies p (at + n) (slice_index bytes n)) = delivered_more job v p n (at + n) (slice_index bytes n) s copies valid k may f few (sym (place n few)) refl in
    let size : length (take n bytes) ≡ n = length-take-le n bytes (omega (arith, count)) in
    let one : stored_run v.copies p at (take (n + 1) bytes) ≡ stored copies p (at + n) (slice_index bytes n) =
    ap (stored_run v.copies p at) (take_more bytes n 0 (omega (arith, count))) ∙ stored_more v.copies p at (take n bytes) (slice_index bytes n) ∙ ap (λ i. stored copies p (at + i) (slice_index bytes n)) size in
    let up : n + 1 ≡ suc n = omega arith in
    subst (λ i. DeliveredUpTo job v p i (record { bytes = bytes; stored = replicate (suc n) true ++ replicate m false }) (stored_run v.copies p at (take i bytes))) up
    (subst (λ c. DeliveredUpTo job v p (n + 1) (record { bytes = bytes; stored = replicate (suc n) true ++ replicate m false }) c) (sym one)
    (subst (λ row. DeliveredUpTo job v p (n + 1) (record { bytes = bytes; stored = row }) (stored copies p (at + n) (slice_index bytes n))) (set_next n m) next))

pub delivered_all : (job : Job) (v : StateValue) (p at : ℕ) (bytes : List ℕ) → Valid job → IsStateOf job v → IsPacket job p → MayDeliver job (state_of job v) p → 0 < length (packet job p).writes → bytes ≡ bytes_stored job (state_of job v) p → length bytes ≡ length (packet job p).writes
    → ((i : ℕ) → i < length (packet job p).writes → slice_index (packet job p).writes i ≡ at + i)
    → Applied job v (Deliver p) (with_stores v p (record { bytes = bytes; stored = replicate (length bytes) true }) (stored_run v.copies p at bytes))
delivered_all job v p at bytes valid k there may some is count place =
    let n = length (packet job p).writes in
    let none : n + 0 ≡ n = omega arith in
    let f = delivered_run job v p at bytes valid k may some is count place n 0 none in
    let all : take n bytes ≡ bytes = take_all n bytes (omega (arith, count)) in
    let row : replicate n true ++ replicate 0 false ≡ replicate (length bytes) true = append-nil (replicate n true) ∙ ap (λ i. replicate i true) (sym count) in
    let g =
    subst (λ b. DeliveredUpTo job v p n (record { bytes = bytes; stored = replicate (length bytes) true }) (stored_run v.copies p at b)) all
    (subst (λ r. DeliveredUpTo job v p n (record { bytes = bytes; stored = r }) (stored_run v.copies p at (take n bytes))) row f) in
    record { is = g.is; happens = (there, g.steps) }
