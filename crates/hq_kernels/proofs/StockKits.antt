-- Kits of stock bodies.
use Rattle.std.proofs.Common.{◌≡◌, ℕ, zero, suc, ◌≤◌, false, List, [], ◌∷◌, ◌++◌, length, take, map, refl, sym, ap, subst, ◌∙◌, take_all, arith, All}
use Rattle.std.specs.Prelude.{filter}
use Rattle.std.proofs.lemmas.List.{map-append}
use Rattle.std.proofs.lemmas.List.Elements.{All-append, All-map}
use Rattle.hq_tables.specs.declared.rows.Placed.{Placed}
use Rattle.hq_kernels.specs.Kits.{BodySeen, ForEither, AreFor, AreStockKits, BodiesFit, IsEmptyStock, is_work}

-- the new stock body of a packet
abbrev pub stock_of : Placed → BodySeen
stock_of placed = record { sort = ForEither; value = record { task = placed.work.task; held = []; ran = false } }

stocks_fit : (packets : List Placed) → AreFor packets (map stock_of packets)
stocks_fit [] = tt
stocks_fit (placed ∷ packets) = (record { kind = tt; task = refl; fresh = refl }, stocks_fit packets)

-- the bodies that were made for the first packets, which are all
pub stock_bodies_fit : (packets : List Placed) (bodies : List BodySeen) (i : ℕ) → length packets ≤ i
    → bodies ≡ map stock_of (filter (λ placed. is_work placed.packet) (take i packets)) → BodiesFit packets bodies
stock_bodies_fit packets bodies i all are =
    let works = filter (λ placed. is_work placed.packet) packets in
    let whole : take i packets ≡ packets = take_all i packets all in
    subst (λ bodies. AreFor works bodies) (sym (are ∙ ap (λ ps. map stock_of (filter (λ placed. is_work placed.packet) ps)) whole)) (stocks_fit works)

-- bodies that were made for packets are stock bodies that hold no piece
pub stock_bodies_empty : (packets : List Placed) (bodies : List BodySeen) → bodies ≡ map stock_of packets → All IsEmptyStock bodies
stock_bodies_empty packets bodies are =
    subst (All IsEmptyStock) (sym are) (All-map IsEmptyStock stock_of packets (λ k d low. record { stock = refl; empty = refl }))

one : {X : Type 0} (P : X → Type 0) (x : X) → P x → All P (x ∷ [])
one P x p zero d l = p
one P x p (suc k) d l = absurd (omega arith)

-- one more kit of stock bodies
pub stock_kits_pushed : {K : Type 0} (f : K → List BodySeen) (kits new : List K) (kit : K) → new ≡ kits ++ kit ∷ [] → AreStockKits (map f kits)
    → All IsEmptyStock (f kit) → AreStockKits (map f new)
stock_kits_pushed f kits new kit are before here =
    subst AreStockKits (sym (ap (map f) are ∙ map-append f kits (kit ∷ [])))
    (All-append (λ bodies. All IsEmptyStock bodies) (map f kits) (f kit ∷ []) before (one (λ bodies. All IsEmptyStock bodies) (f kit) here))
