-- What a queue's processor does, packet by packet: one part more, and the packets of a queue that stand one behind
-- another.
use Rattle.std.proofs.Common.{◌≡◌, ℕ, zero, suc, ◌+◌, ◌-◌, ◌<◌, ◌≤◌, ◌==◌, inl, inr, List, [], ◌∷◌, ◌++◌, length, map, filter, refl, sym, ◌∙◌, ap, subst, arith, Bool, true, false, append_assoc}
use Rattle.std.proofs.lemmas.Bool.{cases_eq, cases_lt, cond-true, cond-false, eq-eqb, eqb-true}
use Rattle.std.proofs.lemmas.List.{append-nil, map-append}
use Rattle.std.proofs.lemmas.List.Elements.{filter-append}
use Rattle.hq_model.specs.Job.{Job, packet, IsPacket}
use Rattle.hq_model.specs.Journal.{Coarse, Part, Parts, Program, numbers, packets_of}

-- ---- parts

-- The part of a further packet at the end.
pub parts_snoc : (job : Job) (ps : List ℕ) (p : ℕ) (list part : List Coarse) → Parts job ps list
    → Part job p (packet job p).kind part → Parts job (ps ++ p ∷ []) (list ++ part)
parts_snoc job [] p list part is h = (part, [], h, refl, ap (λ xs. xs ++ part) is ∙ sym (append-nil part))
parts_snoc job (r ∷ ps) p list part (first, rest, h, parts, is) more =
    let next = parts_snoc job ps p rest part parts more in
    (first, rest ++ part, h, next, ap (λ xs. xs ++ part) is ∙ append_assoc first rest part)

-- ---- the numbers from one up to another

-- The numbers from start up to, but not with, stop.
abbrev pub rising : ℕ → ℕ → List ℕ
rising start stop = map (λ k. start + k) (numbers (stop - start))

-- There are none where stop isn't above start.
pub rising_none : (start stop : ℕ) → stop ≤ start → rising start stop ≡ []
rising_none start stop l =
    let e : stop - start ≡ 0 = omega arith in
    ap (λ n. map (λ k. start + k) (numbers n)) e

rising_next : (start stop : ℕ) → start ≤ stop → rising start (suc stop) ≡ rising start stop ++ stop ∷ []
rising_next start stop l =
    let e : suc stop - start ≡ suc (stop - start) = omega arith in
    let last : start + (stop - start) ≡ stop = omega arith in
    ap (λ n. map (λ k. start + k) (numbers n)) e
    ∙ map-append (λ k. start + k) (numbers (stop - start)) ((stop - start) ∷ [])
    ∙ ap (λ k. rising start stop ++ k ∷ []) last

-- One number more.
pub rising_more : (start stop : ℕ) → start ≤ stop → rising start (stop + 1) ≡ rising start stop ++ stop ∷ []
rising_more start stop l =
    let e : stop + 1 ≡ suc stop = omega arith in
    ap (rising start) e ∙ rising_next start stop l

-- ---- the numbers that pass a test

not_true : (t : Bool) → (t ≡ true → ⊥) → t ≡ false
not_true true h = absurd (h refl)
not_true false h = refl

one_passes : (test : ℕ → Bool) (n : ℕ) → test n ≡ true
    → filter test (numbers (suc n)) ≡ filter test (numbers n) ++ n ∷ []
one_passes test n t =
    filter-append test (numbers n) (n ∷ [])
    ∙ ap (λ xs. filter test (numbers n) ++ xs) (cond-true (test n) (n ∷ []) [] t)

one_fails : (test : ℕ → Bool) (n : ℕ) → (test n ≡ true → ⊥) → filter test (numbers (suc n)) ≡ filter test (numbers n)
one_fails test n f =
    filter-append test (numbers n) (n ∷ [])
    ∙ ap (λ xs. filter test (numbers n) ++ xs) (cond-false (test n) (n ∷ []) [] (not_true (test n) f))
    ∙ append-nil (filter test (numbers n))

-- those from start on
passing_on : (test : ℕ → Bool) (start n : ℕ) → ((k : ℕ) → k < n → test k ≡ true → start ≤ k)
    → ((k : ℕ) → k < n → start ≤ k → test k ≡ true) → filter test (numbers n) ≡ rising start n
passing_on test start zero low high = sym (rising_none start zero (omega arith))
passing_on test start (suc n) low high =
    let before : filter test (numbers n) ≡ rising start n =
    passing_on test start n (λ k l t. low k (omega arith) t) (λ k l g. high k (omega arith) g) in
    elim (cases_lt n start) [
      | inl less ↦
          one_fails test n (λ t. let g : start ≤ n = low n (omega arith) t in omega arith)
          ∙ before
          ∙ rising_none start n (omega arith)
          ∙ sym (rising_none start (suc n) (omega arith))
      | inr least ↦
          one_passes test n (high n (omega arith) least)
          ∙ ap (λ xs. xs ++ n ∷ []) before
          ∙ sym (rising_next start n least)
    ]

-- those from start up to stop, where stop is within
passing_within : (test : ℕ → Bool) (start stop n : ℕ) → stop ≤ n
    → ((k : ℕ) → k < n → test k ≡ true → (start ≤ k) × (k < stop))
    → ((k : ℕ) → k < n → start ≤ k → k < stop → test k ≡ true)
    → filter test (numbers n) ≡ rising start stop
passing_within test start stop zero l low high = sym (rising_none start stop (omega arith))
passing_within test start stop (suc n) l low high = elim (cases_eq stop (suc n)) [
  | inl e ↦
      passing_on test start (suc n) (λ k h t. (low k h t).0) (λ k h g. high k h g (omega arith))
      ∙ ap (rising start) (sym e)
  | inr d ↦
      one_fails test n (λ t. let g : n < stop = (low n (omega arith) t).1 in omega arith)
      ∙ passing_within test start stop n (omega arith) (λ k h t. low k (omega arith) t)
      (λ k h g b. high k (omega arith) g b)
]

-- The numbers below n that pass a test are those from start up to stop, where just these pass.
pub passing_rise : (test : ℕ → Bool) (start stop n : ℕ) → start ≤ stop
    → ((k : ℕ) → k < n → test k ≡ true → (start ≤ k) × (k < stop))
    → ((k : ℕ) → start ≤ k → k < stop → (k < n) × (test k ≡ true)) → filter test (numbers n) ≡ rising start stop
passing_rise test start stop n order low high = elim (cases_lt n stop) [
  | inl less ↦ elim (cases_eq start stop) [
    | inl e ↦
        passing_on test start n (λ k h t. (low k h t).0) (λ k h g. absurd (omega arith))
        ∙ rising_none start n (omega arith)
        ∙ sym (rising_none start stop (omega arith))
    | inr d ↦
        let last : stop - 1 < n = (high (stop - 1) (omega arith) (omega arith)).0 in
        absurd (omega arith)
  ]
  | inr within ↦ passing_within test start stop n within low (λ k h g b. (high k g b).1)
]

-- ---- a queue's packets

-- The packets of a queue, where these are the ones from start up to stop.
pub queue_packets : (job : Job) (q start stop : ℕ) → start ≤ stop
    → ((p : ℕ) → IsPacket job p → (packet job p).queue ≡ q → (start ≤ p) × (p < stop))
    → ((p : ℕ) → start ≤ p → p < stop → IsPacket job p × ((packet job p).queue ≡ q))
    → packets_of job (λ p. (packet job p).queue == q) ≡ rising start stop
queue_packets job q start stop order only all =
    passing_rise (λ p. (packet job p).queue == q) start stop (length job.packets) order
    (λ p there t. only p there (eqb-true (packet job p).queue q t))
    (λ p low high. let (there, same) = all p low high in (there, eq-eqb (packet job p).queue q same))

-- One packet more.
pub parts_more : (job : Job) (start p : ℕ) (list part : List Coarse) → start ≤ p → Parts job (rising start p) list
    → Part job p (packet job p).kind part
    → Parts job (rising start (p + 1)) (list ++ part)
parts_more job start p list part l parts h =
    subst (λ ps. Parts job ps (list ++ part)) (sym (rising_more start p l))
    (parts_snoc job (rising start p) p list part parts h)

-- The parts of all of a queue's packets are its processor's program.
pub parts_program : (job : Job) (q start stop : ℕ) (list : List Coarse) → start ≤ stop
    → ((p : ℕ) → IsPacket job p → (packet job p).queue ≡ q → (start ≤ p) × (p < stop))
    → ((p : ℕ) → start ≤ p → p < stop → IsPacket job p × ((packet job p).queue ≡ q))
    → Parts job (rising start stop) list → Program job q list
parts_program job q start stop list order only all parts =
    subst (λ ps. Parts job ps list) (sym (queue_packets job q start stop order only all)) parts
