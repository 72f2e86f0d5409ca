-- Bytes that are read at once.
use Rattle.std.proofs.Common.{◌≡◌, ℕ, zero, suc, ◌<◌, inl, inr, List, ◌==◌, Bool, false, Option, Some, None, unwrap_or, length, map, get_or, sym, ◌∙◌, ap, arith}
use Rattle.std.proofs.lemmas.Bool.{true≢false}
use Rattle.std.proofs.lemmas.List.{length-map, get_or-map, take_all}
use Rattle.hq_model.specs.Job.{Job, packet, IsPacket}
use Rattle.hq_model.specs.Machine.{bytes_read}
use Rattle.hq_model.proofs.Given.{listed_is}
use Rattle.hq_machine.specs.State.{StateValue}
use Rattle.hq_machine.specs.View.{IsStateOf, row_of, state_of}

pub not_empty : (n : ℕ) (b : Bool) → b ≡ (n == 0) → b ≡ false → 0 < n
not_empty zero b e f = absurd (true≢false (sym e ∙ f))
not_empty (suc n) b e f = omega arith

-- what a packet has read at once is what it has read
pub whole_read : (job : Job) (v : StateValue) (p : ℕ) (w : List ℕ) → IsStateOf job v → IsPacket job p → 0 < length w → row_of v.reads p ≡ map Some w → w ≡ bytes_read job (state_of job v) p
whole_read job v p w k is some e =
    let n : ℕ = length (packet job p).reads in
    let row : length (row_of v.reads p) ≡ length w = ap length e ∙ length-map w Some in
    let len : length w ≡ n = elim (k.read_rows p is) [ inl none ↦ absurd (omega (arith, none, row, some)) | inr all ↦ omega (arith, all, row) ] in
    sym (take_all n w (omega (arith, len))) ∙ sym (listed_is n (λ i. unwrap_or ((state_of job v).read p i) 0) w (omega (arith, len)) (λ i l.
    ap (λ (r : List (Option ℕ)). unwrap_or (get_or r i None) 0) e ∙ ap (λ (o : Option ℕ). unwrap_or o 0) (get_or-map Some w i 0 None (omega (arith, l, len)))))
