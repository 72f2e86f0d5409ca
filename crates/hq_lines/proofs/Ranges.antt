-- What a line says is in its ranges.
use Rattle.std.proofs.Common.{◌≡◌, ℕ, ◌*◌, List, length, arith, subst, sym, replicate}
use Rattle.std.specs.Prelude.{Result, Ok, Err, IfOk}
use Rattle.std.proofs.lemmas.List.{length-replicate}
use Rattle.hex.proofs.HexLemmas.{decode_of-ok}
use Rattle.hq_text.specs.Lines.{words_of}
use Rattle.hq_lines.specs.declared.fault.LineFault.{LineFault}
use Rattle.hq_lines.specs.Fits.{Between, Fits}
use Rattle.hq_lines.specs.Meaning.{Meaning}
use Rattle.hq_lines.specs.Says.{IsWithin, Spells, Says, SaysLine, agent, zeros, buffer, args, signal, kernel, queue, to, packets, ends}

between : (low high : ℕ) (word : List ℕ) (n : ℕ) → IsWithin low high word n → Between low high n
between low high word n h = record { from = h.from; upto = h.upto }

zeros_len : (n : ℕ) → Between 1 65536 n → (let zero : ℕ = 0 in Between 1 65536 (length (replicate n zero)))
zeros_len n h = let zero : ℕ = 0 in subst (λ (k : ℕ). Between 1 65536 k) (sym (length-replicate n zero)) h

bytes_len : (digits bytes : List ℕ) (n : ℕ) → length digits ≡ 2 * n → Spells digits bytes → Between 1 65536 n → Between 1 65536 (length bytes)
bytes_len digits bytes n two h b =
    let d : length digits ≡ 2 * length bytes = (decode_of-ok digits bytes h).2 in
    let same : n ≡ length bytes = omega arith in
    subst (λ (k : ℕ). Between 1 65536 k) same b

says_fits : (words : List (List ℕ)) (m : Meaning) → Says words m → Fits m
says_fits words m (agent name n) = n
says_fits words m (zeros name addr len at c n a l) = (n, between _ _ addr at a, zeros_len c (between _ _ len c l))
says_fits words m (buffer name addr len digits at c bytes n a l two d) = (n, between _ _ addr at a, bytes_len digits bytes c two d (between _ _ len c l))
says_fits words m (args name addr digits at bytes n a d some short) = (n, between _ _ addr at a, record { from = some; upto = short })
says_fits words m (signal name h s handle start n a b) = (n, between _ _ h handle a, b.upto)
says_fits words m (kernel name o c object kind n k a) = (n, between _ _ o object a)
says_fits words m (queue name owner s size n o a p) = (n, o, between _ _ s size a, p)
says_fits words m (to name n) = n
says_fits words m (packets digits bytes p len spelled text) = tt
says_fits words m ends = tt

pub found_fits : {X : Type 0} (v : X → Meaning) (r : Result X LineFault) (line : List ℕ) → IfOk r (λ l. SaysLine line (v l)) → IfOk r (λ l. Fits (v l))
found_fits v (Ok l) line h = says_fits (words_of line) (v l) h.words
found_fits v (Err e) line h = tt
