-- The nine words of a chained pair line.
use Rattle.std.proofs.Common.{◌≡◌, ℕ, ◌<◌, ◌≤◌, List, [], ◌∷◌, length, get_or, sym, ap, ◌∙◌, arith}
use Rattle.std.specs.Prelude.{map, Result}
use Rattle.hq_certread.specs.declared.fault.CertReason.{CertReason}
use Rattle.hq_certread.specs.declared.pairs.Packets.{Packets}
use Rattle.hq_certread.specs.declared.pairs.Numbers.{Numbers}
use Rattle.hq_certread.specs.LineTests.{packets_said, links_said, read_chain_of, read_chain_said}

pub nine : {W : Type 0} (v : W → List ℕ) (ws : List W) (count : ℕ) (da db dc dd de df dg dh di : W) (p : Result Packets CertReason) (n : Result Numbers CertReason) → 9 ≤ length ws → length ws < 10
    → p ≡ packets_said (v (get_or ws 0 da)) (v (get_or ws 1 db)) (v (get_or ws 2 dc)) (v (get_or ws 3 dd))
    → n ≡ links_said (v (get_or ws 4 de)) (v (get_or ws 5 df)) (v (get_or ws 6 dg)) (v (get_or ws 7 dh)) (v (get_or ws 8 di))
    → read_chain_said count (map v ws) ≡ read_chain_of count p n
unfolding read_chain_said
nine v [] count da db dc dd de df dg dh di p n low high hp hn = absurd (omega arith)
nine v (a ∷ []) count da db dc dd de df dg dh di p n low high hp hn = absurd (omega arith)
nine v (a ∷ b ∷ []) count da db dc dd de df dg dh di p n low high hp hn = absurd (omega arith)
nine v (a ∷ b ∷ c ∷ []) count da db dc dd de df dg dh di p n low high hp hn = absurd (omega arith)
nine v (a ∷ b ∷ c ∷ d ∷ []) count da db dc dd de df dg dh di p n low high hp hn = absurd (omega arith)
nine v (a ∷ b ∷ c ∷ d ∷ e ∷ []) count da db dc dd de df dg dh di p n low high hp hn = absurd (omega arith)
nine v (a ∷ b ∷ c ∷ d ∷ e ∷ f ∷ []) count da db dc dd de df dg dh di p n low high hp hn = absurd (omega arith)
nine v (a ∷ b ∷ c ∷ d ∷ e ∷ f ∷ g ∷ []) count da db dc dd de df dg dh di p n low high hp hn = absurd (omega arith)
nine v (a ∷ b ∷ c ∷ d ∷ e ∷ f ∷ g ∷ h ∷ []) count da db dc dd de df dg dh di p n low high hp hn = absurd (omega arith)
nine v (a ∷ b ∷ c ∷ d ∷ e ∷ f ∷ g ∷ h ∷ i ∷ []) count da db dc dd de df dg dh di p n low high hp hn = ap (λ x. read_chain_of count x (links_said (v e) (v f) (v g) (v h) (v i))) (sym hp) ∙ ap (λ x. read_chain_of count p x) (sym hn)
nine v (a ∷ b ∷ c ∷ d ∷ e ∷ f ∷ g ∷ h ∷ i ∷ j ∷ more) count da db dc dd de df dg dh di p n low high hp hn = absurd (omega arith)
