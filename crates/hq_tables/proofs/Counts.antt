-- How many packets complete on a signal, by the tables.
use Rattle.std.proofs.Common.{◌≡◌, ℕ, ◌<◌, ◌≤◌, Bool, false, length, Option, Some, None, refl, arith, IfSome, count_by}
use Rattle.std.proofs.lemmas.Bool.{ne_eqb}
use Rattle.std.proofs.lemmas.List.Elements.{All-weaker}
use Rattle.hq_model.specs.Job.{is_signal}
use Rattle.hq_tables.specs.declared.rows.Placed.{Placed}
use Rattle.hq_tables.specs.Tables.{Tables}
use Rattle.hq_tables.specs.Fits.{TablesFit, PacketFits}
use Rattle.hq_tables.proofs.Lists.{count_none}

abbrev pub on : ℕ → Placed → Bool
on s p = is_signal s p.done

not_on : (k n : ℕ) (o : Option ℕ) → n ≤ k → IfSome o (λ j. j < n) → is_signal k o ≡ false
not_on k n None l h = refl
not_on k n (Some j) l h = ne_eqb j k (λ e. omega arith)

pub none_past : (ts : Tables) → TablesFit ts → (s : ℕ) → length ts.signals ≤ s → count_by (on s) ts.placed ≡ 0
none_past ts fits s high = count_none (on s) ts.placed (All-weaker (PacketFits ts) (λ p. on s p ≡ false) (λ p h. not_on s (length ts.signals) p.done high h.done) ts.placed fits.packets)
