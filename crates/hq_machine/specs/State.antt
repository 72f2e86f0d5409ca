-- What contracts see of a `State`: lists, and the maps of copies.
use Rattle.std.specs.Prelude.{ℕ, Bool, List, Option, refl}
use Rattle.std.specs.Coded.{Coded, code_by, coded×, coded_ℕ, coded_bool, coded_list, coded_option}
use Rattle.hq_copies.specs.Copies.{CopiesValue, copies_code}
use Rattle.hq_events.specs.Phases.{phase_code}
use Rattle.hq_events.specs.Rows.{StoresValue, stores_code}
use Rattle.hq_model.specs.Machine as machine

-- Of each packet its phase, which of its slots it has observed, the bytes that it has read (none before the first
-- of them), and its stores; each signal's value; memory and the copies.
pub record StateValue : Type 0 where
  pub phases : List machine.Phase
  pub observed : List (List Bool)
  pub reads : List (List (Option ℕ))
  pub stores : List StoresValue
  pub signals : List ℕ
  pub copies : CopiesValue

-- states are told apart by their lists and copies
abbrev pub state_code : Coded StateValue
state_code =
    code_by (List machine.Phase
    × (List (List Bool) × (List (List (Option ℕ)) × (List StoresValue × (List ℕ × CopiesValue)))))
    (coded× (coded_list phase_code)
    (coded× (coded_list (coded_list coded_bool))
    (coded× (coded_list (coded_list (coded_option coded_ℕ)))
    (coded× (coded_list stores_code) (coded× (coded_list coded_ℕ) copies_code)))))
    (λ s. (s.phases, (s.observed, (s.reads, (s.stores, (s.signals, s.copies))))))
    (λ t. record {
      phases = t.0;
      observed = t.1.0;
      reads = t.1.1.0;
      stores = t.1.1.1.0;
      signals = t.1.1.1.1.0;
      copies = t.1.1.1.1.1;
    })
    (λ _. refl)
