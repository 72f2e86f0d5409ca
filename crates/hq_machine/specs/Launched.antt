-- Which packets are known as launched.
use Rattle.std.specs.Prelude.{◌≡◌, ℕ, ◌<◌, ◌≤◌, List, true, All}
use Rattle.hq_model.specs.Machine as machine
use Rattle.hq_model.specs.Machine.{is_launched}
use Rattle.hq_model.specs.View.{phases_of}
use Rattle.hq_machine.specs.declared.state.Stretch.{Stretch}

-- all packets of the stretch are launched
pub record IsLaunched (phases : List machine.Phase) (s : Stretch) : Type 0 where
  pub each : (first : machine.Phase) (e : ℕ) → s.start ≤ e → e < s.end → is_launched (phases_of first phases e) ≡ true

-- those of each stretch are
abbrev pub AreLaunched : List machine.Phase → List Stretch → Type 0
AreLaunched phases stretches = All (IsLaunched phases) stretches
