-- How far fences reach. Standard, "Architected Queuing Language (AQL)".
use Rattle.std.specs.Prelude.{Bool, true, false}
use Rattle.hq_packet.specs.declared.packet.Scope.{Scope}
use Rattle.hq_packet.specs.declared.packet.Scope.TheVariants as scope

-- whether a fence of the first scope reaches as far as the second: none, then agent, then system
abbrev pub reaches : Scope → Scope → Bool
reaches fence scope.None = true
reaches scope.None scope.Agent = false
reaches scope.Agent scope.Agent = true
reaches scope.System scope.Agent = true
reaches scope.None scope.System = false
reaches scope.Agent scope.System = false
reaches scope.System scope.System = true
