-- A contract of a public call rests on this: what an answer that is no table says.
use Rattle.std.specs.Prelude.{◌≡◌, ◌⊎◌, Option, Some}
use Rattle.java_resolver.specs.declared.fault.ResolveFault.{ResolveFault}
use Rattle.java_resolver.specs.declared.fault.ResolveFault.TheVariants as fault

-- memory was refused, or this is the fault that there is
abbrev pub IsFault : Option ResolveFault → ResolveFault → Type 0
IsFault there given = (given ≡ fault.Memory) ⊎ (there ≡ Some given)
