-- A contract of a public call rests on this: `demand_at`. What an answer of a demand says.
use Rattle.std.specs.Prelude.{⊤}
use Rattle.std.specs.Arc.{arc_value}
use Rattle.summary_store.specs.declared.demand.Demand.{Demand}
use Rattle.summary_store.specs.declared.demand.Demand.TheVariants.{Found, Parked, Memory}

abbrev pub IfFound : {P : Type 0} → Demand P → (P → Type 0) → Type 0
IfFound (Found piece) Q = Q (arc_value piece)
IfFound Parked Q = ⊤
IfFound Memory Q = ⊤

abbrev pub IfParked : {P : Type 0} → Demand P → Type 0 → Type 0
IfParked (Found piece) Q = ⊤
IfParked Parked Q = Q
IfParked Memory Q = ⊤

abbrev pub IfMemory : {P : Type 0} → Demand P → Type 0 → Type 0
IfMemory (Found piece) Q = ⊤
IfMemory Parked Q = ⊤
IfMemory Memory Q = Q
