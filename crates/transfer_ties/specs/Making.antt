-- A contract of a public call rests on this: what is answered where something may have no partner.
use Rattle.std.specs.Prelude.{◌≡◌, Option, None, Some, Result, Ok, Err}
use Rattle.transfer_ties.specs.declared.untied.Untied.{Untied}
use Rattle.transfer_ties.specs.declared.untied.Untied.TheVariants.{NoPartner, Memory}

-- this is given, or nothing where there is none; or memory was refused
abbrev pub IsGiven : {X : Type 0} → Option X → Result X Untied → Type 0
IsGiven wanted (Ok x) = wanted ≡ Some x
IsGiven wanted (Err NoPartner) = wanted ≡ None
IsGiven wanted (Err Memory) = Unit {0}
