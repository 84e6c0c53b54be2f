-- A contract of a public call rests on this: `Folder`. What the count of a folder's faults does at each of its faults.
use Rattle.std.specs.Prelude.{◌≡◌, ℕ}
use Rattle.racer_base.specs.declared.outside.FolderFault.{FolderFault}
use Rattle.racer_base.specs.declared.outside.FolderFault.TheVariants.{Failed, Memory}
use Rattle.racer_base.specs.Outside.{IsRise}

-- `Failed` comes with a rise, and want of memory leaves the count as it was
abbrev pub IsCause : FolderFault → ℕ → ℕ → Type 0
IsCause Failed old new = IsRise old new
IsCause Memory old new = new ≡ old
