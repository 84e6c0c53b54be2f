-- A contract of a public call rests on this: an order of the kinds of monitors.
use Rattle.std.specs.Prelude.{ℕ}
use Rattle.core_code.specs.declared.code.LockKind.{LockKind}
use Rattle.core_code.specs.declared.code.LockKind.TheVariants.{Own, Explicit}

abbrev pub lock_kind_number : LockKind → ℕ
lock_kind_number Own = 0
lock_kind_number Explicit = 1
