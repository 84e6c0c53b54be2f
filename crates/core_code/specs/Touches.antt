-- A contract of a public call rests on this: which touches of a field write it (JLS 17.4.1).
use Rattle.std.specs.Prelude.{Bool, true, false}
use Rattle.racer_base.specs.declared.ids.Touch.{Touch}
use Rattle.racer_base.specs.declared.ids.Touch.TheVariants.{Read, Write}

abbrev pub is_write : Touch → Bool
is_write Read = false
is_write Write = true
