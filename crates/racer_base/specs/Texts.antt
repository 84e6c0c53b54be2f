-- A contract of a public call rests on this: all that speak of a `Text`. The bytes of a text, wherever they lie.
use Rattle.std.specs.Prelude.{ℕ, List, string_bytes}
use Rattle.racer_base.specs.declared.text.Inner.{Inner}
use Rattle.racer_base.specs.declared.text.Inner.TheVariants.{Short, Long}

abbrev pub bytes_of : Inner → List ℕ
bytes_of (Short text) = text.bytes
bytes_of (Long text) = string_bytes text
