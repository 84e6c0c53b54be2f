-- A contract of a public call rests on this: the limit of a method's code.
use Rattle.std.specs.Prelude.{Bool, true, false}
use Rattle.core_lowering_methods.specs.declared.bodies.Extent.{Extent}
use Rattle.core_lowering_methods.specs.declared.bodies.Extent.TheVariants as extent

abbrev pub is_past : Extent → Bool
is_past extent.Within = false
is_past extent.Past = true
