-- No public contract rests on this: what is stored, and which start paths are objects, as functions.
use Rattle.std.specs.Prelude.{Bool, ◌&&◌, Option, None, Some, if◌then◌else◌}
use Rattle.racer_base.specs.declared.ids.FieldId.{FieldId}
use Rattle.access_paths.specs.Paths.{same_field}
use Rattle.core_semantics.specs.declared.object.StartPath.{StartPath}
use Rattle.core_semantics.specs.declared.object.Object.{Object}
use Rattle.core_semantics.specs.declared.object.Object.TheVariants.{Start}
use Rattle.core_semantics.specs.declared.object.Value.{Value}
use Rattle.core_semantics.specs.declared.object.Value.TheVariants.{Null, Object as Ref}
use Rattle.core_semantics.specs.Objects.{same_object}

abbrev pub none_stored : Object → FieldId → Option Value
none_stored o f = None

-- a value stored in a field of an object
abbrev pub put_in : (Object → FieldId → Option Value) → Object → FieldId → Value → Object → FieldId → Option Value
put_in cells o f v = λ p g. if same_object o p && same_field f g then Some v else cells p g

-- the object of a start path, or null where it is none
abbrev pub admitted : (StartPath → Bool) → StartPath → Value
admitted heap p = if heap p then Ref (Start p) else Null
