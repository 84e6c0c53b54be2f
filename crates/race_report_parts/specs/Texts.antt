-- A contract of a public call rests on this: the texts of places, methods, paths, records, values and reasons.
use Rattle.std.specs.Prelude.{ℕ, List, [], ◌++◌, codes, length, map, if◌then◌else◌}
use Rattle.std.specs.Fmt.{decimal}
use Rattle.racer_base.specs.declared.ids.Place.{Place}
use Rattle.racer_base.specs.declared.ids.Touch.{Touch}
use Rattle.racer_base.specs.declared.ids.Touch.TheVariants.{Read, Write}
use Rattle.core_code.specs.declared.code.Reason.{Reason}
use Rattle.core_code.specs.declared.code.Reason.TheVariants.{Overload, Outside, Parameters, Locals, Operations}
use Rattle.core_code.specs.declared.code.Reason.TheVariants.{Recursive}
use Rattle.core_code.specs.declared.parts.ClassCore.{ClassCore}
use Rattle.core_code.specs.declared.parts.FieldCore.{FieldCore}
use Rattle.core_code.specs.Core.{Core, Method}
use Rattle.access_paths.specs.declared.path.Path.{Path}
use Rattle.access_paths.specs.Text as paths
use Rattle.owner_domain.specs.declared.value.Value.{Value}
use Rattle.owner_domain.specs.declared.value.Value.TheVariants.{Owned, Named, Unnamed}
use Rattle.access_domain.specs.declared.access.Access.{Access}

abbrev pub class_names : Core → List (List ℕ)
class_names core = map (λ (c : ClassCore). c.name) core.classes

abbrev pub field_names : Core → List (List ℕ)
field_names core = map (λ (f : FieldCore). f.name) core.fields

-- LINE:COLUMN
abbrev pub line_text : Place → List ℕ
line_text place = decimal place.line ++ codes ":" ++ decimal place.column

-- FILE:LINE:COLUMN
abbrev pub place_text : Core → Place → List ℕ
place_text core place = paths.name_at core.files place.file.0 ++ codes ":" ++ line_text place

-- CLASS.NAME/PARAMETERS
abbrev pub method_text : Core → Method → List ℕ
method_text core method =
    let class = paths.name_at (class_names core) method.class.0 in
    class ++ codes "." ++ method.name ++ codes "/" ++ decimal (length method.parameters)

abbrev pub path_text : Core → Path → List ℕ
path_text core = paths.path_text (class_names core) (field_names core)

abbrev pub touch_text : Touch → List ℕ
touch_text Read = codes "read"
touch_text Write = codes "write"

-- KIND PATH, and then `locked` and `main` where the record is
abbrev pub record_text : Core → Access → List ℕ
record_text core access =
    touch_text access.kind ++ codes " " ++ path_text core access.path
    ++ (if access.locked then codes " locked" else []) ++ (if access.main then codes " main" else [])

-- what a method returns
abbrev pub value_text : Core → Value → List ℕ
value_text core Owned = codes "owned"
value_text core Unnamed = codes "unnamed"
value_text core (Named path) = path_text core path

abbrev pub reason_text : Reason → List ℕ
reason_text Overload = codes "overload"
reason_text Outside = codes "outside"
reason_text Parameters = codes "parameters"
reason_text Locals = codes "locals"
reason_text Operations = codes "operations"
reason_text Recursive = codes "recursive"
