-- A contract of a public call rests on this: what is seen of a `Program`.
use Rattle.std.specs.Prelude.{ℕ, List, map}
use Rattle.racer_base.specs.declared.ids.Place.{Place}
use Rattle.core_code.specs.declared.parts.ClassCore.{ClassCore}
use Rattle.core_code.specs.declared.parts.FieldCore.{FieldCore}
use Rattle.core_code.specs.declared.program.Program.{Program}
use Rattle.core_code.specs.Core.{Core, Method, core_of}

abbrev pub core : Program → Core
core p = core_of p.parts

abbrev pub files : Program → List (List ℕ)
files p = (core p).files

abbrev pub skipped : Program → List Place
skipped p = (core p).skipped

abbrev pub classes : Program → List ClassCore
classes p = (core p).classes

abbrev pub fields : Program → List FieldCore
fields p = (core p).fields

abbrev pub methods : Program → List Method
methods p = (core p).methods

abbrev pub class_names : Program → List (List ℕ)
class_names p = map (λ (c : ClassCore). c.name) (classes p)

abbrev pub field_names : Program → List (List ℕ)
field_names p = map (λ (f : FieldCore). f.name) (fields p)
