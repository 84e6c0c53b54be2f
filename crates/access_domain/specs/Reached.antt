-- A contract of a public call rests on this: the path of an access, by the value of the field that it touches.
use Rattle.std.specs.Prelude.{Option, None, Some}
use Rattle.racer_base.specs.declared.ids.FieldId.{FieldId}
use Rattle.access_paths.specs.declared.path.Path.{Path}
use Rattle.access_paths.specs.Paths.{some_path}
use Rattle.owner_domain.specs.declared.value.Value.{Value}
use Rattle.owner_domain.specs.declared.value.Value.TheVariants.{Owned, Named, Unnamed}
use Rattle.core_code.specs.Core.{Core}
use Rattle.access_domain.specs.FlowContext.{field_at}

-- none where the object is owned, and `some c . f` where the field has no name
abbrev pub reached_path : Core → Value → FieldId → Option Path
reached_path core Owned f = None
reached_path core (Named p) f = Some p
reached_path core Unnamed f = Some (some_path (field_at core f).class f)
