-- A contract of a public call rests on this: `contents_race`. Two threads meet at what a container holds.
use Rattle.std.specs.Prelude.{◌≡◌, ◌⊎◌, ℕ, List, Some}
use Rattle.racer_base.specs.declared.ids.FieldId.{FieldId}
use Rattle.racer_base.specs.declared.ids.Touch.{Touch}
use Rattle.racer_base.specs.declared.ids.Touch.TheVariants.{Write}
use Rattle.java_resolver.specs.declared.infos.FieldInfo.{FieldInfo}
use Rattle.core_code.specs.Core.{Core}
use Rattle.core_code.specs.declared.parts.FieldCore.{FieldCore}
use Rattle.core_lowering_rules.specs.Contents.{IsContentOf}
use Rattle.core_semantics.specs.declared.object.Object.{Object}
use Rattle.core_semantics.specs.declared.object.Start.TheVariants.{Only}
use Rattle.core_semantics.specs.declared.object.StartPath.{StartPath}
use Rattle.core_semantics.specs.Legs.{Leg, run}
use Rattle.core_semantics.specs.Runs.{begun, next_touch}
use Rattle.core_semantics.specs.State.{State}
use Rattle.race_pairs.specs.declared.warning.Warning.{Warning}

-- These legs, run from the beginning where these start paths with a field are objects and no others, come to a state in
-- which the next steps of both threads touch this field of one object, and at least one of them writes it. The field is
-- the content of a container of this name, one of these fields of a folder.
pub record MeetAtContent (core : Core) (w : Warning) (objects : List StartPath) (legs : List Leg) (f : FieldId)
    (fields : List FieldInfo) (name : List ℕ) (field : FieldCore) : Type 0 where
  pub end : State
  pub runs : run core legs (begun core w.entry w.partner (Only objects)) ≡ Some end
  pub object : Object
  pub first : Touch
  pub second : Touch
  pub entry : next_touch end 0 ≡ Some (object, f, first)
  pub partner : next_touch end 1 ≡ Some (object, f, second)
  pub changes : (first ≡ Write) ⊎ (second ≡ Write)
  pub content : IsContentOf fields name field
