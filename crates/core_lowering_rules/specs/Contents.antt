-- A contract of a public call rests on this: the law `contents_are_of_containers`. Which fields of a program hold the
-- contents of containers.
use Rattle.std.specs.Prelude.{◌≡◌, ℕ, true, List}
use Rattle.std.specs.List.{Contains}
use Rattle.java_resolver.specs.declared.infos.FieldInfo.{FieldInfo}
use Rattle.core_code.specs.declared.parts.FieldCore.{FieldCore}
use Rattle.core_lowering_rules.specs.Cells.{content_core, is_container}

-- a field of a program is the content of one of these fields of a folder: of a container that has this name
pub record IsContentOf (fields : List FieldInfo) (name : List ℕ) (field : FieldCore) : Type 0 where
  pub info : FieldInfo
  pub declared : Contains fields info
  pub container : is_container info ≡ true
  pub named : info.name ≡ name
  pub is : field ≡ content_core info
