-- A contract of a public call rests on this: the law `record_paths_are_paths`. What paths records have.
use Rattle.std.specs.Prelude.{◌≡◌, ◌≤◌, List, [], ◌∷◌, length}
use Rattle.racer_base.specs.declared.ids.ClassId.{ClassId}
use Rattle.racer_base.specs.declared.ids.FieldId.{FieldId}
use Rattle.racer_base.specs.declared.limits.TheConstants.{MAX_PATH_FIELDS}
use Rattle.access_domain.specs.FlowContext.{field_at}
use Rattle.access_paths.specs.declared.path.Path.{Path}
use Rattle.access_paths.specs.declared.path.Root.TheVariants.{Some as SomeOf}
use Rattle.core_code.specs.Core.{Core}

-- these fields are one alone, which is of this class
pub record IsOneOf (class_of : FieldId → ClassId) (c : ClassId) (fields : List FieldId) : Type 0 where
  pub field : FieldId
  pub is : fields ≡ field ∷ []
  pub class : class_of field ≡ c

-- behind some object of a class stands one field alone, which is of that class
abbrev pub HasOneBehindSome : (FieldId → ClassId) → Path → Type 0
HasOneBehindSome class_of p = (c : ClassId) → p.root ≡ SomeOf c → IsOneOf class_of c p.fields

-- a path has at most sixteen fields, and one of some object of a class has just one, which that class declares
pub record IsPath (core : Core) (p : Path) : Type 0 where
  pub limit : length p.fields ≤ MAX_PATH_FIELDS
  pub some : HasOneBehindSome (λ f. (field_at core f).class) p
