-- What is known of a program and a method where code of the method is lowered.
use Rattle.std.proofs.Common.{◌≡◌, Bool, true, false, cond, List, ◌∷◌, Some, None, is_none, slice_get}
use Rattle.racer_base.specs.declared.ids.ClassId.{ClassId}
use Rattle.racer_base.specs.declared.ids.FieldId.{FieldId}
use Rattle.racer_base.specs.declared.ids.MethodId.{MethodId}
use Rattle.racer_base.specs.declared.ids.Kind.{Kind}
use Rattle.racer_base.specs.declared.ids.Kind.TheVariants.{Plain, Declared}
use Rattle.container_cells.specs.declared.cell.Cell.{Cell}
use Rattle.java_resolver.specs.declared.infos.FieldInfo.{FieldInfo}
use Rattle.java_resolver.specs.declared.infos.MethodInfo.{MethodInfo}
use Rattle.java_resolver.specs.declared.scope.ScopeVariable.{ScopeVariable}
use Rattle.core_code.specs.Core.{Core, Method}
use Rattle.core_code.specs.Calls.{method_at, taken_by}
use Rattle.core_code.specs.Calls as core_calls
use Rattle.core_code.specs.KindCheck.{field_at, variable_at}
use Rattle.core_lowering_rules.specs.Context.{Context, Folder, Guard, Result, Itself, Nothing, Value}
use Rattle.core_lowering_rules.specs.Cells.{content_core}
use Rattle.core_lowering_rules.specs.Programs.{field_core}
use Rattle.core_lowering_rules.proofs.FoundElements.{Each}

-- what a method takes
abbrev pub taken_of : MethodInfo → List Kind
taken_of info = cond info.is_static info.parameters (Declared info.class ∷ info.parameters)

-- the program has this method, of which this is known
pub record HasMethod (core : Core) (n : MethodId) (info : MethodInfo) : Type 0 where
  pub method : Method
  pub there : method_at core n ≡ Some method
  pub takes : taken_by method ≡ taken_of info
  pub gives : method.result ≡ info.result
  pub analysed : is_none method.status ≡ true

abbrev pub IsVariable : Method → ScopeVariable → Type 0
IsVariable m v = variable_at m v.id ≡ Some v.kind

-- what the method gives
abbrev pub IsResult : Method → Result → Type 0
IsResult m Itself =
    (c : ClassId) × (variable_at m (record { 0 = 0 }) ≡ Some (Declared c)) × (m.result ≡ Declared c)
IsResult m Nothing = m.result ≡ Plain
IsResult m (Value k) = m.result ≡ k

-- what is returned through a `finally` is kept in a variable of the kind of the result
abbrev pub IsGuard : Method → Guard → Type 0
IsGuard m guard = elim guard.variable [ None ↦ Unit {0} | Some v ↦ variable_at m v ≡ Some m.result ]

-- what the program has of the folder
pub record FolderStands (core : Core) (folder : Folder) : Type 0 where
  pub fields : (f : FieldId) (info : FieldInfo) → slice_get folder.fields f.0 ≡ Some info →
      field_at core f ≡ Some (field_core info)
  -- what a container holds stands beside it, on the same base
  pub cells : (f : FieldId) (info : FieldInfo) (cell : Cell) → slice_get folder.fields f.0 ≡ Some info →
      slice_get folder.cells f.0 ≡ Some (Some cell) → field_at core cell.content ≡ Some (content_core info)
  pub methods : (n : MethodId) (info : MethodInfo) → slice_get folder.methods n.0 ≡ Some info →
      elim (slice_get folder.statuses n.0) as (λ _. Bool) [ None ↦ false | Some status ↦ is_none status ] ≡ true →
      HasMethod core n info
  pub unread : (n : MethodId) →
      elim (slice_get folder.statuses n.0) as (λ _. Bool) [ None ↦ false | Some status ↦ is_none status ] ≡ false →
      core_calls.is_analysed core n ≡ false
  pub constructors : (n : MethodId) (info : MethodInfo) → slice_get folder.methods n.0 ≡ Some info →
      info.is_constructor ≡ true → (info.result ≡ Declared info.class) × (info.is_static ≡ false)

pub record Stands (core : Core) (m : Method) (context : Context) : Type 0 where
  pub known : FolderStands core context.folder
  pub variables : Each (IsVariable m) context.scope.variables
  pub object : context.scope.is_static ≡ false →
      variable_at m (record { 0 = 0 }) ≡ Some (Declared context.scope.class)
  pub gives : IsResult m context.result
  pub given : context.given ≡ m.result
  pub guards : Each (IsGuard m) context.guards
