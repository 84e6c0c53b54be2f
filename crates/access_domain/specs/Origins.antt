-- A contract of a public call rests on this: the law `records_have_origins`. Where a record of a method comes from.
use Rattle.std.specs.Prelude.{◌≡◌, ℕ, ◌||◌, ◌⊎◌, Option, None, Some, Contains, IsTrue, slice_get}
use Rattle.racer_base.specs.declared.ids.FieldId.{FieldId}
use Rattle.racer_base.specs.declared.ids.MethodId.{MethodId}
use Rattle.racer_base.specs.declared.ids.Touch.{Touch}
use Rattle.racer_base.specs.declared.ids.Touch.TheVariants.{Read, Write}
use Rattle.core_code.specs.declared.code.Op.{Op as CoreOp}
use Rattle.core_code.specs.declared.code.Op.TheVariants.{Get, Put, Call}
use Rattle.core_code.specs.Tree.{Tree, Operation, steps_of}
use Rattle.owner_domain.specs.declared.value.Value.{Value}
use Rattle.access_domain.specs.declared.access.Access.{Access}
use Rattle.access_domain.specs.Findings.{Findings, Whole}
use Rattle.access_domain.specs.FlowContext.{FlowContext}
use Rattle.access_domain.specs.Substitution.{Actuals, substituted_path, touched}

-- how an operation touches a field itself
abbrev pub touch_of : CoreOp → Option Touch
touch_of (Get f) = Some Read
touch_of (Put f) = Some Write
touch_of _ = None

-- the field that an operation touches
abbrev pub field_of : CoreOp → Option FieldId
field_of (Get f) = Some f
field_of (Put f) = Some f
field_of _ = None

-- the record is that of an operation of the code, a Get or a Put at the record's site. The operation's field is one
-- that is recorded, and the record's path is that of this field of some value: the field at the end of the value's
-- path, or `some c . f`
pub record IsOwn (g : FlowContext) (code : Tree) (access : Access) : Type 0 where
  pub operation : Operation
  pub stands : Contains (steps_of code) operation
  pub site : operation.site ≡ access.site
  pub touches : touch_of operation.op ≡ Some access.kind
  pub field : FieldId
  pub names : field_of operation.op ≡ Some field
  pub recorded : IsTrue (g.is_recorded field)
  pub base : Value
  pub path : touched g base field ≡ Some access.path
  pub main : access.main ≡ g.main
  pub below : access.below ≡ None

-- the record is one of a callee, by its index there, with its path put into the caller's values; a call of the code
-- stands at the record's site
pub record IsOfCallee (g : FlowContext) (code : Tree) (access : Access) : Type 0 where
  pub operation : Operation
  pub stands : Contains (steps_of code) operation
  pub site : operation.site ≡ access.site
  pub callee : MethodId
  pub count : ℕ
  pub calls : operation.op ≡ Call callee count
  pub found : Findings
  pub known : g.known_of callee ≡ Some (Whole found)
  pub index : ℕ
  pub below : access.below ≡ Some index
  pub inner : Access
  pub has : slice_get found.records index ≡ Some inner
  pub kind : access.kind ≡ inner.kind
  pub main : access.main ≡ (inner.main || g.main)
  pub actuals : Actuals
  pub path : substituted_path g actuals inner.path ≡ Some access.path

-- a record of code is its own, or one of a callee
abbrev pub HasOrigin : FlowContext → Tree → Access → Type 0
HasOrigin g code access = IsOwn g code access ⊎ IsOfCallee g code access
