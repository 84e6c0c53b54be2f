-- A contract of a public call rests on this: the law `records_have_sites`. Where a record of code comes from, with what
-- stands before its site and the locks round it.
use Rattle.std.specs.Prelude.{◌≡◌, ℕ, Bool, true, ◌||◌, ◌⊎◌, None, Some, nat_lt, slice_get}
use Rattle.racer_base.specs.declared.ids.MethodId.{MethodId}
use Rattle.core_code.specs.declared.code.Op.{Op as CoreOp}
use Rattle.core_code.specs.declared.code.Op.TheVariants.{Call}
use Rattle.core_code.specs.Tree.{Tree, Operation, op_at}
use Rattle.access_paths.specs.Paths.{last_of}
use Rattle.access_domain.specs.declared.access.Access.{Access}
use Rattle.access_domain.specs.Findings.{Findings, Whole}
use Rattle.access_domain.specs.FlowContext.{FlowContext}
use Rattle.access_domain.specs.Origins.{field_of, touch_of}
use Rattle.core_ways.specs.Alone.{do_end_before, locks_round}

-- the operation touches the field itself, within locks or not
pub record IsTouch (op : CoreOp) (locked : Bool) (a : Access) : Type 0 where
  pub touches : touch_of op ≡ Some a.kind
  pub field : field_of op ≡ last_of a.path.fields
  pub below : a.below ≡ None
  pub held : a.locked ≡ locked

-- the operation calls a method that has the record
pub record IsThrough (g : FlowContext) (op : CoreOp) (locked : Bool) (a : Access) : Type 0 where
  pub callee : MethodId
  pub count : ℕ
  pub calls : op ≡ Call callee count
  pub found : Findings
  pub known : g.known_of callee ≡ Some (Whole found)
  pub index : ℕ
  pub below : a.below ≡ Some index
  pub inner : Access
  pub has : slice_get found.records index ≡ Some inner
  pub kind : a.kind ≡ inner.kind
  pub field : last_of a.path.fields ≡ last_of inner.path.fields
  pub held : a.locked ≡ (inner.locked || locked)

abbrev pub IsRecordBy : FlowContext → CoreOp → Bool → Access → Type 0
IsRecordBy g op locked a = IsTouch op locked a ⊎ IsThrough g op locked a

-- a record of code that begins within a lock or not
pub record IsRecordOf (g : FlowContext) (code : Tree) (outer : Bool) (a : Access) : Type 0 where
  pub operation : Operation
  pub at : op_at code a.site ≡ Some operation
  pub ends : do_end_before a.site code ≡ true
  pub from : IsRecordBy g operation.op (outer || nat_lt 0 (locks_round a.site code)) a
