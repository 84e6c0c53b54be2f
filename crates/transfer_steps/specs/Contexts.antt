-- A contract of a public call rests on this: what a flow is given, where a method is gone through.
use Rattle.std.specs.Prelude.{Bool, true, List, [], ◌∷◌, None, Some, if◌then◌else◌}
use Rattle.racer_base.specs.declared.ids.FieldId.{FieldId}
use Rattle.racer_base.specs.declared.ids.SiteId.{SiteId}
use Rattle.racer_base.specs.declared.ids.Touch.{Touch}
use Rattle.owner_domain.specs.declared.value.State.{State}
use Rattle.owner_domain.specs.declared.value.Value.{Value}
use Rattle.core_code.specs.Program.{core}
use Rattle.core_code.specs.Tree.{Tree}
use Rattle.access_domain.specs.declared.access.Access.{Access}
use Rattle.access_domain.specs.Flow.{flow}
use Rattle.access_domain.specs.FlowContext.{FlowContext, given_of, field_at}
use Rattle.access_domain.specs.Operations.{Effects}
use Rattle.access_domain.specs.Reached.{reached_path}
use Rattle.transfer_steps.specs.declared.operations.MethodContext.{MethodContext}
use Rattle.transfer_steps.specs.Known.{table_of}

abbrev pub given : MethodContext → FlowContext
given context = given_of (core context.program.now) (table_of context.callees.now) context.main

-- what it is for code under a lock
abbrev pub under_lock : MethodContext → MethodContext
under_lock context = record {
  alloc = context.alloc;
  program = context.program;
  main = context.main;
  locked = true;
  callees = context.callees;
}

-- the effects of code there
abbrev pub flow_in : MethodContext → Tree → State → Effects
flow_in context code = flow (given context) code context.locked

-- the record of an access of a field that has this value
abbrev pub record_reached : MethodContext → Touch → Bool → SiteId → Value → FieldId → List Access
record_reached context kind locked site value f =
    if (field_at (core context.program.now) f).recorded
    then (elim (reached_path (core context.program.now) value f) [
      | None ↦ []
      | Some p ↦ record { path = p; kind = kind; locked = locked; main = context.main; site = site; below = None } ∷ []
    ])
    else []
