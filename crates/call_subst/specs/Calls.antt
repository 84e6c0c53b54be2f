-- A contract of a public call rests on this: the parts of what is found of a callee, in its caller.
use Rattle.std.specs.Prelude.{ℕ, List}
use Rattle.std.specs.List.{enumerate_from, flat_map}
use Rattle.access_paths.specs.declared.path.Path.{Path}
use Rattle.owner_domain.specs.Values.{names_of}
use Rattle.core_code.specs.Program.{core}
use Rattle.access_domain.specs.declared.access.Access.{Access}
use Rattle.access_domain.specs.FlowContext.{FlowContext}
use Rattle.access_domain.specs.Substitution.{Actuals, actuals_from, substituted_record, value_named}
use Rattle.call_subst.specs.declared.naming.Call.{Call}
use Rattle.call_subst.specs.Substitutes.{given_at}

abbrev pub given : Call → FlowContext
given call = given_at (core call.program.now) call.main

abbrev pub actuals : Call → Actuals
actuals call = actuals_from call.is_static call.actuals.now

abbrev pub substituted_at : Call → ℕ × Access → List Access
substituted_at call = substituted_record (given call) (actuals call) call.locked call.site

-- all of these records, the first of which has this index
abbrev pub records_at : Call → ℕ → List Access → List Access
records_at call index records = flat_map (substituted_at call) (enumerate_from index records)

abbrev pub name_at : Call → Path → List Path
name_at call path = names_of (value_named (actuals call) path)

abbrev pub paths_at : Call → List Path → List Path
paths_at call = flat_map (name_at call)
