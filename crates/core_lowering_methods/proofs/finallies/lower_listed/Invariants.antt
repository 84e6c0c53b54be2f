use Rattle.std.proofs.Common.{◌≡◌, ◌++◌, map, drop}
use Rattle.core_lowering_rules.specs.TreesOf.{resource_of}
use Rattle.core_lowering_rules.specs.Scopes.{with_resources}
use Rattle.core_lowering_rules.specs.Statements.{begun_resources}
use Rattle.core_lowering_context.specs.Drafts.{code_of}
use Rattle.core_lowering_methods.proofs.finallies.lower_listed.Given as goal

-- what was made, and then the resources that are left
abbrev pub invariant-loop-resource : goal.invariant-loop-resource
invariant-loop-resource l =
    let left = map resource_of (drop l.resource-index l.resources) in
    let all = map resource_of l.resources in
    record {
      context : with_resources l.context left ≡ with_resources l.initial.context all;
      code : code_of l.draft ++ begun_resources l.context left
          ≡ code_of l.initial.draft ++ begun_resources l.initial.context all;
    }
