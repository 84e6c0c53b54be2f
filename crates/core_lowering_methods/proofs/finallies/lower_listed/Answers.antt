use Rattle.std.proofs.Common.{List, ◌∷◌, ◌++◌, ◌+◌, map, drop, sym, ap, ◌∙◌, append-nil, append_assoc}
use Rattle.std.proofs.lemmas.List.{at_drop_more, at_drop_all}
use Rattle.java_tree.specs.declared.statements.ResourceTree.{ResourceTree}
use Rattle.core_lowering_rules.specs.TreesOf.{resource_of}
use Rattle.core_lowering_rules.specs.Context.{Context, Code}
use Rattle.core_lowering_rules.specs.Scopes.{with_resource, with_resources}
use Rattle.core_lowering_rules.specs.Statements.{begun_resource, begun_resources}
use Rattle.core_lowering_context.specs.Drafts.{code_of}
use Rattle.core_lowering_methods.proofs.finallies.lower_listed.Goals as goal

pub loop-resource-preserved : goal.loop-resource-preserved
loop-resource-preserved c =
    let old : Context = c.loop-resource.context in
    let made = code_of c.loop-resource.draft in
    let all = c.args.resources.now in
    let i = c.loop-resource.resource-index in
    let r : ResourceTree = c.resource-item.result in
    let rest : List ResourceTree = drop (i + 1) all in
    let inside : Context = with_resource old (resource_of r) in
    let one = c.in_ok-lower_resource.ensures in
    record {
      context =
          ap (λ (a : Context). with_resources a (map resource_of rest)) one.context
          ∙ ap (λ (w : ResourceTree). with_resources old (map resource_of (w ∷ rest))) c.resource-item.is
          ∙ sym (at_drop_more (λ (rs : List ResourceTree). with_resources old (map resource_of rs)) all i r
          c.loop-resource-test.true)
          ∙ c.loop-resource.invariant.context;
      code =
          ap (λ (a : Context). code_of c.lower_resource.new.draft ++ begun_resources a (map resource_of rest))
          one.context
          ∙ ap (λ (x : Code). x ++ begun_resources inside (map resource_of rest)) one.code
          ∙ append_assoc made (begun_resource old (resource_of r)) (begun_resources inside (map resource_of rest))
          ∙ ap (λ (w : ResourceTree). made ++ begun_resources old (map resource_of (w ∷ rest))) c.resource-item.is
          ∙ sym (at_drop_more (λ (rs : List ResourceTree). made ++ begun_resources old (map resource_of rs)) all i r
          c.loop-resource-test.true)
          ∙ c.loop-resource.invariant.code;
    }

pub returns-clause-context : goal.returns-clause-context
returns-clause-context c =
    sym (at_drop_all (λ (rs : List ResourceTree). with_resources c.loop-resource.context (map resource_of rs))
    c.args.resources.now c.loop-resource.resource-index c.loop-resource-test.false)
    ∙ c.loop-resource.invariant.context

pub returns-clause-code : goal.returns-clause-code
returns-clause-code c =
    let made = code_of c.loop-resource.draft in
    sym (append-nil made)
    ∙ sym (at_drop_all
    (λ (rs : List ResourceTree). made ++ begun_resources c.loop-resource.context (map resource_of rs))
    c.args.resources.now c.loop-resource.resource-index c.loop-resource-test.false)
    ∙ c.loop-resource.invariant.code
