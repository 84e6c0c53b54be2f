use Rattle.std.proofs.Common.{ℕ, List, [], ◌∷◌, ◌++◌, map, refl, ap, ◌∙◌, arith}
use Rattle.java_tree.specs.declared.methods.TypeParameterTree.{TypeParameterTree}
use Rattle.racer_base.proofs.Lists.{at_end, one_turn}
use Rattle.java_resolver_parts.specs.TypeParameters.{parameter_name}
use Rattle.java_resolver_parts.proofs.type_parameters.push_listed.Goals as goal

pub loop-parameter-preserved : goal.loop-parameter-preserved
loop-parameter-preserved c =
    one_turn (map parameter_name) (λ (p : TypeParameterTree). parameter_name p ∷ []) c.args.parameters.now
    c.loop-parameter.parameter-index c.parameter-item.result c.loop-parameter.names.items c.push.new.self.items
    (λ p ps. refl) c.loop-parameter-test.true c.parameter-item.is
    (c.in_ok-push.ensures.items
    ∙ ap (λ (x : List ℕ). c.loop-parameter.names.items ++ x ∷ []) c.in_ok-clone.ensures.cases)
    ∙ c.loop-parameter.invariant

pub returns : goal.returns
returns c =
    at_end (map parameter_name) c.args.parameters.now c.loop-parameter.parameter-index c.loop-parameter.names.items refl
    (omega (arith, c.loop-parameter-test.false))
    ∙ c.loop-parameter.invariant
