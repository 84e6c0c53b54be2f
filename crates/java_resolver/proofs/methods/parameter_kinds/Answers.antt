use Rattle.std.proofs.Common.{[], ◌∷◌, ◌++◌, refl, ap, ◌∙◌, arith}
use Rattle.racer_base.specs.declared.ids.Kind.{Kind}
use Rattle.racer_base.proofs.Lists.{at_end, one_turn}
use Rattle.java_tree.specs.declared.methods.ParameterTree.{ParameterTree}
use Rattle.java_resolver.specs.Declarations.{class_names, kinds_of, parameter_kind}
use Rattle.java_resolver.proofs.methods.parameter_kinds.Goals as goal

pub loop-parameter-preserved : goal.loop-parameter-preserved
loop-parameter-preserved c =
    let hidden = c.args.hidden.now in
    let names = class_names c.args.classes.now in
    let kinds = c.loop-parameter.kinds in
    one_turn (kinds_of hidden names) (λ (p : ParameterTree). parameter_kind hidden names p ∷ []) c.args.parameters.now
    c.loop-parameter.parameter-index c.parameter-item.result kinds c.push.new.self (λ p ps. refl)
    c.loop-parameter-test.true c.parameter-item.is
    (c.in_ok-push.ensures.ok ∙ ap (λ (kind : Kind). kinds ++ kind ∷ []) c.parameter_kind.ensures)
    ∙ c.loop-parameter.invariant

pub returns : goal.returns
returns c =
    at_end (kinds_of c.args.hidden.now (class_names c.args.classes.now)) c.args.parameters.now
    c.loop-parameter.parameter-index c.loop-parameter.kinds refl (omega (arith, c.loop-parameter-test.false))
    ∙ c.loop-parameter.invariant
