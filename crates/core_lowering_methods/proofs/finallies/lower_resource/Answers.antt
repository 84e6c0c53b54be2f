use Rattle.std.proofs.Common.{◌≡◌, ◌++◌, ap, ◌∙◌}
use Rattle.std.proofs.lemmas.Result.{on_ok_weaker}
use Rattle.java_tree.specs.View.{ty_of}
use Rattle.racer_base.specs.declared.ids.Kind.{Kind}
use Rattle.racer_base.specs.declared.ids.VarId.{VarId}
use Rattle.java_resolver.specs.declared.scope.VariableKind.{VariableKind}
use Rattle.core_lowering_rules.specs.TreesOf.{expr_of, resource_of}
use Rattle.core_lowering_rules.specs.Context.{Context, converted, type_kind}
use Rattle.core_lowering_rules.specs.Expressions.{code, kind}
use Rattle.core_lowering_rules.specs.Scopes.{declared, of_type, next_variable, with_resource}
use Rattle.core_lowering_rules.specs.Statements.{set}
use Rattle.core_lowering_context.specs.Drafts.{code_of}
use Rattle.core_lowering_context.specs.Restored.{with_closing}
use Rattle.core_lowering_context.proofs.Pieces.{two_pieces}
use Rattle.core_lowering_methods.proofs.finallies.lower_resource.Goals as goal

pub returns-clause-context : goal.returns-clause-context
returns-clause-context c =
    let a = c.args.context.now in
    let r = c.args.resource.now in
    on_ok_weaker c.set.result
    (λ made. c.in_ok-v.ensures.context
    ∙ ap (λ (k : VariableKind). declared c.note_closing.new.self k r.name) c.variable_kind-known.ensures
    ∙ ap (λ (x : Context). of_type x (ty_of r.kind) 0 r.name) c.note_closing.ensures
    ∙ ap (λ (k : Kind). of_type (with_closing k a) (ty_of r.kind) 0 r.name) c.type_kind-kind.ensures)
    c.set.ensures

pub returns-clause-code : goal.returns-clause-code
returns-clause-code c =
    let a = c.args.context.now in
    let r = c.args.resource.now in
    let k = type_kind a (ty_of r.kind) in
    let e = expr_of r.value in
    let inside = with_resource a (resource_of r) in
    let there : Context = c.declare.new.self in
    let old = code_of c.args.draft.now in
    let one = code_of c.lower_expression.new.draft in
    let second = code_of c.convert.new.draft in
    let at : there ≡ inside =
    c.in_ok-v.ensures.context
    ∙ ap (λ (m : VariableKind). declared c.note_closing.new.self m r.name) c.variable_kind-known.ensures
    ∙ ap (λ (x : Context). of_type x (ty_of r.kind) 0 r.name) c.note_closing.ensures
    ∙ ap (λ (m : Kind). of_type (with_closing m a) (ty_of r.kind) 0 r.name) c.type_kind-kind.ensures in
    let v : c.in_ok-v.v ≡ next_variable a =
    c.in_ok-v.ensures.variable ∙ ap next_variable c.note_closing.ensures in
    let value : one ≡ old ++ code inside e =
    c.in_ok-given.ensures.code ∙ ap (λ (x : Context). old ++ code x e) at in
    let passes : second ≡ one ++ converted inside k (kind inside e) =
    c.in_ok-convert.ensures.code
    ∙ ap (λ g. one ++ converted there c.type_kind-kind.result g) c.in_ok-given.ensures.kind
    ∙ ap (λ (m : Kind). one ++ converted there m (kind there e)) c.type_kind-kind.ensures
    ∙ ap (λ (x : Context). one ++ converted x k (kind x e)) at in
    on_ok_weaker c.set.result
    (λ made. two_pieces old second (code_of c.set.new.draft) (code inside e ++ converted inside k (kind inside e))
    (set inside (next_variable a))
    (two_pieces old one second (code inside e) (converted inside k (kind inside e)) value passes)
    (made ∙ ap (λ (x : Context). second ++ set x c.in_ok-v.v) at ∙ ap (λ (w : VarId). second ++ set inside w) v))
    c.set.ensures
