use Rattle.std.proofs.Common.{List, [], ◌∷◌, ◌++◌, map, refl, ap, ◌∙◌, arith}
use Rattle.racer_base.proofs.Lists.{turn, ended}
use Rattle.core_code.specs.declared.exits.Exits.{Exits}
use Rattle.core_code.specs.declared.parts.MethodCore.{MethodCore}
use Rattle.core_code.specs.Core.{method_of}
use Rattle.typed_core.specs.Contexts.{returns_in}
use Rattle.typed_core.proofs.context.returns_of.Goals as goal

pub loop-method-preserved : goal.loop-method-preserved
loop-method-preserved c =
    let made = c.loop-method.returns.items in
    turn (λ (ms : List MethodCore). map returns_in (map method_of ms))
    (λ (m : MethodCore). returns_in (method_of m) ∷ []) c.args.methods.now c.loop-method.method-index
    c.method-item.result made c.push.new.self.items _ (λ m ms. refl) c.loop-method-test.true c.method-item.is
    (c.in_ok-push.ensures.items ∙ ap (λ (e : Exits). made ++ e.returns ∷ []) c.exits_of.ensures) c.loop-method.invariant

pub returns : goal.returns
returns c =
    ended (λ (ms : List MethodCore). map returns_in (map method_of ms)) c.args.methods.now c.loop-method.method-index
    c.loop-method.returns.items _ refl (omega (arith, c.loop-method-test.false)) c.loop-method.invariant
