use Rattle.std.proofs.Common.{◌≡◌, Bool, true, false, None, is_some, sym, ap, ◌∙◌}
use Rattle.std.specs.Prelude.{if◌then◌else◌}
use Rattle.java_resolver.specs.declared.infos.MethodInfo.{MethodInfo}
use Rattle.java_resolver.specs.Firsts.{first_that}
use Rattle.java_resolver.specs.Indexes.{second_that}
use Rattle.java_resolver.specs.Meanings.{is_called_with_any}
use Rattle.java_resolver.proofs.SecondOnes.{only_second}
use Rattle.java_resolver.proofs.with_any.WithAny.only.Goals as goal

pub returns-then-is_some : goal.returns-then-is_some
returns-then-is_some c = λ methods are.
    let class = c.args.class in
    let test : MethodInfo → Bool = is_called_with_any class c.args.name.now in
    let there : is_some (second_that test methods) ≡ true =
    sym (ap is_some (c.number_at.ensures ∙ are.1 c.args.name.now (0, class.0)))
    ∙ sym c.is_some.ensures ∙ c.if-is_some.true in
    ap (λ (b : Bool). if b then None else first_that test methods) (sym there) ∙ only_second test methods

pub returns : goal.returns
returns c = λ methods are.
    let class = c.args.class in
    let test : MethodInfo → Bool = is_called_with_any class c.args.name.now in
    let none : is_some (second_that test methods) ≡ false =
    sym (ap is_some (c.number_at.ensures ∙ are.1 c.args.name.now (0, class.0)))
    ∙ sym c.is_some.ensures ∙ c.if-is_some.false in
    c.number_at-2.ensures ∙ are.0 c.args.name.now (0, class.0)
    ∙ ap (λ (b : Bool). if b then None else first_that test methods) (sym none) ∙ only_second test methods
