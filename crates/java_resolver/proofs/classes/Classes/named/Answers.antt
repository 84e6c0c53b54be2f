use Rattle.std.proofs.Common.{ℕ, ap, ◌∙◌}
use Rattle.std.specs.Prelude.{List, Option, option_map}
use Rattle.racer_base.specs.declared.ids.ClassId.{ClassId}
use Rattle.java_resolver.specs.declared.infos.ClassInfo.{ClassInfo}
use Rattle.java_resolver.specs.Declarations.{class_names}
use Rattle.java_resolver.specs.TypeKinds.{class_named}
use Rattle.java_resolver.proofs.FirstOnes.{class_found}
use Rattle.java_resolver.proofs.classes.Classes.named.Goals as goal

pub returns-in_err-number : goal.returns-in_err-number
returns-in_err-number c =
    let name = c.args.name.now in
    let made : Option ℕ → Option ClassId = option_map (λ n. record { 0 = n }) in
    c.from_residual.ensures
    ∙ ap made
    (c.in_err-number.ensures ∙ class_found c.self.inside.numbers c.self.inside.list.items name c.self.invariant)
    ∙ ap (λ (classes : List ClassInfo). class_named (class_names classes) name) c.self.view_is

pub returns : goal.returns
returns c =
    let name = c.args.name.now in
    let made : Option ℕ → Option ClassId = option_map (λ n. record { 0 = n }) in
    ap made (c.in_ok-number.ensures ∙ class_found c.self.inside.numbers c.self.inside.list.items name c.self.invariant)
    ∙ ap (λ (classes : List ClassInfo). class_named (class_names classes) name) c.self.view_is
