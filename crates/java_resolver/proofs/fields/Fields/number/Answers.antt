use Rattle.std.proofs.Common.{sym, ap, ◌∙◌}
use Rattle.std.specs.Prelude.{Bool}
use Rattle.java_resolver.specs.Firsts.{first_that}
use Rattle.java_resolver.specs.Meanings.{is_seen}
use Rattle.java_resolver.proofs.fields.Fields.number.Goals as goal

pub returns-then-in_static : goal.returns-then-in_static
returns-then-in_static c =
    let name = c.args.name.now in
    let class = c.args.class in
    c.number_at.ensures
    ∙ c.self.invariant.1 name (0, class.0)
    ∙ ap (λ (b : Bool). first_that (is_seen class b name) c.self.inside.list.items) (sym c.if-in_static.true)
    ∙ ap (first_that (is_seen class c.args.in_static name)) c.self.view_is

pub returns : goal.returns
returns c =
    let name = c.args.name.now in
    let class = c.args.class in
    c.number_at-2.ensures
    ∙ c.self.invariant.0 name (0, class.0)
    ∙ ap (λ (b : Bool). first_that (is_seen class b name) c.self.inside.list.items) (sym c.if-in_static.false)
    ∙ ap (first_that (is_seen class c.args.in_static name)) c.self.view_is
