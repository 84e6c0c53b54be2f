use Rattle.std.proofs.Common.{List, ap, ◌∙◌}
use Rattle.std.specs.List.{list_any}
use Rattle.std.specs.Ordering.{eq_by_cmp}
use Rattle.core_semantics.specs.declared.object.Object.{Object}
use Rattle.core_semantics.specs.declared.object.StartPath.{StartPath}
use Rattle.core_semantics.specs.Order.{object_cmp}
use Rattle.core_ways.specs.Gathered.{is_among}
use Rattle.core_ways.proofs.objects.Objects.has.Goals as goal

pub returns : goal.returns
returns c = λ p is.
    c.contains.ensures
    ∙ ap (λ (o : Object). list_any (eq_by_cmp object_cmp o) c.self.inside.index.keys) is
    ∙ c.self.invariant p
    ∙ ap (λ (paths : List StartPath). is_among paths p) c.self.view_is
