use Rattle.std.proofs.Common.{Option, ap, ◌∙◌}
use Rattle.racer_base.specs.declared.ids.Place.{Place}
use Rattle.core_ways.specs.Marks.{blocked_at}
use Rattle.witness_build_walks.proofs.ApartWalks.{told-past, told-second}
use Rattle.witness_build_walks.proofs.apart.told.Goals as goal

pub returns-then-not-all : goal.returns-then-not-all
returns-then-not-all c = λ core m n m1 m2 f g threads of_first of_second one other.
    ap (λ (at : Option Place). blocked_at c.args.second.now.thread at) c.place_of.ensures
    ∙ told-second core f g m n m1 m2 c.args.first.now c.args.second.now c.args.all threads of_first of_second one other
    (c.are_apart.ensures c.if-not-are_apart.false) c.if-not-all.true

pub returns : goal.returns
returns c = λ core m n m1 m2 f g threads of_first of_second one other.
    told-past core f g m n m1 m2 c.args.first.now c.args.second.now c.args.all c.args.objects.now c.add_all.new.self
    c.add_all-2.new.self threads of_first of_second one other (c.are_apart.ensures c.if-not-are_apart.false)
    c.if-not-all.false c.requires c.in_ok-add_all.ensures c.in_ok-add_all-2.ensures
