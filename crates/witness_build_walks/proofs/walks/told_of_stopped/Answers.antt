use Rattle.std.proofs.Common.{Option, false, ap, subst, ◌∙◌}
use Rattle.racer_base.specs.declared.ids.Place.{Place}
use Rattle.core_ways.specs.Marks.{blocked_at}
use Rattle.witness_build_walks.specs.declared.walk.Walk.{Walk}
use Rattle.witness_build_walks.specs.Told.{IsGoneIn}
use Rattle.witness_build_walks.proofs.ApartWalks.{told-first}
use Rattle.witness_build_walks.proofs.walks.told_of_stopped.Goals as goal

pub returns-in-Some : goal.returns-in-Some
returns-in-Some c = λ core m m1 m2 f g objects entry is.
    ap (λ (at : Option Place). blocked_at c.in-Some.walk.thread at) c.place_of.ensures
    ∙ told-first core f g m m1 m2 c.in-Some.walk entry
    (subst (λ (w : Option Walk). IsGoneIn core m f false w) c.in-Some.is is)
