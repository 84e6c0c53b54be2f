use Rattle.std.proofs.Common.{List, ℕ, subst}
use Rattle.racer_sources.specs.Reading.{IsAdded}
use Rattle.racer_sources.proofs.units.add_kept.Goals as goal

pub returns-clause-added : goal.returns-clause-added
returns-clause-added c =
    subst (λ (bs : List ℕ). IsAdded bs c.args.read.now c.add_bytes.new.read) c.as_slice.ensures.value
    c.in_ok-add_bytes.ensures.added
