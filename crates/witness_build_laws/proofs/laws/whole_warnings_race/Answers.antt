use Rattle.witness_build_laws.proofs.WholeWarnings.{whole_confirmed}
use Rattle.witness_build_laws.proofs.ConfirmedWarnings.{confirmed-warnings-race}
use Rattle.witness_build_laws.proofs.laws.whole_warnings_race.Goals as goal

pub returns : goal.returns
returns c = λ p w r listed at stable whole.
    record {
      marked = whole_confirmed _ w r at stable whole;
      races = confirmed-warnings-race p w _ _ r listed (whole_confirmed _ w r at stable whole) at;
    }
