use Rattle.core_code.specs.Program.{core}
use Rattle.race_report.proofs.ShownRaces.{whole_shown, printed_shown}
use Rattle.race_report.proofs.laws.reports_show_races.Goals as goal

pub returns-clause-whole : goal.returns-clause-whole
returns-clause-whole c = λ p.
    whole_shown (core p) (c.whole_warnings_race.ensures p)

pub returns-clause-printed : goal.returns-clause-printed
returns-clause-printed c = λ p. printed_shown (core p) (c.confirmed_warnings_race.ensures p)
