use Rattle.core_code.specs.Program.{core}
use Rattle.core_semantics.specs.declared.object.Start.TheVariants.{All}
use Rattle.core_semantics.specs.Runs.{begun}
use Rattle.core_ways.specs.Marks.{legs_of, objects_of}
use Rattle.witness_build_laws.specs.Warned.{pair_of}
use Rattle.witness_text.proofs.ShownWitnesses.{legs-shown}
use Rattle.witness_text.proofs.laws.json_reports_show_races.Goals as goal

pub returns : goal.returns
returns c = λ p w r listed there stable whole.
    let sides = c.each_warning_has_two_records.ensures (core p) w listed in
    let legs = legs_of (core p) (pair_of w) in
    let objects = objects_of (core p) legs (begun (core p) w.entry w.partner All) in
    let is = c.whole_warnings_race.ensures p w r listed there stable whole in
    let can = c.confirmed_warnings_can_replay.ensures p w objects legs listed is.marked in
    legs-shown p w sides.0 objects legs r (c.each_warning_is_a_pair.ensures (core p) w listed) sides.1 there stable.root
    is.marked can.right is.races
