use Rattle.std.proofs.Common.{◌++◌, codes, Option, sym, ap}
use Rattle.core_code.specs.Core.{Method}
use Rattle.core_code.specs.Program.{core}
use Rattle.race_report_parts.proofs.PutChains.{two, same_piece}
use Rattle.racer_run_history.specs.History as wanted
use Rattle.racer_run_history.proofs.Named.{there, past}
use Rattle.racer_run_history.proofs.push_named.Goals as goal

pub returns-in-Some : goal.returns-in-Some
returns-in-Some c =
    let program = core c.args.program.now in
    let x = c.in-Some.method.now in
    let look_up = c.in-Some.ensures.lookup in
    let found = there program c.methods.result.now c.args.m c.methods.ensures x look_up.0 look_up.1 in
    same_piece (two c.push_space.ensures c.push_method.ensures) (ap (λ (o : Option Method). codes " " ++ wanted.text_of
    program o) (sym found))

pub returns-in-None : goal.returns-in-None
returns-in-None c =
    let program = core c.args.program.now in
    let none = past program c.methods.result.now c.args.m c.methods.ensures c.in-None.ensures.lookup.0 in
    same_piece c.push_space.ensures (ap (λ (o : Option Method). codes " " ++ wanted.text_of program o) (sym none))
