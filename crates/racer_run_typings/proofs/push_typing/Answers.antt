use Rattle.std.proofs.Common.{◌++◌, codes, sym, ap, ◌∙◌}
use Rattle.core_code.specs.Program.{core}
use Rattle.access_paths.specs.Text.{name_at}
use Rattle.race_report_parts.specs.Texts.{class_names, place_text}
use Rattle.race_report_parts.proofs.PutChains.{three, five, same_piece}
use Rattle.racer_run_typings.specs.Lines.{answer_line}
use Rattle.racer_run_typings.proofs.push_typing.Goals as goal

pub returns-in-Typed : goal.returns-in-Typed
returns-in-Typed c =
    let program = core c.args.program.now in
    let class = name_at (class_names program) c.args.typing.class.0 in
    same_piece (three c.push_text.ensures c.push_text-in-Typed.ensures c.push_end.ensures)
    ((λ i. codes "typed " ++ c.class_name.ensures i ++ codes "\n")
    ∙ ap (answer_line program class) (sym c.in-Typed.is))

pub returns-in-Untyped : goal.returns-in-Untyped
returns-in-Untyped c =
    let program = core c.args.program.now in
    let class = name_at (class_names program) c.args.typing.class.0 in
    let place = c.in-Untyped.place in
    same_piece
    (five c.push_text-in-Untyped.ensures c.push_text-in-Untyped-2.ensures c.push_space.ensures c.push_place.ensures
    c.push_end-in-Untyped.ensures)
    ((λ i. codes "untyped " ++ c.class_name-in-Untyped.ensures i ++ codes " " ++ place_text program place
    ++ codes "\n")
    ∙ ap (answer_line program class) (sym c.in-Untyped.is))
