use Rattle.std.specs.Prelude.{string_bytes}
use Rattle.std.proofs.Common.{◌≡◌, true, ◌++◌, List, ap, ◌∙◌, rules}
use Rattle.std.specs.List.{flat_map}
use Rattle.core_code.specs.Program.{core}
use Rattle.typed_core.specs.declared.answers.Typing.{Typing}
use Rattle.racer_run_typings.specs.Lines.{typing_line, typings_text}
use Rattle.racer_run.proofs.Tails.{typed_behind}
use Rattle.racer_run.proofs.reports.with_typings.Goals as goal

pub returns : goal.returns
returns c =
    let program = core c.args.program.now in
    let lines = typings_text program in
    let put = c.push_typings.ensures.text c.in_ok-finished.ensures.is_whole in
    let all : flat_map (typing_line program) c.as_slice.result.now ≡ lines =
    ap (λ (found : List Typing). flat_map (typing_line program) found)
    (c.as_slice.ensures.value ∙ c.in_ok-typings.ensures) in
    let asked : c.args.asked ≡ true = search rules in
    typed_behind c.args.asked c.args.said program c.from.result asked
    (c.from.ensures ∙ c.in_ok-finished.ensures.text ∙ put
    ∙ ap (λ text. string_bytes c.behind-written.result.so_far ++ text) all
    ∙ ap (λ text. text ++ lines) (c.behind-written.ensures.text ∙ c.in_ok-into_string.ensures))
