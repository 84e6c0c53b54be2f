use Rattle.std.proofs.Common.{◌≡◌, true, ◌++◌, ap, ◌∙◌, rules}
use Rattle.core_code.specs.Program.{core}
use Rattle.racer_run_history.specs.History.{history_text}
use Rattle.racer_run.proofs.Tails.{behind}
use Rattle.racer_run.proofs.reports.with_history.Goals as goal

pub returns : goal.returns
returns c =
    let lines = history_text (core c.args.program.now) c.args.history.now in
    let put = c.push_history.ensures.text c.in_ok-finished.ensures.is_whole in
    let asked : c.args.asked ≡ true = search rules in
    behind c.args.asked c.args.said (core c.args.program.now) c.args.history.now c.from.result asked
    (c.from.ensures ∙ c.in_ok-finished.ensures.text ∙ put
    ∙ ap (λ text. text ++ lines) (c.behind-text.ensures.text ∙ c.in_ok-into_string.ensures))
