use Rattle.std.proofs.Common.{◌≡◌, ap, ◌∙◌, ◌∷◌, map, fold, rules}
use Rattle.clap.specs.Simple.{App, app_of, with_rule}
use Rattle.racer_words.specs.Command.{bare_command, rule_of_label, rules_of, with_all}
use Rattle.racer_words.specs.Uses.{Folder, labels}
use Rattle.racer_words.proofs.AddedRules.{all_added}
use Rattle.racer_words.proofs.command.command.Goals as goal

pub returns-in-Ok : goal.returns-in-Ok
returns-in-Ok c =
    let made = c.push_arguments.new.arguments.items in
    let bare : app_of c.disable_help_flag-command.result ≡ bare_command = search rules in
    all_added made (map rule_of_label (Folder ∷ labels)) c.disable_help_flag-command.result c.in-Ok.command
    c.in-Ok.ensures
    (c.in_ok-push_arguments.ensures ∙ ap (λ xs. with_all (rules_of xs)) c.new-arguments.ensures.items)
    ∙ ap (λ (a : App). fold with_rule a (map rule_of_label (Folder ∷ labels))) bare
