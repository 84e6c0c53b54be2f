use Rattle.std.proofs.Common.{◌≡◌, List, [], ◌∷◌, ◌++◌, ◌∙◌, ap, codes}
use Rattle.std.specs.Prelude.{Bool, Some, false}
use Rattle.std.proofs.lemmas.Result.{on_ok_weaker}
use Rattle.clap.specs.Walk.{Rule, rule_of}
use Rattle.clap.specs.declared.builder.arg.Arg.{Arg}
use Rattle.clap.specs.declared.builder.action.ArgAction.TheVariants.{Set}
use Rattle.racer_words.specs.Command.{local, flag_rule, folder_rule, option_rule, rules_of}
use Rattle.racer_words.proofs.AddedRules.{one_by_one, rules-push}
use Rattle.racer_words.proofs.command.push_arguments.Goals as goal

pub returns : goal.returns
returns c =
    let old = c.args.arguments.now.items in
    let rule : rule_of c.action.result ≡ folder_rule =
    ap rule_of c.action.ensures ∙ ap (λ (r : Rule). record r { action = Some Set }) c.new.ensures.rule in
    let local_alone : c.action.result.global ≡ false =
    ap (λ (a : Arg). a.global) c.action.ensures ∙ c.new.ensures.optional.1 in
    let folder : rules_of c.push.new.self.items ≡ rules_of old ++ local folder_rule ∷ [] =
    ap rules_of c.in_ok-push.ensures.items ∙ rules-push old c.action.result folder_rule (rule, local_alone) in
    let workers = local (option_rule (codes "workers")) in
    let replay = local (option_rule (codes "replay")) in
    let made = local (option_rule (codes "made")) in
    let edits = local (option_rule (codes "edits")) in
    let json = local (flag_rule (codes "json")) in
    let summaries = local (flag_rule (codes "summaries")) in
    let history = local (flag_rule (codes "history")) in
    let containers = local (flag_rule (codes "containers")) in
    let typed = local (flag_rule (codes "typed")) in
    let with_options = λ (rules : List (Rule × Bool)). rules ++ workers ∷ replay ∷ made ∷ edits ∷ [] in
    let with_flags = λ (rules : List (Rule × Bool)). rules ++ json ∷ summaries ∷ history ∷ containers ∷ typed ∷ [] in
    on_ok_weaker c.push_named-2.result
    (λ is. is ∙ ap with_flags (c.in_ok-push_named.ensures ∙ ap with_options folder)
    ∙ one_by_one (rules_of old ++ local folder_rule ∷ []) workers replay made edits json summaries
    history containers typed)
    c.push_named-2.ensures
