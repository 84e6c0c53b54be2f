-- A contract of a public call rests on this: the law `words_are_read`. The command as `clap` sees it.
use Rattle.std.specs.Prelude.{Bool, true, false, List, [], ◌∷◌, ◌++◌, Some, codes, fold, map}
use Rattle.clap.specs.Kinds.{Kinds}
use Rattle.clap.specs.Walk.{Rule, rule_of}
use Rattle.clap.specs.Simple.{App, new_rule, new_shape, with_rule}
use Rattle.clap.specs.declared.builder.arg.Arg.{Arg}
use Rattle.clap.specs.declared.builder.action.ArgAction.{ArgAction}
use Rattle.clap.specs.declared.builder.action.ArgAction.TheVariants.{Set, SetTrue}
use Rattle.racer_words.specs.Uses.{Word, Label, Folder, Workers, Replay, Made, Json, Summaries, History}
use Rattle.racer_words.specs.Uses.{Containers, Edits, Typed}
use Rattle.racer_words.specs.Uses.{labels}

abbrev pub folder_rule : Rule
folder_rule = record (new_rule (codes "FOLDER")) { action = Some Set }

-- of an option or a flag
abbrev pub named_rule : Word → ArgAction → Rule
named_rule name action = record (new_rule name) { long = Some name; action = Some action }

-- of an option with a value
abbrev pub option_rule : Word → Rule
option_rule name = named_rule name Set

abbrev pub flag_rule : Word → Rule
flag_rule name = named_rule name SetTrue

-- with its folder alone
abbrev pub folder_command : App
folder_command = record {
  top = record (new_shape (codes "racer")) {
    rules = folder_rule ∷ [];
    no_binary_name = true;
    disable_help_flag = true;
  };
  subs = [];
}

abbrev pub rule_of_label : Label → Rule
rule_of_label Folder = folder_rule
rule_of_label Workers = option_rule (codes "workers")
rule_of_label Replay = option_rule (codes "replay")
rule_of_label Made = option_rule (codes "made")
rule_of_label Edits = option_rule (codes "edits")
rule_of_label Json = flag_rule (codes "json")
rule_of_label Summaries = flag_rule (codes "summaries")
rule_of_label History = flag_rule (codes "history")
rule_of_label Containers = flag_rule (codes "containers")
rule_of_label Typed = flag_rule (codes "typed")

abbrev pub command : App
command = fold with_rule folder_command (map rule_of_label labels)

-- without an argument
abbrev pub bare_command : App
bare_command = record {
  top = record (new_shape (codes "racer")) { no_binary_name = true; disable_help_flag = true };
  subs = [];
}

-- the rules of arguments, each with whether it is global
abbrev pub rules_of : List Arg → List (Rule × Bool)
rules_of arguments = map (λ (a : Arg). (rule_of a, a.global)) arguments

abbrev pub local : Rule → Rule × Bool
local rule = (rule, false)

-- these, and behind them those of all arguments of the command
abbrev pub with_all : List (Rule × Bool) → List (Rule × Bool)
with_all rules = fold (λ made l. made ++ local (rule_of_label l) ∷ []) rules (Folder ∷ labels)

-- there is a kind of error
abbrev pub fails : Kinds → Bool
fails [] = false
fails (k ∷ ks) = true
