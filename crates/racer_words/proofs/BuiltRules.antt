-- The command once `clap` has built it, with one rule for each label.
use Rattle.std.proofs.Common.{◌≡◌, true, List, [], ◌∷◌, Some, None, map, codes, refl}
use Rattle.clap.specs.Walk.{Rule, arg_by_id, arg_by_index}
use Rattle.clap.specs.Simple.{Shape, built, filled, with_index, new_shape}
use Rattle.racer_words.specs.Uses.{Label, Folder, Workers, Replay, Made, Edits, Json, Summaries, History, name_of}
use Rattle.racer_words.specs.Uses.{Containers, Typed}
use Rattle.racer_words.specs.Uses.{labels}
use Rattle.racer_words.specs.Command.{command, rule_of_label}

abbrev pub built_rule : Label → Rule
built_rule Folder = with_index 1 (filled (rule_of_label Folder))
built_rule l = with_index 2 (filled (rule_of_label l))

abbrev pub all : List Rule
all = map built_rule (Folder ∷ labels)

abbrev pub shape : Shape
shape = record (new_shape (codes "racer")) {
  rules = all;
  no_binary_name = true;
  disable_help_flag = true;
  disable_help_subcommand = true;
  is_built = true;
}

pub shape_is : built command ≡ record { top = shape; subs = [] }
shape_is = refl

pub by_id : (l : Label) → arg_by_id all (name_of l) ≡ Some (built_rule l)
by_id Folder = refl
by_id Workers = refl
by_id Replay = refl
by_id Made = refl
by_id Edits = refl
by_id Json = refl
by_id Summaries = refl
by_id History = refl
by_id Containers = refl
by_id Typed = refl

pub first_index : arg_by_index all 1 ≡ Some (built_rule Folder)
first_index = refl

pub no_second_index : arg_by_index all 2 ≡ None
no_second_index = refl
