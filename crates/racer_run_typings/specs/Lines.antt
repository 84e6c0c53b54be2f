-- A contract of a public call rests on this: `push_typings`, and `run` of racer_run. A line for each class that has an
-- entry.
use Rattle.std.specs.Prelude.{ℕ, List, ◌++◌, codes}
use Rattle.std.specs.List.{flat_map}
use Rattle.racer_base.specs.declared.ids.ClassId.{ClassId}
use Rattle.core_code.specs.Core.{Core}
use Rattle.access_paths.specs.Text.{name_at}
use Rattle.race_report_parts.specs.Texts.{class_names, place_text}
use Rattle.typed_core.specs.declared.answers.Answer.{Answer}
use Rattle.typed_core.specs.declared.answers.Answer.TheVariants.{Typed, Untyped}
use Rattle.typed_core.specs.declared.answers.Typing.{Typing}
use Rattle.typed_core.specs.Typings.{typings}

-- typed CLASS, or untyped CLASS PLACE
abbrev pub answer_line : Core → List ℕ → Answer → List ℕ
answer_line core class Typed = codes "typed " ++ class ++ codes "\n"
answer_line core class (Untyped place) =
    codes "untyped " ++ class ++ codes " " ++ place_text core place ++ codes "\n"

abbrev pub typing_line : Core → Typing → List ℕ
typing_line core typing = answer_line core (name_at (class_names core) typing.class.0) typing.answer

-- the lines of all classes that have an entry, in order
abbrev pub typings_text : Core → List ℕ
typings_text core = flat_map (typing_line core) (typings core)
