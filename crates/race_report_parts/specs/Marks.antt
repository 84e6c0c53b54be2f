-- A contract of a public call rests on this: the texts of the mark of a warning.
use Rattle.std.specs.Prelude.{ℕ, List, [], ◌∷◌, ◌++◌, codes}
use Rattle.std.specs.Fmt.{decimal}
use Rattle.std.specs.List.{flat_map}
use Rattle.core_code.specs.Core.{Core}
use Rattle.access_paths.specs.Text as paths
use Rattle.core_semantics.specs.declared.answer.Turn.{Turn}
use Rattle.core_semantics.specs.declared.answer.Turn.TheVariants.{Left, Right}
use Rattle.core_semantics.specs.declared.object.StartPath.{StartPath}
use Rattle.core_semantics.specs.declared.object.StartRoot.{StartRoot}
use Rattle.core_semantics.specs.declared.object.StartRoot.TheVariants.{This, Class, Param}
use Rattle.core_semantics.specs.Legs.{Leg}
use Rattle.core_ways.specs.Marks.{Said, Unnamed, Unstable, Unread, Long, Blocked, Confirmed}
use Rattle.race_report_parts.specs.Texts.{class_names, field_names, place_text, path_text}

-- the word that a mark begins with
abbrev pub mark_word : Said → List ℕ
mark_word Unnamed = codes "unnamed"
mark_word (Unstable before) = codes "unstable"
mark_word (Unread at) = codes "unread"
mark_word (Long steps) = codes "long"
mark_word (Blocked thread at) = codes "blocked"
mark_word (Confirmed objects legs) = codes "confirmed"

-- what stands behind the word: PATH, PLACE, a number of steps, or THREAD PLACE
abbrev pub detail_text : Core → Said → List ℕ
detail_text core Unnamed = []
detail_text core (Unstable before) = codes " " ++ path_text core before
detail_text core (Unread at) = codes " " ++ place_text core at
detail_text core (Long steps) = codes " " ++ decimal steps
detail_text core (Blocked thread at) = codes " " ++ decimal thread ++ codes " " ++ place_text core at
detail_text core (Confirmed objects legs) = []

abbrev pub mark_text : Core → Said → List ℕ
mark_text core said = mark_word said ++ detail_text core said

-- `this`, the class's name, or `t#i`: the parameter i of the entry of thread t
abbrev pub start_root_text : Core → StartRoot → List ℕ
start_root_text core This = codes "this"
start_root_text core (Class c) = paths.name_at (class_names core) c.0
start_root_text core (Param t i) = decimal t ++ codes "#" ++ decimal i

-- a start path: its root, and `.f` for each field
abbrev pub start_text : Core → StartPath → List ℕ
start_text core start = start_root_text core start.root ++ paths.fields_text (field_names core) start.fields

abbrev pub turn_text : Turn → List ℕ
turn_text Left = codes "L"
turn_text Right = codes "R"

-- `L` and `R`, or `-` for no turn
abbrev pub turns_text : List Turn → List ℕ
turns_text [] = codes "-"
turns_text (turn ∷ turns) = turn_text turn ++ flat_map turn_text turns

-- THREAD turns TURNS steps N
abbrev pub leg_text : Leg → List ℕ
leg_text leg =
    decimal leg.thread ++ codes " turns " ++ turns_text leg.turns ++ codes " steps " ++ decimal leg.steps
