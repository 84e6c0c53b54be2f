-- A contract of a public call rests on this: what is known of methods before it is known which are recursive.
use Rattle.std.specs.Prelude.{◌≡◌, List, [], Option}
use Rattle.container_cells.specs.declared.cell.Cell.{Cell}
use Rattle.racer_base.specs.declared.ids.MethodId.{MethodId}
use Rattle.java_resolver.specs.declared.table.Table.{Table}
use Rattle.core_code.specs.Tree.{Tree, in_sequence}
use Rattle.core_code.specs.Recursion.{all_calls_in}
use Rattle.core_lowering_drafts.specs.Sites.{numbered}
use Rattle.core_lowering_rules.specs.Context.{Folder}
use Rattle.core_lowering_rules.specs.Methods.{Source, method_code, is_past_limit}
use Rattle.core_lowering_methods.specs.Extents.{is_past}
use Rattle.core_lowering_context.specs.Sources.{source_of}
use Rattle.core_lowering_context.specs.Views.{folder_of}
use Rattle.core_lowering_surveys.specs.declared.surveys.Surveyed.{Surveyed}

abbrev pub seen : Surveyed → Source
seen m = source_of m.source

-- the extent is that of the code
abbrev pub IsRight : Table → List (Option Cell) → Surveyed → Type 0
IsRight table cells m = is_past m.extent ≡ is_past_limit (folder_of table cells []) (seen m)

-- the code of a method
abbrev pub code_in : Folder → Source → Tree
code_in folder s = numbered 0 (in_sequence (method_code folder s))

-- the methods that a method calls
abbrev pub row_in : Folder → Source → List MethodId
row_in folder s = all_calls_in (code_in folder s)
