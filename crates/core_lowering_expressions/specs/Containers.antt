-- No public contract rests on this: touches of what containers hold, in the parts in which they are made.
use Rattle.std.specs.Prelude.{ℕ, Bool, true, false, Option, None, Some, option_map}
use Rattle.container_cells.specs.declared.cell.Cell.{Cell}
use Rattle.racer_base.specs.declared.ids.FieldId.{FieldId}
use Rattle.racer_base.specs.declared.ids.Place.{Place}
use Rattle.java_tree.specs.declared.words.Ident.{Ident}
use Rattle.core_lowering_rules.specs.Trees.{Expr, Access, NoAccess}
use Rattle.core_lowering_rules.specs.TreesOf.{access_of}
use Rattle.core_lowering_rules.specs.Context.{Context, Code}
use Rattle.core_lowering_rules.specs.Touches.{cell_at}
use Rattle.core_lowering_touches.specs.declared.touches.Touched.{Touched}
use Rattle.core_lowering_touches.specs.Touching.{touched_in, looked_over}
use Rattle.core_lowering_expressions.specs.declared.storage.Storage.{Storage}
use Rattle.core_lowering_expressions.specs.declared.storage.Storage.TheVariants as storage
use Rattle.core_lowering_expressions.specs.Parts.{then_read}

abbrev pub is_formed : Access → Bool
is_formed NoAccess = false
is_formed _ = true

-- whether an expression is written as a name, a field access or an array access
abbrev pub is_access : Expr → Bool
is_access e = is_formed (access_of e)

abbrev pub touched_by : Context → Storage → Ident → ℕ → Option Touched
touched_by context (storage.InField f kind name) x count = touched_in context f name x count
touched_by context _ x count = None

abbrev pub content_of : Place → Cell → FieldId × Place
content_of name cell = (cell.content, name)

-- with the place of the name
abbrev pub content_in : Context → Storage → Option (FieldId × Place)
content_in context (storage.InField f kind name) = option_map (content_of name) (cell_at context f)
content_in context _ = None

abbrev pub behind_content : Context → Storage → Option (FieldId × Place) → Code
behind_content context s None = then_read context s
behind_content context s (Some found) = looked_over context found.0 found.1

abbrev pub then_looked_over : Context → Storage → Code
then_looked_over context s = behind_content context s (content_in context s)
