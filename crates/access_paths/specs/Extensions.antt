-- No public contract rests on this: what a table has answered of paths with one field more.
use Rattle.std.specs.Prelude.{◌≡◌, ℕ, Bool, ◌&&◌, List, Option, Some, nat_eq}
use Rattle.std.specs.Map.{lookup}
use Rattle.access_paths.specs.declared.path.Path.{Path}
use Rattle.access_paths.specs.declared.table.Extension.{Extension}
use Rattle.access_paths.specs.Paths.{same_field}
use Rattle.access_paths.specs.Table.{IsLengthened}

abbrev pub same_extension : Extension → Extension → Bool
same_extension e d = nat_eq e.front d.front && same_field e.field d.field

-- each answer is what the table says of the extension
abbrev pub AreExtensions : List Path → List (Extension × Option ℕ) → Type 0
AreExtensions paths answers =
    (e : Extension) (answer : Option ℕ) → lookup (same_extension e) answers ≡ Some answer →
    IsLengthened paths e.front e.field answer paths
