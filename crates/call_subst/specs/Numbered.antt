-- A contract of a public call rests on this: substitution over the numbers of paths in a table.
use Rattle.std.specs.Prelude.{◌≡◌, ◌<◌, ℕ, true, List, [], ◌∷◌, length, map}
use Rattle.std.specs.List.{list_all}
use Rattle.std.specs.FinSet as set
use Rattle.access_paths.specs.declared.path.Path.{Path}
use Rattle.access_paths.specs.Order.{PathSet}
use Rattle.access_paths.specs.Table.{path_at}
use Rattle.owner_domain.specs.declared.value.Value.{Value}
use Rattle.owner_domain.specs.declared.numbered.NumberedValue.{NumberedValue}
use Rattle.owner_domain.specs.Numbered.{read_value}
use Rattle.owner_domain.specs.Values.{has_known_root}
use Rattle.access_domain.specs.declared.access.Access.{Access}
use Rattle.access_domain.specs.declared.summary.Summary.{Summary}
use Rattle.access_domain.specs.Findings.{Findings, summary_from}
use Rattle.access_domain.specs.Numbered.{AreNumbered}
use Rattle.access_domain.specs.Records.{different_paths}
use Rattle.access_domain.specs.Substitution.{substituted}
use Rattle.call_subst.specs.Calls.{given, actuals}
use Rattle.call_subst.specs.Substitutes.{AreFindings}
use Rattle.call_subst.specs.declared.naming.Call.{Call}
use Rattle.call_subst.specs.declared.substitution.Replaced.{Replaced}

abbrev pub read_values : List Path → List NumberedValue → List Value
read_values table = map (read_value table)

abbrev pub read_paths : List Path → List ℕ → List Path
read_paths table = map (path_at table)

abbrev pub read_set : List Path → List ℕ → PathSet
read_set table numbers = set.from_list (read_paths table numbers)

-- no path begins at some object of a class
abbrev pub AreKnown : List Value → Type 0
AreKnown values = list_all has_known_root values ≡ true

abbrev pub AreBelow : ℕ → List ℕ → Type 0
AreBelow limit [] = Unit {0}
AreBelow limit (n ∷ rest) = (n < limit) × AreBelow limit rest

-- the numbers of different paths of the table
pub record AreWobbly (table : List Path) (numbers : List ℕ) : Type 0 where
  pub range : AreBelow (length table) numbers
  pub different : different_paths (read_paths table numbers) ≡ read_paths table numbers

-- all numbers are the table's, and the wobbly paths are different
pub record AreReplaced (table : List Path) (made : Replaced) : Type 0 where
  pub accesses : AreNumbered table made.accesses.items
  pub wobbly : AreWobbly table made.wobbly.items

-- whatever findings the callee's summary holds, these records and wobbly paths are theirs in the caller's values
abbrev pub IsReplaced : Call → Summary → List Access → PathSet → Type 0
IsReplaced call summary records wobbly = (found : Findings) → summary_from found ≡ summary →
    AreFindings (substituted (given call) (actuals call) found call.locked call.site) records wobbly
