-- A contract of a public call rests on this: what is found over the numbers of a table, and what it is in paths.
use Rattle.std.specs.Prelude.{ℕ, ◌<◌, List, [], ◌∷◌, Option, None, Some, option_map, map}
use Rattle.access_paths.specs.declared.path.Path.{Path}
use Rattle.access_paths.specs.Table.{IsTable}
use Rattle.owner_domain.specs.declared.value.State.{State}
use Rattle.owner_domain.specs.declared.numbered.NumberedValue.{NumberedValue}
use Rattle.owner_domain.specs.declared.numbered.NumberedValue.TheVariants.{Named, Unnamed}
use Rattle.owner_domain.specs.declared.numbered.NumberedState.{NumberedState}
use Rattle.owner_domain.specs.Numbered.{read_value, read_state, IsInRange, AllInRange, AreInRange}
use Rattle.access_domain.specs.Numbered.{read_accesses, AreNumbered}
use Rattle.call_subst.specs.Numbered.{read_set, read_values, AreWobbly}
use Rattle.transfer_steps.specs.declared.found.Found.{Found}
use Rattle.transfer_steps.specs.declared.noted_calls.NotedCall.{NotedCall}
use Rattle.transfer_steps.specs.declared.numbered_found.NumberedFound.{NumberedFound}
use Rattle.transfer_steps.specs.NotedCalls.{PassingCall}

-- what was found, in paths
abbrev pub read_found : List Path → NumberedFound → Found
read_found table found =
    record {
      records = read_accesses table found.records;
      wobbly = read_set table found.wobbly.keys;
      result = option_map (read_value table) found.result;
    }

-- what a path of this number names: nothing where there is none
abbrev pub named_or_unnamed : Option ℕ → NumberedValue
named_or_unnamed None = Unnamed
named_or_unnamed (Some n) = Named n

abbrev pub IsResultInRange : List Path → Option NumberedValue → Type 0
IsResultInRange table None = Unit {0}
IsResultInRange table (Some value) = IsInRange table value

abbrev pub IsBelow : ℕ → Option ℕ → Type 0
IsBelow limit None = Unit {0}
IsBelow limit (Some n) = n < limit

-- all numbers are the table's
pub record AreFoundNumbers (table : List Path) (found : NumberedFound) : Type 0 where
  pub records : AreNumbered table found.records
  pub wobbly : AreWobbly table found.wobbly.keys
  pub result : IsResultInRange table found.result

-- each path of the table once, and all numbers are the table's, of what is here and of what was found
pub record IsFlowOf (table : List Path) (here : NumberedState) (found : NumberedFound) : Type 0 where
  pub once : IsTable table
  pub state : AreInRange table here
  pub noted : AreFoundNumbers table found

-- the calls that were noted, in paths
abbrev pub read_call : List Path → NotedCall → PassingCall
read_call table c = record { callee = c.callee; locked = c.locked; actuals = read_values table c.actuals }

abbrev pub read_calls : List Path → List NotedCall → List PassingCall
read_calls table = map (read_call table)

abbrev pub AreCallNumbers : List Path → List NotedCall → Type 0
AreCallNumbers table [] = Unit {0}
AreCallNumbers table (c ∷ calls) = AllInRange table c.actuals × AreCallNumbers table calls

-- the states in which loops were left, in paths
abbrev pub read_heads : List Path → List (Option NumberedState) → List (Option State)
read_heads table heads = map (option_map (read_state table)) heads

abbrev pub IsHeadInRange : List Path → Option NumberedState → Type 0
IsHeadInRange table None = Unit {0}
IsHeadInRange table (Some head) = AreInRange table head

abbrev pub AreHeadsInRange : List Path → List (Option NumberedState) → Type 0
AreHeadsInRange table [] = Unit {0}
AreHeadsInRange table (head ∷ rest) = IsHeadInRange table head × AreHeadsInRange table rest

-- what resuming stands on
pub record IsResumedIn (table : List Path) (here : NumberedState) (heads : List (Option NumberedState)) : Type 0 where
  pub once : IsTable table
  pub state : AreInRange table here
  pub left : AreHeadsInRange table heads
