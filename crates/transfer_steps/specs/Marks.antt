-- A contract of a public call rests on this: what was found so far, and what is found behind it.
use Rattle.std.specs.Prelude.{◌≡◌, Bool, true, false, ◌||◌, List, [], None, Some, length, nat_lt}
use Rattle.std.specs.Prelude.{Result, Ok, Err, unwrap_or}
use Rattle.std.specs.FinSet as set
use Rattle.racer_base.specs.declared.limits.TheConstants.{MAX_SUMMARY_KEYS}
use Rattle.access_paths.specs.declared.path.Path.{Path}
use Rattle.access_paths.specs.Order.{PathSet}
use Rattle.owner_domain.specs.declared.value.Value.{Value}
use Rattle.owner_domain.specs.declared.value.Value.TheVariants.{Unnamed}
use Rattle.access_domain.specs.declared.summary.Summary.{Summary}
use Rattle.access_domain.specs.declared.access.Access.{Access}
use Rattle.access_domain.specs.Additions.{keys_added, paths_added}
use Rattle.access_domain.specs.Operations.{Effects}
use Rattle.access_domain.specs.Flow.{joined_result, lost_result}
use Rattle.transfer_steps.specs.declared.found.Found.{Found}
use Rattle.transfer_steps.specs.declared.found.Stop.{Stop}
use Rattle.transfer_steps.specs.declared.found.Stop.TheVariants.{Large, Memory}

-- these records and wobbly paths
abbrev pub marks : List Access → List Path → Effects
marks records wobbly = record { next = None; records = records; wobbly = wobbly; result = None; large = false }

-- a return of this value
abbrev pub returns_of : Value → Effects
returns_of value = record { next = None; records = []; wobbly = []; result = Some value; large = false }

-- nothing was found
abbrev pub nothing : Found
nothing = record { records = []; wobbly = set.empty; result = None }

-- the wobbly paths behind these effects
abbrev pub paths_after : Found → Effects → PathSet
paths_after found e = paths_added (paths_added found.wobbly e.wobbly) (lost_result found.result e.result)

-- what is found behind these effects
abbrev pub added : Found → Effects → Found
added found e =
    record {
      records = keys_added found.records e.records;
      wobbly = paths_after found e;
      result = joined_result found.result e.result;
    }

abbrev pub is_many : Found → Effects → Bool
is_many found e =
    nat_lt MAX_SUMMARY_KEYS (length (keys_added found.records e.records))
    || nat_lt MAX_SUMMARY_KEYS (set.len (paths_after found e))

-- the effects are noted
abbrev pub IsNoted : Found → Effects → Found → Type 0
IsNoted old e new = (new ≡ added old e) × (e.large ≡ false)

-- it stops as Large where there are too many; where memory is refused nothing is said
abbrev pub IsStopped : Found → Effects → Stop → Type 0
IsStopped old e Large = (e.large || is_many old e) ≡ true
IsStopped old e Memory = Unit {0}

abbrev pub IsMarked : {X : Type 0} → Found → Effects → Found → Result X Stop → Type 0
IsMarked old e new (Ok x) = IsNoted old e new
IsMarked old e new (Err stop) = IsStopped old e stop

-- what is noted of what is left, from now on, makes up the whole from the beginning on
abbrev pub LeadsTo : Found → Effects → Found → Effects → Type 0
LeadsTo old whole now left = (new : Found) (r : Result (Unit {0}) Stop) → IsMarked now left new r →
    IsMarked old whole new r

-- what was found, as a summary
abbrev pub summary_held : Found → Summary
summary_held found =
    record { accesses = found.records; wobbly = found.wobbly; result = unwrap_or found.result Unnamed }
