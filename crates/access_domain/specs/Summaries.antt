-- A contract of a public call rests on this: the outcome of a method, and those of all methods by rank.
use Rattle.std.specs.Prelude.{ℕ, zero, suc, ◌-◌, Bool, false, ◌||◌, List, [], ◌∷◌, ◌++◌, Option, None, Some, length}
use Rattle.std.specs.Prelude.{replicate, is_none, option_map, nat_lt, unwrap_or, if◌then◌else◌}
use Rattle.std.specs.Option.{option_and_then}
use Rattle.racer_base.specs.declared.ids.MethodId.{MethodId}
use Rattle.racer_base.specs.declared.ids.Kind.{Kind}
use Rattle.racer_base.specs.declared.limits.TheConstants.{MAX_SUMMARY_KEYS}
use Rattle.access_paths.specs.declared.path.Root.TheVariants.{This, Formal}
use Rattle.access_paths.specs.Paths.{alone}
use Rattle.owner_domain.specs.declared.value.Value.{Value}
use Rattle.owner_domain.specs.declared.value.Value.TheVariants.{Owned, Named, Unnamed}
use Rattle.owner_domain.specs.declared.value.State.{State}
use Rattle.core_code.specs.Core.{Core, Method}
use Rattle.core_code.specs.Calls.{method_at, rank_of, known_below, closed_by_rank}
use Rattle.access_domain.specs.declared.access.Access.{Access}
use Rattle.access_domain.specs.declared.summary.Outcome.{Outcome}
use Rattle.access_domain.specs.declared.summary.Outcome.TheVariants as code
use Rattle.access_domain.specs.Records.{first_of_keys, different_paths}
use Rattle.access_domain.specs.Findings.{Findings, Known, Large, Whole, Table, outcome_from}
use Rattle.access_domain.specs.FlowContext.{given_of, is_plain}
use Rattle.access_domain.specs.Operations.{Effects}
use Rattle.access_domain.specs.Flow.{flow}

-- parameters of kind Plain start as Unnamed, others as named by themselves
abbrev pub parameter_value : ℕ → Kind → Value
parameter_value i kind = if is_plain kind then Unnamed else Named (alone (Formal i))

abbrev pub parameter_values : ℕ → List Kind → List Value
parameter_values i [] = []
parameter_values i (kind ∷ kinds) = parameter_value i kind ∷ parameter_values (suc i) kinds

-- `this` of an instance method, and the parameters
abbrev pub passed_values : Method → List Value
passed_values m = (if m.is_static then [] else Named (alone This) ∷ []) ++ parameter_values 0 m.parameters

-- the state at the entry of a method: the locals start as Owned
abbrev pub start_of : Method → State
start_of m =
    record {
      vars = passed_values m ++ replicate (length m.variables - length (passed_values m)) Owned;
      stack = [];
    }

-- what the effects of a flow make up
abbrev pub findings_from : Effects → Findings
findings_from e =
    record {
      records = first_of_keys e.records;
      wobbly = different_paths e.wobbly;
      result = unwrap_or e.result Unnamed;
    }

-- too many keys or wobbly paths, or a reached call of a large method
abbrev pub is_large : Effects → Bool
is_large e =
    e.large || nat_lt MAX_SUMMARY_KEYS (length (first_of_keys e.records))
    || nat_lt MAX_SUMMARY_KEYS (length (different_paths e.wobbly))

abbrev pub known_from : Effects → Known
known_from e = if is_large e then Large else Whole (findings_from e)

-- the flow of a method's code from its entry on, where this is known of those that it calls
abbrev pub effects_given : Core → Table → Method → Effects
effects_given core table m = flow (given_of core table m.main) m.code false (start_of m)

abbrev pub known_given : Core → Table → Method → Known
known_given core table m = known_from (effects_given core table m)

-- the same of a method by its number; nothing where it is not analysed
abbrev pub known_at : Core → Table → MethodId → Option Known
known_at core table m =
    option_and_then (λ method. if is_none method.status then Some (known_given core table method) else None)
    (method_at core m)

-- what is known of a method, by rank; nothing where it is not analysed
abbrev pub known_of : Core → Table
known_of core = closed_by_rank None (known_at core) core

-- what is known of the methods that a method may call, which are those of smaller ranks
abbrev pub known_of_callees : Core → MethodId → Table
known_of_callees core m = known_below None (known_at core) core (rank_of core m)

-- the flow of a method's code; what is known of it, where it is analysed, is made of this
abbrev pub effects_of : Core → MethodId → Option Effects
effects_of core m = option_map (effects_given core (known_of_callees core m)) (method_at core m)

-- the outcome of a method, as the code holds it; none where it is not analysed
abbrev pub outcome_of : Core → MethodId → Option Outcome
outcome_of core m = option_map outcome_from (known_of core m)

-- the records of an outcome, and none of a large one
abbrev pub accesses_of : Outcome → List Access
accesses_of code.Large = []
accesses_of (code.Summary summary) = summary.accesses

-- the outcomes from this method on, for so many methods
abbrev pub outcomes_from : Core → ℕ → ℕ → List (Option Outcome)
outcomes_from core i zero = []
outcomes_from core i (suc n) = outcome_of core (record { 0 = i }) ∷ outcomes_from core (suc i) n

-- one for each method, none for those that are not analysed
abbrev pub outcomes_of : Core → List (Option Outcome)
outcomes_of core = outcomes_from core 0 (length core.methods)
