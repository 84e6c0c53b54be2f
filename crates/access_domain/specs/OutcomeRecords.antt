-- A contract of a public call rests on this: the records of a method, by its outcome.
use Rattle.std.specs.Prelude.{ℕ, List, [], Option, None, Some, slice_get}
use Rattle.racer_base.specs.declared.ids.MethodId.{MethodId}
use Rattle.core_code.specs.Core.{Core}
use Rattle.access_domain.specs.declared.access.Access.{Access}
use Rattle.access_domain.specs.declared.summary.Outcome.{Outcome}
use Rattle.access_domain.specs.Summaries.{accesses_of, outcome_of}

-- none where the method is not analysed, or large
abbrev pub records_held : Option Outcome → List Access
records_held None = []
records_held (Some outcome) = accesses_of outcome

abbrev pub records_of : Core → MethodId → List Access
records_of core m = records_held (outcome_of core m)

-- the record of this index; none where there are too many
abbrev pub record_at : Core → MethodId → ℕ → Option Access
record_at core m i = slice_get (records_of core m) i
