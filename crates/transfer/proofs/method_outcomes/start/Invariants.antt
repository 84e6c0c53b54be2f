use Rattle.std.proofs.Common.{◌≡◌, ◌++◌, ◌-◌, length, replicate}
use Rattle.owner_domain.specs.declared.value.Value.TheVariants.{Owned}
use Rattle.owner_domain.specs.Numbered.{AllInRange}
use Rattle.core_code.specs.Core.{method_of}
use Rattle.access_domain.specs.Summaries.{start_of}
use Rattle.call_subst.specs.Numbered.{read_values}
use Rattle.transfer.proofs.method_outcomes.start.Given as goal

abbrev pub invariant-loop-local : goal.invariant-loop-local
invariant-loop-local l =
    record {
      values : read_values l.table l.values.items ++ replicate (length l.method.variables - l._local) Owned ≡
          (start_of (method_of l.method)).vars;
      range : AllInRange l.table l.values.items;
    }
