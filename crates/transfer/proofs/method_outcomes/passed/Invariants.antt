use Rattle.std.proofs.Common.{◌≡◌, ◌++◌, drop}
use Rattle.access_paths.specs.Table.{IsTable, GoesOn}
use Rattle.owner_domain.specs.Numbered.{AllInRange}
use Rattle.core_code.specs.Core.{method_of}
use Rattle.access_domain.specs.Summaries.{parameter_values, passed_values}
use Rattle.call_subst.specs.Numbered.{read_values}
use Rattle.transfer.proofs.method_outcomes.passed.Given as goal

abbrev pub invariant-loop-number : goal.invariant-loop-number
invariant-loop-number l =
    record {
      values : read_values l.table l.values.items ++ parameter_values l.number (drop l.number l.method.parameters) ≡
          passed_values (method_of l.method);
      range : AllInRange l.table l.values.items;
      once : IsTable l.table;
      on : GoesOn l.fn.table l.table;
    }
