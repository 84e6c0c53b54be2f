use Rattle.std.proofs.Common.{◌≡◌, List, IfOk, true, sym, subst, ◌∙◌}
use Rattle.std.specs.List.{list_all}
use Rattle.core_code.specs.Core.{Method}
use Rattle.core_code.specs.Facts.{is_stack_enough}
use Rattle.core_code.specs.Program.{core}
use Rattle.typed_core.specs.Reaching.{AreFound}
use Rattle.typed_core.proofs.findings.all_findings.Goals as goal

pub findings_of_all-requires : goal.findings_of_all-requires
findings_of_all-requires c =
    record {
      right = c.as_slice.ensures.value ∙ c.in_ok-returns.ensures;
      even =
          subst (λ (ms : List Method). list_all is_stack_enough ms ≡ true) (sym c.methods.ensures)
          c.args.program.now.stacks_enough;
    }

pub returns : goal.returns
returns c =
    subst (λ (ms : List Method). IfOk c.findings_of_all.result
    (λ all. AreFound (core c.args.program.now) ms all.items)) c.methods.ensures c.findings_of_all.ensures
