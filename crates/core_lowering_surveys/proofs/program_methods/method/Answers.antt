use Rattle.std.proofs.Common.{ap, ◌∙◌}
use Rattle.core_code.specs.Tree.{tree_of}
use Rattle.core_lowering_context.specs.Views.{folder_of}
use Rattle.core_lowering_surveys.specs.Entries.{is_entry_in}
use Rattle.core_lowering_surveys.specs.Surveys.{seen}
use Rattle.core_lowering_surveys.proofs.MethodsMade.{method-made}
use Rattle.core_lowering_surveys.proofs.program_methods.method.Goals as goal

pub returns : goal.returns
returns c =
    let source = seen c.args.surveyed.now in
    method-made (folder_of c.args.table.now c.args.cells.now c.args.statuses.now) source c.args.status c.in_ok-name.name
    c.in_ok-parameters.parameters c.in_ok-lowered.lowered.kinds c.is_entry.result (tree_of c.in_ok-lowered.lowered.code)
    (c.in_ok-name.ensures ∙ c.as_str.ensures) (c.in_ok-parameters.ensures ∙ c.as_slice.ensures)
    c.in_ok-lowered.ensures.kinds
    (c.is_entry.ensures ∙ ap (λ classes. is_entry_in classes source.info c.args.status) c.classes.ensures)
    c.in_ok-lowered.ensures.code
