use Rattle.std.proofs.Common.{◌≡◌, true, List, [], ap, subst, sym, ◌∙◌}
use Rattle.racer_base.specs.declared.ids.MethodId.{MethodId}
use Rattle.core_lowering_rules.specs.Programs.{draft_of}
use Rattle.core_lowering.specs.Calls.{are_rows_low, edges}
use Rattle.core_lowering.proofs.SameCalls.{edges-same}
use Rattle.core_lowering.proofs.programs.find_edges.Goals as goal

pub count_edges-requires : goal.count_edges-requires
count_edges-requires c =
    subst (λ (rows : List (List MethodId)). are_rows_low rows ≡ true) (sym c.requires.rows) c.requires.low

pub returns : goal.returns
returns c =
    sym (edges-same (draft_of c.args.containers [] c.args.units.now).methods)
    ∙ ap (λ (rows : List (List MethodId)). edges rows) (sym c.requires.rows)
    ∙ sym c.in_ok-edges.ensures
