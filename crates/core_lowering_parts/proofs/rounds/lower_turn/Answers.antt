use Rattle.std.proofs.Common.{map}
use Rattle.std.specs.Prelude.{option_map}
use Rattle.std.proofs.lemmas.Result.{on_ok_weaker}
use Rattle.core_lowering_rules.specs.Trees.{pack_exprs}
use Rattle.core_lowering_rules.specs.TreesOf.{expr_of, condition_of}
use Rattle.core_lowering_rules.specs.Statements.{run_all, tested}
use Rattle.core_lowering_context.specs.Drafts.{code_of}
use Rattle.core_lowering_context.proofs.Pieces.{two_pieces}
use Rattle.core_lowering_parts.proofs.rounds.lower_turn.Goals as goal

pub returns : goal.returns
returns c =
    let a = c.args.context.now in
    on_ok_weaker c.lower_tested.result
    (two_pieces (code_of c.args.draft.now) (code_of c.lower_run_all.new.draft) (code_of c.lower_tested.new.draft)
    (run_all a (pack_exprs (map expr_of c.args.updates.now))) (tested a (option_map condition_of c.args.e.now))
    c.in_ok-lower_run_all.ensures)
    c.lower_tested.ensures
