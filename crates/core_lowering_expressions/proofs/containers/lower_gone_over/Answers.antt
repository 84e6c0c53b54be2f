use Rattle.std.proofs.Common.{sym, ◌∙◌}
use Rattle.std.proofs.lemmas.Result.{on_ok_weaker}
use Rattle.core_lowering_rules.specs.TreesOf.{expr_of}
use Rattle.core_lowering_context.specs.Drafts.{code_of}
use Rattle.core_lowering_expressions.proofs.Made.{access-over}
use Rattle.core_lowering_expressions.proofs.containers.lower_gone_over.Goals as goal

pub returns : goal.returns
returns c =
    on_ok_weaker c.op.result
    (access-over c.args.context.now (expr_of c.args.e.now) c.in_ok-storage.storage (code_of c.args.draft.now)
    (code_of c.lower_storage.new.draft) (code_of c.look_behind.new.draft) (code_of c.op.new.draft)
    (sym c.is_access.ensures ∙ c.if-not-is_access.false) c.in_ok-storage.ensures.code c.in_ok-storage.ensures.storage
    c.in_ok-look_behind.ensures)
    c.op.ensures.code
