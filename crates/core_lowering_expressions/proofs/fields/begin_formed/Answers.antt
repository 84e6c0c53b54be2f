use Rattle.std.proofs.lemmas.Result.{on_ok_weaker}
use Rattle.core_code.specs.declared.code.Op.TheVariants.{Drop}
use Rattle.core_lowering_rules.specs.TreesOf.{init_of}
use Rattle.core_lowering_rules.specs.Context.{op}
use Rattle.core_lowering_rules.specs.Assignments.{of_name, assigned}
use Rattle.core_lowering_rules.specs.Expressions.{init_code, init_kind}
use Rattle.core_lowering_context.specs.Drafts.{code_of}
use Rattle.core_lowering_context.specs.Views.{value_kind}
use Rattle.core_lowering_context.proofs.Pieces.{two_pieces}
use Rattle.core_lowering_expressions.proofs.FieldsBegun.{assigned-made}
use Rattle.core_lowering_expressions.proofs.fields.begin_formed.Goals as goal

pub returns : goal.returns
returns c =
    let context = c.args.context.now in
    let s = of_name context c.args.x.now in
    let i = init_of c.args.initialiser.now in
    let old = code_of c.args.draft.now in
    let stored = code_of c.assign.new.draft in
    on_ok_weaker c.op.result
    (two_pieces old stored (code_of c.op.new.draft) (assigned context s (init_kind context i) (init_code context i))
    (op context Drop)
    (assigned-made context s c.in_ok-storage.storage (init_kind context i) (value_kind c.in_ok-given.given) old
    (code_of c.of_name.new.draft) (code_of c.lower_initialiser.new.draft) stored (init_code context i)
    c.in_ok-storage.ensures.code c.in_ok-storage.ensures.storage c.in_ok-given.ensures.code
    c.in_ok-given.ensures.kind c.in_ok-assign.ensures.code))
    c.op.ensures.code
