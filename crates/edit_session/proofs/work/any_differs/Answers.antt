use Rattle.std.proofs.Common.{Bool, sym, ◌∙◌}
use Rattle.std.specs.List.{list_any}
use Rattle.racer_base.specs.declared.ids.MethodId.{MethodId}
use Rattle.core_code.proofs.Passing.{none_yet, found, none}
use Rattle.edit_session.specs.Work.{flag_at}
use Rattle.edit_session.proofs.work.any_differs.Goals as goal

pub loop-method-preserved : goal.loop-method-preserved
loop-method-preserved c =
    let test : MethodId → Bool = flag_at c.args.differs.now in
    let ms = c.args.methods.now in
    none_yet test ms c.loop-method.method-index (list_any test ms) _ c.loop-method-test.true
    (sym (sym c.differs_at.ensures ∙ c.if-differs_at.false)) c.loop-method.invariant

pub returns-then-differs_at : goal.returns-then-differs_at
returns-then-differs_at c =
    let test : MethodId → Bool = flag_at c.args.differs.now in
    let ms = c.args.methods.now in
    found test ms c.loop-method.method-index (list_any test ms) _ c.loop-method-test.true
    (sym (sym c.differs_at.ensures ∙ c.if-differs_at.true)) c.loop-method.invariant

pub returns : goal.returns
returns c =
    let test : MethodId → Bool = flag_at c.args.differs.now in
    let ms = c.args.methods.now in
    none test ms c.loop-method.method-index (list_any test ms) c.loop-method-test.false c.loop-method.invariant
