use Rattle.std.proofs.Common.{◌≡◌, Some, is_some, true, false, sym, ap, ◌∙◌}
use Rattle.std.specs.Arc.{arc_value}
use Rattle.access_domain.specs.Summaries.{outcome_of}
use Rattle.core_code.specs.declared.parts.MethodCore.{MethodCore}
use Rattle.core_code.specs.Calls.{method_at}
use Rattle.core_code.specs.Core.{method_of}
use Rattle.core_code.specs.Program.{core, methods}
use Rattle.transfer.specs.declared.finished.Finished.{Finished}
use Rattle.transfer.proofs.Every.{method_found, analysed_found, no_outcome}
use Rattle.transfer.proofs.whole.outcome_at.Goals as goal

pub returns-clause-found : goal.returns-clause-found
returns-clause-found c =
    let made = c.in_ok-finished.ensures.made in
    ap Some (c.in_ok-clone.ensures.cases ∙ ap (λ (f : Finished). arc_value f.outcome) c.deref-2.ensures)
    ∙ (arc_value c.in_ok-finished.finished).right
    ∙ (λ i. outcome_of (made.program_is i) (made.method i))

pub returns-then-is_some-clause-found : goal.returns-then-is_some-clause-found
returns-then-is_some-clause-found c =
    let program = core (arc_value c.args.program.now) in
    let m = c.args.method in
    let x = c.index-methods-method.result in
    let found : method_at program m ≡ Some (method_of x) =
    method_found program c.methods.result.now m x (c.methods.ensures ∙ ap methods c.deref.ensures) c.requires.there
    c.index-methods-method.is in
    let some : is_some x.status ≡ true =
    ap (λ (y : MethodCore). is_some y.status) c.index-methods-method.is ∙ sym c.is_some.ensures ∙ c.if-is_some.true in
    no_outcome program m (method_of x) found some

pub finish-requires : goal.finish-requires
finish-requires c =
    let program = core (arc_value c.args.program.now) in
    let m = c.args.method in
    let x = c.index-methods-method.result in
    let found : method_at program m ≡ Some (method_of x) =
    method_found program c.methods.result.now m x (c.methods.ensures ∙ ap methods c.deref.ensures) c.requires.there
    c.index-methods-method.is in
    let none : is_some x.status ≡ false =
    ap (λ (y : MethodCore). is_some y.status) c.index-methods-method.is ∙ sym c.is_some.ensures ∙ c.if-is_some.false in
    record {
      rows = c.requires.rows;
      analysed = analysed_found program m (method_of x) found none;
      table = c.requires.table;
    }
