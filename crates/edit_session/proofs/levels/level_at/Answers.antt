use Rattle.std.proofs.Common.{◌≡◌, Some, is_some, true, false, sym, ap, ◌∙◌}
use Rattle.core_code.specs.declared.parts.MethodCore.{MethodCore}
use Rattle.core_code.specs.Calls.{is_analysed, method_at}
use Rattle.core_code.specs.Core.{method_of}
use Rattle.core_code.specs.Program.{core}
use Rattle.transfer.proofs.Every.{method_found, analysed_found}
use Rattle.edit_session.proofs.LevelTables.{level_there, no_level, not_analysed}
use Rattle.edit_session.proofs.levels.level_at.Goals as goal

pub returns-then-is_some-clause-level : goal.returns-then-is_some-clause-level
returns-then-is_some-clause-level c =
    let program = core c.args.program.now in
    let m = c.args.method in
    let x = c.index-methods-method.result in
    let found : method_at program m ≡ Some (method_of x) =
    method_found program c.methods.result.now m x c.methods.ensures c.requires.there c.index-methods-method.is in
    let some : is_some x.status ≡ true =
    ap (λ (y : MethodCore). is_some y.status) c.index-methods-method.is ∙ sym c.is_some.ensures ∙ c.if-is_some.true in
    no_level program m (not_analysed program m (method_of x) found some)

pub level-requires : goal.level-requires
level-requires c =
    let program = core c.args.program.now in
    let m = c.args.method in
    let x = c.index-methods-method.result in
    let found : method_at program m ≡ Some (method_of x) =
    method_found program c.methods.result.now m x c.methods.ensures c.requires.there c.index-methods-method.is in
    let none : is_some x.status ≡ false =
    ap (λ (y : MethodCore). is_some y.status) c.index-methods-method.is ∙ sym c.is_some.ensures ∙ c.if-is_some.false in
    record {
      rows = c.requires.rows;
      analysed = analysed_found program m (method_of x) found none;
      table = c.requires.table;
    }

pub returns-clause-level : goal.returns-clause-level
returns-clause-level c =
    let program = core c.args.program.now in
    let m = c.args.method in
    let x = c.index-methods-method.result in
    let found : method_at program m ≡ Some (method_of x) =
    method_found program c.methods.result.now m x c.methods.ensures c.requires.there c.index-methods-method.is in
    let none : is_some x.status ≡ false =
    ap (λ (y : MethodCore). is_some y.status) c.index-methods-method.is ∙ sym c.is_some.ensures ∙ c.if-is_some.false in
    let analysed : is_analysed program m ≡ true = analysed_found program m (method_of x) found none in
    ap Some c.in_ok-level.ensures.level ∙ level_there program m analysed
