use Rattle.std.proofs.Common.{ap, ◌∙◌, arith, is_some}
use Rattle.core_code.specs.declared.parts.MethodCore.{MethodCore}
use Rattle.core_code.specs.Program.{core}
use Rattle.summary_store.proofs.Flags.{flag_at, flags_count, none_by}
use Rattle.summary_store.proofs.starting.is_analysed.Goals as goal

pub returns : goal.returns
returns c =
    let x = c.index-methods-place.result in
    let same = flags_count (core c.args.program.now) c.methods.result.now c.methods.ensures in
    let none = none_by x.status c.is_none.result (ap (λ (m : MethodCore). is_some m.status) c.index-methods-place.is
    ∙ c.is_none.ensures) in
    flag_at (core c.args.program.now) c.methods.result.now c.args.place x c.is_none.result c.is_none.result
    c.methods.ensures
    (omega (arith, c.requires)) c.index-methods-place.is none
