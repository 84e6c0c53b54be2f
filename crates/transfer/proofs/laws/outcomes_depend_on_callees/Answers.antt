use Rattle.std.proofs.Common.{sym}
use Rattle.std.proofs.lemmas.Map.Views.{Contains-from_any}
use Rattle.core_code.specs.Calls.{calls_in}
use Rattle.core_code.proofs.RowCallees.{nat_eq-same, is_method}
use Rattle.transfer.proofs.Tables.{outcome-agree}
use Rattle.transfer.proofs.laws.outcomes_depend_on_callees.Goals as goal

pub returns : goal.returns
returns c = λ core t u m same.
    outcome-agree core t u m
    (λ n there.
    same n (Contains-from_any {eq = is_method} (λ x y e. sym (nat_eq-same y x e)) n (calls_in m.code) there))
